-- What the words say to a seat with a block in hand, they say on.
use Rattle.std.proofs.Common.{◌≡◌, ℕ, ◌+◌, ◌-◌, ◌<◌, ◌≤◌, refl, sym, ap, subst, arith, ◌∙◌}
use Rattle.word_codes.specs.declared.guards.Guard.{Guard}
use Rattle.guards.specs.declared.win.Side.{Side}
use Rattle.guards.specs.declared.win.Taking.{Taking}
use Rattle.backend_bins.specs.declared.bin.BinAt.{BinAt}
use Rattle.backend_bins.specs.declared.blocks.Block.{Block}
use Rattle.coalescer.specs.declared.put.Beside.{Beside}
use Rattle.coalescer.specs.declared.put.PutAt.{PutAt}
use Rattle.coalescer.specs.declared.put.PutStep.{PutStep}
use Rattle.coalescer.specs.declared.put.PutCall.{PutCall}
use Rattle.guard_laws.specs.Blocks.{BlocksWhole, Piece, Place, Task, Use, piece_of}
use Rattle.queue_laws.specs.Puts.{TakesOut}
use Rattle.guard_laws.specs.Steps.{guard_in}
use Rattle.region_laws.specs.Granules.{IsInside}
use Rattle.backend_tasks.specs.Fits.{PutFits}
use Rattle.backend_tasks.specs.Guards.{bin_guard, put_guard}
use Rattle.hand_blocks.specs.Fits.{JoinFits}
use Rattle.hand_blocks.specs.Hands.{put_hands_at}
use Rattle.pool_laws.specs.Wholes.{Whole}
use Rattle.seat_ties.specs.Says.{AreMarked, BeginsRegion, EndsRegion, LeftSays, PutSays, RightSays}
use Rattle.seat_ties.specs.Ties.{AreInHand}
use Rattle.seat_laws.specs.Stays.{BlocksStay, ListsStay}
use Rattle.seat_laws.proofs.Guards.{has_some}

pub is_inside : (place : ℕ → Place) (x n y : ℕ) (u : Use) → place y ≡ Place.Block x n u → IsInside (place y)
is_inside place x n y u is = subst IsInside (sym is) tt

-- of the block that is put both guards say on that it is being joined
pub record PutStays (w later : Whole) (first n : ℕ) : Type 0 where
  pub begin : guard_in w.pool.mem Side.Begin first ≡ Guard.Coalescing
      → guard_in later.pool.mem Side.Begin first ≡ Guard.Coalescing
  pub end : guard_in w.pool.mem Side.End (first + n) ≡ Guard.Coalescing
      → guard_in later.pool.mem Side.End (first + n) ≡ Guard.Coalescing
  pub inside : IsInside (w.pool.blocks.place first)

abbrev pub HasBlock : Whole → ℕ → ℕ → ℕ → Type 0
HasBlock w t x n = w.pool.blocks.place x ≡ Place.Block x n (Use.Held t Taking.ToJoin)

-- in two parts, or whole
parts_stay : (w later : Whole) (t x a b : ℕ) → BlocksWhole w.pool.blocks.place → BlocksStay w.pool later.pool t
    → piece_of (w.pool.tasks t) ≡ Piece.NoPiece → HasBlock w t x a → HasBlock w t (x + a) b
    → PutStays w later x (a + b)
parts_stay w later t x a b whole stay none one two = record {
  begin = stay.shut Side.Begin x x a Taking.ToJoin Guard.Coalescing one none (omega arith, omega (arith, some-a)) tt;
  end = λ is. stay.shut Side.End (x + (a + b)) (x + a) b Taking.ToJoin Guard.Coalescing two none
      (omega (arith, some-b), omega arith) tt is;
  inside = is_inside w.pool.blocks.place x a x (Use.Held t Taking.ToJoin) one;
}
  where
    some-a : 0 < a
    some-a = has_some w.pool.blocks.place x a (Use.Held t Taking.ToJoin) whole one

    some-b : 0 < b
    some-b = has_some w.pool.blocks.place (x + a) b (Use.Held t Taking.ToJoin) whole two

whole_stays : (w later : Whole) (t x n : ℕ) → BlocksWhole w.pool.blocks.place → BlocksStay w.pool later.pool t
    → piece_of (w.pool.tasks t) ≡ Piece.NoPiece → HasBlock w t x n → PutStays w later x n
whole_stays w later t x n whole stay none one = record {
  begin = stay.shut Side.Begin x x n Taking.ToJoin Guard.Coalescing one none (omega arith, omega (arith, some)) tt;
  end = λ is. stay.shut Side.End (x + n) x n Taking.ToJoin Guard.Coalescing one none (
    omega (arith, some),
    omega
        arith,
  ) tt is;
  inside = is_inside w.pool.blocks.place x n x (Use.Held t Taking.ToJoin) one;
}
  where
    some : 0 < n
    some = has_some w.pool.blocks.place x n (Use.Held t Taking.ToJoin) whole one

is_taken_out : (b : Block) (at : BinAt) → TakesOut at → piece_of (bin_guard b at) ≡ Piece.NoPiece
is_taken_out b BinAt.Lock out = refl
is_taken_out b BinAt.Size out = absurd out
is_taken_out b BinAt.Left out = absurd out
is_taken_out b (BinAt.Insert at) out = absurd out
is_taken_out b (BinAt.Out at) out = refl
is_taken_out b BinAt.Unlock out = refl

marked_stays : (w later : Whole) (first n : ℕ) → PutStays w later first n → AreMarked w.pool.mem first n
    → AreMarked later.pool.mem first n
marked_stays w later first n stays is = record { begin = stays.begin is.begin; end = stays.end is.end }

begins_stays : (w later : Whole) (t first : ℕ) → ListsStay w later t → IsInside (w.pool.blocks.place first)
    → BeginsRegion w first → BeginsRegion later first
begins_stays w later t first lists inside is s one some has = is s one (lists.settled s first one inside some has) has

ends_stays : (w later : Whole) (t first n : ℕ) → ListsStay w later t → IsInside (w.pool.blocks.place first)
    → EndsRegion w first n → EndsRegion later first n
ends_stays w later t first n lists inside is s one some has = is s one (lists.settled s first one inside some has) has

left_stays : (w later : Whole) (t first : ℕ) (left : Beside) → ListsStay w later t
    → IsInside (w.pool.blocks.place first) → LeftSays w first left → LeftSays later first left
left_stays w later t first Beside.Unknown lists inside is = is
left_stays w later t first Beside.InUse lists inside is = tt
left_stays w later t first Beside.Wall lists inside is = begins_stays w later t first lists inside is
left_stays w later t first Beside.Joined lists inside is = tt

right_stays : (w later : Whole) (t first n : ℕ) (right : Beside) → ListsStay w later t
    → IsInside (w.pool.blocks.place first) → RightSays w first n right → RightSays later first n right
right_stays w later t first n Beside.Unknown lists inside is = is
right_stays w later t first n Beside.InUse lists inside is = is
right_stays w later t first n Beside.Wall lists inside is = ends_stays w later t first n lists inside is
right_stays w later t first n Beside.Joined lists inside is = tt

put_says : (w later : Whole) (t : ℕ) (p : PutAt) (step : PutStep) → ListsStay w later t
    → PutStays w later p.block.first p.block.granules → PutSays w p step → PutSays later p step
put_says w later t p PutStep.Size lists stays is = tt
put_says w later t p PutStep.Left lists stays is = stays.begin is
put_says w later t p PutStep.LeftWord lists stays is =
    record { marked = marked_stays w later p.block.first p.block.granules stays is.marked }
put_says w later t p (PutStep.WinLeft granules at) lists stays is =
    record { marked = marked_stays w later p.block.first p.block.granules stays is.marked }
put_says w later t p (PutStep.UnlinkLeft neighbour at) lists stays is = record {
  marked = marked_stays w later p.block.first p.block.granules stays is.marked;
  left = left_stays w later t p.block.first p.left lists stays.inside is.left;
}
put_says w later t p PutStep.RightWord lists stays is = record {
  marked = marked_stays w later p.block.first p.block.granules stays is.marked;
  left = left_stays w later t p.block.first p.left lists stays.inside is.left;
}
put_says w later t p (PutStep.WinRight granules at) lists stays is = record {
  marked = marked_stays w later p.block.first p.block.granules stays is.marked;
  left = left_stays w later t p.block.first p.left lists stays.inside is.left;
}
put_says w later t p (PutStep.UnlinkRight neighbour at) lists stays is = record {
  marked = marked_stays w later p.block.first p.block.granules stays is.marked;
  left = left_stays w later t p.block.first p.left lists stays.inside is.left;
}
put_says w later t p PutStep.FarLeft lists stays is = record {
  marked = marked_stays w later p.block.first p.block.granules stays is.marked;
  right = right_stays w later t p.block.first p.block.granules p.right lists stays.inside is.right;
}
put_says w later t p PutStep.FarRight lists stays is = record {
  marked = marked_stays w later p.block.first p.block.granules stays is.marked;
  left = begins_stays w later t p.block.first lists stays.inside is.left;
}
put_says w later t p (PutStep.Queue at) lists stays is =
    record { marked = marked_stays w later p.block.first p.block.granules stays is.marked }
put_says w later t p (PutStep.Bin at) lists stays is = tt

sum_of : (a b : ℕ) → a ≤ b → a + (b - a) ≡ b
sum_of a b low = omega arith

at_left : (w later : Whole) (t : ℕ) (p : PutAt) (b : Block) → BlocksWhole w.pool.blocks.place
    → BlocksStay w.pool later.pool t → piece_of (w.pool.tasks t) ≡ Piece.NoPiece
    → (b.first ≡ p.block.first) × (b.granules ≤ p.block.granules) → HasBlock w t b.first b.granules
    → HasBlock w t (b.first + b.granules) (p.block.granules - b.granules)
    → PutStays w later p.block.first p.block.granules
at_left w later t p b whole stay none fits one two =
    let all = parts_stay w later t b.first b.granules (p.block.granules - b.granules) whole stay none one two in
    subst (λ x. PutStays w later x p.block.granules) fits.0
    (subst (PutStays w later b.first) (sum_of b.granules p.block.granules fits.1) all)

at_right : (w later : Whole) (t : ℕ) (p : PutAt) (b : Block) → BlocksWhole w.pool.blocks.place
    → BlocksStay w.pool later.pool t → piece_of (w.pool.tasks t) ≡ Piece.NoPiece
    → (b.first ≡ p.block.first + (p.block.granules - b.granules)) × (b.granules ≤ p.block.granules)
    → HasBlock w t p.block.first (p.block.granules - b.granules) → HasBlock w t b.first b.granules
    → PutStays w later p.block.first p.block.granules
at_right w later t p b whole stay none fits one two =
    let behind : HasBlock w t (p.block.first + (p.block.granules - b.granules)) b.granules =
    subst (λ x. HasBlock w t x b.granules) fits.0 two in
    let all = parts_stay w later t p.block.first (p.block.granules - b.granules) b.granules whole stay none one
    behind in
    let sum : (p.block.granules - b.granules) + b.granules ≡ p.block.granules = let low = fits.1 in omega arith in
    subst (PutStays w later p.block.first) sum all

none_of : (w : Whole) (t : ℕ) (task : Task) → w.pool.tasks t ≡ task → piece_of task ≡ Piece.NoPiece
    → piece_of (w.pool.tasks t) ≡ Piece.NoPiece
none_of w t task is none = ap piece_of is ∙ none

pub put_stays : (w later : Whole) (t : ℕ) (c : PutCall) (p : PutAt) (step : PutStep)
    → BlocksWhole w.pool.blocks.place → BlocksStay w.pool later.pool t → ListsStay w later t
    → w.pool.tasks t ≡ put_guard p step → AreInHand w.pool.blocks.place t (put_hands_at p step) → JoinFits p step
    → PutFits c step → PutSays w p step → PutSays later p step
put_stays w later t c p PutStep.Size whole stay lists is lie fits puts says = tt
put_stays w later t c p (PutStep.UnlinkLeft neighbour at) whole stay lists is lie fits puts says =
    put_says w later t p (PutStep.UnlinkLeft neighbour at) lists
    (at_left w later t p neighbour whole stay
    (none_of w t (bin_guard neighbour at) is (is_taken_out neighbour at puts)) fits lie.0 lie.1.0) says
put_stays w later t c p (PutStep.UnlinkRight neighbour at) whole stay lists is lie fits puts says =
    put_says w later t p (PutStep.UnlinkRight neighbour at) lists
    (at_right w later t p neighbour whole stay
    (none_of w t (bin_guard neighbour at) is (is_taken_out neighbour at puts)) fits lie.0 lie.1.0) says
put_stays w later t c p (PutStep.Bin at) whole stay lists is lie fits puts says = tt
put_stays w later t c p PutStep.Left whole stay lists is lie fits puts says =
    put_says w later t p PutStep.Left lists
    (whole_stays w later t p.block.first p.block.granules whole stay (ap piece_of is) lie.0) says
put_stays w later t c p PutStep.LeftWord whole stay lists is lie fits puts says =
    put_says w later t p PutStep.LeftWord lists
    (whole_stays w later t p.block.first p.block.granules whole stay (ap piece_of is) lie.0) says
put_stays w later t c p (PutStep.WinLeft granules at) whole stay lists is lie fits puts says =
    put_says w later t p (PutStep.WinLeft granules at) lists
    (whole_stays w later t p.block.first p.block.granules whole stay (ap piece_of is) lie.0) says
put_stays w later t c p PutStep.RightWord whole stay lists is lie fits puts says =
    put_says w later t p PutStep.RightWord lists
    (whole_stays w later t p.block.first p.block.granules whole stay (ap piece_of is) lie.0) says
put_stays w later t c p (PutStep.WinRight granules at) whole stay lists is lie fits puts says =
    put_says w later t p (PutStep.WinRight granules at) lists
    (whole_stays w later t p.block.first p.block.granules whole stay (ap piece_of is) lie.0) says
put_stays w later t c p PutStep.FarLeft whole stay lists is lie fits puts says =
    put_says w later t p PutStep.FarLeft lists
    (whole_stays w later t p.block.first p.block.granules whole stay (ap piece_of is) lie.0) says
put_stays w later t c p PutStep.FarRight whole stay lists is lie fits puts says =
    put_says w later t p PutStep.FarRight lists
    (whole_stays w later t p.block.first p.block.granules whole stay (ap piece_of is) lie.0) says
put_stays w later t c p (PutStep.Queue at) whole stay lists is lie fits puts says =
    put_says w later t p (PutStep.Queue at) lists
    (whole_stays w later t p.block.first p.block.granules whole stay (ap piece_of is) lie.0) says

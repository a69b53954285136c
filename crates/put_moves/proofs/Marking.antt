-- The steps of a put that mark its block, and those that look at the guards beside it.
use Rattle.std.proofs.Common.{◌≡◌, ◌∙◌, ◌+◌, ℕ, List, refl, ap, sym, subst, arith}
use Rattle.pool_types.specs.Sums.{capped}
use Rattle.pool_words.specs.declared.words.Key.{Key}
use Rattle.pool_words.specs.declared.words.Word.{Word}
use Rattle.pool_words.specs.declared.actions.Action.TheVariants.{Load, Store}
use Rattle.word_codes.specs.declared.guards.Guard.{Guard}
use Rattle.word_codes.specs.Guards.{guard_word}
use Rattle.guards.specs.declared.win.Side.{Side}
use Rattle.guards.specs.declared.win.Taking.{Taking}
use Rattle.backend_bins.specs.Blocks.{block_end}
use Rattle.coalescer.specs.declared.put.Beside.{Beside}
use Rattle.coalescer.specs.declared.put.PutAt.{PutAt}
use Rattle.coalescer.specs.declared.put.PutCall.{PutCall}
use Rattle.coalescer.specs.declared.put.PutStep.{PutStep}
use Rattle.coalescer.specs.Put.{judges_left, judges_right, sees_far_left, sees_far_right}
use Rattle.word_laws.specs.Memory.{after}
use Rattle.guard_laws.specs.Blocks as blocks
use Rattle.guard_laws.specs.Blocks.{Place, Use}
use Rattle.guard_laws.specs.Steps.{guard_in}
use Rattle.bin_laws.specs.Bins as binning
use Rattle.queue_laws.specs.Queue as line_laws
use Rattle.queue_laws.specs.Steps.{IsIdle}
use Rattle.hand_blocks.specs.Hands.{Hand}
use Rattle.pool_laws.specs.Wholes.{Whole, WholeGood}
use Rattle.seat_ties.specs.Says.{AreMarked, LeftSays, PutSays}
use Rattle.seat_ties.specs.Ties.{HandsTied}
use Rattle.put_moves.proofs.Blocks.{LiesWithin, lies_within}
use Rattle.put_moves.proofs.Frame.{Steps, tasks}
use Rattle.put_moves.proofs.GuardMoves.{mark, marks, reads}
use Rattle.put_moves.proofs.Job.{After, Before, NextSays, begins_later, end_is, ends_later}
use Rattle.put_moves.proofs.Job.{given_tied, left_later, next_at, queue_says, right_end_says, right_later}
use Rattle.put_moves.proofs.Job.{sides_say}
use Rattle.put_moves.proofs.Regions.{begins_region, ends_region}
use Rattle.put_moves.proofs.Words.{guard_else, mark_here}

-- the block that is put lies in the seat's hand
abbrev pub LiesThere : Whole → ℕ → PutAt → Type 0
LiesThere w seat p =
    w.pool.blocks.place p.block.first ≡ Place.Block p.block.first p.block.granules (Use.Held seat Taking.ToJoin)

pub size_turns : (k : Key) (w : Whole) (c : PutCall) (p : PutAt) (line : line_laws.Task) (was is : List Hand)
    → IsIdle line → Before k w c p PutStep.Size line was is → After k w c p PutStep.Size line is
size_turns k w c p line was is idle b =
    let first : ℕ = p.block.first in
    let n : ℕ = p.block.granules in
    let at : LiesThere w c.seat p = b.each.0.lies in
    let lies : LiesWithin k first n = lies_within k w first n (Use.Held c.seat Taking.ToJoin) b.good at in
    let some = lies.some in
    let below = lies.below in
    record {
      place' = w.pool.blocks.place;
      steps = marks k w c.seat Side.Begin first n binning.Task.Away line b.now idle at;
      hands = subst (HandsTied w.pool.blocks.place (w.drained c.seat) c.seat) (sym b.leads) b.tied;
      says = λ later l. ap (λ m. guard_in m Side.Begin first) l.words
          ∙ mark_here k w.pool.mem Side.Begin first (omega arith);
    }

pub left_turns : (k : Key) (w : Whole) (c : PutCall) (p : PutAt) (line : line_laws.Task) (was is : List Hand)
    → IsIdle line → Before k w c p PutStep.Left line was is → After k w c p PutStep.Left line is
left_turns k w c p line was is idle b =
    let first : ℕ = p.block.first in
    let n : ℕ = p.block.granules in
    let at : LiesThere w c.seat p = b.each.0.lies in
    let lies : LiesWithin k first n = lies_within k w first n (Use.Held c.seat Taking.ToJoin) b.good at in
    let end : capped (first + n) ≡ first + n = end_is k w first n (Use.Held c.seat Taking.ToJoin) b.good at in
    record {
      place' = w.pool.blocks.place;
      steps = subst (λ y. Steps k w c.seat (Store (Word.Left y) (guard_word Guard.Coalescing))
          (tasks blocks.Task.Away binning.Task.Away line) w.pool.blocks.place (w.drained c.seat)) (sym end)
          (marks k w c.seat Side.End first n binning.Task.Away line b.now idle at);
      hands = subst (HandsTied w.pool.blocks.place (w.drained c.seat) c.seat) (sym b.leads) b.tied;
      says = λ later l.
          let same : later.pool.mem ≡ after k w.pool.mem (mark Side.End (first + n)) =
          l.words ∙ ap (λ y. after k w.pool.mem (mark Side.End y)) end in
          record {
            marked = record {
              begin = ap (λ m. guard_in m Side.Begin first) same
                  ∙ guard_else k w.pool.mem (mark Side.End (first + n)) Side.Begin first
                  (λ e. absurd (omega arith)) ∙ b.says;
              end = ap (λ m. guard_in m Side.End (first + n)) same
                  ∙ mark_here k w.pool.mem Side.End (first + n) lies.below;
            };
          };
    }

-- what a look at the guard before the block says
pub judges_left_say : (k : Key) (w later : Whole) (c : PutCall) (p : PutAt) (step : PutStep) (guard : Guard)
    → WholeGood k w → LiesThere w c.seat p → guard_in w.pool.mem Side.End p.block.first ≡ guard
    → later.settled ≡ w.settled → AreMarked later.pool.mem p.block.first p.block.granules
    → NextSays later c.seat p step (judges_left c p guard)
judges_left_say k w later c p step Guard.Used good at is same marked = record { marked = marked; left = tt }
judges_left_say k w later c p step Guard.Wall good at is same marked = record {
  marked = marked;
  left = begins_later w later p.block.first same (begins_region k w good p.block.first p.block.granules
      (Use.Held c.seat Taking.ToJoin) at is);
}
judges_left_say k w later c p step Guard.Coalescing good at is same marked =
    queue_says c later c.seat p step c.drained marked
judges_left_say k w later c p step (Guard.Free granules) good at is same marked = record { marked = marked }

pub judges_right_say : (k : Key) (w later : Whole) (c : PutCall) (p : PutAt) (step : PutStep) (guard : Guard)
    → WholeGood k w → LiesThere w c.seat p
    → guard_in w.pool.mem Side.Begin (p.block.first + p.block.granules) ≡ guard
    → later.settled ≡ w.settled → later.pool.blocks.place ≡ w.pool.blocks.place
    → AreMarked later.pool.mem p.block.first p.block.granules → LeftSays w p.block.first p.left
    → NextSays later c.seat p step (judges_right c p guard)
judges_right_say k w later c p step Guard.Used good at is same place marked left =
    sides_say c later c.seat p (record p { right = Beside.InUse }) step marked (ap (λ f. f p.block.first) place ∙ at)
    (left_later w later p.block.first p.left same left) tt
judges_right_say k w later c p step Guard.Wall good at is same place marked left =
    let some = (lies_within k w p.block.first p.block.granules (Use.Held c.seat Taking.ToJoin) good at).some in
    sides_say c later c.seat p (record p { right = Beside.Wall }) step marked (ap (λ f. f p.block.first) place ∙ at)
    (left_later w later p.block.first p.left same left)
    (ends_later w later p.block.first p.block.granules same (ends_region k w good p.block.first p.block.granules
    (Use.Held c.seat Taking.ToJoin) at some is))
judges_right_say k w later c p step Guard.Coalescing good at is same place marked left =
    queue_says c later c.seat p step c.drained marked
judges_right_say k w later c p step (Guard.Free granules) good at is same place marked left =
    record { marked = marked; left = left_later w later p.block.first p.left same left }

-- a look leaves all words
marks_read : (k : Key) (w later : Whole) (word : Word) (first n : ℕ)
    → later.pool.mem ≡ after k w.pool.mem (Load word) → AreMarked w.pool.mem first n → AreMarked later.pool.mem first n
marks_read k w later word first n same marked = subst (λ m. AreMarked m first n) (sym same) marked

pub left_word_turns : (k : Key) (w : Whole) (c : PutCall) (p : PutAt) (line : line_laws.Task) (was is : List Hand)
    → IsIdle line → Before k w c p PutStep.LeftWord line was is → After k w c p PutStep.LeftWord line is
left_word_turns k w c p line was is idle b =
    let first : ℕ = p.block.first in
    record {
      place' = w.pool.blocks.place;
      steps = reads k w c.seat (Word.Left first) (tasks blocks.Task.Away binning.Task.Away line) b.now idle;
      hands = given_tied w.pool.blocks.place (w.drained c.seat) c.seat (next_at w c p PutStep.LeftWord) was is b.tied
          b.leads;
      says = λ later l. judges_left_say k w later c p PutStep.LeftWord (guard_in w.pool.mem Side.End first) b.good
          b.each.0.lies refl l.settled (marks_read k w later (Word.Left first) first p.block.granules l.words
          b.says.marked);
    }

pub right_word_turns : (k : Key) (w : Whole) (c : PutCall) (p : PutAt) (line : line_laws.Task) (was is : List Hand)
    → IsIdle line → Before k w c p PutStep.RightWord line was is → After k w c p PutStep.RightWord line is
right_word_turns k w c p line was is idle b =
    let first : ℕ = p.block.first in
    let n : ℕ = p.block.granules in
    let end : capped (first + n) ≡ first + n =
    end_is k w first n (Use.Held c.seat Taking.ToJoin) b.good b.each.0.lies in
    record {
      place' = w.pool.blocks.place;
      steps = reads k w c.seat (Word.Size (block_end p.block)) (tasks blocks.Task.Away binning.Task.Away line) b.now
          idle;
      hands = given_tied w.pool.blocks.place (w.drained c.seat) c.seat (next_at w c p PutStep.RightWord) was is b.tied
          b.leads;
      says = λ later l. judges_right_say k w later c p PutStep.RightWord
          (guard_in w.pool.mem Side.Begin (block_end p.block)) b.good b.each.0.lies
          (ap (λ y. guard_in w.pool.mem Side.Begin y) (sym end)) l.settled l.place
          (marks_read k w later (Word.Size (block_end p.block)) first n l.words b.says.marked) b.says.left;
    }

-- what a look at the far end says
far_left_say : (k : Key) (w later : Whole) (c : PutCall) (p : PutAt) (guard : Guard) → WholeGood k w
    → LiesThere w c.seat p → guard_in w.pool.mem Side.End p.block.first ≡ guard → later.settled ≡ w.settled
    → later.pool.blocks.place ≡ w.pool.blocks.place → AreMarked later.pool.mem p.block.first p.block.granules
    → PutSays w p PutStep.FarLeft → NextSays later c.seat p PutStep.FarLeft (sees_far_left p guard)
far_left_say k w later c p Guard.Wall good at is same place marked says =
    right_end_says later c.seat p p PutStep.FarLeft p.right marked (ap (λ f. f p.block.first) place ∙ at)
    (begins_later w later p.block.first same (begins_region k w good p.block.first p.block.granules
    (Use.Held c.seat Taking.ToJoin) at is))
    (right_later w later p.block.first p.block.granules p.right same says.right)
far_left_say k w later c p Guard.Used good at is same place marked says = tt
far_left_say k w later c p Guard.Coalescing good at is same place marked says = tt
far_left_say k w later c p (Guard.Free granules) good at is same place marked says = tt

pub far_left_turns : (k : Key) (w : Whole) (c : PutCall) (p : PutAt) (line : line_laws.Task) (was is : List Hand)
    → IsIdle line → Before k w c p PutStep.FarLeft line was is → After k w c p PutStep.FarLeft line is
far_left_turns k w c p line was is idle b =
    let first : ℕ = p.block.first in
    record {
      place' = w.pool.blocks.place;
      steps = reads k w c.seat (Word.Left first) (tasks blocks.Task.Away binning.Task.Away line) b.now idle;
      hands = given_tied w.pool.blocks.place (w.drained c.seat) c.seat (next_at w c p PutStep.FarLeft) was is b.tied
          b.leads;
      says = λ later l. far_left_say k w later c p (guard_in w.pool.mem Side.End first) b.good b.each.0.lies refl
          l.settled l.place (marks_read k w later (Word.Left first) first p.block.granules l.words b.says.marked)
          b.says;
    }

far_right_say : (k : Key) (w later : Whole) (c : PutCall) (p : PutAt) (guard : Guard) → WholeGood k w
    → LiesThere w c.seat p → guard_in w.pool.mem Side.Begin (p.block.first + p.block.granules) ≡ guard
    → later.settled ≡ w.settled → later.pool.blocks.place ≡ w.pool.blocks.place
    → AreMarked later.pool.mem p.block.first p.block.granules → PutSays w p PutStep.FarRight
    → NextSays later c.seat p PutStep.FarRight (sees_far_right p guard)
far_right_say k w later c p Guard.Wall good at is same place marked says =
    let some = (lies_within k w p.block.first p.block.granules (Use.Held c.seat Taking.ToJoin) good at).some in
    right_end_says later c.seat p p PutStep.FarRight Beside.Wall marked (ap (λ f. f p.block.first) place ∙ at)
    (begins_later w later p.block.first same says.left)
    (ends_later w later p.block.first p.block.granules same (ends_region k w good p.block.first p.block.granules
    (Use.Held c.seat Taking.ToJoin) at some is))
far_right_say k w later c p Guard.Used good at is same place marked says = tt
far_right_say k w later c p Guard.Coalescing good at is same place marked says = tt
far_right_say k w later c p (Guard.Free granules) good at is same place marked says = tt

pub far_right_turns : (k : Key) (w : Whole) (c : PutCall) (p : PutAt) (line : line_laws.Task) (was is : List Hand)
    → IsIdle line → Before k w c p PutStep.FarRight line was is → After k w c p PutStep.FarRight line is
far_right_turns k w c p line was is idle b =
    let first : ℕ = p.block.first in
    let n : ℕ = p.block.granules in
    let end : capped (first + n) ≡ first + n =
    end_is k w first n (Use.Held c.seat Taking.ToJoin) b.good b.each.0.lies in
    record {
      place' = w.pool.blocks.place;
      steps = reads k w c.seat (Word.Size (block_end p.block)) (tasks blocks.Task.Away binning.Task.Away line) b.now
          idle;
      hands = given_tied w.pool.blocks.place (w.drained c.seat) c.seat (next_at w c p PutStep.FarRight) was is b.tied
          b.leads;
      says = λ later l. far_right_say k w later c p (guard_in w.pool.mem Side.Begin (block_end p.block)) b.good
          b.each.0.lies (ap (λ y. guard_in w.pool.mem Side.Begin y) (sym end)) l.settled l.place
          (marks_read k w later (Word.Size (block_end p.block)) first n l.words b.says.marked) b.says;
    }

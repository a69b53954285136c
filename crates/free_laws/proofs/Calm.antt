-- Steps on guards by which no block comes into a bin or the queue, or leaves them.
use Rattle.std.proofs.Common.{◌≡◌, ◌≢◌, inl, inr, ℕ, ◌+◌, ◌<◌, ◌≤◌, refl, sym, subst, arith, ◌∙◌}
use Rattle.std.specs.Prelude.{⊤}
use Rattle.pool_words.specs.declared.words.Key.{Key}
use Rattle.guards.specs.declared.win.Taking.{Taking}
use Rattle.guards.specs.declared.win.WinAt.{WinAt}
use Rattle.guards.specs.declared.win.WinCall.{WinCall}
use Rattle.guards.specs.declared.win.WinNext.{WinNext}
use Rattle.guards.specs.Win.{win_course, win_learn}
use Rattle.word_laws.specs.Memory.{Mem, found}
use Rattle.guard_laws.specs.Blocks.{Use, Place, put_range, Task, Shadow, core_in, BlocksWhole, GuardGood}
use Rattle.guard_laws.specs.Steps.{shadow_won, place_split, GuardStep}
use Rattle.guard_laws.proofs.CallerLemmas.{IsOut, range_out, range_each, in_or, same_block, blocks_apart}
use Rattle.guard_laws.proofs.CallerLemmas.{Moved, used_moves}
use Rattle.free_laws.specs.Spaces.{Space}
use Rattle.free_laws.specs.Steps.{IsLoose, IsHand, IsNotWon, KeepsFree}

-- in a bin, or queued
abbrev pub IsPut : Use → Type 0
IsPut Use.Bin = ⊤
IsPut (Use.Held seat taking) = ⊥
IsPut Use.Queued = ⊤
IsPut Use.Elsewhere = ⊥

-- in a seat's hand, or at rest
abbrev pub IsOwn : ℕ → Use → Type 0
IsOwn seat Use.Bin = ⊥
IsOwn seat (Use.Held other taking) = other ≡ seat
IsOwn seat Use.Queued = ⊥
IsOwn seat Use.Elsewhere = ⊤

-- blocks in bins and queued ones stay and come from nowhere, and others in the seat's hand stay there
pub record IsCalm (place place' : ℕ → Place) (seat : ℕ) (gone : ℕ → Type 0) : Type 0 where
  pub to : (y m : ℕ) (w : Use) → IsPut w → place y ≡ Place.Block y m w → place' y ≡ Place.Block y m w
  pub from : (y m : ℕ) (w : Use) → IsPut w → place' y ≡ Place.Block y m w → place y ≡ Place.Block y m w
  pub hand : (y m : ℕ) (taking : Taking) → (gone y → ⊥) → place y ≡ Place.Block y m (Use.Held seat taking)
      → place' y ≡ Place.Block y m (Use.Held seat taking)

pub calm_same : (place : ℕ → Place) (seat : ℕ) (gone : ℕ → Type 0) → IsCalm place place seat gone
calm_same place seat gone = record {
  to = λ y m w put is. is;
  from = λ y m w put is. is;
  hand = λ y m taking not is. is;
}

-- no block in a bin, or queued, is the seat's own
put_not_own : (seat : ℕ) (u w : Use) → IsOwn seat u → IsPut w → u ≢ w
put_not_own t Use.Bin w own is same = own
put_not_own t (Use.Held o taking) w own is same = subst IsPut (sym same) is
put_not_own t Use.Queued w own is same = own
put_not_own t Use.Elsewhere w own is same = subst IsPut (sym same) is

other_block : (place : ℕ → Place) (x n y m : ℕ) (u w : Use) → u ≢ w → place x ≡ Place.Block x n u
    → place y ≡ Place.Block y m w → y ≢ x
other_block place x n y m u w ne at is same =
    ne (same_block place x x n x m u w at (subst (λ z. place z ≡ Place.Block z m w) same is)).2

-- the granules of one block of the seat's own have another value, which is no block in a bin or queued
pub calm_ranged : (place : ℕ → Place) (seat x n : ℕ) (u : Use) (q : Place) (gone : ℕ → Type 0) → BlocksWhole place
    → place x ≡ Place.Block x n u → IsOwn seat u → gone x
    → ((y m : ℕ) (w : Use) → IsPut w → q ≢ Place.Block y m w) → IsCalm place (put_range place x n q) seat gone
calm_ranged place t x n u q gone whole at own is none = record {
  to = λ y m w put f. away y m w (other_block place x n y m u w (put_not_own t u w own put) at f) f;
  from = λ y m w put. range_each (λ z r. r ≡ Place.Block y m w → place z ≡ Place.Block y m w) place x n q
      (λ z out f. f) (λ z low high f. absurd (none y m w put f)) y;
  hand = λ y m taking not f. away y m (Use.Held t taking) (λ same. not (subst gone (sym same) is)) f;
}
  where
    away : (y m : ℕ) (w : Use) → y ≢ x → place y ≡ Place.Block y m w → put_range place x n q y ≡ Place.Block y m w
    away y m w ne f = range_out place x n q y (blocks_apart place x n y m u w whole at f ne).out ∙ f

pub block_not_put : (seat x n : ℕ) (u : Use) → IsOwn seat u → (y m : ℕ) (w : Use) → IsPut w
    → Place.Block x n u ≢ Place.Block y m w
block_not_put t x n u own y m w put is = put_not_own t u w own put (cc)

pub calm_used : (place : ℕ → Place) (seat x n : ℕ) (was now : Use) (gone : ℕ → Type 0) → BlocksWhole place
    → place x ≡ Place.Block x n was → IsOwn seat was → IsOwn seat now → gone x
    → IsCalm place (put_range place x n (Place.Block x n now)) seat gone
calm_used place t x n was now gone whole at own own' is =
    calm_ranged place t x n was (Place.Block x n now) gone whole at own is (block_not_put t x n now own')

-- a block that was at rest comes into the seat's hand
pub calm_taken : (place : ℕ → Place) (seat x n : ℕ) (now : Use) (gone : ℕ → Type 0) → BlocksWhole place
    → place x ≡ Place.Block x n Use.Elsewhere → IsOwn seat now
    → IsCalm place (put_range place x n (Place.Block x n now)) seat gone
calm_taken place t x n now gone whole at own = record {
  to = λ y m w put f. moves.to y m w
      (other_block place x n y m Use.Elsewhere w (put_not_own t Use.Elsewhere w tt put) at f) f;
  from = λ y m w put. range_each (λ z r. r ≡ Place.Block y m w → place z ≡ Place.Block y m w) place x n
      (Place.Block x n now) (λ z out f. f) (λ z low high f. absurd (block_not_put t x n now own y m w put f)) y;
  hand = λ y m taking not f. moves.to y m (Use.Held t taking)
      (other_block place x n y m Use.Elsewhere (Use.Held t taking) (λ q. cc) at f) f;
}
  where
    moves : Moved place (put_range place x n (Place.Block x n now)) x n now
    moves = used_moves place x n Use.Elsewhere now whole at

hand_own : (seat : ℕ) (u : Use) → IsHand seat u → IsOwn seat u
hand_own t Use.Bin is = is
hand_own t (Use.Held o taking) is = is
hand_own t Use.Queued is = is
hand_own t Use.Elsewhere is = absurd is

-- a block is cut in two
calm_split : (place : ℕ → Place) (seat x a b : ℕ) (gone : ℕ → Type 0) → BlocksWhole place
    → place x ≡ Place.Block x (a + b) (Use.Held seat Taking.ForUse) → gone x
    → IsCalm place (place_split x a b (Use.Held seat Taking.ForUse) place) seat gone
calm_split place t x a b gone whole at is = record {
  to = λ y m w put f. away y m w (other_block place x (a + b) y m u w (put_not_own t u w refl put) at f) f;
  from = λ y m w put f.
      let none = block_not_put t (x + a) b u refl y m w put in
      let none' = block_not_put t x a u refl y m w put in
      range_each (λ z r. r ≡ Place.Block y m w → place z ≡ Place.Block y m w) place x a (Place.Block x a u)
      (λ z out f. f) (λ z low high f. absurd (none' f)) y
      (range_each (λ z r. r ≡ Place.Block y m w → first z ≡ Place.Block y m w) first (x + a) b
      (Place.Block (x + a) b u) (λ z out f. f) (λ z low high f. absurd (none f)) y f);
  hand = λ y m taking not f. away y m (Use.Held t taking) (λ same. not (subst gone (sym same) is)) f;
}
  where
    u : Use
    u = Use.Held t Taking.ForUse

    first : ℕ → Place
    first = put_range place x a (Place.Block x a u)

    apart : (y : ℕ) → IsOut x (a + b) y → IsOut x a y × IsOut (x + a) b y
    apart y (inl low) = (inl low, inl (omega arith))
    apart y (inr high) = (inr (omega arith), inr (omega arith))

    away : (y m : ℕ) (w : Use) → y ≢ x → place y ≡ Place.Block y m w → place_split x a b u place y ≡ Place.Block y m w
    away y m w ne f =
        let out = apart y (blocks_apart place x (a + b) y m u w whole at f ne).out in
        range_out first (x + a) b (Place.Block (x + a) b u) y out.1
        ∙ range_out place x a (Place.Block x a u) y out.0 ∙ f

-- two blocks are one
calm_merged : (place : ℕ → Place) (seat x a b : ℕ) (gone : ℕ → Type 0) → BlocksWhole place
    → place x ≡ Place.Block x a (Use.Held seat Taking.ToJoin)
    → place (x + a) ≡ Place.Block (x + a) b (Use.Held seat Taking.ToJoin) → gone x → gone (x + a)
    → IsCalm place (put_range place x (a + b) (Place.Block x (a + b) (Use.Held seat Taking.ToJoin))) seat gone
calm_merged place t x a b gone whole at behind is is' = record {
  to = λ y m w put f. let ne = put_not_own t u w refl put in
      away y m w (other_block place x a y m u w ne at f) (other_block place (x + a) b y m u w ne behind f) f;
  from = λ y m w put. range_each (λ z r. r ≡ Place.Block y m w → place z ≡ Place.Block y m w) place x (a + b)
      (Place.Block x (a + b) u) (λ z out f. f)
      (λ z low high f. absurd (block_not_put t x (a + b) u refl y m w put f)) y;
  hand = λ y m taking not f. away y m (Use.Held t taking) (λ q. not (subst gone (sym q) is))
      (λ q. not (subst gone (sym q) is')) f;
}
  where
    u : Use
    u = Use.Held t Taking.ToJoin

    joined : (y : ℕ) → IsOut x a y → IsOut (x + a) b y → IsOut x (a + b) y
    joined y (inl low) other = inl low
    joined y (inr high) (inl low) = absurd (omega arith)
    joined y (inr high) (inr far) = inr (omega arith)

    away : (y m : ℕ) (w : Use) → y ≢ x → y ≢ x + a → place y ≡ Place.Block y m w
        → put_range place x (a + b) (Place.Block x (a + b) u) y ≡ Place.Block y m w
    away y m w ne ne' f = range_out place x (a + b) (Place.Block x (a + b) u) y
        (joined y (blocks_apart place x a y m u w whole at f ne).out
        (blocks_apart place (x + a) b y m u w whole behind f ne').out) ∙ f

-- a region comes, where no block was
calm_come : (place : ℕ → Place) (seat x n : ℕ) (gone : ℕ → Type 0)
    → ((z : ℕ) → x ≤ z → z < x + n → place z ≡ Place.Outside)
    → IsCalm place (put_range place x n (Place.Block x n (Use.Held seat Taking.ForUse))) seat gone
calm_come place t x n gone outside = record {
  to = λ y m w put f. away y m w f;
  from = λ y m w put. range_each (λ z r. r ≡ Place.Block y m w → place z ≡ Place.Block y m w) place x n q
      (λ z out f. f) (λ z low high f. absurd (block_not_put t x n (Use.Held t Taking.ForUse) refl y m w put f)) y;
  hand = λ y m taking not f. away y m (Use.Held t taking) f;
}
  where
    q : Place
    q = Place.Block x n (Use.Held t Taking.ForUse)

    away : (y m : ℕ) (w : Use) → place y ≡ Place.Block y m w → put_range place x n q y ≡ Place.Block y m w
    away y m w f = in_or x n y
        (λ low high. absurd (let r : Place.Outside ≡ Place.Block y m w = sym (outside y low high) ∙ f in cc))
        (λ out. range_out place x n q y out ∙ f)

-- a win that is not at its end leaves all blocks
calm_won : (seat : ℕ) (c : WinCall) (g : Shadow) (next : WinNext) (gone : ℕ → Type 0) → IsNotWon next
    → IsCalm g.place (shadow_won seat c next g).place seat gone
calm_won t c g (WinNext.Goes WinAt.First) gone not = calm_same g.place t gone
calm_won t c g (WinNext.Goes WinAt.Second) gone not = calm_same g.place t gone
calm_won t c g (WinNext.Goes WinAt.Back) gone not = calm_same g.place t gone
calm_won t c g WinNext.Won gone not = absurd not
calm_won t c g (WinNext.NotWon f) gone not = calm_same g.place t gone
calm_won t c g WinNext.GivenBack gone not = calm_same g.place t gone

same : (k : Key) (seat : ℕ) (s : Space) → IsCalm s.pool.blocks.place s.pool.blocks.place seat (λ y. IsLoose s seat y)
same k t s = calm_same s.pool.blocks.place t (λ y. IsLoose s t y)

-- each step on guards that keeps blocks where they are
pub guards_are_calm : (k : Key) (seat : ℕ) (s : Space) (h : Shadow) (m' : Mem) (tasks : ℕ → Task)
    → (step : GuardStep k seat s.pool.blocks s.pool.mem s.pool.tasks h m' tasks) → KeepsFree k seat s h m' tasks step
    → GuardGood k s.pool.blocks (core_in s.pool.mem s.pool.tasks)
    → IsCalm s.pool.blocks.place h.place seat (λ y. IsLoose s seat y)
guards_are_calm k t s h m' tasks (GuardStep.begins c is fits) keeps good = same k t s
guards_are_calm k t s h m' tasks (GuardStep.wins c at is) keeps good = calm_won t c s.pool.blocks
    (win_learn c at (found s.pool.mem (win_course c at))) (λ y. IsLoose s t y) keeps
guards_are_calm k t s h m' tasks (GuardStep.offers x n taking is at) keeps good = same k t s
guards_are_calm k t s h m' tasks (GuardStep.offered x n is) keeps good = absurd keeps
guards_are_calm k t s h m' tasks (GuardStep.marks e x n taking guard is at fits) keeps good = same k t s
guards_are_calm k t s h m' tasks (GuardStep.readies e x n y taking at low high) keeps good = same k t s
guards_are_calm k t s h m' tasks (GuardStep.splits x a b is some more at used) keeps good =
    calm_split s.pool.blocks.place t x a b (λ y. IsLoose s t y) good.parts.whole at keeps
guards_are_calm k t s h m' tasks (GuardStep.merges x a b is at behind) keeps good =
    calm_merged s.pool.blocks.place t x a b (λ y. IsLoose s t y) good.parts.whole at behind keeps.0 keeps.1
guards_are_calm k t s h m' tasks (GuardStep.reuses x n was now is own own' at fits) keeps good =
    calm_used s.pool.blocks.place t x n was now (λ y. IsLoose s t y) good.parts.whole at (hand_own t was keeps.0)
    (hand_own t now keeps.1) keeps.2
guards_are_calm k t s h m' tasks GuardStep.drains keeps good = absurd keeps
guards_are_calm k t s h m' tasks (GuardStep.walls e y low none) keeps good = same k t s
guards_are_calm k t s h m' tasks (GuardStep.outlines e y low none) keeps good = same k t s
guards_are_calm k t s h m' tasks (GuardStep.comes x n some within outside used) keeps good =
    calm_come s.pool.blocks.place t x n (λ y. IsLoose s t y) outside
guards_are_calm k t s h m' tasks (GuardStep.leaves x n taking is at) keeps good =
    calm_ranged s.pool.blocks.place t x n (Use.Held t taking) Place.Outside (λ y. IsLoose s t y) good.parts.whole at
    refl keeps (λ y m w put q. cc)
guards_are_calm k t s h m' tasks (GuardStep.others action other) keeps good = same k t s

-- What a seat has in hand as a block leaves its use, or comes to one.
use Rattle.std.proofs.Common.{◌≡◌, ◌⊎◌, ℕ, ◌+◌, ◌<◌, ◌≤◌, List, ap, arith}
use Rattle.std.proofs.lemmas.Bool.Decides.{nat_tests}
use Rattle.pool_words.specs.declared.words.Key.{Key}
use Rattle.guards.specs.declared.win.Taking.{Taking}
use Rattle.chain_laws.specs.Chains.{tally}
use Rattle.guard_laws.specs.Blocks.{Place, Use, put_range}
use Rattle.use_laws.specs.After.{at_rest, in_hand}
use Rattle.hand_blocks.specs.Changes.{Alters, Change}
use Rattle.hand_blocks.specs.Hands.{Hand, hand}
use Rattle.pool_laws.specs.Wholes.{Whole, WholeGood}
use Rattle.seat_hands.proofs.CallerLemmas.{hands_come, hands_leave, others_are_none}
use Rattle.seat_ties.specs.Ties.{HandsTied}

pub range_in : {A : Type 0} (f : ℕ → A) (a n : ℕ) (v : A) (x : ℕ) → a ≤ x → x < a + n → put_range f a n v x ≡ v
range_in f a n v x low high = grind (arith, nat_tests)

pub range_out : {A : Type 0} (f : ℕ → A) (a n : ℕ) (v : A) (x : ℕ) → (x < a) ⊎ (a + n ≤ x) → put_range f a n v x ≡ f x
range_out f a n v x out = grind (arith, nat_tests)

-- a seat that took nothing of the queue has no block left of that
none_drained : (w : Whole) (seat x : ℕ) → w.drained seat ≡ List.[] → tally x (w.drained seat) ≡ 0
none_drained w seat x none = ap (λ xs. tally x xs) none

-- a block comes of its use into the hand
pub comes_up : (k : Key) (w : Whole) (seat x n : ℕ) (taking : Taking) (before after : List Hand)
    → WholeGood k w → w.drained seat ≡ List.[] → 0 < n → w.pool.blocks.place x ≡ Place.Block x n Use.Elsewhere
    → HandsTied w.pool.blocks.place (w.drained seat) seat before
    → Alters (Change.Comes (hand x n taking)) before after
    → HandsTied (in_hand seat taking x n w.pool.blocks).place (w.drained seat) seat after
comes_up k w seat x n taking before after good none some rests tied alters =
    let whole = good.shelf.pool.guards.parts.whole in
    let place : ℕ → Place = w.pool.blocks.place in
    let now : Place = Place.Block x n (Use.Held seat taking) in
    hands_come place (put_range place x n now) (w.drained seat) seat x n taking before after tied
    (others_are_none place seat x n Use.Elsewhere whole rests tt) some (none_drained w seat x none)
    (λ z out. range_out place x n now z out) (range_in place x n now x (omega arith) (omega arith)) alters

-- and one in hand comes to a use
pub comes_to_rest : (k : Key) (w : Whole) (seat x n : ℕ) (taking : Taking) (before after : List Hand)
    → WholeGood k w → w.pool.blocks.place x ≡ Place.Block x n (Use.Held seat taking)
    → HandsTied w.pool.blocks.place (w.drained seat) seat before
    → Alters (Change.Leaves (hand x n taking)) before after
    → HandsTied (at_rest x n w.pool.blocks).place (w.drained seat) seat after
comes_to_rest k w seat x n taking before after good lies tied alters =
    let place : ℕ → Place = w.pool.blocks.place in
    let now : Place = Place.Block x n Use.Elsewhere in
    hands_leave place (put_range place x n now) (w.drained seat) seat n (hand x n taking) before after tied
    good.shelf.pool.guards.parts.whole lies (λ z out. range_out place x n now z out) alters

-- A block in hand is cut in two, two are joined, one is of no known length, and one is read.
use Rattle.std.proofs.Common.{◌≡◌, ◌⊎◌, ℕ, ◌+◌, ◌<◌, ◌≤◌, List, [], ◌∷◌, ◌++◌, inl, inr, refl, sym, subst, arith}
use Rattle.std.proofs.lemmas.Bool.{cases_eq}
use Rattle.guards.specs.declared.win.Taking.{Taking}
use Rattle.chain_laws.specs.Chains.{tally}
use Rattle.chain_laws.proofs.CallerLemmas.{tally-here, tally-else, tally-first, tally-more, tally-rest}
use Rattle.guard_laws.specs.Blocks.{Use, Place, BlocksWhole}
use Rattle.hand_blocks.specs.Changes.{Alters, Change, lost}
use Rattle.hand_blocks.specs.Hands.{Hand, firsts, hand}
use Rattle.seat_ties.specs.Ties.{AreInHand, HandsTied}
use Rattle.seat_hands.specs.Laws.{HandsAreRead, HandsForget, HandsMerge, HandsSplit}
use Rattle.seat_hands.specs.Moved.{DrainedLie}
use Rattle.seat_hands.proofs.Changes.{Remains, IsNew, altered, begin_at, lost_was}
use Rattle.seat_hands.proofs.Lists.{all_above, all_below, apart_from, apart_is, once_is}
use Rattle.seat_hands.proofs.Moves.{elsewhere, few_one, not_there, only_one, within_is}
use Rattle.word_laws.proofs.CallerLemmas.{less_or}

-- what was in hand of a change
was_lost : (place : ℕ → Place) (seat : ℕ) (change : Change) (before after : List Hand)
    → AreInHand place seat before → Alters change before after → AreInHand place seat (lost change)
was_lost place seat change before after are is =
    all_above place seat (lost change) is.below
    (all_below place seat is.above (lost change ++ is.below) (subst (AreInHand place seat) is.was are))

-- one of two blocks begins there
pair_is : (x first second : ℕ) → 0 < tally x (first ∷ second ∷ []) → (x ≡ first) ⊎ (x ≡ second)
pair_is x first second some = elim (cases_eq x first) [
  | inl same ↦ inl same
  | inr differ ↦ inr (only_one x second (let less = tally-else x first (second ∷ []) differ in omega arith))
]

-- of what is cut the first half begins where the block began, and the other where none did
module _ (place : ℕ → Place) (drained : List ℕ) (seat first a b : ℕ) (before after : List Hand)
    (tied : HandsTied place drained seat before) (whole : BlocksWhole place) (drains : DrainedLie place drained seat)
    (is : Alters (Change.Splits first a b) before after) where
  was : place first ≡ Place.Block first (a + b) (Use.Held seat Taking.ForUse)
  was = (was_lost place seat (Change.Splits first a b) before after tied.lie is).0

  inner : place (first + a) ≡ Place.Block first (a + b) (Use.Held seat Taking.ForUse)
  inner = let fair = is.fair in
      (whole first first (a + b) (Use.Held seat Taking.ForUse) was).all (first + a) (omega arith) (omega arith)

  -- no block begins within another
  not_inner : (m : ℕ) (which : Taking) → place (first + a) ≡ Place.Block (first + a) m (Use.Held seat which) → ⊥
  not_inner m which lies =
      let here = inner in let same : first ≡ first + a = cc in let fair = is.fair in omega arith

  first_new : IsNew drained (Change.Splits first a b) before first
  first_new = record {
    once =
        (let few = once_is (firsts before) tied.once first in
        let here = tally-here first ((first + a) ∷ []) in let more = few_one first (first + a) in
        let there = tally-here first [] in
        let fair = is.fair in
        let other = tally-else first (first + a) [] (λ e. absurd (omega arith)) in omega arith);
    apart = apart_is drained (firsts before) tied.apart first
        (let some = lost_was (Change.Splits first a b) before after first is in
        let here = tally-here first [] in omega arith);
  }

  second_new : IsNew drained (Change.Splits first a b) before (first + a)
  second_new = record {
    once =
        (let none = not_there place seat before tied.lie (first + a)
        (λ held. not_inner held.granules held.taking held.lies) in
        let fair = is.fair in
        let less = tally-else (first + a) first ((first + a) ∷ []) (λ e. absurd (omega arith)) in
        let more = few_one (first + a) (first + a) in omega arith);
    apart = not_drained;
  }
    where
      not_drained : tally (first + a) drained ≡ 0
      not_drained = elim (cases_eq (tally (first + a) drained) 0) [
        | inl none ↦ none
        | inr some ↦ absurd (let lies = drains (first + a) (omega arith) in not_inner lies.0 Taking.ToJoin lies.1)
      ]

  halves_new : (x : ℕ) → 0 < tally x (first ∷ (first + a) ∷ []) → IsNew drained (Change.Splits first a b) before x
  halves_new x some = elim (pair_is x first (first + a) some) [
    | inl same ↦ subst (IsNew drained (Change.Splits first a b) before) (sym same) first_new
    | inr same ↦ subst (IsNew drained (Change.Splits first a b) before) (sym same) second_new
  ]

pub hands_split : HandsSplit
hands_split place later drained seat first a b before after tied whole drains same one other is =
    altered place later drained seat (Change.Splits first a b) before after tied is (one, (other, tt))
    (λ y m which remains lies. less_or y first (λ low. same y (inl low))
    (λ from. less_or y (first + (a + b))
    (λ below. absurd (elsewhere (Change.Splits first a b) before first y
    (once_is (firsts before) tied.once first) (let here = tally-here first [] in omega arith) remains
    (within_is place first (a + b) y m (Use.Held seat Taking.ForUse) (Use.Held seat which) whole
    (was place drained seat first a b before after tied whole drains is) lies from below)))
    (λ above. same y (inr above))))
    (halves_new place drained seat first a b before after tied whole drains is)

pub hands_merge : HandsMerge
hands_merge place later drained seat first a b before after tied whole same joined is =
    altered place later drained seat change before after tied is (joined, tt)
    (λ y m which remains lies. less_or y first (λ low. same y (inl low))
    (λ from. less_or y (first + a) (λ below. absurd (not_first y m which remains lies from below))
    (λ above. less_or y ((first + a) + b) (λ below. absurd (not_second y m which remains lies above below))
    (λ behind. same y (inr (let far = behind in omega arith))))))
    (λ x comes. subst (IsNew drained change before) (sym (only_one x first comes)) new)
  where
    change : Change
    change = Change.Merges first a b

    lay : AreInHand place seat (lost (Change.Merges first a b))
    lay = was_lost place seat (Change.Merges first a b) before after tied.lie is

    first_lost : 0 < begin_at first (lost (Change.Merges first a b))
    first_lost = let here = tally-here first ((first + a) ∷ []) in omega arith

    second_lost : 0 < begin_at (first + a) (lost (Change.Merges first a b))
    second_lost =
        let here = tally-here (first + a) [] in
        let more = tally-more (first + a) first ((first + a) ∷ []) in omega arith

    not_first : (y m : ℕ) (which : Taking) → Remains (Change.Merges first a b) before y
        → place y ≡ Place.Block y m (Use.Held seat which) → first ≤ y → y < first + a → ⊥
    not_first y m which remains lies from below = elsewhere (Change.Merges first a b) before first y
        (once_is (firsts before) tied.once first) first_lost remains
        (within_is place first a y m (Use.Held seat Taking.ToJoin) (Use.Held seat which) whole lay.0 lies from below)

    not_second : (y m : ℕ) (which : Taking) → Remains (Change.Merges first a b) before y
        → place y ≡ Place.Block y m (Use.Held seat which) → first + a ≤ y → y < (first + a) + b → ⊥
    not_second y m which remains lies from below = elsewhere (Change.Merges first a b) before (first + a) y
        (once_is (firsts before) tied.once (first + a)) second_lost remains
        (within_is place (first + a) b y m (Use.Held seat Taking.ToJoin) (Use.Held seat which) whole lay.1.0 lies from
        below)

    new : IsNew drained (Change.Merges first a b) before first
    new = record {
      once =
          (let few = once_is (firsts before) tied.once first in let some = first_lost in
          let one = few_one first first in omega arith);
      apart = apart_is drained (firsts before) tied.apart first
          (let some = lost_was (Change.Merges first a b) before after first is in let more = first_lost in omega arith);
    }

pub hands_forget : HandsForget
hands_forget place drained seat first n before after tied is =
    altered place place drained seat (Change.Forgets first n) before after tied is ((n, lay.0), tt)
    (λ y m which remains lies. refl) (λ x comes. subst (IsNew drained (Change.Forgets first n) before)
    (sym (only_one x first comes)) new)
  where
    lay : AreInHand place seat (lost (Change.Forgets first n))
    lay = was_lost place seat (Change.Forgets first n) before after tied.lie is

    new : IsNew drained (Change.Forgets first n) before first
    new = record {
      once = (let few = once_is (firsts before) tied.once first in omega arith);
      apart = apart_is drained (firsts before) tied.apart first
          (let some = lost_was (Change.Forgets first n) before after first is in
          let here = tally-here first [] in omega arith);
    }

pub hands_are_read : HandsAreRead
hands_are_read place rest seat first n before after tied once lies is =
    altered place place rest seat (Change.Comes (hand first n Taking.ToJoin)) before after tied' is (lies, tt)
    (λ y m which remains lies. refl)
    (λ x comes. subst (IsNew rest (Change.Comes (hand first n Taking.ToJoin)) before)
    (sym (only_one x first comes)) new)
  where
    apart : (x : ℕ) → 0 < tally x (firsts before) → tally x (first ∷ rest) ≡ 0
    apart = apart_is (first ∷ rest) (firsts before) tied.apart

    tied' : HandsTied place rest seat before
    tied' = record {
      lie = tied.lie;
      once = tied.once;
      apart = apart_from rest (firsts before) (λ x some. tally-rest x first rest (apart x some));
    }

    absent : begin_at first before ≡ 0
    absent = elim (cases_eq (begin_at first before) 0) [
      | inl none ↦ none
      | inr some ↦ absurd (tally-first first first rest (apart first (omega arith)) refl)
    ]

    new : IsNew rest (Change.Comes (hand first n Taking.ToJoin)) before first
    new = record { once = (let few = few_one first first in let none = absent in omega arith); apart = once }

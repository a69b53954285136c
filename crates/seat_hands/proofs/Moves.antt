-- The changes of what is in hand, each by itself.
use Rattle.std.proofs.Common.{◌≡◌, ◌≢◌, ℕ, ◌+◌, ◌<◌, ◌≤◌, List, [], ◌∷◌, inl, inr, sym, subst, arith}
use Rattle.std.proofs.lemmas.Bool.{cases_eq}
use Rattle.chain_laws.specs.Chains.{tally}
use Rattle.chain_laws.proofs.CallerLemmas.{tally-here, tally-else}
use Rattle.guard_laws.specs.Blocks.{Use, Place, BlocksWhole}
use Rattle.hand_blocks.specs.Changes.{Change, lost}
use Rattle.hand_blocks.specs.Hands.{Hand, firsts, hand}
use Rattle.seat_ties.specs.Ties.{AreInHand}
use Rattle.seat_hands.specs.Laws.{HandsCome, HandsLeave}
use Rattle.seat_hands.proofs.Changes.{Remains, IsNew, altered, begin_at}
use Rattle.seat_hands.proofs.Hands.{hands_stand_elsewhere}
use Rattle.seat_hands.proofs.Lists.{IsHeld, held_in, once_is}
use Rattle.word_laws.proofs.CallerLemmas.{less_or}

-- one block alone begins where it begins
pub only_one : (x first : ℕ) → 0 < tally x (first ∷ []) → x ≡ first
only_one x first some = elim (cases_eq x first) [
  | inl same ↦ same
  | inr differ ↦ absurd (let none = tally-else x first [] differ in omega arith)
]

pub few_one : (x first : ℕ) → tally x (first ∷ []) ≤ 1
few_one x first = elim (cases_eq x first) [
  | inl same ↦ subst (λ z. tally x (z ∷ []) ≤ 1) same (let here = tally-here x [] in omega arith)
  | inr differ ↦ (let none = tally-else x first [] differ in omega arith)
]

-- where none begins in the hand
pub not_there : (place : ℕ → Place) (seat : ℕ) (before : List Hand) → AreInHand place seat before → (x : ℕ)
    → (IsHeld place seat x → ⊥) → begin_at x before ≡ 0
not_there place seat before are x other = elim (cases_eq (begin_at x before) 0) [
  | inl none ↦ none
  | inr some ↦ absurd (other (held_in place seat before are x (omega arith)))
]

pub hands_come : HandsCome
hands_come place later drained seat first n taking before after tied none some apart same lies is =
    altered place later drained seat (Change.Comes (hand first n taking)) before after tied is (lies, tt)
    (λ y m which remains is. hands_stand_elsewhere place later seat first n none same y m which is)
    (λ x comes. new x (only_one x first comes))
  where
    absent : begin_at first before ≡ 0
    absent = not_there place seat before tied.lie first
        (λ held. none first held.granules held.taking (omega arith) (omega arith) held.lies)

    new : (x : ℕ) → x ≡ first → IsNew drained (Change.Comes (hand first n taking)) before x
    new x same = subst (IsNew drained (Change.Comes (hand first n taking)) before) (sym same)
        (record { once = (let few = few_one first first in let none = absent in omega arith); apart = apart })

-- a block that begins within another is that one
pub within_is : (place : ℕ → Place) (first n y m : ℕ) (u w : Use) → BlocksWhole place
    → place first ≡ Place.Block first n u → place y ≡ Place.Block y m w → first ≤ y → y < first + n → y ≡ first
within_is place first n y m u w whole at is low high =
    let here = (whole first first n u at).all y low high in cc

-- what remains of a hand of different blocks begins elsewhere
pub elsewhere : (change : Change) (before : List Hand) (first y : ℕ) → begin_at first before ≤ 1
    → 0 < begin_at first (lost change) → Remains change before y → y ≢ first
elsewhere change before first y few lost' remains same =
    let r = subst (Remains change before) same remains in omega arith

pub hands_leave : HandsLeave
hands_leave place later drained seat n one before after tied whole at same is =
    altered place later drained seat (Change.Leaves one) before after tied is tt
    (λ y m which remains lies. less_or y one.first (λ low. same y (inl low))
    (λ from. less_or y (one.first + n)
    (λ below. absurd (elsewhere (Change.Leaves one) before one.first y
    (once_is (firsts before) tied.once one.first) (let here = tally-here one.first [] in omega arith) remains
    (within_is place one.first n y m (Use.Held seat one.taking) (Use.Held seat which) whole at lies from below)))
    (λ above. same y (inr above))))
    (λ x comes. absurd (omega arith))

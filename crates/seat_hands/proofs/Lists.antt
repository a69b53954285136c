-- What is said of each block in hand, by how often one begins at a granule.
use Rattle.std.proofs.Common.{◌≡◌, ℕ, ◌+◌, ◌<◌, ◌≤◌, List, [], ◌∷◌, ◌++◌, inl, inr, sym, subst, arith, Option}
use Rattle.std.proofs.Common.{Some, None, ◌∙◌}
use Rattle.std.proofs.lemmas.Bool.{cases_eq}
use Rattle.guards.specs.declared.win.Taking.{Taking}
use Rattle.chain_laws.specs.Chains.{tally}
use Rattle.chain_laws.proofs.CallerLemmas.{tally-here, tally-else, tally-more}
use Rattle.guard_laws.specs.Blocks.{Use, Place}
use Rattle.hand_blocks.specs.Hands.{Hand, firsts}
use Rattle.seat_ties.specs.Ties.{AreApart, AreInHand, AreOnce, LiesFor}

-- each stands there once
pub once_is : (xs : List ℕ) → AreOnce xs → (x : ℕ) → tally x xs ≤ 1
once_is [] once x = omega arith
once_is (y ∷ ys) once x = elim (cases_eq x y) [
  | inl same ↦
      let none = subst (λ z. tally z ys ≡ 0) (sym same) once.0 in
      let here = subst (λ z. tally x (z ∷ ys) ≡ 1 + tally x ys) same (tally-here x ys) in omega arith
  | inr differ ↦ let more = once_is ys once.1 x in let rest = tally-else x y ys differ in omega arith
]

pub once_from : (xs : List ℕ) → ((x : ℕ) → tally x xs ≤ 1) → AreOnce xs
once_from [] few = tt
once_from (y ∷ ys) few = (
  (let here = tally-here y ys in let one = few y in omega arith),
  once_from ys (λ x. let more = tally-more x y ys in let one = few x in omega arith),
)

-- none of them stands among the others
pub apart_is : (others xs : List ℕ) → AreApart others xs → (x : ℕ) → 0 < tally x xs → tally x others ≡ 0
apart_is others [] apart x some = absurd (omega arith)
apart_is others (y ∷ ys) apart x some = elim (cases_eq x y) [
  | inl same ↦ subst (λ z. tally z others ≡ 0) (sym same) apart.0
  | inr differ ↦ apart_is others ys apart.1 x (let rest = tally-else x y ys differ in omega arith)
]

pub apart_from : (others xs : List ℕ) → ((x : ℕ) → 0 < tally x xs → tally x others ≡ 0) → AreApart others xs
apart_from others [] apart = tt
apart_from others (y ∷ ys) apart = (
  apart y (let here = tally-here y ys in omega arith),
  apart_from others ys (λ x some. apart x (let more = tally-more x y ys in omega arith)),
)

-- a block of the seat's begins there
pub record IsHeld (place : ℕ → Place) (seat x : ℕ) : Type 0 where
  pub granules : ℕ
  pub taking : Taking
  pub lies : place x ≡ Place.Block x granules (Use.Held seat taking)

held_of : (place : ℕ → Place) (seat first : ℕ) (granules : Option ℕ) (taking : Taking)
    → LiesFor place seat first granules taking → IsHeld place seat first
held_of place seat first (Some n) taking lies = record { granules = n; taking = taking; lies = lies }
held_of place seat first None taking lies = record { granules = lies.0; taking = taking; lies = lies.1 }

-- where a block in hand begins one of the seat's does
pub held_in : (place : ℕ → Place) (seat : ℕ) (hands : List Hand) → AreInHand place seat hands → (x : ℕ)
    → 0 < tally x (firsts hands) → IsHeld place seat x
held_in place seat [] are x some = absurd (omega arith)
held_in place seat (one ∷ rest) are x some = elim (cases_eq x one.first) [
  | inl same ↦ subst (IsHeld place seat) (sym same) (held_of place seat one.first one.granules one.taking are.0)
  | inr differ ↦ held_in place seat rest are.1 x (let more = tally-else x one.first (firsts rest) differ in omega arith)
]

-- blocks in hand lie where they lay, if those places are as before
one_stands : (place later : ℕ → Place) (seat first : ℕ) (granules : Option ℕ) (taking : Taking)
    → LiesFor place seat first granules taking
    → ((m : ℕ) (which : Taking) → place first ≡ Place.Block first m (Use.Held seat which) → later first ≡ place first)
    → LiesFor later seat first granules taking
one_stands place later seat first (Some n) taking lies same = same n taking lies ∙ lies
one_stands place later seat first None taking lies same = (lies.0, same lies.0 taking lies.1 ∙ lies.1)

pub all_stand : (place later : ℕ → Place) (seat : ℕ) (hands : List Hand) → AreInHand place seat hands
    → ((y m : ℕ) (taking : Taking) → 0 < tally y (firsts hands)
    → place y ≡ Place.Block y m (Use.Held seat taking) → later y ≡ place y)
    → AreInHand later seat hands
all_stand place later seat [] are same = tt
all_stand place later seat (one ∷ rest) are same = (
  one_stands place later seat one.first one.granules one.taking are.0
      (λ m taking is. same one.first m taking (let here = tally-here one.first (firsts rest) in omega arith) is),
  all_stand place later seat rest are.1
      (λ y m taking some. same y m taking (let more = tally-more y one.first (firsts rest) in omega arith)),
)

-- parts of what is in hand
pub all_join : (place : ℕ → Place) (seat : ℕ) (above below : List Hand) → AreInHand place seat above
    → AreInHand place seat below → AreInHand place seat (above ++ below)
all_join place seat [] below are more = more
all_join place seat (one ∷ rest) below are more = (are.0, all_join place seat rest below are.1 more)

pub all_above : (place : ℕ → Place) (seat : ℕ) (above below : List Hand) → AreInHand place seat (above ++ below)
    → AreInHand place seat above
all_above place seat [] below are = tt
all_above place seat (one ∷ rest) below are = (are.0, all_above place seat rest below are.1)

pub all_below : (place : ℕ → Place) (seat : ℕ) (above below : List Hand) → AreInHand place seat (above ++ below)
    → AreInHand place seat below
all_below place seat [] below are = are
all_below place seat (one ∷ rest) below are = all_below place seat rest below are.1

-- How often an index stands in a list, and in several lists.
use Rattle.std.proofs.Common.{◌≡◌, ℕ, suc, ◌+◌, ◌<◌, ◌≤◌, ◌==◌, cond, inl, inr, List, [], ◌∷◌, ◌++◌, length, get_or, set, Some, refl, sym, ap, arith}
use Rattle.std.proofs.lemmas.Bool.Decides.{nat_tests}
use Rattle.std.proofs.lemmas.Bool.{cases_eq, cases_lt}
use Rattle.std.proofs.lemmas.List.{get_or-set_other, get_or_past}
use Rattle.std.proofs.lemmas.List.Sums.{sum_by-set, sum_by-cons, get_or-le-sum_by}
use Rattle.index_lists.specs.Lists.{times, times_listed, list_without, first_of}

pub times-here : (u : ℕ) (xs : List ℕ) → times u (u ∷ xs) ≡ 1 + times u xs
times-here u xs = grind (arith, nat_tests)

pub times-append : (u : ℕ) (xs ys : List ℕ) → times u (xs ++ ys) ≡ times u xs + times u ys
times-append u [] ys = omega arith
times-append u (x ∷ xs) ys = let ih = times-append u xs ys in omega arith

-- an index that doesn't stand in a list isn't its first, and doesn't stand behind it
pub not_first : (x u : ℕ) (xs : List ℕ) → times u (x ∷ xs) ≡ 0 → x ≡ u → ⊥
not_first x u xs none same = absurd (grind (arith, nat_tests))

pub not_behind : (x u : ℕ) (xs : List ℕ) → times u (x ∷ xs) ≡ 0 → times u xs ≡ 0
not_behind x u xs none = grind (arith, nat_tests)

-- an index that stands once stands nowhere behind itself
pub none_behind : (u : ℕ) (xs : List ℕ) → times u (u ∷ xs) ≤ 1 → times u xs ≡ 0
none_behind u xs once = omega (arith, times-here u xs)

pub first_in : (xs : List ℕ) (u : ℕ) → first_of xs ≡ Some u → 0 < times u xs
first_in [] u e = absurd (cc)
first_in (x ∷ xs) u e = let same : x ≡ u = cc in grind (arith, nat_tests)

-- what stands in a list has members before it and behind it
pub split : (u : ℕ) (xs : List ℕ) → 0 < times u xs → (front rest : List ℕ) × (xs ≡ front ++ (u ∷ rest))
split u [] l = absurd (omega arith)
split u (x ∷ xs) l = elim (cases_eq u x) [
  | inl e ↦ ([], xs, ap (λ v. v ∷ xs) (sym e))
  | inr ne ↦ let more = split u xs (behind ne) in (x ∷ more.0, more.1, ap (λ v. x ∷ v) more.2)
]
  where
    behind : (u ≡ x → ⊥) → 0 < times u xs
    behind ne = grind (arith, nat_tests)

-- nothing is dropped where the index doesn't stand
pub list_without-none : (u : ℕ) (xs : List ℕ) → times u xs ≡ 0 → list_without u xs ≡ xs
list_without-none u [] none = refl
list_without-none u (x ∷ xs) none = let ih = list_without-none u xs (not_behind x u xs none) in grind (arith, nat_tests)

pub list_without-split : (u : ℕ) (front rest : List ℕ) → times u front ≡ 0 → times u rest ≡ 0
    → list_without u (front ++ (u ∷ rest)) ≡ front ++ rest
list_without-split u [] rest a b = let ih = list_without-none u rest b in grind (arith, nat_tests)
list_without-split u (x ∷ front) rest a b =
    let ih = list_without-split u front rest (not_behind x u front a) b in grind (arith, nat_tests)

-- what is dropped stands nowhere, and all else as often as before
pub times-list_without : (v u : ℕ) (xs : List ℕ) → times v (list_without u xs) ≡ cond (v == u) 0 (times v xs)
times-list_without v u [] = grind (arith, nat_tests)
times-list_without v u (x ∷ xs) = let ih = times-list_without v u xs in elim (cases_eq x u) [
  | inl e ↦ grind (arith, nat_tests)
  | inr ne ↦ grind (arith, nat_tests)
]

-- one list has no more than all
pub times-le : (u : ℕ) (lists : List (List ℕ)) (k : ℕ) → times u (get_or lists k []) ≤ times_listed u lists
times-le u lists k = elim (cases_lt k (length lists)) [
  | inl l ↦ get_or-le-sum_by (times u) lists k [] l
  | inr l ↦ rw (get_or_past lists k [] l) (omega arith)
]

-- nor have two
pub times-two : (u : ℕ) (lists : List (List ℕ)) (j k : ℕ) → j < length lists → (k ≡ j → ⊥)
    → times u (get_or lists k []) + times u (get_or lists j []) ≤ times_listed u lists
times-two u lists j k l ne =
    let others = sum_by-set (times u) lists j [] [] l in
    let one : times u (get_or lists k []) ≤ times_listed u (set lists j []) =
    rw (get_or-set_other lists j k [] [] ne) at (times-le u (set lists j []) k) in
    omega arith

-- what stands in the lists stands in one of them
pub found : (lists : List (List ℕ)) (u : ℕ) → 0 < times_listed u lists → (k : ℕ) × (0 < times u (get_or lists k []))
found [] u l = absurd (omega arith)
found (xs ∷ lists) u l = elim (cases_lt 0 (times u xs)) [
  | inl h ↦ (0, h)
  | inr h ↦ let more = found lists u (omega (arith, sum_by-cons (times u) xs lists)) in (suc more.0, more.1)
]

-- How often a number is in a list, and how many members are none.
use Prim.Native.Nat.{zero, suc}
use Rattle.std.proofs.Common.{◌≡◌, ◌≢◌, ℕ, ◌+◌, ◌==◌, List, [], ◌∷◌, ◌++◌, Some, None, refl, ap, arith}
use Rattle.std.specs.Prelude.{slice_get, slice_set}
use Rattle.std.specs.declared.option.Option.{Option}
use Rattle.std.proofs.lemmas.Bool.{eq-eqb, ne_eqb}
use Rattle.plain_lists.specs.Good.{times, nones}
use Rattle.list_laws.proofs.Counts.{one_if, count-cons}

-- a number is once more in a list that it was put before, and another one is not
pub times-same : (x : ℕ) (xs : List ℕ) → times x (x ∷ xs) ≡ times x xs + 1
times-same x xs = let first = count-cons (λ other. other == x) x xs in let one : one_if (x == x) ≡ 1 = ap one_if (eq-eqb x x refl) in omega (arith, first, one)

pub times-other : (x y : ℕ) (xs : List ℕ) → y ≢ x → times x (y ∷ xs) ≡ times x xs
times-other x y xs other = let first = count-cons (λ other. other == x) y xs in let none : one_if (y == x) ≡ 0 = ap one_if (ne_eqb y x other) in omega (arith, first, none)

-- the members that are none, of two lists
pub nones-append : (xs ys : List (Option ℕ)) → nones (xs ++ ys) ≡ nones xs + nones ys
nones-append [] ys = omega arith
nones-append (Some number ∷ xs) ys = nones-append xs ys
nones-append (None ∷ xs) ys = let rest = nones-append xs ys in omega (arith, rest)

-- and after a member was set
pub nones-set_some : (xs : List (Option ℕ)) (i number : ℕ) → slice_get xs i ≡ Some None → nones (slice_set xs i (Some number)) + 1 ≡ nones xs
nones-set_some [] i number is = absurd (let e = is in cc)
nones-set_some (Some other ∷ xs) zero number is = absurd (let e = is in cc)
nones-set_some (None ∷ xs) zero number is = omega arith
nones-set_some (Some other ∷ xs) (suc i) number is = nones-set_some xs i number is
nones-set_some (None ∷ xs) (suc i) number is = let rest = nones-set_some xs i number is in omega (arith, rest)

pub nones-set_none : (xs : List (Option ℕ)) (i number : ℕ) → slice_get xs i ≡ Some (Some number) → nones (slice_set xs i None) ≡ nones xs + 1
nones-set_none [] i number is = absurd (let e = is in cc)
nones-set_none (Some other ∷ xs) zero number is = omega arith
nones-set_none (None ∷ xs) zero number is = absurd (let e = is in cc)
nones-set_none (Some other ∷ xs) (suc i) number is = nones-set_none xs i number is
nones-set_none (None ∷ xs) (suc i) number is = let rest = nones-set_none xs i number is in omega (arith, rest)

-- Lists read by `get_elem?`.
use Rattle.std.proofs.Common.{◌≡◌, ◌⊎◌, ℕ, zero, suc, ◌<◌, List, [], ◌∷◌, ◌++◌, length, refl, sym, ap, inl, inr}
use Rattle.std.proofs.Common.{⊎_elim, arith}
use mathlib.Core.Option.{some, some-injective, some-ne-none}
use lib.ListN.{get_elem?}

pub at_low : {A : Type 0} (l : List A) (j : ℕ) (b : A) → get_elem? l j ≡ some b → j < length l
at_low [] j b e = absurd (some-ne-none b (sym e))
at_low (x ∷ xs) zero b e = omega arith
at_low (x ∷ xs) (suc j) b e = let h = at_low xs j b e in omega arith

pub at_some : {A : Type 0} (l : List A) (j : ℕ) → j < length l → (b : A) × (get_elem? l j ≡ some b)
at_some [] j h = absurd (omega arith)
at_some (x ∷ xs) zero h = (x, refl)
at_some (x ∷ xs) (suc j) h = at_some xs j (omega arith)

pub at_end : {A : Type 0} (l : List A) (a : A) (j : ℕ) (b : A) → get_elem? (l ++ (a ∷ [])) j ≡ some b
    → ((get_elem? l j ≡ some b) × (j < length l)) ⊎ ((j ≡ length l) × (a ≡ b))
at_end [] a zero b e = inr (refl, some-injective a b e)
at_end [] a (suc j) b e = absurd (some-ne-none b (sym e))
at_end (x ∷ xs) a zero b e = inl (e, omega arith)
at_end (x ∷ xs) a (suc j) b e = ⊎_elim
    (λ (z : (get_elem? xs j ≡ some b) × (j < length xs)). let h = z.1 in inl (z.0, omega arith))
    (λ (z : (j ≡ length xs) × (a ≡ b)). inr (ap suc z.0, z.1))
    (at_end xs a j b e)

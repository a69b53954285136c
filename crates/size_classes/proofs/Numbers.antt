-- What no class has is 0.
use Rattle.std.proofs.Common.{◌≡◌, ℕ, ◌<◌, ◌≤◌, ◌/◌, inl, inr, Some, None, ap, arith, ◌∙◌}
use Rattle.std.proofs.Math.Nat.{div-zero}
use Rattle.std.proofs.lemmas.Bool.Decides.{nat_tests}
use Rattle.std.proofs.lemmas.Bool.{cases_lt}
use Rattle.pool_types.specs.Geometry.{objects_bytes}
use Rattle.pool_types.specs.Geometry.{class_count}
use Rattle.size_classes.specs.Classes.{class_at, class_size, class_objects}
use Rattle.size_classes.proofs.Sizes.{class_size-past}

pub past : (number : ℕ) → class_at number ≡ None → class_count ≤ number
past number none = elim (cases_lt number class_count) [
  | inl l ↦ absurd (there l)
  | inr h ↦ h
]
  where
    there : number < class_count → ⊥
    there l = let some : class_at number ≡ Some number = grind (arith, nat_tests) in cc

pub no_size : (number : ℕ) → class_at number ≡ None → class_size number ≡ 0
no_size number none = class_size-past number (past number none)

pub no_objects : (number : ℕ) → class_at number ≡ None → class_objects number ≡ 0
unfolding class_objects
no_objects number none = ap (λ size. objects_bytes / size) (no_size number none) ∙ div-zero objects_bytes

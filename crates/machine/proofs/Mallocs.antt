-- What a malloc of a size that has a class asks for, and what its steps may move.
use Rattle.std.proofs.Common.{◌≡◌, ◌≢◌, ℕ, ◌-◌, ◌%◌, ◌^◌, ◌<◌, ◌≤◌, inl, inr, [], Bool, true, false, ◌||◌, not, nat_le, Some, refl, sym, ◌∙◌, ap}
use Rattle.std.specs.Prelude.{if◌then◌else◌, ◌==◌}
use Rattle.std.specs.Bool.{OnTrue}
use Rattle.std.proofs.lemmas.Bool.{cases_Bool, leb-true, leb-false}
use Rattle.size_classes.specs.declared.Served.{Served}
use Rattle.size_classes.specs.declared.Served.TheVariants.{Small, Large}
use Rattle.size_classes.specs.Classes.{class_of}
use Rattle.size_classes.proofs.CallerLemmas.{served_plain-small}
use Rattle.pool_types.specs.declared.values.Request.TheVariants.{Malloc}
use Rattle.machine.specs.States.{Terms}
use Rattle.machine.specs.Answers.{Call, IsAccepted, granted, is_bad}
use Rattle.machine.specs.Suits.{plain_alignment, least_usable, wants_object}
use Rattle.machine.specs.Looks.{served_for}
use Rattle.machine.specs.Turns.{NoneLeaves, IsMoveOf}

-- a small object is no block
pub small_no_block : (served : Served) (class granules alignment : ℕ) → served ≡ Small class → served ≡ Large granules alignment → ⊥
small_no_block served class granules alignment small large = let e : Small class ≡ Large granules alignment = sym small ∙ large in cc

-- a malloc of a size that has a class is accepted, as long as the seat has numbers
pub malloc_accepted : (terms : Terms) (call : Call) (size class : ℕ) → call.request ≡ Malloc size → class_of size ≡ Some class →
    call.before.last call.seat ≢ 2 ^ 55 - 1 → IsAccepted terms call
malloc_accepted terms call size class asked found numbers = record {
  sound = ap is_bad asked;
  numbers = numbers;
  fits = λ granules alignment large. absurd (small_no_block (served_for call.request) class granules alignment (ap served_for asked ∙ served_plain-small size class found) large);
}

-- what is a multiple of 8, and of 16 or 64 where the size wants it, is aligned for the size
pub plain_aligned : (address size : ℕ) → (size ≤ 8 → address % 8 ≡ 0) → (8 < size → size ≤ 8128 → address % 16 ≡ 0) → (8128 < size → address % 64 ≡ 0) →
    address % plain_alignment size ≡ 0
plain_aligned address size eight sixteen line =
    elim (cases_Bool (nat_le size 8)) [
      | inl small ↦ ap (λ (b : Bool). address % (if b then 8 else (if nat_le size 8128 then 16 else 64))) small ∙ eight (leb-true size 8 small)
      | inr more ↦ ap (λ (b : Bool). address % (if b then 8 else (if nat_le size 8128 then 16 else 64))) more ∙ elim (cases_Bool (nat_le size 8128)) [
        | inl medium ↦ ap (λ (b : Bool). address % (if b then 16 else 64)) medium ∙ sixteen (leb-false size 8 more) (leb-true size 8128 medium)
        | inr large ↦ ap (λ (b : Bool). address % (if b then 16 else 64)) large ∙ line (leb-false size 8128 large)
      ]
    ]

-- what is at least 8 and at least the size is enough for it
pub enough_usable : (size usable : ℕ) → 8 ≤ usable → size ≤ usable → least_usable size ≤ usable
enough_usable size usable eight enough = by_test (size == 0)
  where
    by_test : (b : Bool) → (if b then 8 else size) ≤ usable
    by_test true = eight
    by_test false = enough

-- a step that moves nothing may be made in any call
pub nothing_moved : (terms : Terms) (call : Call) → IsMoveOf terms call []
nothing_moved terms call = record { grants = by_test (not (wants_object call.request)); ends = tt; keeps = leaves (terms.policy.fixed || terms.policy.keep) }
  where
    by_test : (b : Bool) → OnTrue b (granted [] ≡ [])
    by_test true = refl
    by_test false = tt

    leaves : (b : Bool) → OnTrue b (NoneLeaves [])
    leaves true = refl
    leaves false = tt

-- What a request is served as.
use Rattle.std.proofs.Common.{◌≡◌, ℕ, ◌+◌, ◌-◌, ◌*◌, ◌/◌, ◌%◌, ◌^◌, ◌<◌, ◌≤◌, ◌⊎◌, true, false, not, Option, Some, None, nat_eq, max, refl, sym, ◌∙◌, ap, ap₂, subst, arith, cond, ◌||◌, inl, inr, eqb-true}
use Rattle.std.specs.Int.{IsPowerOfTwo, is_power_of_two}
use Rattle.std.proofs.Math.Nat.{div-mul-le_self, mul-mod_left, lt-div-mul-add, mul-le-mul_right}
use Rattle.std.proofs.Math.Bool.{or-true}
use Rattle.std.proofs.lemmas.Nat.{div-mul-add, div-add-mod'}
use Rattle.std.proofs.lemmas.Bool.Decides.{nat_tests}
use Rattle.std.proofs.lemmas.Bool.{cases_lt, false_from_ne_true}
use Rattle.pool_types.specs.Policies.{align_up}
use Rattle.size_classes.specs.Classes.{class_size, class_of, IsFirstClass}
use Rattle.size_classes.specs.Served.{aligned_class, small_or, large_at, served_plain, served, IfSmall}
use Rattle.size_classes.specs.declared.Served.TheVariants.{Small, Bad}
use Rattle.size_classes.proofs.Below.{all_below, all_below-at}
use Rattle.size_classes.proofs.Positions.{class_of-found}
use Rattle.size_classes.proofs.Fitting.{first-past_doubled, class_size-whole, class_size-lines}
use Rattle.size_classes.proofs.Powers.{is_power_of_two-is, power-positive, exponent-below}

-- a multiple of the alignment that is not below the size, and by less than the alignment above it
pub align_up-is : (size alignment multiple : ℕ) → 0 < alignment → size ≤ multiple → multiple < size + alignment → multiple % alignment ≡ 0 → align_up size alignment ≡ multiple
align_up-is size alignment multiple positive least most whole =
    let parts : multiple / alignment * alignment + multiple % alignment ≡ multiple = div-add-mod' multiple alignment in
    let sum : size + (alignment - 1) ≡ multiple / alignment * alignment + (size + (alignment - 1) - multiple) = omega arith in
    let quotient : (multiple / alignment * alignment + (size + (alignment - 1) - multiple)) / alignment ≡ multiple / alignment = div-mul-add (multiple / alignment) alignment (size + (alignment - 1) - multiple) (omega arith) in
    ap (λ n. n / alignment * alignment) sum ∙ ap (λ n. n * alignment) quotient ∙ omega arith

-- rounding up goes up, by less than the alignment, to a multiple
pub align_up-least : (size alignment : ℕ) → 0 < alignment → size ≤ align_up size alignment
align_up-least size alignment positive = omega (arith, lt-div-mul-add {a = size + (alignment - 1)} {b = alignment} positive)

pub align_up-most : (size alignment : ℕ) → 0 < alignment → align_up size alignment < size + alignment
align_up-most size alignment positive = omega (arith, div-mul-le_self (size + (alignment - 1)) alignment)

pub align_up-multiple : (size alignment : ℕ) → align_up size alignment % alignment ≡ 0
align_up-multiple size alignment = mul-mod_left ((size + (alignment - 1)) / alignment) alignment

-- the rows of an aligned request
pub aligned_class-rounded : (size alignment : ℕ) → size ≤ 1024 → alignment ≤ 1024 → aligned_class size alignment ≡ class_of (align_up size alignment)
unfolding aligned_class
aligned_class-rounded size alignment small low = grind (arith, nat_tests)

pub aligned_class-line : (size alignment : ℕ) → 1024 < size → alignment ≤ 64 → aligned_class size alignment ≡ class_of size
unfolding aligned_class
aligned_class-line size alignment large low = grind (arith, nat_tests)

pub aligned_class-block : (size alignment : ℕ) → (1024 < size) ⊎ (1024 < alignment) → 64 < alignment → aligned_class size alignment ≡ None
unfolding aligned_class
aligned_class-block size alignment large high = grind (arith, nat_tests)

-- what the code's rows say
pub ruleset aligned_rows = (aligned_class-rounded, aligned_class-line, aligned_class-block)

-- a plain request with a class
pub served_plain-small : (size class : ℕ) → class_of size ≡ Some class → served_plain size ≡ Small class
unfolding served_plain
served_plain-small size class found = ap (λ some. small_or some (large_at size 64)) found

-- a fact of the class where there is one
pub small_or-if : (found : Option ℕ) (size alignment : ℕ) (fact : ℕ → Type 0) → ((class : ℕ) → found ≡ Some class → fact class) → IfSmall (small_or found (large_at size alignment)) fact
small_or-if (Some class) size alignment fact each = each class refl
small_or-if None size alignment fact each = tt

-- a request for bytes at a power of two has its class or a block
pub served-well_formed : (size alignment : ℕ) → 0 < size → IsPowerOfTwo alignment → served size alignment ≡ small_or (aligned_class size alignment) (large_at size (max 64 alignment))
unfolding served
served-well_formed size alignment some power =
    let bytes : nat_eq size 0 ≡ false = grind (arith, nat_tests) in
    ap₂ (λ empty two. cond (empty || not two) Bad (small_or (aligned_class size alignment) (large_at size (max 64 alignment)))) bytes ((is_power_of_two-is alignment).1 power)

-- any other is bad
pub served-bad : (size alignment : ℕ) → (0 < size → IsPowerOfTwo alignment → ⊥) → served size alignment ≡ Bad
unfolding served
served-bad size alignment never =
    elim (cases_lt 0 size) [
      | inl some ↦
          let two : is_power_of_two alignment ≡ false = false_from_ne_true (is_power_of_two alignment) (λ is. never some ((is_power_of_two-is alignment).0 is)) in
          ap (λ two. cond (nat_eq size 0 || not two) Bad (small_or (aligned_class size alignment) (large_at size (max 64 alignment)))) two
          ∙ ap (λ bad. cond bad Bad (small_or (aligned_class size alignment) (large_at size (max 64 alignment)))) (or-true (nat_eq size 0))
      | inr none ↦
          let empty : nat_eq size 0 ≡ true = grind (arith, nat_tests) in
          ap (λ empty. cond (empty || not (is_power_of_two alignment)) Bad (small_or (aligned_class size alignment) (large_at size (max 64 alignment)))) empty
    ]

-- rounded up, at most 1024 stays at most 1024
align_up-limit : (size k : ℕ) → size ≤ 1024 → k < 11 → align_up size (2 ^ k) ≤ 1024
unfolding all_below
align_up-limit size k small low =
    let positive : 0 < 2 ^ k = power-positive (2 ^ k) (k, refl) in
    let up : align_up size (2 ^ k) < size + 2 ^ k = align_up-most size (2 ^ k) positive in
    let parts : align_up size (2 ^ k) / 2 ^ k * 2 ^ k + align_up size (2 ^ k) % 2 ^ k ≡ align_up size (2 ^ k) = div-add-mod' (align_up size (2 ^ k)) (2 ^ k) in
    let multiple : align_up size (2 ^ k) % 2 ^ k ≡ 0 = align_up-multiple size (2 ^ k) in
    let whole : 1024 / 2 ^ k * 2 ^ k ≡ 1024 = eqb-true _ _ (all_below-at (λ j. nat_eq (1024 / 2 ^ j * 2 ^ j) 1024) 11 k refl low) in
    elim (cases_lt (1024 / 2 ^ k) (align_up size (2 ^ k) / 2 ^ k)) [
      | inl above ↦ absurd (let more : (1024 / 2 ^ k + 1) * 2 ^ k ≤ align_up size (2 ^ k) / 2 ^ k * 2 ^ k = mul-le-mul_right (2 ^ k) (omega arith) in omega arith)
      | inr within ↦ let most : align_up size (2 ^ k) / 2 ^ k * 2 ^ k ≤ 1024 / 2 ^ k * 2 ^ k = mul-le-mul_right (2 ^ k) within in omega arith
    ]

-- the class of an aligned request is at least its size
pub aligned_class-fits : (size alignment class : ℕ) → 0 < alignment → aligned_class size alignment ≡ Some class → size ≤ class_size class
aligned_class-fits size alignment class positive found =
    elim (cases_lt 1024 size) [
      | inl large ↦
          elim (cases_lt 64 alignment) [
            | inl high ↦ absurd (let none : None ≡ Some class = sym (aligned_class-block size alignment (inl large) high) ∙ found in cc)
            | inr line ↦ (class_of-found size class (sym (aligned_class-line size alignment large line) ∙ found)).fits
          ]
      | inr small ↦
          elim (cases_lt 1024 alignment) [
            | inl high ↦ absurd (let none : None ≡ Some class = sym (aligned_class-block size alignment (inr high) (omega arith)) ∙ found in cc)
            | inr low ↦
                let is : IsFirstClass (align_up size alignment) class = class_of-found (align_up size alignment) class (sym (aligned_class-rounded size alignment small low) ∙ found) in
                omega (arith, is.fits, align_up-least size alignment positive)
          ]
    ]

-- and a multiple of its alignment
pub aligned_class-multiple_power : (size k class : ℕ) → 0 < size → aligned_class size (2 ^ k) ≡ Some class → class_size class % 2 ^ k ≡ 0
aligned_class-multiple_power size k class some found =
    elim (cases_lt 1024 size) [
      | inl large ↦
          elim (cases_lt 64 (2 ^ k)) [
            | inl high ↦ absurd (let none : None ≡ Some class = sym (aligned_class-block size (2 ^ k) (inl large) high) ∙ found in cc)
            | inr line ↦
                let is : IsFirstClass size class = class_of-found size class (sym (aligned_class-line size (2 ^ k) large line) ∙ found) in
                class_size-lines class k (first-past_doubled size class large is) is.exists (exponent-below k 7 (omega arith))
          ]
      | inr small ↦
          elim (cases_lt 1024 (2 ^ k)) [
            | inl high ↦ absurd (let none : None ≡ Some class = sym (aligned_class-block size (2 ^ k) (inr high) (omega arith)) ∙ found in cc)
            | inr low ↦
                let is : IsFirstClass (align_up size (2 ^ k)) class = class_of-found (align_up size (2 ^ k)) class (sym (aligned_class-rounded size (2 ^ k) small low) ∙ found) in
                let exponent : k < 11 = exponent-below k 11 (omega arith) in
                let up : size ≤ align_up size (2 ^ k) = align_up-least size (2 ^ k) (power-positive (2 ^ k) (k, refl)) in
                class_size-whole (align_up size (2 ^ k)) class k (omega arith) (align_up-limit size k small exponent) (align_up-multiple size (2 ^ k)) is exponent
          ]
    ]

pub aligned_class-multiple : (size alignment class : ℕ) → 0 < size → IsPowerOfTwo alignment → aligned_class size alignment ≡ Some class → class_size class % alignment ≡ 0
aligned_class-multiple size alignment class some power found =
    subst (λ a. class_size class % a ≡ 0) (sym power.1)
    (aligned_class-multiple_power size power.0 class some (subst (λ a. aligned_class size a ≡ Some class) power.1 found))

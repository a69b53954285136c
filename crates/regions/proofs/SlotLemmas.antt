-- Where fewer than 64 regions are out, one of any 64 numbers in a row has a free slot.
use Rattle.std.proofs.Common.{◌≡◌, ℕ, zero, suc, ◌+◌, ◌-◌, ◌%◌, ◌<◌, ◌≤◌, Bool, true, false, not, arith, ap, ◌∙◌, refl, List, [], ◌∷◌, length}
use Rattle.std.proofs.lemmas.Bool.Decides.{nat_tests}
use Rattle.std.proofs.lemmas.List.Filters.{length-filter_both}
use Rattle.std.proofs.lemmas.Map.Views.{any-filter_same}
use Rattle.std.specs.Prelude.{◌==◌, ◌&&◌, filter}
use Rattle.std.specs.List.{list_any}
use Rattle.pool_types.specs.declared.policy.RegionRec.{RegionRec}
use Rattle.regions.specs.Numbers.{is_slot_taken, IsNextNumber}

abbrev same_slot : ℕ → RegionRec → Bool
same_slot number one = one.number % 64 == number % 64

abbrev other_slot : ℕ → RegionRec → Bool
other_slot number one = not (same_slot number one)

-- numbers less than 64 apart have other slots
apart : (counter k n : ℕ) → k < n → n < 64 → (one : RegionRec) → same_slot (counter + k) one ≡ true → other_slot (counter + n) one ≡ true
apart counter k n below low one same = grind (arith, nat_tests)

-- a list with an element that passes is not empty
some : {X : Type 0} (p : X → Bool) (xs : List X) → list_any p xs ≡ true → 1 ≤ length xs
some p [] any = cc
some p (x ∷ xs) any = omega arith

same_true : (a : Bool) → a ≡ true → (true && a) ≡ true
same_true a is = is

pub taken_slots : (n : ℕ) (records : List RegionRec) (counter : ℕ) → n ≤ 64 → ((k : ℕ) → k < n → is_slot_taken records (counter + k) ≡ true) → n ≤ length records
taken_slots zero records counter low taken = omega arith
taken_slots (suc n) records counter low taken =
    let here : 1 ≤ length (filter (same_slot (counter + n)) records) =
    some (same_slot (counter + n)) (filter (same_slot (counter + n)) records) (any-filter_same (same_slot (counter + n)) (same_slot (counter + n)) true (λ one same. same) records ∙ taken n (omega arith)) in
    let rest : n ≤ length (filter (other_slot (counter + n)) records) =
    taken_slots n (filter (other_slot (counter + n)) records) counter (omega arith)
    (λ k below. any-filter_same (same_slot (counter + k)) (other_slot (counter + n)) true (apart counter k n below (omega arith)) records ∙ taken k (omega arith)) in
    omega (arith, length-filter_both (same_slot (counter + n)) (other_slot (counter + n)) (λ one. refl) records)

-- a slot is taken or free for all numbers that it has
same_for : (records : List RegionRec) (one other : ℕ) → one % 64 ≡ other % 64 → is_slot_taken records one ≡ is_slot_taken records other
same_for records one other same = ap (λ slot. list_any (λ x. x.number % 64 == slot) records) same

-- each slot comes among 64 numbers in a row
pub all_taken : (records : List RegionRec) (counter : ℕ) → ((k : ℕ) → counter ≤ k → k < counter + 64 → is_slot_taken records k ≡ true) → (number : ℕ) → is_slot_taken records number ≡ true
all_taken records counter taken number =
    same_for records number (counter + (number + 64 - counter % 64) % 64) (omega arith) ∙ taken (counter + (number + 64 - counter % 64) % 64) (omega arith) (omega arith)

-- where fewer than 64 regions are out, the next number has a free slot
pub next_free : (records : List RegionRec) (counter next : ℕ) → IsNextNumber records counter next → length records < 64 → is_slot_taken records next ≡ false
next_free records counter next next_is few = by_value (is_slot_taken records next) refl
  where
    any : is_slot_taken records next ≡ true → (number : ℕ) (b : Bool) → is_slot_taken records number ≡ b → is_slot_taken records number ≡ true
    any here number true is = is
    any here number false is = let free : is_slot_taken records next ≡ false = next_is.free number is in cc

    by_value : (b : Bool) → is_slot_taken records next ≡ b → is_slot_taken records next ≡ false
    by_value false is = is
    by_value true is = let all : 64 ≤ length records = taken_slots 64 records 0 (omega arith) (λ k below. any is (0 + k) (is_slot_taken records (0 + k)) refl) in absurd (omega arith)

-- where 64 numbers in a row have taken slots, the next number is the counter
pub counter_next : (records : List RegionRec) (counter : ℕ) → ((k : ℕ) → counter ≤ k → k < counter + 64 → is_slot_taken records k ≡ true) → IsNextNumber records counter counter
counter_next records counter taken = record {
  from = omega arith;
  least = λ number from below. absurd (omega arith);
  free = λ number free. let here : is_slot_taken records number ≡ true = all_taken records counter taken number in absurd (cc);
  none = λ all. refl;
}

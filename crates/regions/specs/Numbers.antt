-- The number that the next region gets.
use Rattle.std.specs.Prelude.{◌≡◌, ℕ, ◌%◌, ◌<◌, ◌≤◌, ◌==◌, Bool, true, false, ◌||◌, nat_le, List}
use Rattle.std.specs.List.{list_any}
use Rattle.pool_types.specs.declared.policy.RegionRec.{RegionRec}
use Rattle.pool_types.specs.Limits.{most_regions, region_numbers}

-- a region that is out has a number of the same slot
abbrev pub is_slot_taken : List RegionRec → ℕ → Bool
is_slot_taken records number = list_any (λ one. one.number % most_regions == number % most_regions) records

-- the least number from the counter on whose slot is free, or the counter where no slot is free
pub record IsNextNumber (records : List RegionRec) (counter next : ℕ) : Type 0 where
  pub from : counter ≤ next
  pub least : (number : ℕ) → counter ≤ number → number < next → is_slot_taken records number ≡ true
  pub free : (number : ℕ) → is_slot_taken records number ≡ false → is_slot_taken records next ≡ false
  pub none : ((number : ℕ) → is_slot_taken records number ≡ true) → next ≡ counter

-- no more regions can come: as many are out as can be, or the numbers are used up
abbrev pub is_full : ℕ → ℕ → Bool
is_full out next = nat_le most_regions out || nat_le region_numbers next

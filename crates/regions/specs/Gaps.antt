-- The indices of a pool: which of them regions have, and which gaps these leave.
use Rattle.std.specs.Prelude.{◌≡◌, ℕ, ◌+◌, ◌%◌, ◌<◌, ◌≤◌, Bool, false, ◌&&◌, nat_le, List}
use Rattle.std.specs.List.{list_any}
use Rattle.pool_types.specs.declared.policy.RegionRec.{RegionRec}

-- the index is that of a granule of the region or of its wall, which is the last
abbrev pub has_index : RegionRec → ℕ → Bool
has_index one index = nat_le one.first index && nat_le index (one.first + one.granules)

-- some region has the index
abbrev pub is_taken : List RegionRec → ℕ → Bool
is_taken records index = list_any (λ one. has_index one index) records

-- a gap: so many indices from the start lie in the span, and no region has one of them
pub record IsGap (span : ℕ) (records : List RegionRec) (start count : ℕ) : Type 0 where
  pub within : start + count ≤ span
  pub free : (index : ℕ) → start ≤ index → index < start + count → is_taken records index ≡ false

-- no gap has more indices, and none with as many starts lower
pub record IsLongestGap (span : ℕ) (records : List RegionRec) (start count : ℕ) : Type 0 where
  pub gap : IsGap span records start count
  pub longest : (other many : ℕ) → IsGap span records other many → many ≤ count
  pub lowest : (other : ℕ) → IsGap span records other count → start ≤ other

-- a gap with a start of this parity
pub record IsFit (span : ℕ) (records : List RegionRec) (parity count start : ℕ) : Type 0 where
  pub even_or_odd : start % 2 ≡ parity
  pub gap : IsGap span records start count

-- Regions that are apart.
use Rattle.std.specs.Prelude.{◌≡◌, ℕ, ◌+◌, ◌-◌, ◌^◌, ◌≤◌, Bool, false, ◌&&◌, nat_lt, List, ◌∷◌, ◌++◌}
use Rattle.std.specs.List.{list_any}
use Rattle.pool_types.specs.declared.values.Region.{Region}

-- some address lies in both
abbrev pub overlaps : Region → Region → Bool
overlaps one other = nat_lt other.base (one.base + one.bytes) && nat_lt one.base (other.base + other.bytes)

-- some address lies in one of these and in the region
abbrev pub overlaps_any : List Region → Region → Bool
overlaps_any regions region = list_any (λ one. overlaps one region) regions

-- the region has the room asked, ends where an address can, and overlaps none of those that are out
pub record IsFresh (out : List Region) (bytes : ℕ) (region : Region) : Type 0 where
  pub room : bytes ≤ region.bytes
  pub ends : region.base + region.bytes ≤ 2 ^ 64 - 1
  pub apart : overlaps_any out region ≡ false

-- the list without one place of the region, the others in their order
pub record Loses (old : List Region) (region : Region) (new : List Region) : Type 0 where
  pub front : List Region
  pub back : List Region
  pub before : old ≡ front ++ region ∷ back
  pub after : new ≡ front ++ back

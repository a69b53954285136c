-- What a list of stretches says of the bytes. This is how a partition is stored, and no rule speaks of it.
use Rattle.std.specs.Prelude.{◌≡◌, ◌||◌, false, sum_by, ℕ, ◌+◌, ◌<◌, ◌≤◌, ◌^◌, ◌&&◌, not, nat_le, nat_lt, Bool, true, if◌then◌else◌, List, [], ◌∷◌, All, Some, None}
use Rattle.std.specs.declared.option.Option.{Option}
use Rattle.pool_types.specs.declared.values.Place.{Place}
use Rattle.part_model.specs.declared.holders.Holder.{Holder}
use Rattle.part_model.specs.declared.moves.Range.{Range}
use Rattle.part_model.specs.declared.stretches.Stretch.{Stretch}
use Rattle.part_model.specs.Totals.{is_region}
use Rattle.part_model.specs.Holding.{Holding, same_region, lies_in, IsWhole}

-- the holder of the first stretch that has the byte
abbrev pub holder_at : List Stretch → Holding
holder_at [] byte = None
holder_at (stretch ∷ stretches) byte = if lies_in byte stretch.range then Some stretch.holder else holder_at stretches byte

-- the holder of the byte, if the stretch is there and has it
abbrev pub at_piece : Option Stretch → Holding
at_piece None byte = None
at_piece (Some stretch) byte = if lies_in byte stretch.range then Some stretch.holder else None

-- the first of two holders that is there
abbrev pub first_of : Option Holder → Option Holder → Option Holder
first_of None other = other
first_of (Some holder) other = Some holder

-- how many holders there are, at most one
abbrev pub count_of : Option Holder → ℕ
count_of None = 0
count_of (Some holder) = 1

-- how many stretches have the byte
abbrev pub cover : List Stretch → Place → ℕ
cover [] byte = 0
cover (stretch ∷ stretches) byte = (if lies_in byte stretch.range then 1 else 0) + cover stretches byte

-- the byte is of another region than the range, or lies before it
abbrev pub is_before : Place → Range → Bool
is_before byte range = not (same_region byte range.place && nat_le range.place.offset byte.offset)

-- the byte is of the range's region, and lies behind it
abbrev pub is_behind : Place → Range → Bool
is_behind byte range =
    same_region byte range.place && nat_le range.place.offset byte.offset
    && not (nat_lt byte.offset (range.place.offset + range.bytes))

-- the stretch is whole, and its place's numbers have 16 and 32 bits
pub record IsSound (stretch : Stretch) : Type 0 where
  pub whole : IsWhole stretch.range
  pub pool : stretch.range.place.pool < 2 ^ 16
  pub region : stretch.range.place.region < 2 ^ 32

-- each byte has at most one stretch
abbrev pub IsOnce : List Stretch → Type 0
IsOnce stretches = (byte : Place) → cover stretches byte ≤ 1

-- the stretches of a partition
pub record AreStretches (stretches : List Stretch) : Type 0 where
  pub sound : All IsSound stretches
  pub once : IsOnce stretches

-- from the byte to below an offset, each byte of its region has the same holder
abbrev pub IsAlike : List Stretch → Place → ℕ → Type 0
IsAlike stretches byte end =
    (other : Place) → same_region other byte ≡ true → byte.offset ≤ other.offset → other.offset < end →
    holder_at stretches other ≡ holder_at stretches byte

-- the first byte of the range that isn't at `wanted`
pub record IsFirstElsewhere (stretches : List Stretch) (range : Range) (wanted : Option Holder) (byte : Place) : Type 0 where
  pub inside : lies_in byte range ≡ true
  pub elsewhere : holder_at stretches byte ≡ wanted → ⊥
  pub first : (earlier : Place) → lies_in earlier range ≡ true → earlier.offset < byte.offset →
      holder_at stretches earlier ≡ wanted

-- whether a stretch is of the region
abbrev pub has_region : List Stretch → ℕ → ℕ → Bool
has_region [] pool region = false
has_region (stretch ∷ stretches) pool region = is_region pool region stretch.range || has_region stretches pool region

-- the bytes of all stretches
abbrev pub stretch_bytes : List Stretch → ℕ
stretch_bytes stretches = sum_by (λ stretch. stretch.range.bytes) stretches

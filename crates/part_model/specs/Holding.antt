-- Which holder has each byte, and what a move changes.
use Rattle.std.specs.Prelude.{◌≡◌, ◌≢◌, ◌⊎◌, ℕ, ◌+◌, ◌-◌, ◌<◌, ◌≤◌, ◌^◌, Bool, true, false, ◌&&◌, ◌==◌, nat_le, nat_lt, if◌then◌else◌, List, [], ◌∷◌, All}
use Rattle.std.specs.declared.option.Option.{Option}
use Rattle.pool_types.specs.declared.values.Place.{Place}
use Rattle.part_model.specs.declared.holders.Holder.{Holder}
use Rattle.part_model.specs.declared.moves.Range.{Range}
use Rattle.part_model.specs.declared.moves.Part.{Part}
use Rattle.part_model.specs.Lawful.{is_lawful_pair}

-- the holder of each byte; None where it is in no live region
abbrev pub Holding : Type 0
Holding = Place → Option Holder

-- both places are in one region of one pool
abbrev pub same_region : Place → Place → Bool
same_region one other = (one.pool == other.pool) && (one.region == other.region)

-- the byte lies in the range
abbrev pub lies_in : Place → Range → Bool
lies_in byte range =
    same_region byte range.place && nat_le range.place.offset byte.offset
    && nat_lt byte.offset (range.place.offset + range.bytes)

-- the holders after one part
abbrev pub after_part : Holding → Part → Holding
after_part held part byte = if lies_in byte part.range then part.to else held byte

-- the holders after all parts of a move
abbrev pub after_parts : Holding → List Part → Holding
after_parts held [] = held
after_parts held (part ∷ parts) = after_parts (after_part held part) parts

-- no byte lies in both
abbrev pub IsApart : Range → Range → Type 0
IsApart one other = (byte : Place) → lies_in byte one ≡ true → lies_in byte other ≡ false

-- no byte of the range lies in one of the parts
abbrev pub IsApartFromAll : Range → List Part → Type 0
IsApartFromAll range [] = Unit {0}
IsApartFromAll range (part ∷ parts) = IsApart range part.range × IsApartFromAll range parts

-- no byte lies in two of the parts
abbrev pub AreApart : List Part → Type 0
AreApart [] = Unit {0}
AreApart (part ∷ parts) = IsApartFromAll part.range parts × AreApart parts

-- the range has a byte, and ends where an offset of 64 bits still can be
pub record IsWhole (range : Range) : Type 0 where
  pub some : 0 < range.bytes
  pub ends : range.place.offset + range.bytes ≤ 2 ^ 64 - 1

-- the range of each part is whole
abbrev pub AreWhole : List Part → Type 0
AreWhole parts = All (λ part. IsWhole part.range) parts

-- the pair is lawful for the seat, and each byte is where the part says
pub record CanMove (seat : ℕ) (held : Holding) (part : Part) : Type 0 where
  pub lawful : is_lawful_pair seat part.from part.to ≡ true
  pub there : (byte : Place) → lies_in byte part.range ≡ true → held byte ≡ part.from

-- each part can be made
abbrev pub CanMoveAll : ℕ → Holding → List Part → Type 0
CanMoveAll seat held [] = Unit {0}
CanMoveAll seat held (part ∷ parts) = CanMove seat held part × CanMoveAll seat held parts

-- This is the first byte for which the part can't be made: where the pair isn't lawful the first byte of all, and else the first that
-- isn't where the part says.
pub record IsFirstRefused (seat : ℕ) (held : Holding) (part : Part) (byte : Place) : Type 0 where
  pub inside : lies_in byte part.range ≡ true
  pub refused : is_lawful_pair seat part.from part.to ≡ true → held byte ≢ part.from
  pub first : (earlier : Place) → lies_in earlier part.range ≡ true → earlier.offset < byte.offset →
      (is_lawful_pair seat part.from part.to ≡ true) × (held earlier ≡ part.from)

-- The first part that can't be made is refused at this byte, which is at `there`, where the part wanted it at `wanted`.
abbrev pub IsRefusedAt : ℕ → Holding → List Part → Place → Option Holder → Option Holder → Type 0
IsRefusedAt seat held [] byte there wanted = ⊥
IsRefusedAt seat held (part ∷ parts) byte there wanted =
    (IsFirstRefused seat held part byte × (there ≡ held byte) × (wanted ≡ part.from))
    ⊎ (CanMove seat held part × IsRefusedAt seat held parts byte there wanted)

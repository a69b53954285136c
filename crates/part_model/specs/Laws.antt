-- Laws of moves and of totals, for any holding and any move.
use Rattle.std.specs.Prelude.{Result, Err, ◌≢◌, ◌≡◌, ◌↔◌, ℕ, ◌+◌, ◌<◌, ◌^◌, Bool, true, false, ◌&&◌, ◌||◌, not, if◌then◌else◌, List, [], ◌∷◌, All, sum_by, count_by}
use Rattle.std.specs.declared.option.Option.{Option}
use Rattle.pool_types.specs.declared.values.Place.{Place}
use Rattle.part_model.specs.declared.holders.Holder.{Holder}
use Rattle.part_model.specs.declared.holders.HolderKind.{HolderKind}
use Rattle.part_model.specs.declared.holders.HolderKind.TheVariants.{Waste, Head, Rest, Private, Public, Object, LargeHead, SlabCache, Cached, Bin, Queue, Hand}
use Rattle.part_model.specs.declared.moves.Part.{Part}
use Rattle.part_model.specs.declared.partition.ApplyError.{ApplyError}
use Rattle.part_model.specs.declared.partition.ApplyError.TheVariants.{NoMemory}
use Rattle.part_model.specs.declared.totals.Totals.{Totals}
use Rattle.part_model.specs.Apply.{Answers}
use Rattle.part_model.specs.Holding.{Holding, lies_in, after_parts, IsApartFromAll, AreApart, AreWhole, CanMoveAll}
use Rattle.part_model.specs.Totals.{is_at, has_holder, is_region, regions_held, region_bytes, sum_regions, is_live, totals_of}

-- A holding and a move determine what the move answers, but for want of memory.
abbrev pub MovesAnswerOnce : Type 0
MovesAnswerOnce = (seat : ℕ) (held : Holding) (parts : List Part) (one other : Result Unit ApplyError) →
    Answers seat parts held one → Answers seat parts held other → one ≢ Err NoMemory → other ≢ Err NoMemory
    → one ≡ other

-- all kinds of holders
abbrev pub holder_kinds : List HolderKind
holder_kinds =
    Waste ∷ Head ∷ Rest ∷ Private ∷ Public ∷ Object ∷ LargeHead ∷ SlabCache ∷ Cached ∷ Bin ∷ Queue ∷ Hand ∷ []

-- at how many kinds of holders the byte is
abbrev pub holders_of : Holding → Place → ℕ
holders_of held byte = count_by (λ kind. is_at kind (held byte)) holder_kinds

-- a part brings the byte into the pool
abbrev pub brings : List Part → Place → Bool
brings [] byte = false
brings (part ∷ parts) byte = (lies_in byte part.range && not (has_holder part.from)) || brings parts byte

-- a part takes the byte out of the pool
abbrev pub takes : List Part → Place → Bool
takes [] byte = false
takes (part ∷ parts) byte = (lies_in byte part.range && not (has_holder part.to)) || takes parts byte

-- A byte that has one holder has one still, but where a part takes it out of the pool. A byte that has none gets one exactly where a
-- part brings it in.
pub record KeepsOneHolder (old new : Holding) (parts : List Part) (byte : Place) : Type 0 where
  pub stays : holders_of old byte ≡ 1 → takes parts byte ≡ false → holders_of new byte ≡ 1
  pub goes : takes parts byte ≡ true → (holders_of old byte ≡ 1) × (holders_of new byte ≡ 0)
  pub comes : brings parts byte ≡ true → (holders_of old byte ≡ 0) × (holders_of new byte ≡ 1)
  pub none : holders_of old byte ≡ 0 → brings parts byte ≡ false → holders_of new byte ≡ 0

-- a lawful move keeps exactly one holder a byte
abbrev pub MovesKeepOneHolder : Type 0
MovesKeepOneHolder = (seat : ℕ) (held : Holding) (parts : List Part) → AreApart parts → CanMoveAll seat held parts →
    (byte : Place) → KeepsOneHolder held (after_parts held parts) parts byte

-- no byte lies in a part of the one and in a part of the other
abbrev pub AreApartFrom : List Part → List Part → Type 0
AreApartFrom [] others = Unit {0}
AreApartFrom (part ∷ parts) others = IsApartFromAll part.range others × AreApartFrom parts others

-- each can be made after the other exactly where it can be made before it, and their order is all one
pub record Commute (held : Holding) (one other : List Part) : Type 0 where
  pub first : (seat : ℕ) → CanMoveAll seat held one ↔ CanMoveAll seat (after_parts held other) one
  pub second : (seat : ℕ) → CanMoveAll seat held other ↔ CanMoveAll seat (after_parts held one) other
  pub same : (byte : Place)
      → after_parts (after_parts held one) other byte ≡ after_parts (after_parts held other) one byte

-- two moves over ranges that are apart commute
abbrev pub ApartMovesCommute : Type 0
ApartMovesCommute = (held : Holding) (one other : List Part) → AreApartFrom one other → Commute held one other

-- the pool's and the region's number of the part have 16 and 32 bits
pub record IsPlaced (part : Part) : Type 0 where
  pub pool : part.range.place.pool < 2 ^ 16
  pub region : part.range.place.region < 2 ^ 32

-- the bytes that parts take from holders that pass, and bring to holders that pass
abbrev pub bytes_from : (Option Holder → Bool) → List Part → ℕ
bytes_from test parts = sum_by (λ part. if test part.from then part.range.bytes else 0) parts

abbrev pub bytes_to : (Option Holder → Bool) → List Part → ℕ
bytes_to test parts = sum_by (λ part. if test part.to then part.range.bytes else 0) parts

-- each count loses the bytes that leave its holders, and gains those that come to them
pub record Follows (old new : Totals) (parts : List Part) : Type 0 where
  pub bytes : new.bytes + bytes_from has_holder parts ≡ old.bytes + bytes_to has_holder parts
  pub waste : new.waste + bytes_from (is_at Waste) parts ≡ old.waste + bytes_to (is_at Waste) parts
  pub head : new.head + bytes_from (is_at Head) parts ≡ old.head + bytes_to (is_at Head) parts
  pub rest : new.rest + bytes_from (is_at Rest) parts ≡ old.rest + bytes_to (is_at Rest) parts
  pub private : new.private + bytes_from (is_at Private) parts ≡ old.private + bytes_to (is_at Private) parts
  pub public : new.public + bytes_from (is_at Public) parts ≡ old.public + bytes_to (is_at Public) parts
  pub object : new.object + bytes_from (is_at Object) parts ≡ old.object + bytes_to (is_at Object) parts
  pub large_head : new.large_head + bytes_from (is_at LargeHead) parts
      ≡ old.large_head + bytes_to (is_at LargeHead) parts
  pub slab_cache : new.slab_cache + bytes_from (is_at SlabCache) parts
      ≡ old.slab_cache + bytes_to (is_at SlabCache) parts
  pub cached : new.cached + bytes_from (is_at Cached) parts ≡ old.cached + bytes_to (is_at Cached) parts
  pub bin : new.bin + bytes_from (is_at Bin) parts ≡ old.bin + bytes_to (is_at Bin) parts
  pub queue : new.queue + bytes_from (is_at Queue) parts ≡ old.queue + bytes_to (is_at Queue) parts
  pub hand : new.hand + bytes_from (is_at Hand) parts ≡ old.hand + bytes_to (is_at Hand) parts

-- the totals follow a lawful move
abbrev pub TotalsFollowMoves : Type 0
TotalsFollowMoves = (seat : ℕ) (held : Holding) (parts : List Part) →
    AreApart parts → AreWhole parts → All IsPlaced parts → CanMoveAll seat held parts →
    Follows (totals_of held) (totals_of (after_parts held parts)) parts

-- the bytes of the parts in a region that come from a holder, and of those that go to one
abbrev pub region_from : ℕ → ℕ → List Part → ℕ
region_from pool region parts =
    sum_by (λ part. if is_region pool region part.range then (if has_holder part.from then part.range.bytes else 0) else 0) parts

abbrev pub region_to : ℕ → ℕ → List Part → ℕ
region_to pool region parts =
    sum_by (λ part. if is_region pool region part.range then (if has_holder part.to then part.range.bytes else 0) else 0) parts

-- the part moves bytes within the pool
abbrev pub IsWithin : Part → Type 0
IsWithin part = (has_holder part.from ≡ true) × (has_holder part.to ≡ true)

-- A region has the bytes that it had, without those that are taken out of the pool, and with those that are brought in. A move within
-- the pool leaves the number of live regions, and a move of one region's bytes changes that number by that region alone.
pub record RegionsFollow (old new : Holding) (parts : List Part) : Type 0 where
  pub bytes : (pool region : ℕ) →
      region_bytes has_holder new pool region + region_from pool region parts
      ≡ region_bytes has_holder old pool region + region_to pool region parts
  pub within : All IsWithin parts → regions_held new ≡ regions_held old
  pub of_one : (pool region : ℕ) → pool < 2 ^ 16 → region < 2 ^ 32
      → All (λ part. is_region pool region part.range ≡ true) parts →
      regions_held new + (if is_live old pool region then 1 else 0)
      ≡ regions_held old + (if is_live new pool region then 1 else 0)

-- the live regions follow a lawful move
abbrev pub RegionsFollowMoves : Type 0
RegionsFollowMoves = (seat : ℕ) (held : Holding) (parts : List Part) →
    AreApart parts → AreWhole parts → CanMoveAll seat held parts →
    RegionsFollow held (after_parts held parts) parts

-- the bytes at all kinds of holders
abbrev pub sum_of : Totals → ℕ
sum_of t =
    t.waste + t.head + t.rest + t.private + t.public + t.object + t.large_head + t.slab_cache + t.cached + t.bin
    + t.queue + t.hand

-- the bytes of the live regions
abbrev pub live_bytes : Holding → ℕ
live_bytes held =
    sum_regions (λ pool region. if is_live held pool region then region_bytes has_holder held pool region else 0)

-- the totals of all kinds sum to the bytes of the live regions
abbrev pub TotalsSum : Type 0
TotalsSum = (held : Holding)
    → (sum_of (totals_of held) ≡ (totals_of held).bytes) × ((totals_of held).bytes ≡ live_bytes held)

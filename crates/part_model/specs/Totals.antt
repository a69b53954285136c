-- How many bytes each kind of holder has. All is counted byte by byte, over every number that a place can have.
use Rattle.std.specs.Prelude.{◌==◌, ◌&&◌, ℕ, ◌^◌, Bool, true, false, nat_lt, if◌then◌else◌, Some, None}
use Rattle.std.specs.declared.option.Option.{Option}
use Rattle.list_laws.specs.Sums.{sum_below}
use Rattle.pool_types.specs.declared.values.Place.{Place}
use Rattle.part_model.specs.declared.holders.Holder.{Holder}
use Rattle.part_model.specs.declared.holders.Holder.TheVariants.{Waste, Head, Rest, Private, Public, Object, LargeHead, SlabCache, Cached, Bin, Queue, Hand}
use Rattle.part_model.specs.declared.holders.HolderKind.{HolderKind}
use Rattle.part_model.specs.declared.holders.HolderKind.TheVariants.{Waste as OfWaste, Head as OfHead, Rest as OfRest, Private as OfPrivate, Public as OfPublic, Object as OfObject, LargeHead as OfLargeHead, SlabCache as OfSlabCache, Cached as OfCached, Bin as OfBin, Queue as OfQueue, Hand as OfHand}
use Rattle.part_model.specs.declared.moves.Range.{Range}
use Rattle.part_model.specs.declared.totals.Totals.{Totals}
use Rattle.part_model.specs.Holding.{Holding}

-- the holder is of the kind
abbrev pub is_at : HolderKind → Option Holder → Bool
is_at OfWaste (Some Waste) = true
is_at OfHead (Some Head) = true
is_at OfRest (Some Rest) = true
is_at OfPrivate (Some Private) = true
is_at OfPublic (Some Public) = true
is_at OfObject (Some (Object grant)) = true
is_at OfLargeHead (Some (LargeHead grant)) = true
is_at OfSlabCache (Some (SlabCache seat)) = true
is_at OfCached (Some (Cached granules)) = true
is_at OfBin (Some Bin) = true
is_at OfQueue (Some Queue) = true
is_at OfHand (Some (Hand seat)) = true
is_at kind holder = false

-- the byte has a holder
abbrev pub has_holder : Option Holder → Bool
has_holder None = false
has_holder (Some holder) = true

-- the numbers are those of the range's region
abbrev pub is_region : ℕ → ℕ → Range → Bool
is_region pool region range = (pool == range.place.pool) && (region == range.place.region)

-- a place by its numbers
abbrev pub place_at : ℕ → ℕ → ℕ → Place
place_at pool region offset = record { pool = pool; region = region; offset = offset }

-- how many bytes of a region of a pool are at a holder that passes
unfoldable pub region_bytes : (Option Holder → Bool) → Holding → ℕ → ℕ → ℕ
region_bytes test held pool region =
    sum_below (λ offset. if test (held (place_at pool region offset)) then 1 else 0) (2 ^ 64)

-- the sum of a function over all regions of all pools
unfoldable pub sum_regions : (ℕ → ℕ → ℕ) → ℕ
sum_regions f = sum_below (λ pool. sum_below (f pool) (2 ^ 32)) (2 ^ 16)

-- how many bytes are at a holder of the kind
abbrev pub bytes_at : HolderKind → Holding → ℕ
bytes_at kind held = sum_regions (region_bytes (is_at kind) held)

-- how many bytes have a holder: these are the bytes of the live regions
abbrev pub bytes_held : Holding → ℕ
bytes_held held = sum_regions (region_bytes has_holder held)

-- a region is live as long as one of its bytes has a holder
abbrev pub is_live : Holding → ℕ → ℕ → Bool
is_live held pool region = nat_lt 0 (region_bytes has_holder held pool region)

-- how many regions are live
abbrev pub regions_held : Holding → ℕ
regions_held held = sum_regions (λ pool region. if is_live held pool region then 1 else 0)

-- all that is counted
abbrev pub totals_of : Holding → Totals
totals_of held = record {
  regions = regions_held held;
  bytes = bytes_held held;
  waste = bytes_at OfWaste held;
  head = bytes_at OfHead held;
  rest = bytes_at OfRest held;
  private = bytes_at OfPrivate held;
  public = bytes_at OfPublic held;
  object = bytes_at OfObject held;
  large_head = bytes_at OfLargeHead held;
  slab_cache = bytes_at OfSlabCache held;
  cached = bytes_at OfCached held;
  bin = bytes_at OfBin held;
  queue = bytes_at OfQueue held;
  hand = bytes_at OfHand held;
}

-- the totals of a pool that has no region
abbrev pub no_totals : Totals
no_totals = record {
  regions = 0;
  bytes = 0;
  waste = 0;
  head = 0;
  rest = 0;
  «private» = 0;
  «public» = 0;
  object = 0;
  large_head = 0;
  slab_cache = 0;
  cached = 0;
  bin = 0;
  queue = 0;
  hand = 0;
}

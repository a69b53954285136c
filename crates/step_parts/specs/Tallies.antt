-- The totals of a pool after a move, by its parts alone.
use Rattle.std.specs.Prelude.{ℕ, ◌+◌, ◌-◌, Bool, cond, not, List, [], ◌∷◌}
use Rattle.std.specs.List.{list_any}
use Rattle.std.specs.declared.option.Option.{Option}
use Rattle.pool_types.specs.Sums.{capped}
use Rattle.part_model.specs.declared.holders.Holder.{Holder}
use Rattle.part_model.specs.declared.holders.HolderKind.TheVariants.{Waste, Head, Rest, Private, Public, Object}
use Rattle.part_model.specs.declared.holders.HolderKind.TheVariants.{LargeHead, SlabCache, Cached, Bin, Queue, Hand}
use Rattle.part_model.specs.declared.moves.Part.{Part}
use Rattle.part_model.specs.declared.totals.Totals.{Totals}
use Rattle.part_model.specs.Totals.{is_at, has_holder}

-- a count without so many bytes, and with so many, where they are at a holder that counts
abbrev pub fewer : Bool → ℕ → ℕ → ℕ
fewer counts n bytes = cond counts (n - bytes) n

abbrev pub more : Bool → ℕ → ℕ → ℕ
more counts n bytes = cond counts (capped (n + bytes)) n

-- so many bytes fewer at a holder
abbrev pub lessened : Totals → Option Holder → ℕ → Totals
lessened t holder bytes = record t {
  bytes = fewer (has_holder holder) t.bytes bytes;
  waste = fewer (is_at Waste holder) t.waste bytes;
  head = fewer (is_at Head holder) t.head bytes;
  rest = fewer (is_at Rest holder) t.rest bytes;
  private = fewer (is_at Private holder) t.private bytes;
  public = fewer (is_at Public holder) t.public bytes;
  object = fewer (is_at Object holder) t.object bytes;
  large_head = fewer (is_at LargeHead holder) t.large_head bytes;
  slab_cache = fewer (is_at SlabCache holder) t.slab_cache bytes;
  cached = fewer (is_at Cached holder) t.cached bytes;
  bin = fewer (is_at Bin holder) t.bin bytes;
  queue = fewer (is_at Queue holder) t.queue bytes;
  hand = fewer (is_at Hand holder) t.hand bytes;
}

-- so many bytes more at a holder
abbrev pub increased : Totals → Option Holder → ℕ → Totals
increased t holder bytes = record t {
  bytes = more (has_holder holder) t.bytes bytes;
  waste = more (is_at Waste holder) t.waste bytes;
  head = more (is_at Head holder) t.head bytes;
  rest = more (is_at Rest holder) t.rest bytes;
  private = more (is_at Private holder) t.private bytes;
  public = more (is_at Public holder) t.public bytes;
  object = more (is_at Object holder) t.object bytes;
  large_head = more (is_at LargeHead holder) t.large_head bytes;
  slab_cache = more (is_at SlabCache holder) t.slab_cache bytes;
  cached = more (is_at Cached holder) t.cached bytes;
  bin = more (is_at Bin holder) t.bin bytes;
  queue = more (is_at Queue holder) t.queue bytes;
  hand = more (is_at Hand holder) t.hand bytes;
}

-- the totals after one part, and after several, but for the number of regions
abbrev pub after_part : Totals → Part → Totals
after_part t part = increased (lessened t part.from part.range.bytes) part.to part.range.bytes

abbrev pub after_parts : Totals → List Part → Totals
after_parts t [] = t
after_parts t (part ∷ parts) = after_parts (after_part t part) parts

-- whether a region comes with these parts, and whether one leaves
abbrev pub comes_in : List Part → Bool
comes_in parts = list_any (λ part. not (has_holder part.from)) parts

abbrev pub goes_out : List Part → Bool
goes_out parts = list_any (λ part. not (has_holder part.to)) parts

abbrev pub regions_after : ℕ → List Part → ℕ
regions_after n parts = cond (comes_in parts) (capped (n + 1)) (cond (goes_out parts) (n - 1) n)

-- the totals after a move of these parts
unfoldable pub totals_after : Totals → List Part → Totals
totals_after t parts = after_parts (record t { regions = regions_after t.regions parts }) parts

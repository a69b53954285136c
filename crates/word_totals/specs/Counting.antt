-- The totals of a pool: each byte of a live region under one holder.
use Rattle.std.specs.Prelude.{ℕ, zero, suc, ◌+◌, ◌-◌, cond, eqb, List, [], ◌∷◌}
use Rattle.part_model.specs.declared.totals.Totals.{Totals}
use Rattle.part_model.specs.Totals.{no_totals}
use Rattle.pool_types.specs.declared.policy.RegionRec.{RegionRec}
use Rattle.pool_types.specs.Sums.{capped}
use Rattle.pool_words.specs.declared.words.Word.{Word}
use Rattle.pool_words.specs.Words.{granule_units, region_slots}
use Rattle.step_local.specs.Answers.{usable_of}
use Rattle.word_codes.specs.declared.kinds.Kind.{Kind}
use Rattle.word_codes.specs.declared.marks.Mark.{Mark}
use Rattle.word_codes.specs.declared.region_words.RegionWord.{RegionWord}
use Rattle.word_codes.specs.Kinds.{kind_of}
use Rattle.word_codes.specs.Marks.{mark_of}
use Rattle.word_codes.specs.RegionWords.{region_of, first_unit}
use Rattle.word_totals.specs.declared.middle.Amid.{Amid}
use Rattle.word_totals.specs.Reading.{Still, load, amid_of}
use Rattle.word_totals.specs.Objects.{granule_kind, head_of}
use Rattle.word_totals.specs.Slabs.{with_begun, joined_bytes}
use Rattle.word_totals.specs.Blocks.{block_bytes, bin_bytes, queue_bytes, cached_bytes}

-- the totals with the object that begins at a unit, where its mark names a grant
unfoldable pub with_held : Kind → ℕ → Mark → Totals → Totals
with_held kind unit (Mark.Granted grant) t = record t {
  object = capped (t.object + usable_of kind unit);
  large_head = capped (t.large_head + head_of kind unit);
}
with_held kind unit other t = t

-- with those that begin in so many units from this one on
unfoldable pub with_units : Still → Kind → ℕ → ℕ → Totals → Totals
with_units s kind zero unit t = t
with_units s kind (suc left) unit t =
    with_units s kind left (capped (unit + 1)) (with_held kind unit (mark_of (load s (Word.Mark unit))) t)

-- with those that begin in a granule; an object lies in a slab or in a large block
abbrev pub with_objects : Still → ℕ → Kind → Totals → Totals
with_objects s granule Kind.Nothing t = t
with_objects s granule Kind.CachedSlab t = t
with_objects s granule (Kind.Slab class) t = with_units s (Kind.Slab class) granule_units (first_unit granule) t
with_objects s granule (Kind.Large first granules) t =
    with_units s (Kind.Large first granules) granule_units (first_unit granule) t

-- with a granule: the slab that begins there, and the objects that begin in it
unfoldable pub with_granule : Still → ℕ → Totals → Totals
with_granule s granule t =
    with_objects s granule (granule_kind s granule) (with_begun s granule (kind_of (load s (Word.Kind granule))) t)

unfoldable pub with_granules : Still → ℕ → ℕ → Totals → Totals
with_granules s zero granule t = t
with_granules s (suc left) granule t = with_granules s left (capped (granule + 1)) (with_granule s granule t)

-- the bytes of the region of a number, by the office's records
abbrev pub bytes_of : List RegionRec → ℕ → ℕ
bytes_of [] number = 0
bytes_of (one ∷ rest) number = cond (eqb one.number number) one.region.bytes (bytes_of rest number)

-- with a region; what lies outside its granules is waste
abbrev pub with_bytes : Totals → ℕ → ℕ → Totals
with_bytes t bytes granules = record t {
  regions = capped (t.regions + 1);
  bytes = capped (t.bytes + bytes);
  waste = capped (t.waste + (bytes - block_bytes granules));
}

abbrev pub with_region : Still → List RegionRec → RegionWord → Totals → Totals
with_region s records region t =
    cond region.live
    (with_granules s region.granules region.first (with_bytes t (bytes_of records region.number) region.granules)) t

unfoldable pub with_regions : Still → List RegionRec → ℕ → ℕ → Totals → Totals
with_regions s records zero slot t = t
with_regions s records (suc left) slot t =
    with_regions s records left (capped (slot + 1))
    (with_region s records (region_of (load s (Word.Region slot))) t)

-- with the lists of blocks
unfoldable pub with_blocks : Still → Totals → Totals
with_blocks s t = record t { bin = bin_bytes s; queue = queue_bytes s; cached = cached_bytes s }

-- with what a seat has begun and not ended
abbrev pub with_amid : Still → Amid → Totals → Totals
with_amid s (Amid.Offers block) t = record t { bin = capped (t.bin + block_bytes block.granules) }
with_amid s (Amid.Unlinks block) t = record t { bin = t.bin - block_bytes block.granules }
with_amid s (Amid.Joins slab first) t =
    record t { private = capped (t.private + joined_bytes s (Amid.Joins slab first)) }
with_amid s Amid.Nothing t = t
with_amid s (Amid.Wins block) t = t

unfoldable pub with_seats : Still → ℕ → ℕ → Totals → Totals
with_seats s zero seat t = t
with_seats s (suc left) seat t = with_seats s left (capped (seat + 1)) (with_amid s (amid_of s seat) t)

-- what no other holder has is in hand
unfoldable pub with_hand : Totals → Totals
with_hand t = record t {
  hand = t.bytes - t.waste - t.head - t.rest - t.private - t.public - t.object - t.large_head - t.slab_cache - t.cached
      - t.bin - t.queue;
}

-- the totals of a pool; the records say how many bytes each region has
unfoldable pub totals_of : Still → List RegionRec → Totals
totals_of s records =
    with_hand (with_seats s s.key.seats 0 (with_blocks s (with_regions s records region_slots 0 no_totals)))

-- The bytes of a slab, by their holders: its head and its rest, and its private and its public objects.
use Rattle.std.specs.Prelude.{ℕ, ◌+◌, ◌-◌, ◌*◌, Option, Some, None}
use Rattle.heap_slabs.specs.declared.records.HeapSlab.{HeapSlab}
use Rattle.heap_slabs.specs.Records.{of_header}
use Rattle.part_model.specs.declared.totals.Totals.{Totals}
use Rattle.pool_types.specs.Geometry.{slab_bytes}
use Rattle.pool_types.specs.Sums.{capped}
use Rattle.pool_words.specs.declared.words.Word.{Word}
use Rattle.size_classes.specs.Classes.{class_size, class_objects}
use Rattle.size_classes.specs.Layout.{head_bytes}
use Rattle.word_codes.specs.declared.kinds.Kind.{Kind}
use Rattle.word_codes.specs.declared.owns.Own.{Own}
use Rattle.word_codes.specs.declared.publics.Public.{Public}
use Rattle.word_codes.specs.Kinds.{kind_of}
use Rattle.word_codes.specs.Owns.{own_of}
use Rattle.word_codes.specs.Publics.{public_of}
use Rattle.word_totals.specs.declared.middle.Amid.{Amid}
use Rattle.word_totals.specs.Reading.{Still, load, record_of}
use Rattle.word_totals.specs.Chains.{linked_objects}

abbrev pub kept_by : Still → ℕ → Own → Option HeapSlab
kept_by s slab (Own.Kept seat) = record_of s seat slab
kept_by s slab other = None

abbrev pub or_header : Option HeapSlab → HeapSlab → HeapSlab
or_header (Some kept) header = kept
or_header None header = header

-- the record of a slab of a class: its keeper's, and where there is none what its header says
unfoldable pub slab_record : Still → ℕ → ℕ → HeapSlab
slab_record s slab class =
    or_header (kept_by s slab (own_of (load s (Word.Own slab)))) (of_header slab class (load s (Word.Header slab)))

abbrev pub newest_public : Public → Option ℕ
newest_public (Public.Filled unit) = Some unit
newest_public other = None

-- the bytes of the objects of a class that are linked, from this one on
unfoldable pub linked_bytes : Still → ℕ → Option ℕ → ℕ
linked_bytes s class first = capped (linked_objects s (class_objects class) first 0 * class_size class)

-- the bytes of so many objects of the rest that were not handed out
abbrev pub rest_bytes : ℕ → ℕ → ℕ
rest_bytes class handed = capped ((class_objects class - handed) * class_size class)

abbrev pub add_slab : Still → ℕ → HeapSlab → ℕ → Totals → Totals
add_slab s class slab public t = record t {
  head = capped (t.head + head_bytes class);
  rest = capped (t.rest + rest_bytes class slab.handed);
  private = capped (t.private + linked_bytes s class slab.head);
  public = capped (t.public + public);
}

-- the totals with a slab of a class
unfoldable pub with_slab : Still → ℕ → ℕ → Totals → Totals
with_slab s slab class t =
    add_slab s class (slab_record s slab class)
    (linked_bytes s class (newest_public (public_of (load s (Word.Public slab))))) t

-- the totals with what begins at a granule, where that is a slab
abbrev pub with_begun : Still → ℕ → Kind → Totals → Totals
with_begun s granule (Kind.Slab class) t = with_slab s granule class t
with_begun s granule Kind.CachedSlab t = record t { slab_cache = capped (t.slab_cache + slab_bytes) }
with_begun s granule other t = t

abbrev pub joined_by : Still → ℕ → Kind → ℕ
joined_by s first (Kind.Slab class) = linked_bytes s class (Some first)
joined_by s first other = 0

-- the bytes that a seat has taken to join them to a slab's private objects
unfoldable pub joined_bytes : Still → Amid → ℕ
joined_bytes s (Amid.Joins slab first) = joined_by s first (kind_of (load s (Word.Kind slab)))
joined_bytes s other = 0

-- What one seat's heap keeps, and what it gives up next when it leaves.
use Rattle.std.specs.Prelude.{ℕ, ◌+◌, ◌/◌, cond, Option, Some, None}
use Rattle.heap_slabs.specs.declared.records.HeapSlab.{HeapSlab}
use Rattle.heap_slabs.specs.declared.slabs.Wanted.{Wanted}
use Rattle.heap_slabs.specs.declared.heap.Heap.{Heap}
use Rattle.heap_slabs.specs.declared.heap.Leaving.{Leaving}
use Rattle.heap_slabs.specs.Records.{is_unused}
use Rattle.heap_slabs.specs.Rolls.{empty_roll, newest_of}
use Rattle.heap_slabs.specs.Cached.{empty_cache}
use Rattle.heap_slabs.specs.Slabs.{no_slabs, first_from}

-- how many slabs have room in so many granules
abbrev pub most_slabs : ℕ → ℕ
most_slabs granules = (granules + 1) / 2

abbrev pub empty_heap : ℕ → Heap
empty_heap granules = record {
  slabs = no_slabs granules;
  cached = empty_cache;
  spares = empty_roll (most_slabs granules);
}

abbrev pub leaving_slab : Option HeapSlab → Leaving
leaving_slab None = Leaving.Nothing
leaving_slab (Some kept) = cond (is_unused kept) (Leaving.Unused kept) (Leaving.Held kept)

abbrev pub leaving_by : Heap → Option ℕ → Leaving
leaving_by heap (Some slab) = Leaving.Cached slab
leaving_by heap None = leaving_slab (first_from Wanted.Any heap.slabs 0)

-- the cached slabs go first, the newest before the others; then the slabs, class by class, each from the newest on
abbrev pub next_to_leave : Heap → Leaving
next_to_leave heap = leaving_by heap (newest_of heap.cached)

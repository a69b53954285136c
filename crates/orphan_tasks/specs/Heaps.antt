-- What the heap is after a turn with orphans.
use Rattle.std.specs.Prelude.{◌≡◌, ℕ, ⊤}
use Rattle.heap_slabs.specs.declared.heap.Heap.{Heap}
use Rattle.heap_slabs.specs.Records.{of_header}
use Rattle.heap_slabs.specs.Slabs.{after_add, after_remove, after_join_of}
use Rattle.public_list.specs.declared.joining.JoinNext.{JoinNext}
use Rattle.public_list.specs.Joining.{join_learn}
use Rattle.orphans.specs.declared.adopting.AdoptNext.{AdoptNext}
use Rattle.orphans.specs.declared.leaving.LeaveNext.{LeaveNext}
use Rattle.orphans.specs.Adopting.{adopt_learn}
use Rattle.orphans.specs.Leaving.{leave_learn}
use Rattle.step_local.specs.declared.frames.At.{At}
use Rattle.step_local.specs.declared.frames.Local.{Local}
use Rattle.orphan_tasks.specs.Orphans.{adopted_spares, returned_spares}

-- a slab that is left is removed
abbrev pub left_heap : Heap → ℕ → LeaveNext → Heap
left_heap heap slab (LeaveNext.Goes at) = heap
left_heap heap slab LeaveNext.Filled = heap
left_heap heap slab LeaveNext.Left = record heap { slabs = after_remove heap.slabs slab }

-- one that is adopted is added, with the record that its header says
abbrev pub adopted_heap : Heap → ℕ → AdoptNext → Heap
adopted_heap heap class (AdoptNext.Goes at) = heap
adopted_heap heap class AdoptNext.Empty = heap
adopted_heap heap class (AdoptNext.Adopted slab header rest) =
    record heap { slabs = after_add heap.slabs (of_header slab class header) }
adopted_heap heap class (AdoptNext.Spared slab rest) =
    record heap { spares = adopted_spares heap.spares (AdoptNext.Spared slab rest) }

-- what was given back to it is joined to its private objects
abbrev pub joined_heap : Heap → ℕ → JoinNext → Heap
joined_heap heap slab (JoinNext.Goes at) = heap
joined_heap heap slab JoinNext.Nothing = heap
joined_heap heap slab (JoinNext.Joined first count) =
    record heap { slabs = after_join_of heap.slabs slab first count }

abbrev pub returned_heap : Heap → LeaveNext → Heap
returned_heap heap next = record heap { spares = returned_spares heap.spares next }

-- what each turn at a job of orphans makes of the heap; other turns are not spoken of
abbrev pub HeapMoves : Local → At → ℕ → Heap → Type 0
HeapMoves l (At.Leave slab at) found later = later ≡ left_heap l.heap slab (leave_learn at found)
HeapMoves l (At.Adopt at) found later = later ≡ adopted_heap l.heap l.fetch.class (adopt_learn at found)
HeapMoves l (At.Join slab rest at) found later = later ≡ joined_heap l.heap slab (join_learn at found)
HeapMoves l (At.Spare at) found later = later ≡ returned_heap l.heap (leave_learn at found)
HeapMoves l _ found later = ⊤

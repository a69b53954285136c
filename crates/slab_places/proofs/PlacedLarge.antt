-- Where a call goes on with large objects, with looks and with ends of grants.
use Rattle.std.proofs.Common.{◌≡◌, eqb, true, false, refl, ℕ}
use Rattle.std.specs.Prelude.{None, Option, Some, ltb, ◌%◌}
use Rattle.heap_slabs.specs.Records.{after_free, is_unused, unit_of}
use Rattle.heap_slabs.specs.Rolls.{newest_of}
use Rattle.heap_slabs.specs.Slabs.{after_replace, first_from, record_at}
use Rattle.heap_slabs.specs.declared.records.HeapSlab.{HeapSlab}
use Rattle.heap_slabs.specs.declared.slabs.Wanted.{Wanted}
use Rattle.large_cache.specs.declared.sweep.Cleanup.{Cleanup}
use Rattle.pool_types.specs.declared.values.NullCause.{NullCause}
use Rattle.pool_types.specs.declared.values.Request.{Request}
use Rattle.step_local.specs.Answers.{ended_object, slab_of}
use Rattle.step_local.specs.Getting.{decided, get_or, getting, getting_as, getting_or_null, refusal_of, served_as}
use Rattle.step_local.specs.Getting.{stays}
use Rattle.step_local.specs.Large.{bins_swept, cached, cached_at, cleanup_ticks, emptying, emptying_by}
use Rattle.step_local.specs.Large.{got_block, kept_as}
use Rattle.step_local.specs.Frames.{last_cache_bin}
use Rattle.step_local.specs.Large.{last_slot, located_as, located_index, next_bin}
use Rattle.step_local.specs.Large.{object_at, object_in, releasing, releasing_by, slot_looked}
use Rattle.step_local.specs.Large.{swept, tick_at, ticked}
use Rattle.step_local.specs.Large.{unused_next}
use Rattle.step_local.specs.Objects.{freed_at, freed_in, freed_own, freed_slab, held, held_as}
use Rattle.step_local.specs.declared.frames.Local.{Local}
use Rattle.step_local.specs.declared.frames.Served.{Served}
use Rattle.step_local.specs.declared.frames.Stage.{Stage}
use Rattle.large_cache.specs.declared.get.GetAt.{GetAt}
use Rattle.large_cache.specs.declared.get.GetNext.{GetNext}
use Rattle.large_cache.specs.declared.keep.KeepAt.{KeepAt}
use Rattle.large_cache.specs.declared.keep.KeepNext.{KeepNext}
use Rattle.large_cache.specs.declared.sweep.SweepAt.{SweepAt}
use Rattle.large_cache.specs.declared.sweep.SweepNext.{SweepNext}
use Rattle.large_cache.specs.declared.undo.UndoAt.{UndoAt}
use Rattle.large_cache.specs.declared.undo.UndoNext.{UndoNext}
use Rattle.step_local.specs.Large.{get_as, granules_of_served, keep_as, swept_as, undo_as}
use Rattle.slab_places.proofs.Units.{HasRoom, unit_lies}
use Rattle.slab_places.proofs.PlacedSmall.{IsPlaced, placed-getting_small, either}
use Rattle.word_codes.specs.RegionWords.{has_granule, region_of}

pub placed-getting : (l : Local) (served : Served) → IsPlaced (getting l served)
placed-getting l (Served.Small class) = placed-getting_small (getting_as l (Served.Small class)) class
placed-getting l (Served.Large granules alignment) = λ low. tt

pub placed-get_or : (l : Local) (wanted : Option Served) (cause : Option NullCause) → IsPlaced (get_or l wanted cause)
placed-get_or l wanted (Some cause) = λ low. tt
placed-get_or l (Some served) None = placed-getting l served
placed-get_or l None None = λ low. tt

pub placed-getting_or_null : (l : Local) (wanted : Option Served) → IsPlaced (getting_or_null l wanted)
placed-getting_or_null l wanted = placed-get_or l wanted (refusal_of l wanted)

pub placed-decided : (l : Local) (size : ℕ) (alignment : Option ℕ) (base : ℕ)
    → IsPlaced (decided l size alignment base)
placed-decided l size alignment base = either (eqb size 0) _ _ (λ low. tt)
    (either (stays l size alignment base) _ _ (λ low. tt) (placed-getting_or_null l (served_as size alignment)))

pub placed-got_block : (l : Local) → IsPlaced (got_block l)
placed-got_block l = either l.call.missed _ _ (λ low. tt) (λ low. tt)

pub placed-cached_at : (l : Local) (stage : Stage) → IsPlaced (cached_at l stage)
placed-cached_at l Stage.Getting = placed-got_block l
placed-cached_at l Stage.Idle = λ low. tt
placed-cached_at l Stage.Looking = λ low. tt
placed-cached_at l Stage.Ending = λ low. tt
placed-cached_at l Stage.Replacing = λ low. tt
placed-cached_at l Stage.Undoing = λ low. tt
placed-cached_at l Stage.Leaving = λ low. tt
placed-cached_at l (Stage.Resetting stage) = λ low. tt

pub placed-cached : (l : Local) → IsPlaced (cached l)
placed-cached l = placed-cached_at l l.call.stage

pub placed-ticked : (l : Local) → IsPlaced (ticked l)
placed-ticked l = either (eqb (l.call.time % cleanup_ticks) 0) _ _ (λ low. tt) (placed-cached l)

pub placed-swept : (l : Local) (cleanup : Cleanup) → IsPlaced (swept l cleanup)
placed-swept l Cleanup.Regular = placed-cached l
placed-swept l Cleanup.Soft = λ low. tt
placed-swept l Cleanup.Hard = λ low. tt

pub placed-unused_next : (l : Local) (found : Option HeapSlab) → IsPlaced (unused_next l found)
placed-unused_next l (Some kept) = λ low. tt
placed-unused_next l None = placed-swept l l.sweep.cleanup

pub placed-emptying_by : (l : Local) (one : Option ℕ) → IsPlaced (emptying_by l one)
placed-emptying_by l (Some slab) = λ low. tt
placed-emptying_by l None = placed-unused_next l (first_from Wanted.Unused l.heap.slabs 0)

pub placed-emptying : (l : Local) → IsPlaced (emptying l)
placed-emptying l = placed-emptying_by l (newest_of l.heap.cached)

pub placed-bins_swept : (l : Local) (cleanup : Cleanup) → IsPlaced (bins_swept l cleanup)
placed-bins_swept l Cleanup.Regular = placed-swept l Cleanup.Regular
placed-bins_swept l Cleanup.Soft = placed-swept l Cleanup.Soft
placed-bins_swept l Cleanup.Hard = placed-emptying l

pub placed-next_bin : (l : Local) → IsPlaced (next_bin l)
placed-next_bin l = either (ltb l.sweep.granules last_cache_bin) _ _ (λ low. tt) (placed-bins_swept l l.sweep.cleanup)

pub placed-releasing_by : (l : Local) (one : Option ℕ) → IsPlaced (releasing_by l one)
placed-releasing_by l (Some block) = λ low. tt
placed-releasing_by l None = placed-next_bin l

pub placed-releasing : (l : Local) → IsPlaced (releasing l)
placed-releasing l = placed-releasing_by l (newest_of l.released)

pub placed-kept_as : (l : Local) (one : Option ℕ) → IsPlaced (kept_as l one)
placed-kept_as l (Some block) = λ low. tt
placed-kept_as l None = placed-ticked l

pub placed-tick_at : (l : Local) (stage : Stage) → IsPlaced (tick_at l stage)
placed-tick_at l Stage.Getting = λ low. tt
placed-tick_at l Stage.Idle = λ low. tt
placed-tick_at l Stage.Looking = λ low. tt
placed-tick_at l Stage.Ending = λ low. tt
placed-tick_at l Stage.Replacing = λ low. tt
placed-tick_at l Stage.Undoing = λ low. tt
placed-tick_at l Stage.Leaving = λ low. tt
placed-tick_at l (Stage.Resetting stage) = λ low. tt

placed-object_at : (l : Local) (slab : ℕ) (one : Option ℕ) (unit : ℕ) → IsPlaced (object_at l slab one unit)
placed-object_at l slab (Some head) unit = λ low. tt
placed-object_at l slab None unit = λ low. tt

placed-object_in : (l : Local) (slab : ℕ) (found : Option HeapSlab) → IsPlaced (object_in l slab found)
placed-object_in l slab (Some kept) = placed-object_at l slab kept.head (unit_of slab kept.class kept.handed)
placed-object_in l slab None = placed-object_at l slab None 0

-- a large object begins in its block, which has room for it at its alignment
pub placed-located_as : (l : Local) (region : ℕ) (base : ℕ) (served : Served)
    → ((granules alignment : ℕ) → served ≡ Served.Large granules alignment → HasRoom l.call.block.granules alignment)
    → IsPlaced (located_as l region base served)
placed-located_as l region base (Served.Small class) room =
    placed-object_in l l.call.slab (record_at l.heap.slabs.records l.call.slab)
placed-located_as l region base (Served.Large granules alignment) room = λ low.
    unit_lies (region_of region) base l.call.block alignment low (room granules alignment refl)

pub placed-slot_looked : (l : Local) (slot : ℕ) (region : ℕ) → IsPlaced (slot_looked l slot region)
placed-slot_looked l slot region =
    either (has_granule (region_of region) (located_index l l.call.served)) _ _ (λ low. tt)
    (either (ltb slot last_slot) _ _ (λ low. tt) (λ low. tt))

pub placed-held_as : (l : Local) (base : ℕ) (request : Request) → IsPlaced (held_as l base request)
placed-held_as l base (Request.Msize place) = λ low. tt
placed-held_as l base (Request.Identify place) = λ low. tt
placed-held_as l base (Request.Realloc place size) = placed-decided l size None base
placed-held_as l base (Request.AlignedRealloc place size alignment) = placed-decided l size (Some alignment) base
placed-held_as l base (Request.Malloc size) = λ low. tt
placed-held_as l base (Request.Aligned size alignment) = λ low. tt
placed-held_as l base (Request.Free place) = λ low. tt
placed-held_as l base Request.Exit = λ low. tt

pub placed-held : (l : Local) (base : ℕ) → IsPlaced (held l base)
placed-held l base = placed-held_as l base l.call.request

pub placed-freed_slab : (l : Local) (slab : ℕ) (kept : HeapSlab) → IsPlaced (freed_slab l slab kept)
placed-freed_slab l slab kept =
    let l' : Local = record l { heap = record l.heap { slabs = after_replace l.heap.slabs kept } } in
    either (is_unused kept) _ _ (λ low. tt) (λ low. tt)

pub placed-freed_in : (l : Local) (unit : ℕ) (slab : ℕ) (found : Option HeapSlab)
    → IsPlaced (freed_in l unit slab found)
placed-freed_in l unit slab (Some kept) = placed-freed_slab l slab (after_free kept unit)
placed-freed_in l unit slab None = λ low. tt

pub placed-freed_at : (l : Local) (unit : ℕ) (slab : ℕ) → IsPlaced (freed_at l unit slab)
placed-freed_at l unit slab = placed-freed_in l unit slab (record_at l.heap.slabs.records slab)

pub placed-freed_own : (l : Local) → IsPlaced (freed_own l)
placed-freed_own l = placed-freed_at l (ended_object l).unit (slab_of (ended_object l).unit)

-- a job of the cache goes on, waits, or is done
pub placed-get_as : (l : Local) (at : GetAt) (next : GetNext) → IsPlaced (get_as l at next)
placed-get_as l at (GetNext.Goes next) = λ low. tt
placed-get_as l at GetNext.Waits = λ low. tt
placed-get_as l at (GetNext.Took block) = placed-ticked (record l {
  call = record l.call {
    missed = false;
    block = record { first = block; granules = granules_of_served l.call.served };
  };
})
placed-get_as l at GetNext.Missed = placed-ticked (record l { call = record l.call { missed = true } })

pub placed-undo_as : (l : Local) (cause : NullCause) (at : UndoAt) (next : UndoNext)
    → IsPlaced (undo_as l cause at next)
placed-undo_as l cause at (UndoNext.Goes next) = λ low. tt
placed-undo_as l cause at UndoNext.Waits = λ low. tt
placed-undo_as l cause at UndoNext.Undone = λ low. tt

pub placed-keep_as : (l : Local) (at : KeepAt) (next : KeepNext) → IsPlaced (keep_as l at next)
placed-keep_as l at (KeepNext.Goes next) = λ low. tt
placed-keep_as l at KeepNext.Waits = λ low. tt
placed-keep_as l at (KeepNext.Kept released) = placed-kept_as l released

pub placed-swept_as : (l : Local) (at : SweepAt) (next : SweepNext) → IsPlaced (swept_as l at next)
placed-swept_as l at (SweepNext.Goes next) = λ low. tt
placed-swept_as l at (SweepNext.Stays next) = λ low. tt
placed-swept_as l at (SweepNext.Stale block next) = λ low. tt
placed-swept_as l at SweepNext.Waits = λ low. tt
placed-swept_as l at (SweepNext.Began time) = λ low. tt
placed-swept_as l at SweepNext.Passed = placed-next_bin l
placed-swept_as l at SweepNext.Swept = placed-releasing l

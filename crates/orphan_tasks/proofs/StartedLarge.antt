-- Where a call goes on with large objects, with looks and with ends of grants, a task of orphans may start.
use Rattle.std.proofs.Common.{eqb, true, false, refl, ℕ}
use Rattle.std.specs.Prelude.{None, Option, Some, ltb, ◌%◌}
use Rattle.heap_slabs.specs.Records.{after_free, is_unused, unit_of}
use Rattle.heap_slabs.specs.Rolls.{newest_of}
use Rattle.heap_slabs.specs.Slabs.{first_from, record_at}
use Rattle.heap_slabs.specs.declared.records.HeapSlab.{HeapSlab}
use Rattle.heap_slabs.specs.declared.slabs.Wanted.{Wanted}
use Rattle.large_cache.specs.declared.sweep.Cleanup.{Cleanup}
use Rattle.pool_types.specs.declared.values.NullCause.{NullCause}
use Rattle.pool_types.specs.declared.values.Request.{Request}
use Rattle.step_local.specs.Answers.{ended_object, slab_of}
use Rattle.step_local.specs.Getting.{decided, get_or, getting, getting_as, getting_or_null, refusal_of, served_as}
use Rattle.step_local.specs.Getting.{stays}
use Rattle.step_local.specs.Large.{bins_swept, cached, cached_at, cleanup_ticks, emptying, emptying_by}
use Rattle.step_local.specs.Large.{got_block, kept_as}
use Rattle.step_local.specs.Frames.{last_cache_bin}
use Rattle.step_local.specs.Large.{last_slot, locate_learn, located_as, located_index, next_bin}
use Rattle.step_local.specs.Large.{object_at, object_in, releasing, releasing_by, slot_looked}
use Rattle.step_local.specs.Large.{swept, tick_at, ticked}
use Rattle.step_local.specs.Large.{unused_next}
use Rattle.step_local.specs.Objects.{freed_at, freed_in, freed_own, freed_slab, held, held_as}
use Rattle.step_local.specs.declared.frames.Local.{Local}
use Rattle.step_local.specs.declared.frames.LocateAt.{LocateAt}
use Rattle.step_local.specs.declared.frames.Served.{Served}
use Rattle.step_local.specs.declared.frames.Stage.{Stage}
use Rattle.large_cache.specs.declared.get.GetAt.{GetAt}
use Rattle.large_cache.specs.declared.get.GetNext.{GetNext}
use Rattle.large_cache.specs.declared.keep.KeepAt.{KeepAt}
use Rattle.large_cache.specs.declared.keep.KeepNext.{KeepNext}
use Rattle.large_cache.specs.declared.sweep.SweepAt.{SweepAt}
use Rattle.large_cache.specs.declared.sweep.SweepNext.{SweepNext}
use Rattle.large_cache.specs.declared.undo.UndoAt.{UndoAt}
use Rattle.large_cache.specs.declared.undo.UndoNext.{UndoNext}
use Rattle.step_local.specs.Large.{get_as, granules_of_served, keep_as, swept_as, undo_as}
use Rattle.orphan_tasks.proofs.Started.{IsStarted, IsMoved, either, either_moves}
use Rattle.orphan_tasks.proofs.StartedSmall.{starts-getting_small}
use Rattle.word_codes.specs.RegionWords.{has_granule, region_of}
use Rattle.orphan_tasks.specs.Starts.{NoOrphans}

pub starts-getting : (l : Local) (served : Served) → IsStarted l (getting l served)
starts-getting l (Served.Small class) = starts-getting_small (getting_as l (Served.Small class)) class tt
starts-getting l (Served.Large granules alignment) = (tt, refl)

pub starts-get_or : (l : Local) (wanted : Option Served) (cause : Option NullCause)
    → IsStarted l (get_or l wanted cause)
starts-get_or l wanted (Some cause) = (tt, refl)
starts-get_or l (Some served) None = starts-getting l served
starts-get_or l None None = (tt, refl)

pub starts-getting_or_null : (l : Local) (wanted : Option Served) → IsStarted l (getting_or_null l wanted)
starts-getting_or_null l wanted = starts-get_or l wanted (refusal_of l wanted)

pub starts-decided : (l : Local) (size : ℕ) (alignment : Option ℕ) (base : ℕ)
    → IsStarted l (decided l size alignment base)
starts-decided l size alignment base = either l (eqb size 0) _ _ (tt, refl)
    (either l (stays l size alignment base) _ _ (tt, refl) (starts-getting_or_null l (served_as size alignment)))

pub starts-got_block : (l : Local) → NoOrphans l.call.stage → IsStarted l (got_block l)
starts-got_block l free = either l l.call.missed _ _ (free, refl) (free, refl)

pub starts-cached_at : (l : Local) (stage : Stage) → NoOrphans l.call.stage → IsStarted l (cached_at l stage)
starts-cached_at l Stage.Getting free = starts-got_block l free
starts-cached_at l Stage.Idle free = (tt, refl)
starts-cached_at l Stage.Looking free = (tt, refl)
starts-cached_at l Stage.Ending free = (tt, refl)
starts-cached_at l Stage.Replacing free = (tt, refl)
starts-cached_at l Stage.Undoing free = (tt, refl)
starts-cached_at l Stage.Leaving free = (tt, refl)
starts-cached_at l (Stage.Resetting stage) free = (tt, refl)

pub starts-cached : (l : Local) → NoOrphans l.call.stage → IsStarted l (cached l)
starts-cached l free = starts-cached_at l l.call.stage free

pub starts-ticked : (l : Local) → NoOrphans l.call.stage → IsStarted l (ticked l)
starts-ticked l free = either l (eqb (l.call.time % cleanup_ticks) 0) _ _ (free, refl) (starts-cached l free)

pub starts-swept : (l : Local) (cleanup : Cleanup) → NoOrphans l.call.stage → IsStarted l (swept l cleanup)
starts-swept l Cleanup.Regular free = starts-cached l free
starts-swept l Cleanup.Soft free = (free, refl)
starts-swept l Cleanup.Hard free = (free, refl)

pub starts-unused_next : (l : Local) (found : Option HeapSlab)
    → NoOrphans l.call.stage → IsStarted l (unused_next l found)
starts-unused_next l (Some kept) free = (free, refl)
starts-unused_next l None free = starts-swept l l.sweep.cleanup free

pub starts-emptying_by : (l : Local) (one : Option ℕ) → NoOrphans l.call.stage → IsStarted l (emptying_by l one)
starts-emptying_by l (Some slab) free = (free, refl)
starts-emptying_by l None free = starts-unused_next l (first_from Wanted.Unused l.heap.slabs 0) free

pub starts-emptying : (l : Local) → NoOrphans l.call.stage → IsStarted l (emptying l)
starts-emptying l free = starts-emptying_by l (newest_of l.heap.cached) free

pub starts-bins_swept : (l : Local) (cleanup : Cleanup) → NoOrphans l.call.stage → IsStarted l (bins_swept l cleanup)
starts-bins_swept l Cleanup.Regular free = starts-swept l Cleanup.Regular free
starts-bins_swept l Cleanup.Soft free = starts-swept l Cleanup.Soft free
starts-bins_swept l Cleanup.Hard free = starts-emptying l free

pub starts-next_bin : (l : Local) → NoOrphans l.call.stage → IsStarted l (next_bin l)
starts-next_bin l free = either l (ltb l.sweep.granules last_cache_bin) _ _ (free, refl)
    (starts-bins_swept l l.sweep.cleanup free)

pub starts-releasing_by : (l : Local) (one : Option ℕ) → NoOrphans l.call.stage → IsStarted l (releasing_by l one)
starts-releasing_by l (Some block) free = (free, refl)
starts-releasing_by l None free = starts-next_bin l free

pub starts-releasing : (l : Local) → NoOrphans l.call.stage → IsStarted l (releasing l)
starts-releasing l free = starts-releasing_by l (newest_of l.released) free

pub starts-kept_as : (l : Local) (one : Option ℕ) → NoOrphans l.call.stage → IsStarted l (kept_as l one)
starts-kept_as l (Some block) free = (free, refl)
starts-kept_as l None free = starts-ticked l free

pub starts-tick_at : (l : Local) (stage : Stage) → NoOrphans l.call.stage → IsStarted l (tick_at l stage)
starts-tick_at l Stage.Getting free = (free, refl)
starts-tick_at l Stage.Idle free = (free, refl)
starts-tick_at l Stage.Looking free = (free, refl)
starts-tick_at l Stage.Ending free = (free, refl)
starts-tick_at l Stage.Replacing free = (free, refl)
starts-tick_at l Stage.Undoing free = (free, refl)
starts-tick_at l Stage.Leaving free = (free, refl)
starts-tick_at l (Stage.Resetting stage) free = (free, refl)

starts-object_at : (l : Local) (slab : ℕ) (one : Option ℕ) (unit : ℕ) → NoOrphans l.call.stage
    → IsStarted l (object_at l slab one unit)
starts-object_at l slab (Some head) unit free = (free, refl)
starts-object_at l slab None unit free = (free, refl)

starts-object_in : (l : Local) (slab : ℕ) (found : Option HeapSlab) → NoOrphans l.call.stage
    → IsStarted l (object_in l slab found)
starts-object_in l slab (Some kept) free =
    starts-object_at l slab kept.head (unit_of slab kept.class kept.handed) free
starts-object_in l slab None free = starts-object_at l slab None 0 free

pub starts-located_as : (l : Local) (region : ℕ) (base : ℕ) (served : Served)
    → NoOrphans l.call.stage → IsStarted l (located_as l region base served)
starts-located_as l region base (Served.Small class) free = starts-object_in l l.call.slab
    (record_at l.heap.slabs.records l.call.slab) free
starts-located_as l region base (Served.Large granules alignment) free = (free, refl)

pub starts-slot_looked : (l : Local) (slot : ℕ) (region : ℕ)
    → NoOrphans l.call.stage → IsStarted l (slot_looked l slot region)
starts-slot_looked l slot region free = either l (has_granule (region_of region) (located_index l l.call.served)) _ _
    (free, refl)
    (either l (ltb slot last_slot) _ _ (free, refl) (free, refl))

pub starts-locate_learn : (l : Local) (at : LocateAt) (f : ℕ)
    → NoOrphans l.call.stage → IsStarted l (locate_learn l at f)
starts-locate_learn l (LocateAt.Region slot) f free = starts-slot_looked l slot f free
starts-locate_learn l (LocateAt.Base slot region) f free = starts-located_as
    (record l { call = record l.call { region = region } }) region f l.call.served free

pub starts-held_as : (l : Local) (base : ℕ) (request : Request) → IsStarted l (held_as l base request)
starts-held_as l base (Request.Msize place) = (tt, refl)
starts-held_as l base (Request.Identify place) = (tt, refl)
starts-held_as l base (Request.Realloc place size) = starts-decided l size None base
starts-held_as l base (Request.AlignedRealloc place size alignment) = starts-decided l size (Some alignment) base
starts-held_as l base (Request.Malloc size) = (tt, refl)
starts-held_as l base (Request.Aligned size alignment) = (tt, refl)
starts-held_as l base (Request.Free place) = (tt, refl)
starts-held_as l base Request.Exit = (tt, refl)

pub starts-held : (l : Local) (base : ℕ) → IsStarted l (held l base)
starts-held l base = starts-held_as l base l.call.request

pub starts-freed_slab : (l : Local) (slab : ℕ) (kept : HeapSlab)
    → NoOrphans l.call.stage → IsMoved l (freed_slab l slab kept)
starts-freed_slab l slab kept free = either_moves l (is_unused kept) _ _ (free, refl) (tt, refl)

pub starts-freed_in : (l : Local) (unit : ℕ) (slab : ℕ) (found : Option HeapSlab)
    → NoOrphans l.call.stage → IsMoved l (freed_in l unit slab found)
starts-freed_in l unit slab (Some kept) free = starts-freed_slab l slab (after_free kept unit) free
starts-freed_in l unit slab None free = (tt, refl)

pub starts-freed_at : (l : Local) (unit : ℕ) (slab : ℕ) → NoOrphans l.call.stage → IsMoved l (freed_at l unit slab)
starts-freed_at l unit slab free = starts-freed_in l unit slab (record_at l.heap.slabs.records slab) free

pub starts-freed_own : (l : Local) → NoOrphans l.call.stage → IsMoved l (freed_own l)
starts-freed_own l free = starts-freed_at l (ended_object l).unit (slab_of (ended_object l).unit) free

-- a job of the cache goes on, waits, or is done
pub starts-get_as : (l : Local) (at : GetAt) (next : GetNext)
    → NoOrphans l.call.stage → IsStarted l (get_as l at next)
starts-get_as l at (GetNext.Goes next) free = (free, refl)
starts-get_as l at GetNext.Waits free = (free, refl)
starts-get_as l at (GetNext.Took block) free = starts-ticked (record l {
  call = record l.call {
    missed = false;
    block = record { first = block; granules = granules_of_served l.call.served };
  };
}) free
starts-get_as l at GetNext.Missed free = starts-ticked (record l { call = record l.call { missed = true } }) free

pub starts-undo_as : (l : Local) (cause : NullCause) (at : UndoAt) (next : UndoNext)
    → NoOrphans l.call.stage → IsStarted l (undo_as l cause at next)
starts-undo_as l cause at (UndoNext.Goes next) free = (free, refl)
starts-undo_as l cause at UndoNext.Waits free = (free, refl)
starts-undo_as l cause at UndoNext.Undone free = (tt, refl)

pub starts-keep_as : (l : Local) (at : KeepAt) (next : KeepNext)
    → NoOrphans l.call.stage → IsStarted l (keep_as l at next)
starts-keep_as l at (KeepNext.Goes next) free = (free, refl)
starts-keep_as l at KeepNext.Waits free = (free, refl)
starts-keep_as l at (KeepNext.Kept released) free = starts-kept_as l released free

pub starts-swept_as : (l : Local) (at : SweepAt) (next : SweepNext)
    → NoOrphans l.call.stage → IsStarted l (swept_as l at next)
starts-swept_as l at (SweepNext.Goes next) free = (free, refl)
starts-swept_as l at (SweepNext.Stays next) free = (free, refl)
starts-swept_as l at (SweepNext.Stale block next) free = (free, refl)
starts-swept_as l at SweepNext.Waits free = (free, refl)
starts-swept_as l at (SweepNext.Began time) free = (free, refl)
starts-swept_as l at SweepNext.Passed free = starts-next_bin l free
starts-swept_as l at SweepNext.Swept free = starts-releasing l free

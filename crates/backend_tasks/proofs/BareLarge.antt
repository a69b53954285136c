-- Where a call goes on with large objects, with looks and with ends of grants, nothing is under way.
use Rattle.std.proofs.Common.{eqb, true, false, ℕ}
use Rattle.std.specs.Prelude.{None, Option, Some, ltb, ◌%◌}
use Rattle.heap_slabs.specs.Records.{after_free, is_unused, unit_of}
use Rattle.heap_slabs.specs.Rolls.{newest_of}
use Rattle.heap_slabs.specs.Slabs.{after_replace, first_from, record_at}
use Rattle.heap_slabs.specs.declared.records.HeapSlab.{HeapSlab}
use Rattle.heap_slabs.specs.declared.slabs.Wanted.{Wanted}
use Rattle.large_cache.specs.declared.sweep.Cleanup.{Cleanup}
use Rattle.pool_types.specs.declared.values.NullCause.{NullCause}
use Rattle.pool_types.specs.declared.values.Request.{Request}
use Rattle.step_local.specs.Answers.{ended_object, slab_of}
use Rattle.step_local.specs.Getting.{decided, get_or, getting, getting_as, getting_or_null, refusal_of, served_as}
use Rattle.step_local.specs.Getting.{stays}
use Rattle.step_local.specs.Large.{bins_swept, cached, cached_at, cleanup_ticks, emptying, emptying_by}
use Rattle.step_local.specs.Large.{got_block, kept_as}
use Rattle.step_local.specs.Frames.{last_cache_bin}
use Rattle.step_local.specs.Large.{last_slot, locate_learn, located_as, located_index, next_bin}
use Rattle.step_local.specs.Large.{object_at, object_in, releasing, releasing_by, slot_looked}
use Rattle.step_local.specs.Large.{swept, tick_at, ticked}
use Rattle.step_local.specs.Large.{unused_next}
use Rattle.step_local.specs.Objects.{freed_at, freed_in, freed_own, freed_slab, held, held_as}
use Rattle.step_local.specs.declared.frames.Local.{Local}
use Rattle.step_local.specs.declared.frames.LocateAt.{LocateAt}
use Rattle.step_local.specs.declared.frames.Served.{Served}
use Rattle.step_local.specs.declared.frames.Stage.{Stage}
use Rattle.large_cache.specs.declared.get.GetAt.{GetAt}
use Rattle.large_cache.specs.declared.get.GetNext.{GetNext}
use Rattle.large_cache.specs.declared.keep.KeepAt.{KeepAt}
use Rattle.large_cache.specs.declared.keep.KeepNext.{KeepNext}
use Rattle.large_cache.specs.declared.sweep.SweepAt.{SweepAt}
use Rattle.large_cache.specs.declared.sweep.SweepNext.{SweepNext}
use Rattle.large_cache.specs.declared.undo.UndoAt.{UndoAt}
use Rattle.large_cache.specs.declared.undo.UndoNext.{UndoNext}
use Rattle.step_local.specs.Large.{get_as, granules_of_served, keep_as, swept_as, undo_as}
use Rattle.backend_tasks.proofs.Bare.{bin_low}
use Rattle.backend_tasks.proofs.BareSmall.{IsBare, bare-getting_small, either}
use Rattle.word_codes.specs.RegionWords.{has_granule, region_of}

pub bare-getting : (l : Local) (served : Served) → IsBare (getting l served)
bare-getting l (Served.Small class) = bare-getting_small (getting_as l (Served.Small class)) class
bare-getting l (Served.Large granules alignment) = tt

pub bare-get_or : (l : Local) (wanted : Option Served) (cause : Option NullCause) → IsBare (get_or l wanted cause)
bare-get_or l wanted (Some cause) = tt
bare-get_or l (Some served) None = bare-getting l served
bare-get_or l None None = tt

pub bare-getting_or_null : (l : Local) (wanted : Option Served) → IsBare (getting_or_null l wanted)
bare-getting_or_null l wanted = bare-get_or l wanted (refusal_of l wanted)

pub bare-decided : (l : Local) (size : ℕ) (alignment : Option ℕ) (base : ℕ)
    → IsBare (decided l size alignment base)
bare-decided l size alignment base = either (eqb size 0) _ _ tt
    (either (stays l size alignment base) _ _ tt (bare-getting_or_null l (served_as size alignment)))

pub bare-got_block : (l : Local) → IsBare (got_block l)
bare-got_block l = either l.call.missed _ _ (bin_low (granules_of_served l.call.served)) tt

pub bare-cached_at : (l : Local) (stage : Stage) → IsBare (cached_at l stage)
bare-cached_at l Stage.Getting = bare-got_block l
bare-cached_at l Stage.Idle = tt
bare-cached_at l Stage.Looking = tt
bare-cached_at l Stage.Ending = tt
bare-cached_at l Stage.Replacing = tt
bare-cached_at l Stage.Undoing = tt
bare-cached_at l Stage.Leaving = tt
bare-cached_at l (Stage.Resetting stage) = tt

pub bare-cached : (l : Local) → IsBare (cached l)
bare-cached l = bare-cached_at l l.call.stage

pub bare-ticked : (l : Local) → IsBare (ticked l)
bare-ticked l = either (eqb (l.call.time % cleanup_ticks) 0) _ _ tt (bare-cached l)

pub bare-swept : (l : Local) (cleanup : Cleanup) → IsBare (swept l cleanup)
bare-swept l Cleanup.Regular = bare-cached l
bare-swept l Cleanup.Soft = tt
bare-swept l Cleanup.Hard = tt

pub bare-unused_next : (l : Local) (found : Option HeapSlab) → IsBare (unused_next l found)
bare-unused_next l (Some kept) = tt
bare-unused_next l None = bare-swept l l.sweep.cleanup

pub bare-emptying_by : (l : Local) (one : Option ℕ) → IsBare (emptying_by l one)
bare-emptying_by l (Some slab) = tt
bare-emptying_by l None = bare-unused_next l (first_from Wanted.Unused l.heap.slabs 0)

pub bare-emptying : (l : Local) → IsBare (emptying l)
bare-emptying l = bare-emptying_by l (newest_of l.heap.cached)

pub bare-bins_swept : (l : Local) (cleanup : Cleanup) → IsBare (bins_swept l cleanup)
bare-bins_swept l Cleanup.Regular = bare-swept l Cleanup.Regular
bare-bins_swept l Cleanup.Soft = bare-swept l Cleanup.Soft
bare-bins_swept l Cleanup.Hard = bare-emptying l

pub bare-next_bin : (l : Local) → IsBare (next_bin l)
bare-next_bin l = either (ltb l.sweep.granules last_cache_bin) _ _ tt (bare-bins_swept l l.sweep.cleanup)

pub bare-releasing_by : (l : Local) (one : Option ℕ) → IsBare (releasing_by l one)
bare-releasing_by l (Some block) = tt
bare-releasing_by l None = bare-next_bin l

pub bare-releasing : (l : Local) → IsBare (releasing l)
bare-releasing l = bare-releasing_by l (newest_of l.released)

pub bare-kept_as : (l : Local) (one : Option ℕ) → IsBare (kept_as l one)
bare-kept_as l (Some block) = tt
bare-kept_as l None = bare-ticked l

pub bare-tick_at : (l : Local) (stage : Stage) → IsBare (tick_at l stage)
bare-tick_at l Stage.Getting = tt
bare-tick_at l Stage.Idle = tt
bare-tick_at l Stage.Looking = tt
bare-tick_at l Stage.Ending = tt
bare-tick_at l Stage.Replacing = tt
bare-tick_at l Stage.Undoing = tt
bare-tick_at l Stage.Leaving = tt
bare-tick_at l (Stage.Resetting stage) = tt

bare-object_at : (l : Local) (slab : ℕ) (one : Option ℕ) (unit : ℕ) → IsBare (object_at l slab one unit)
bare-object_at l slab (Some head) unit = tt
bare-object_at l slab None unit = tt

bare-object_in : (l : Local) (slab : ℕ) (found : Option HeapSlab) → IsBare (object_in l slab found)
bare-object_in l slab (Some kept) = bare-object_at l slab kept.head (unit_of slab kept.class kept.handed)
bare-object_in l slab None = bare-object_at l slab None 0

pub bare-located_as : (l : Local) (region : ℕ) (base : ℕ) (served : Served)
    → IsBare (located_as l region base served)
bare-located_as l region base (Served.Small class) =
    bare-object_in l l.call.slab (record_at l.heap.slabs.records l.call.slab)
bare-located_as l region base (Served.Large granules alignment) = tt

pub bare-slot_looked : (l : Local) (slot : ℕ) (region : ℕ) → IsBare (slot_looked l slot region)
bare-slot_looked l slot region = either (has_granule (region_of region) (located_index l l.call.served)) _ _ tt
    (either (ltb slot last_slot) _ _ tt tt)

pub bare-locate_learn : (l : Local) (at : LocateAt) (f : ℕ) → IsBare (locate_learn l at f)
bare-locate_learn l (LocateAt.Region slot) f = bare-slot_looked l slot f
bare-locate_learn l (LocateAt.Base slot region) f = bare-located_as
    (record l { call = record l.call { region = region } }) region f l.call.served

pub bare-held_as : (l : Local) (base : ℕ) (request : Request) → IsBare (held_as l base request)
bare-held_as l base (Request.Msize place) = tt
bare-held_as l base (Request.Identify place) = tt
bare-held_as l base (Request.Realloc place size) = bare-decided l size None base
bare-held_as l base (Request.AlignedRealloc place size alignment) = bare-decided l size (Some alignment) base
bare-held_as l base (Request.Malloc size) = tt
bare-held_as l base (Request.Aligned size alignment) = tt
bare-held_as l base (Request.Free place) = tt
bare-held_as l base Request.Exit = tt

pub bare-held : (l : Local) (base : ℕ) → IsBare (held l base)
bare-held l base = bare-held_as l base l.call.request

pub bare-freed_slab : (l : Local) (slab : ℕ) (kept : HeapSlab) → IsBare (freed_slab l slab kept)
bare-freed_slab l slab kept = let l' : Local = record l
    { heap = record l.heap { slabs = after_replace l.heap.slabs kept } } in either (is_unused kept) _ _ tt tt

pub bare-freed_in : (l : Local) (unit : ℕ) (slab : ℕ) (found : Option HeapSlab)
    → IsBare (freed_in l unit slab found)
bare-freed_in l unit slab (Some kept) = bare-freed_slab l slab (after_free kept unit)
bare-freed_in l unit slab None = tt

pub bare-freed_at : (l : Local) (unit : ℕ) (slab : ℕ) → IsBare (freed_at l unit slab)
bare-freed_at l unit slab = bare-freed_in l unit slab (record_at l.heap.slabs.records slab)

pub bare-freed_own : (l : Local) → IsBare (freed_own l)
bare-freed_own l = bare-freed_at l (ended_object l).unit (slab_of (ended_object l).unit)

-- a job of the cache goes on, waits, or is done
pub bare-get_as : (l : Local) (at : GetAt) (next : GetNext) → IsBare (get_as l at next)
bare-get_as l at (GetNext.Goes next) = tt
bare-get_as l at GetNext.Waits = tt
bare-get_as l at (GetNext.Took block) = bare-ticked (record l {
  call = record l.call {
    missed = false;
    block = record { first = block; granules = granules_of_served l.call.served };
  };
})
bare-get_as l at GetNext.Missed = bare-ticked (record l { call = record l.call { missed = true } })

pub bare-undo_as : (l : Local) (cause : NullCause) (at : UndoAt) (next : UndoNext)
    → IsBare (undo_as l cause at next)
bare-undo_as l cause at (UndoNext.Goes next) = tt
bare-undo_as l cause at UndoNext.Waits = tt
bare-undo_as l cause at UndoNext.Undone = tt

pub bare-keep_as : (l : Local) (at : KeepAt) (next : KeepNext) → IsBare (keep_as l at next)
bare-keep_as l at (KeepNext.Goes next) = tt
bare-keep_as l at KeepNext.Waits = tt
bare-keep_as l at (KeepNext.Kept released) = bare-kept_as l released

pub bare-swept_as : (l : Local) (at : SweepAt) (next : SweepNext) → IsBare (swept_as l at next)
bare-swept_as l at (SweepNext.Goes next) = tt
bare-swept_as l at (SweepNext.Stays next) = tt
bare-swept_as l at (SweepNext.Stale block next) = tt
bare-swept_as l at SweepNext.Waits = tt
bare-swept_as l at (SweepNext.Began time) = tt
bare-swept_as l at SweepNext.Passed = bare-next_bin l
bare-swept_as l at SweepNext.Swept = bare-releasing l

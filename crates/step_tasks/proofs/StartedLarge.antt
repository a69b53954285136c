-- Where a call goes on with large objects, with looks and with ends of grants, a job may begin.
use Rattle.std.proofs.Common.{◌≡◌, eqb, true, false, refl, sym, ap, ℕ}
use Rattle.std.specs.Prelude.{None, Option, Some, ltb, ◌%◌}
use Rattle.heap_slabs.specs.Records.{after_free, is_unused, unit_of}
use Rattle.heap_slabs.specs.Rolls.{newest_of}
use Rattle.heap_slabs.specs.Slabs.{after_replace, first_from, record_at}
use Rattle.heap_slabs.specs.declared.records.HeapSlab.{HeapSlab}
use Rattle.heap_slabs.specs.declared.slabs.Wanted.{Wanted}
use Rattle.large_cache.specs.declared.sweep.Cleanup.{Cleanup}
use Rattle.pool_types.specs.declared.values.NullCause.{NullCause}
use Rattle.pool_types.specs.declared.values.Request.{Request}
use Rattle.step_local.specs.Answers.{ended_object, head_at, head_of, slab_of}
use Rattle.step_local.specs.Getting.{decided, get_or, getting, getting_as, getting_or_null, refusal_of, served_as}
use Rattle.step_local.specs.Getting.{stays}
use Rattle.step_local.specs.Large.{bins_swept, cached, cached_at, cleanup_ticks, emptying, emptying_by}
use Rattle.step_local.specs.Large.{got_block, kept_as}
use Rattle.step_local.specs.Frames.{last_cache_bin}
use Rattle.step_local.specs.Large.{last_slot, locate_learn, located_as, located_index, next_bin}
use Rattle.step_local.specs.Large.{object_at, object_in, releasing, releasing_by, slot_looked}
use Rattle.step_local.specs.Large.{swept, tick_at, ticked}
use Rattle.step_local.specs.Large.{unused_next}
use Rattle.step_local.specs.Objects.{freed_at, freed_in, freed_own, freed_slab, held, held_as}
use Rattle.step_local.specs.declared.frames.Local.{Local}
use Rattle.step_local.specs.declared.frames.LocateAt.{LocateAt}
use Rattle.step_local.specs.declared.frames.Served.{Served}
use Rattle.step_local.specs.declared.frames.Stage.{Stage}
use Rattle.large_cache.specs.declared.get.GetAt.{GetAt}
use Rattle.large_cache.specs.declared.get.GetNext.{GetNext}
use Rattle.large_cache.specs.declared.keep.KeepAt.{KeepAt}
use Rattle.large_cache.specs.declared.keep.KeepNext.{KeepNext}
use Rattle.large_cache.specs.declared.sweep.SweepAt.{SweepAt}
use Rattle.large_cache.specs.declared.sweep.SweepNext.{SweepNext}
use Rattle.large_cache.specs.declared.undo.UndoAt.{UndoAt}
use Rattle.large_cache.specs.declared.undo.UndoNext.{UndoNext}
use Rattle.step_local.specs.Large.{get_as, granules_of_served, keep_as, swept_as, undo_as}
use Rattle.step_tasks.specs.Objects.{rest_at, rest_in}
use Rattle.step_tasks.proofs.StartedSmall.{IsStarted, starts-getting_small, either}
use Rattle.word_codes.specs.RegionWords.{has_granule, region_of}

pub starts-getting : (l : Local) (served : Served) → IsStarted (getting l served)
starts-getting l (Served.Small class) = starts-getting_small (getting_as l (Served.Small class)) class
starts-getting l (Served.Large granules alignment) = tt

pub starts-get_or : (l : Local) (wanted : Option Served) (cause : Option NullCause) → IsStarted (get_or l wanted cause)
starts-get_or l wanted (Some cause) = tt
starts-get_or l (Some served) None = starts-getting l served
starts-get_or l None None = tt

pub starts-getting_or_null : (l : Local) (wanted : Option Served) → IsStarted (getting_or_null l wanted)
starts-getting_or_null l wanted = starts-get_or l wanted (refusal_of l wanted)

pub starts-decided : (l : Local) (size : ℕ) (alignment : Option ℕ) (base : ℕ)
    → IsStarted (decided l size alignment base)
starts-decided l size alignment base = either (eqb size 0) _ _ refl
    (either (stays l size alignment base) _ _ tt (starts-getting_or_null l (served_as size alignment)))

pub starts-got_block : (l : Local) → IsStarted (got_block l)
starts-got_block l = either l.call.missed _ _ tt tt

pub starts-cached_at : (l : Local) (stage : Stage) → IsStarted (cached_at l stage)
starts-cached_at l Stage.Getting = starts-got_block l
starts-cached_at l Stage.Idle = tt
starts-cached_at l Stage.Looking = tt
starts-cached_at l Stage.Ending = tt
starts-cached_at l Stage.Replacing = tt
starts-cached_at l Stage.Undoing = tt
starts-cached_at l Stage.Leaving = tt
starts-cached_at l (Stage.Resetting stage) = tt

pub starts-cached : (l : Local) → IsStarted (cached l)
starts-cached l = starts-cached_at l l.call.stage

pub starts-ticked : (l : Local) → IsStarted (ticked l)
starts-ticked l = either (eqb (l.call.time % cleanup_ticks) 0) _ _ tt (starts-cached l)

pub starts-swept : (l : Local) (cleanup : Cleanup) → IsStarted (swept l cleanup)
starts-swept l Cleanup.Regular = starts-cached l
starts-swept l Cleanup.Soft = tt
starts-swept l Cleanup.Hard = tt

pub starts-unused_next : (l : Local) (found : Option HeapSlab) → IsStarted (unused_next l found)
starts-unused_next l (Some kept) = tt
starts-unused_next l None = starts-swept l l.sweep.cleanup

pub starts-emptying_by : (l : Local) (one : Option ℕ) → IsStarted (emptying_by l one)
starts-emptying_by l (Some slab) = tt
starts-emptying_by l None = starts-unused_next l (first_from Wanted.Unused l.heap.slabs 0)

pub starts-emptying : (l : Local) → IsStarted (emptying l)
starts-emptying l = starts-emptying_by l (newest_of l.heap.cached)

pub starts-bins_swept : (l : Local) (cleanup : Cleanup) → IsStarted (bins_swept l cleanup)
starts-bins_swept l Cleanup.Regular = starts-swept l Cleanup.Regular
starts-bins_swept l Cleanup.Soft = starts-swept l Cleanup.Soft
starts-bins_swept l Cleanup.Hard = starts-emptying l

pub starts-next_bin : (l : Local) → IsStarted (next_bin l)
starts-next_bin l = either (ltb l.sweep.granules last_cache_bin) _ _ tt (starts-bins_swept l l.sweep.cleanup)

pub starts-releasing_by : (l : Local) (one : Option ℕ) → IsStarted (releasing_by l one)
starts-releasing_by l (Some block) = tt
starts-releasing_by l None = starts-next_bin l

pub starts-releasing : (l : Local) → IsStarted (releasing l)
starts-releasing l = starts-releasing_by l (newest_of l.released)

pub starts-kept_as : (l : Local) (one : Option ℕ) → IsStarted (kept_as l one)
starts-kept_as l (Some block) = tt
starts-kept_as l None = starts-ticked l

pub starts-tick_at : (l : Local) (stage : Stage) → IsStarted (tick_at l stage)
starts-tick_at l Stage.Getting = tt
starts-tick_at l Stage.Idle = tt
starts-tick_at l Stage.Looking = tt
starts-tick_at l Stage.Ending = tt
starts-tick_at l Stage.Replacing = tt
starts-tick_at l Stage.Undoing = tt
starts-tick_at l Stage.Leaving = tt
starts-tick_at l (Stage.Resetting stage) = tt

starts-object_at : (l : Local) (slab : ℕ) (one : Option ℕ) (unit : ℕ) → head_at l slab ≡ one → unit ≡ rest_at l slab
    → IsStarted (object_at l slab one unit)
starts-object_at l slab (Some head) unit is rest = is
starts-object_at l slab None unit is rest = (is, rest)

starts-object_in : (l : Local) (slab : ℕ) (found : Option HeapSlab) → record_at l.heap.slabs.records slab ≡ found
    → IsStarted (object_in l slab found)
starts-object_in l slab (Some kept) is =
    starts-object_at l slab kept.head (unit_of slab kept.class kept.handed) (ap head_of is) (sym (ap (rest_in slab) is))
starts-object_in l slab None is = starts-object_at l slab None 0 (ap head_of is) (sym (ap (rest_in slab) is))

pub starts-located_as : (l : Local) (region : ℕ) (base : ℕ) (served : Served)
    → IsStarted (located_as l region base served)
starts-located_as l region base (Served.Small class) = starts-object_in l l.call.slab
    (record_at l.heap.slabs.records l.call.slab) refl
starts-located_as l region base (Served.Large granules alignment) = tt

pub starts-slot_looked : (l : Local) (slot : ℕ) (region : ℕ) → IsStarted (slot_looked l slot region)
starts-slot_looked l slot region = either (has_granule (region_of region) (located_index l l.call.served)) _ _ tt
    (either (ltb slot last_slot) _ _ tt tt)

pub starts-locate_learn : (l : Local) (at : LocateAt) (f : ℕ) → IsStarted (locate_learn l at f)
starts-locate_learn l (LocateAt.Region slot) f = starts-slot_looked l slot f
starts-locate_learn l (LocateAt.Base slot region) f = starts-located_as
    (record l { call = record l.call { region = region } }) region f l.call.served

pub starts-held_as : (l : Local) (base : ℕ) (request : Request) → IsStarted (held_as l base request)
starts-held_as l base (Request.Msize place) = tt
starts-held_as l base (Request.Identify place) = tt
starts-held_as l base (Request.Realloc place size) = starts-decided l size None base
starts-held_as l base (Request.AlignedRealloc place size alignment) = starts-decided l size (Some alignment) base
starts-held_as l base (Request.Malloc size) = refl
starts-held_as l base (Request.Aligned size alignment) = refl
starts-held_as l base (Request.Free place) = refl
starts-held_as l base Request.Exit = refl

pub starts-held : (l : Local) (base : ℕ) → IsStarted (held l base)
starts-held l base = starts-held_as l base l.call.request

pub starts-freed_slab : (l : Local) (slab : ℕ) (kept : HeapSlab) → IsStarted (freed_slab l slab kept)
starts-freed_slab l slab kept = let l' : Local = record l
    { heap = record l.heap { slabs = after_replace l.heap.slabs kept } } in either (is_unused kept) _ _ tt tt

pub starts-freed_in : (l : Local) (unit : ℕ) (slab : ℕ) (found : Option HeapSlab)
    → IsStarted (freed_in l unit slab found)
starts-freed_in l unit slab (Some kept) = starts-freed_slab l slab (after_free kept unit)
starts-freed_in l unit slab None = tt

pub starts-freed_at : (l : Local) (unit : ℕ) (slab : ℕ) → IsStarted (freed_at l unit slab)
starts-freed_at l unit slab = starts-freed_in l unit slab (record_at l.heap.slabs.records slab)

pub starts-freed_own : (l : Local) → IsStarted (freed_own l)
starts-freed_own l = starts-freed_at l (ended_object l).unit (slab_of (ended_object l).unit)

-- a job of the cache goes on, waits, or is done
pub starts-get_as : (l : Local) (at : GetAt) (next : GetNext) → IsStarted (get_as l at next)
starts-get_as l at (GetNext.Goes next) = tt
starts-get_as l at GetNext.Waits = tt
starts-get_as l at (GetNext.Took block) = starts-ticked (record l {
  call = record l.call {
    missed = false;
    block = record { first = block; granules = granules_of_served l.call.served };
  };
})
starts-get_as l at GetNext.Missed = starts-ticked (record l { call = record l.call { missed = true } })

pub starts-undo_as : (l : Local) (cause : NullCause) (at : UndoAt) (next : UndoNext)
    → IsStarted (undo_as l cause at next)
starts-undo_as l cause at (UndoNext.Goes next) = tt
starts-undo_as l cause at UndoNext.Waits = tt
starts-undo_as l cause at UndoNext.Undone = tt

pub starts-keep_as : (l : Local) (at : KeepAt) (next : KeepNext) → IsStarted (keep_as l at next)
starts-keep_as l at (KeepNext.Goes next) = tt
starts-keep_as l at KeepNext.Waits = tt
starts-keep_as l at (KeepNext.Kept released) = starts-kept_as l released

pub starts-swept_as : (l : Local) (at : SweepAt) (next : SweepNext) → IsStarted (swept_as l at next)
starts-swept_as l at (SweepNext.Goes next) = tt
starts-swept_as l at (SweepNext.Stays next) = tt
starts-swept_as l at (SweepNext.Stale block next) = tt
starts-swept_as l at SweepNext.Waits = tt
starts-swept_as l at (SweepNext.Began time) = tt
starts-swept_as l at SweepNext.Passed = starts-next_bin l
starts-swept_as l at SweepNext.Swept = starts-releasing l

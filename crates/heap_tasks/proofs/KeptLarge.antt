-- A call that goes on with large objects, and with looks, changes no slab by that.
use Rattle.std.proofs.Common.{eqb, true, false, refl, ℕ}
use Rattle.std.specs.Prelude.{None, Option, Some, ltb, ◌%◌}
use Rattle.heap_slabs.specs.Records.{after_free, is_unused, unit_of}
use Rattle.heap_slabs.specs.Rolls.{newest_of}
use Rattle.heap_slabs.specs.Slabs.{after_replace, first_from, record_at}
use Rattle.heap_slabs.specs.declared.records.HeapSlab.{HeapSlab}
use Rattle.heap_slabs.specs.declared.slabs.Wanted.{Wanted}
use Rattle.large_cache.specs.declared.sweep.Cleanup.{Cleanup}
use Rattle.pool_types.specs.declared.values.NullCause.{NullCause}
use Rattle.pool_types.specs.declared.values.Request.{Request}
use Rattle.step_local.specs.Answers.{ended_object, slab_of}
use Rattle.step_local.specs.Getting.{decided, get_or, getting, getting_as, getting_or_null, refusal_of, served_as}
use Rattle.step_local.specs.Getting.{stays}
use Rattle.step_local.specs.Large.{bins_swept, cached, cached_at, cleanup_ticks, emptying, emptying_by}
use Rattle.step_local.specs.Large.{got_block, kept_as}
use Rattle.step_local.specs.Frames.{last_cache_bin}
use Rattle.step_local.specs.Large.{last_slot, locate_learn, located_as, located_index, next_bin}
use Rattle.step_local.specs.Large.{object_at, object_in, releasing, releasing_by, slot_looked}
use Rattle.step_local.specs.Large.{swept, tick_at, ticked}
use Rattle.step_local.specs.Large.{unused_next}
use Rattle.step_local.specs.Objects.{freed_in, freed_own, freed_slab, held, held_as}
use Rattle.step_local.specs.declared.frames.Local.{Local}
use Rattle.step_local.specs.declared.frames.LocateAt.{LocateAt}
use Rattle.step_local.specs.declared.frames.Served.{Served}
use Rattle.step_local.specs.declared.frames.Stage.{Stage}
use Rattle.large_cache.specs.declared.get.GetAt.{GetAt}
use Rattle.large_cache.specs.declared.get.GetNext.{GetNext}
use Rattle.large_cache.specs.declared.keep.KeepAt.{KeepAt}
use Rattle.large_cache.specs.declared.keep.KeepNext.{KeepNext}
use Rattle.large_cache.specs.declared.sweep.SweepAt.{SweepAt}
use Rattle.large_cache.specs.declared.sweep.SweepNext.{SweepNext}
use Rattle.large_cache.specs.declared.undo.UndoAt.{UndoAt}
use Rattle.large_cache.specs.declared.undo.UndoNext.{UndoNext}
use Rattle.step_local.specs.Large.{get_as, granules_of_served, keep_as, swept_as, undo_as}
use Rattle.heap_tasks.specs.Heaps.{HeapIs, cached_of, kept_ended, last_of}
use Rattle.public_list.specs.declared.ending.EndNext.{EndNext}
use Rattle.heap_slabs.specs.Slabs.{free_by}
use Rattle.heap_tasks.proofs.Kept.{either, Keeps}
use Rattle.heap_tasks.proofs.KeptSmall.{keeps-getting_small}
use Rattle.word_codes.specs.RegionWords.{has_granule, region_of}

pub keeps-getting : (l : Local) (served : Served) → Keeps l (getting l served)
keeps-getting l (Served.Small class) = keeps-getting_small (getting_as l (Served.Small class)) class
keeps-getting l (Served.Large granules alignment) = (refl, refl, refl)

pub keeps-get_or : (l : Local) (wanted : Option Served) (cause : Option NullCause) → Keeps l (get_or l wanted cause)
keeps-get_or l wanted (Some cause) = (refl, refl, refl)
keeps-get_or l (Some served) None = keeps-getting l served
keeps-get_or l None None = (refl, refl, refl)

pub keeps-getting_or_null : (l : Local) (wanted : Option Served) → Keeps l (getting_or_null l wanted)
keeps-getting_or_null l wanted = keeps-get_or l wanted (refusal_of l wanted)

pub keeps-decided : (l : Local) (size : ℕ) (alignment : Option ℕ) (base : ℕ)
    → Keeps l (decided l size alignment base)
keeps-decided l size alignment base = either l (eqb size 0) _ _ (refl, refl, refl)
    (either l (stays l size alignment base) _ _ (refl, refl, refl) (keeps-getting_or_null l
    (served_as size alignment)))

pub keeps-got_block : (l : Local) → Keeps l (got_block l)
keeps-got_block l = either l l.call.missed _ _ (refl, refl, refl) (refl, refl, refl)

pub keeps-cached_at : (l : Local) (stage : Stage) → Keeps l (cached_at l stage)
keeps-cached_at l Stage.Getting = keeps-got_block l
keeps-cached_at l _ = (refl, refl, refl)

pub keeps-cached : (l : Local) → Keeps l (cached l)
keeps-cached l = keeps-cached_at l l.call.stage

pub keeps-ticked : (l : Local) → Keeps l (ticked l)
keeps-ticked l = either l (eqb (l.call.time % cleanup_ticks) 0) _ _ (refl, refl, refl) (keeps-cached l)

pub keeps-swept : (l : Local) (cleanup : Cleanup) → Keeps l (swept l cleanup)
keeps-swept l Cleanup.Regular = keeps-cached l
keeps-swept l Cleanup.Soft = (refl, refl, refl)
keeps-swept l Cleanup.Hard = (refl, refl, refl)

pub keeps-unused_next : (l : Local) (found : Option HeapSlab) → Keeps l (unused_next l found)
keeps-unused_next l (Some kept) = (refl, refl, refl)
keeps-unused_next l None = keeps-swept l l.sweep.cleanup

pub keeps-emptying_by : (l : Local) (one : Option ℕ) → Keeps l (emptying_by l one)
keeps-emptying_by l (Some slab) = (refl, refl, refl)
keeps-emptying_by l None = keeps-unused_next l (first_from Wanted.Unused l.heap.slabs 0)

pub keeps-emptying : (l : Local) → Keeps l (emptying l)
keeps-emptying l = keeps-emptying_by l (newest_of l.heap.cached)

pub keeps-bins_swept : (l : Local) (cleanup : Cleanup) → Keeps l (bins_swept l cleanup)
keeps-bins_swept l Cleanup.Regular = keeps-swept l Cleanup.Regular
keeps-bins_swept l Cleanup.Soft = keeps-swept l Cleanup.Soft
keeps-bins_swept l Cleanup.Hard = keeps-emptying l

pub keeps-next_bin : (l : Local) → Keeps l (next_bin l)
keeps-next_bin l =
    either l (ltb l.sweep.granules last_cache_bin) _ _ (refl, refl, refl) (keeps-bins_swept l l.sweep.cleanup)

pub keeps-releasing_by : (l : Local) (one : Option ℕ) → Keeps l (releasing_by l one)
keeps-releasing_by l (Some block) = (refl, refl, refl)
keeps-releasing_by l None = keeps-next_bin l

pub keeps-releasing : (l : Local) → Keeps l (releasing l)
keeps-releasing l = keeps-releasing_by l (newest_of l.released)

pub keeps-kept_as : (l : Local) (one : Option ℕ) → Keeps l (kept_as l one)
keeps-kept_as l (Some block) = (refl, refl, refl)
keeps-kept_as l None = keeps-ticked l

pub keeps-tick_at : (l : Local) (stage : Stage) → Keeps l (tick_at l stage)
keeps-tick_at l Stage.Idle = (refl, refl, refl)
keeps-tick_at l _ = (refl, refl, refl)

keeps-object_at : (l : Local) (slab : ℕ) (one : Option ℕ) (unit : ℕ) → Keeps l (object_at l slab one unit)
keeps-object_at l slab (Some head) unit = (refl, refl, refl)
keeps-object_at l slab None unit = (refl, refl, refl)

keeps-object_in : (l : Local) (slab : ℕ) (found : Option HeapSlab) → Keeps l (object_in l slab found)
keeps-object_in l slab (Some kept) = keeps-object_at l slab kept.head (unit_of slab kept.class kept.handed)
keeps-object_in l slab None = (refl, refl, refl)

pub keeps-located_as : (l : Local) (region : ℕ) (base : ℕ) (served : Served)
    → Keeps l (located_as l region base served)
keeps-located_as l region base (Served.Small class) =
    keeps-object_in l l.call.slab (record_at l.heap.slabs.records l.call.slab)
keeps-located_as l region base (Served.Large granules alignment) = (refl, refl, refl)

pub keeps-slot_looked : (l : Local) (slot : ℕ) (region : ℕ) → Keeps l (slot_looked l slot region)
keeps-slot_looked l slot region =
    either l (has_granule (region_of region) (located_index l l.call.served)) _ _ (refl, refl, refl)
    (either l (ltb slot last_slot) _ _ (refl, refl, refl) (refl, refl, refl))

pub keeps-locate_learn : (l : Local) (at : LocateAt) (f : ℕ) → Keeps l (locate_learn l at f)
keeps-locate_learn l (LocateAt.Region slot) f = keeps-slot_looked l slot f
keeps-locate_learn l (LocateAt.Base slot region) f = keeps-located_as
    (record l { call = record l.call { region = region } }) region f l.call.served

pub keeps-held_as : (l : Local) (base : ℕ) (request : Request) → Keeps l (held_as l base request)
keeps-held_as l base (Request.Msize place) = (refl, refl, refl)
keeps-held_as l base (Request.Identify place) = (refl, refl, refl)
keeps-held_as l base (Request.Realloc place size) = keeps-decided l size None base
keeps-held_as l base (Request.AlignedRealloc place size alignment) = keeps-decided l size (Some alignment) base
keeps-held_as l base (Request.Malloc size) = (refl, refl, refl)
keeps-held_as l base (Request.Aligned size alignment) = (refl, refl, refl)
keeps-held_as l base (Request.Free place) = (refl, refl, refl)
keeps-held_as l base Request.Exit = (refl, refl, refl)

pub keeps-held : (l : Local) (base : ℕ) → Keeps l (held l base)
keeps-held l base = keeps-held_as l base l.call.request

-- the grant of an object in a slab that the heap keeps is ended
freed_slab_turn : (l : Local) (slab : ℕ) (kept : HeapSlab) → HeapIs (freed_slab l slab kept).0
    (after_replace l.heap.slabs kept) (cached_of l) (last_of l)
freed_slab_turn l slab kept =
    let l' : Local = record l { heap = record l.heap { slabs = after_replace l.heap.slabs kept } } in
    either l' (is_unused kept) _ _ (refl, refl, refl) (refl, refl, refl)

freed_turn : (l : Local) (unit slab : ℕ) (found : Option HeapSlab)
    → HeapIs (freed_in l unit slab found).0 (free_by l.heap.slabs unit found) (cached_of l) (last_of l)
freed_turn l unit slab (Some kept) = freed_slab_turn l slab (after_free kept unit)
freed_turn l unit slab None = (refl, refl, refl)

pub freed_own_turn : (l : Local) → HeapIs (freed_own l).0 (kept_ended l EndNext.Own) (cached_of l) (last_of l)
freed_own_turn l = let unit : ℕ = (ended_object l).unit in
    freed_turn l unit (slab_of unit) (record_at l.heap.slabs.records (slab_of unit))

-- a job of the cache goes on, waits, or is done
pub keeps-get_as : (l : Local) (at : GetAt) (next : GetNext) → Keeps l (get_as l at next)
keeps-get_as l at (GetNext.Goes next) = (refl, refl, refl)
keeps-get_as l at GetNext.Waits = (refl, refl, refl)
keeps-get_as l at (GetNext.Took block) = keeps-ticked (record l {
  call = record l.call {
    missed = false;
    block = record { first = block; granules = granules_of_served l.call.served };
  };
})
keeps-get_as l at GetNext.Missed = keeps-ticked (record l { call = record l.call { missed = true } })

pub keeps-undo_as : (l : Local) (cause : NullCause) (at : UndoAt) (next : UndoNext)
    → Keeps l (undo_as l cause at next)
keeps-undo_as l cause at (UndoNext.Goes next) = (refl, refl, refl)
keeps-undo_as l cause at UndoNext.Waits = (refl, refl, refl)
keeps-undo_as l cause at UndoNext.Undone = (refl, refl, refl)

pub keeps-keep_as : (l : Local) (at : KeepAt) (next : KeepNext) → Keeps l (keep_as l at next)
keeps-keep_as l at (KeepNext.Goes next) = (refl, refl, refl)
keeps-keep_as l at KeepNext.Waits = (refl, refl, refl)
keeps-keep_as l at (KeepNext.Kept released) = keeps-kept_as l released

pub keeps-swept_as : (l : Local) (at : SweepAt) (next : SweepNext) → Keeps l (swept_as l at next)
keeps-swept_as l at (SweepNext.Goes next) = (refl, refl, refl)
keeps-swept_as l at (SweepNext.Stays next) = (refl, refl, refl)
keeps-swept_as l at (SweepNext.Stale block next) = (refl, refl, refl)
keeps-swept_as l at SweepNext.Waits = (refl, refl, refl)
keeps-swept_as l at (SweepNext.Began time) = (refl, refl, refl)
keeps-swept_as l at SweepNext.Passed = keeps-next_bin l
keeps-swept_as l at SweepNext.Swept = keeps-releasing l

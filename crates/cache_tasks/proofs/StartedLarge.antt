-- Where a call goes on with large objects, with looks and with ends of grants, a job may begin.
use Rattle.std.proofs.Common.{◌≡◌, eqb, refl, ℕ}
use Rattle.std.specs.Prelude.{None, Option, Some, ltb, ◌%◌}
use Rattle.heap_slabs.specs.Records.{after_free, is_unused, unit_of}
use Rattle.heap_slabs.specs.Rolls.{newest_of}
use Rattle.heap_slabs.specs.Slabs.{first_from, record_at}
use Rattle.heap_slabs.specs.declared.records.HeapSlab.{HeapSlab}
use Rattle.heap_slabs.specs.declared.slabs.Wanted.{Wanted}
use Rattle.large_cache.specs.declared.sweep.Cleanup.{Cleanup}
use Rattle.pool_types.specs.declared.values.NullCause.{NullCause}
use Rattle.pool_types.specs.declared.values.Request.{Request}
use Rattle.step_local.specs.Answers.{ended_object, slab_of}
use Rattle.step_local.specs.Getting.{decided, get_or, getting, getting_as, getting_or_null, refusal_of, served_as}
use Rattle.step_local.specs.Getting.{stays}
use Rattle.step_local.specs.Large.{bins_swept, cached, cached_at, cleanup_ticks, emptying, emptying_by}
use Rattle.step_local.specs.Large.{got_block, kept_as}
use Rattle.step_local.specs.Frames.{last_cache_bin}
use Rattle.step_local.specs.Large.{last_slot, locate_learn, located_as, located_index, next_bin}
use Rattle.step_local.specs.Large.{object_at, object_in, releasing, releasing_by, slot_looked}
use Rattle.step_local.specs.Large.{swept, tick_at, ticked}
use Rattle.step_local.specs.Large.{unused_next}
use Rattle.step_local.specs.Objects.{freed_at, freed_in, freed_own, freed_slab, held, held_as}
use Rattle.step_local.specs.declared.frames.Local.{Local}
use Rattle.step_local.specs.declared.frames.LocateAt.{LocateAt}
use Rattle.step_local.specs.declared.frames.Served.{Served}
use Rattle.step_local.specs.declared.frames.Stage.{Stage}
use Rattle.cache_tasks.proofs.StartedSmall.{IsStarted, starts-getting_small, either, kept_oldest, same}
use Rattle.word_codes.specs.RegionWords.{has_granule, region_of}

pub starts-getting : (l : Local) (served : Served) → IsStarted l (getting l served)
starts-getting l (Served.Small class) = starts-getting_small (getting_as l (Served.Small class)) class
starts-getting l (Served.Large granules alignment) = (tt, same l.released)

pub starts-get_or : (l : Local) (wanted : Option Served) (cause : Option NullCause)
    → IsStarted l (get_or l wanted cause)
starts-get_or l wanted (Some cause) = (tt, same l.released)
starts-get_or l (Some served) None = starts-getting l served
starts-get_or l None None = (tt, same l.released)

pub starts-getting_or_null : (l : Local) (wanted : Option Served) → IsStarted l (getting_or_null l wanted)
starts-getting_or_null l wanted = starts-get_or l wanted (refusal_of l wanted)

pub starts-decided : (l : Local) (size : ℕ) (alignment : Option ℕ) (base : ℕ)
    → IsStarted l (decided l size alignment base)
starts-decided l size alignment base = either l (eqb size 0) _ _ (tt, same l.released)
    (either l (stays l size alignment base) _ _ (tt, same l.released)
    (starts-getting_or_null l (served_as size alignment)))

pub starts-got_block : (l : Local) → IsStarted l (got_block l)
starts-got_block l = either l l.call.missed _ _ (tt, same l.released) (tt, same l.released)

pub starts-cached_at : (l : Local) (stage : Stage) → IsStarted l (cached_at l stage)
starts-cached_at l Stage.Getting = starts-got_block l
starts-cached_at l Stage.Idle = (tt, same l.released)
starts-cached_at l Stage.Looking = (tt, same l.released)
starts-cached_at l Stage.Ending = (tt, same l.released)
starts-cached_at l Stage.Replacing = (tt, same l.released)
starts-cached_at l Stage.Undoing = (tt, same l.released)
starts-cached_at l Stage.Leaving = (tt, same l.released)
starts-cached_at l (Stage.Resetting stage) = (tt, same l.released)

pub starts-cached : (l : Local) → IsStarted l (cached l)
starts-cached l = starts-cached_at l l.call.stage

pub starts-ticked : (l : Local) → IsStarted l (ticked l)
starts-ticked l = either l (eqb (l.call.time % cleanup_ticks) 0) _ _ (tt, same l.released) (starts-cached l)

pub starts-swept : (l : Local) (cleanup : Cleanup) → IsStarted l (swept l cleanup)
starts-swept l Cleanup.Regular = starts-cached l
starts-swept l Cleanup.Soft = (tt, same l.released)
starts-swept l Cleanup.Hard = (tt, same l.released)

pub starts-unused_next : (l : Local) (found : Option HeapSlab) → IsStarted l (unused_next l found)
starts-unused_next l (Some kept) = (tt, same l.released)
starts-unused_next l None = starts-swept l l.sweep.cleanup

pub starts-emptying_by : (l : Local) (one : Option ℕ) → IsStarted l (emptying_by l one)
starts-emptying_by l (Some slab) = (tt, same l.released)
starts-emptying_by l None = starts-unused_next l (first_from Wanted.Unused l.heap.slabs 0)

pub starts-emptying : (l : Local) → IsStarted l (emptying l)
starts-emptying l = starts-emptying_by l (newest_of l.heap.cached)

pub starts-bins_swept : (l : Local) (cleanup : Cleanup) → IsStarted l (bins_swept l cleanup)
starts-bins_swept l Cleanup.Regular = starts-swept l Cleanup.Regular
starts-bins_swept l Cleanup.Soft = starts-swept l Cleanup.Soft
starts-bins_swept l Cleanup.Hard = starts-emptying l

pub starts-next_bin : (l : Local) → IsStarted l (next_bin l)
starts-next_bin l = either l (ltb l.sweep.granules last_cache_bin) _ _ (tt, same l.released)
    (starts-bins_swept l l.sweep.cleanup)

pub starts-releasing_by : (l : Local) (one : Option ℕ) → IsStarted l (releasing_by l one)
starts-releasing_by l (Some block) = (tt, kept_oldest l.released)
starts-releasing_by l None = starts-next_bin l

pub starts-releasing : (l : Local) → IsStarted l (releasing l)
starts-releasing l = starts-releasing_by l (newest_of l.released)

pub starts-kept_as : (l : Local) (one : Option ℕ) → IsStarted l (kept_as l one)
starts-kept_as l (Some block) = (tt, same l.released)
starts-kept_as l None = starts-ticked l

pub starts-tick_at : (l : Local) (stage : Stage) → l.call.stage ≡ stage → IsStarted l (tick_at l stage)
starts-tick_at l Stage.Getting is = ((refl, is), same l.released)
starts-tick_at l Stage.Idle is = (refl, same l.released)
starts-tick_at l Stage.Looking is = (refl, same l.released)
starts-tick_at l Stage.Ending is = (refl, same l.released)
starts-tick_at l Stage.Replacing is = (refl, same l.released)
starts-tick_at l Stage.Undoing is = (refl, same l.released)
starts-tick_at l Stage.Leaving is = (refl, same l.released)
starts-tick_at l (Stage.Resetting stage) is = (refl, same l.released)

starts-object_at : (l : Local) (slab : ℕ) (one : Option ℕ) (unit : ℕ) → IsStarted l (object_at l slab one unit)
starts-object_at l slab (Some head) unit = (tt, same l.released)
starts-object_at l slab None unit = (tt, same l.released)

starts-object_in : (l : Local) (slab : ℕ) (found : Option HeapSlab) → IsStarted l (object_in l slab found)
starts-object_in l slab (Some kept) =
    starts-object_at l slab kept.head (unit_of slab kept.class kept.handed)
starts-object_in l slab None = starts-object_at l slab None 0

pub starts-located_as : (l : Local) (region : ℕ) (base : ℕ) (served : Served)
    → IsStarted l (located_as l region base served)
starts-located_as l region base (Served.Small class) =
    starts-object_in l l.call.slab (record_at l.heap.slabs.records l.call.slab)
starts-located_as l region base (Served.Large granules alignment) = (tt, same l.released)

pub starts-slot_looked : (l : Local) (slot : ℕ) (region : ℕ) → IsStarted l (slot_looked l slot region)
starts-slot_looked l slot region = either l (has_granule (region_of region) (located_index l l.call.served)) _ _
    (tt, same l.released)
    (either l (ltb slot last_slot) _ _ (tt, same l.released) (tt, same l.released))

pub starts-locate_learn : (l : Local) (at : LocateAt) (f : ℕ) → IsStarted l (locate_learn l at f)
starts-locate_learn l (LocateAt.Region slot) f = starts-slot_looked l slot f
starts-locate_learn l (LocateAt.Base slot region) f = starts-located_as
    (record l { call = record l.call { region = region } }) region f l.call.served

pub starts-held_as : (l : Local) (base : ℕ) (request : Request) → IsStarted l (held_as l base request)
starts-held_as l base (Request.Msize place) = (tt, same l.released)
starts-held_as l base (Request.Identify place) = (tt, same l.released)
starts-held_as l base (Request.Realloc place size) = starts-decided l size None base
starts-held_as l base (Request.AlignedRealloc place size alignment) = starts-decided l size (Some alignment) base
starts-held_as l base (Request.Malloc size) = (tt, same l.released)
starts-held_as l base (Request.Aligned size alignment) = (tt, same l.released)
starts-held_as l base (Request.Free place) = (tt, same l.released)
starts-held_as l base Request.Exit = (tt, same l.released)

pub starts-held : (l : Local) (base : ℕ) → IsStarted l (held l base)
starts-held l base = starts-held_as l base l.call.request

pub starts-freed_slab : (l : Local) (slab : ℕ) (kept : HeapSlab) → IsStarted l (freed_slab l slab kept)
starts-freed_slab l slab kept = either l (is_unused kept) _ _ (tt, same l.released) (tt, same l.released)

pub starts-freed_in : (l : Local) (unit : ℕ) (slab : ℕ) (found : Option HeapSlab)
    → IsStarted l (freed_in l unit slab found)
starts-freed_in l unit slab (Some kept) = starts-freed_slab l slab (after_free kept unit)
starts-freed_in l unit slab None = (tt, same l.released)

pub starts-freed_at : (l : Local) (unit : ℕ) (slab : ℕ) → IsStarted l (freed_at l unit slab)
starts-freed_at l unit slab = starts-freed_in l unit slab (record_at l.heap.slabs.records slab)

pub starts-freed_own : (l : Local) → IsStarted l (freed_own l)
starts-freed_own l = starts-freed_at l (ended_object l).unit (slab_of (ended_object l).unit)

-- Where a call goes on with large objects and with cleanups: what it owes stays.
use Rattle.std.proofs.Common.{◌≡◌, ℕ, true, false, refl, ap, ◌∙◌}
use Rattle.std.specs.Prelude.{None, Option, Some, eqb, ltb, ◌%◌, ◌+◌, ◌^◌}
use Rattle.heap_slabs.specs.Records.{unit_of}
use Rattle.heap_slabs.specs.Rolls.{newest_of}
use Rattle.heap_slabs.specs.Slabs.{first_from, record_at}
use Rattle.heap_slabs.specs.declared.records.HeapSlab.{HeapSlab}
use Rattle.heap_slabs.specs.declared.slabs.Wanted.{Wanted}
use Rattle.large_cache.specs.Get.{get_learn}
use Rattle.large_cache.specs.Keep.{keep_learn}
use Rattle.large_cache.specs.Sweep.{sweep_learn}
use Rattle.large_cache.specs.Undo.{undo_learn}
use Rattle.large_cache.specs.declared.get.GetAt.{GetAt}
use Rattle.large_cache.specs.declared.get.GetNext.{GetNext}
use Rattle.large_cache.specs.declared.keep.KeepAt.{KeepAt}
use Rattle.large_cache.specs.declared.keep.KeepNext.{KeepNext}
use Rattle.large_cache.specs.declared.sweep.Cleanup.{Cleanup}
use Rattle.large_cache.specs.declared.sweep.SweepAt.{SweepAt}
use Rattle.large_cache.specs.declared.sweep.SweepNext.{SweepNext}
use Rattle.large_cache.specs.declared.undo.UndoAt.{UndoAt}
use Rattle.large_cache.specs.declared.undo.UndoNext.{UndoNext}
use Rattle.pool_types.specs.declared.values.NullCause.{NullCause}
use Rattle.pool_types.specs.declared.values.Request.{Request}
use Rattle.step_local.specs.Frames.{last_cache_bin}
use Rattle.step_local.specs.Large.{bins_swept, cached, cached_at, cleanup_ticks, emptying, emptying_by, get_as}
use Rattle.step_local.specs.Large.{get_learn_of, got_block, granules_of_served, keep_as, keep_learn_of, kept_as}
use Rattle.step_local.specs.Large.{last_slot, locate_learn, located_as, located_index, next_bin, object_at, object_in}
use Rattle.step_local.specs.Large.{releasing, releasing_by, slot_looked, sweep_call, sweep_learn_of, swept, swept_as}
use Rattle.step_local.specs.Large.{tick_at, ticked, undo_as, undo_learn_of, unused_next}
use Rattle.step_local.specs.declared.frames.Local.{Local}
use Rattle.step_local.specs.declared.frames.LocateAt.{LocateAt}
use Rattle.step_local.specs.declared.frames.Served.{Served}
use Rattle.step_local.specs.declared.frames.Stage.{Stage}
use Rattle.word_codes.specs.RegionWords.{has_granule, region_of}
use Rattle.path_laws.proofs.Fits.{Faces, Rests, either, fits_undo, is_emptying, is_ending, is_getting, is_giving}
use Rattle.path_laws.proofs.Fits.{is_other_null, is_regular, is_sweeping, is_working, on}
use Rattle.path_laws.proofs.Paying.{nothing_got, null_pays, rests-ended}
use Rattle.path_laws.proofs.Small.{giving_to_get}

-- the stages of these are among each other's
pub sweeping_to_get : (s : Stage) (r : Request) (cleanup : Cleanup) → is_getting s ≡ true
    → is_sweeping s r cleanup ≡ true
sweeping_to_get Stage.Getting r cleanup e = refl
sweeping_to_get _ r cleanup e = absurd (cc)

pub working_to_end : (s : Stage) (r : Request) → is_ending s r ≡ true → is_working s r ≡ true
working_to_end Stage.Ending r e = e
working_to_end Stage.Replacing r e = e
working_to_end Stage.Undoing r e = e
working_to_end _ r e = absurd (cc)

getting_to_sweep : (s : Stage) (r : Request) (cleanup : Cleanup) → is_regular cleanup ≡ false
    → is_sweeping s r cleanup ≡ true → is_getting s ≡ true
getting_to_sweep Stage.Getting r cleanup deep e = refl
getting_to_sweep Stage.Ending r Cleanup.Regular deep e = absurd (cc)
getting_to_sweep Stage.Replacing r Cleanup.Regular deep e = absurd (cc)
getting_to_sweep Stage.Undoing r Cleanup.Regular deep e = absurd (cc)
getting_to_sweep _ r cleanup deep e = absurd (cc)

emptying_to_get : (s : Stage) (r : Request) → is_getting s ≡ true → is_emptying s r ≡ true
emptying_to_get Stage.Getting r e = refl
emptying_to_get _ r e = absurd (cc)

rests-got_block : (l : Local) (e : is_getting l.call.stage ≡ true) → Rests l (got_block l)
rests-got_block l e = either l l.call.missed _ _ (on l (is_getting l.call.stage) e) (on l (is_getting l.call.stage) e)

rests-cached_at : (l : Local) (f : Faces l) (s : Stage) → l.call.stage ≡ s → is_working s l.call.request ≡ true
    → Rests l (cached_at l s)
rests-cached_at l f Stage.Getting is e = rests-got_block l (ap is_getting is)
rests-cached_at l f Stage.Ending is e =
    rests-ended l (ap (λ (s : Stage). is_ending s l.call.request) is ∙ e) f
rests-cached_at l f Stage.Replacing is e =
    rests-ended l (ap (λ (s : Stage). is_ending s l.call.request) is ∙ e) f
rests-cached_at l f Stage.Undoing is e =
    rests-ended l (ap (λ (s : Stage). is_ending s l.call.request) is ∙ e) f
rests-cached_at l f _ is e = absurd (cc)

rests-cached : (l : Local) (f : Faces l) (e : is_working l.call.stage l.call.request ≡ true) → Rests l (cached l)
rests-cached l f e = rests-cached_at l f l.call.stage refl e

pub rests-ticked : (l : Local) (f : Faces l) (e : is_working l.call.stage l.call.request ≡ true) → Rests l (ticked l)
rests-ticked l f e = either l (eqb (l.call.time % cleanup_ticks) 0) _ _
    (on l (is_sweeping l.call.stage l.call.request Cleanup.Regular) e) (rests-cached l f e)

rests-swept : (l : Local) (f : Faces l) (cleanup : Cleanup) → is_sweeping l.call.stage l.call.request cleanup ≡ true
    → Rests l (swept l cleanup)
rests-swept l f Cleanup.Regular e = rests-cached l f e
rests-swept l f Cleanup.Soft e =
    on l (is_getting l.call.stage) (getting_to_sweep l.call.stage l.call.request Cleanup.Soft refl e)
rests-swept l f Cleanup.Hard e =
    on l (is_getting l.call.stage) (getting_to_sweep l.call.stage l.call.request Cleanup.Hard refl e)

rests-unused_next : (l : Local) (f : Faces l) (e : is_getting l.call.stage ≡ true) (found : Option HeapSlab)
    → Rests l (unused_next l found)
rests-unused_next l f e (Some kept) =
    on l (is_emptying l.call.stage l.call.request) (emptying_to_get l.call.stage l.call.request e)
rests-unused_next l f e None = rests-swept l f l.sweep.cleanup
    (sweeping_to_get l.call.stage l.call.request l.sweep.cleanup e)

rests-emptying_by : (l : Local) (f : Faces l) (e : is_getting l.call.stage ≡ true) (one : Option ℕ)
    → Rests l (emptying_by l one)
rests-emptying_by l f e (Some slab) = on l (is_giving l.call.stage) (giving_to_get l.call.stage e)
rests-emptying_by l f e None = rests-unused_next l f e (first_from Wanted.Unused l.heap.slabs 0)

pub rests-emptying : (l : Local) (f : Faces l) (e : is_getting l.call.stage ≡ true) → Rests l (emptying l)
rests-emptying l f e = rests-emptying_by l f e (newest_of l.heap.cached)

rests-bins_swept : (l : Local) (f : Faces l) (cleanup : Cleanup)
    → is_sweeping l.call.stage l.call.request cleanup ≡ true → Rests l (bins_swept l cleanup)
rests-bins_swept l f Cleanup.Regular e = rests-swept l f Cleanup.Regular e
rests-bins_swept l f Cleanup.Soft e = rests-swept l f Cleanup.Soft e
rests-bins_swept l f Cleanup.Hard e =
    rests-emptying l f (getting_to_sweep l.call.stage l.call.request Cleanup.Hard refl e)

rests-next_bin : (l : Local) (f : Faces l) (e : is_sweeping l.call.stage l.call.request l.sweep.cleanup ≡ true)
    → Rests l (next_bin l)
rests-next_bin l f e = either l (ltb l.sweep.granules last_cache_bin) _ _
    (on l (is_sweeping l.call.stage l.call.request l.sweep.cleanup) e) (rests-bins_swept l f l.sweep.cleanup e)

rests-releasing_by : (l : Local) (f : Faces l) (e : is_sweeping l.call.stage l.call.request l.sweep.cleanup ≡ true)
    (one : Option ℕ) → Rests l (releasing_by l one)
rests-releasing_by l f e (Some block) = on l (is_sweeping l.call.stage l.call.request l.sweep.cleanup) e
rests-releasing_by l f e None = rests-next_bin l f e

pub rests-releasing : (l : Local) (f : Faces l) (e : is_sweeping l.call.stage l.call.request l.sweep.cleanup ≡ true)
    → Rests l (releasing l)
rests-releasing l f e = rests-releasing_by l f e (newest_of l.released)

rests-swept_as : (l : Local) (f : Faces l) (e : is_sweeping l.call.stage l.call.request l.sweep.cleanup ≡ true)
    (at : SweepAt) (next : SweepNext) → Rests l (swept_as l at next)
rests-swept_as l f e at (SweepNext.Goes next) = on l (is_sweeping l.call.stage l.call.request l.sweep.cleanup) e
rests-swept_as l f e at (SweepNext.Stays next) = on l (is_sweeping l.call.stage l.call.request l.sweep.cleanup) e
rests-swept_as l f e at (SweepNext.Stale block next) =
    on l (is_sweeping l.call.stage l.call.request l.sweep.cleanup) e
rests-swept_as l f e at SweepNext.Waits = on l (is_sweeping l.call.stage l.call.request l.sweep.cleanup) e
rests-swept_as l f e at (SweepNext.Began time) = on l (is_sweeping l.call.stage l.call.request l.sweep.cleanup) e
rests-swept_as l f e at SweepNext.Passed = rests-next_bin l f e
rests-swept_as l f e at SweepNext.Swept = rests-releasing l f e

pub rests-sweep_learn_of : (l : Local) (f : Faces l)
    (e : is_sweeping l.call.stage l.call.request l.sweep.cleanup ≡ true) (at : SweepAt) (found : ℕ)
    → Rests l (sweep_learn_of l at found)
rests-sweep_learn_of l f e at found = rests-swept_as l f e at (sweep_learn (sweep_call l) at found)

-- the cache is asked
rests-get_as : (l : Local) (f : Faces l) (e : is_getting l.call.stage ≡ true) (at : GetAt) (next : GetNext)
    → Rests l (get_as l at next)
rests-get_as l f e at (GetNext.Goes next) = on l (is_getting l.call.stage) e
rests-get_as l f e at GetNext.Waits = on l (is_getting l.call.stage) e
rests-get_as l f e at (GetNext.Took block) = rests-ticked
    (record l {
      call = record l.call
          { missed = false; block = record { first = block; granules = granules_of_served l.call.served } };
    }) f (sweeping_to_get l.call.stage l.call.request Cleanup.Regular e)
rests-get_as l f e at GetNext.Missed = rests-ticked (record l { call = record l.call { missed = true } }) f
    (sweeping_to_get l.call.stage l.call.request Cleanup.Regular e)

pub rests-get_learn_of : (l : Local) (f : Faces l) (e : is_getting l.call.stage ≡ true) (at : GetAt) (found : ℕ)
    → Rests l (get_learn_of l at found)
rests-get_learn_of l f e at found = rests-get_as l f e at (get_learn at found)

-- a get that missed is taken back
getting_to_undo : (s : Stage) (cause : NullCause) → fits_undo s cause ≡ true → is_getting s ≡ true
getting_to_undo Stage.Getting cause e = refl
getting_to_undo _ cause e = absurd (cc)

other_to_undo : (s : Stage) (cause : NullCause) → fits_undo s cause ≡ true → is_other_null cause ≡ true
other_to_undo Stage.Getting cause e = e
other_to_undo _ cause e = absurd (cc)

rests-undo_as : (l : Local) (cause : NullCause) (e : fits_undo l.call.stage cause ≡ true) (at : UndoAt)
    (next : UndoNext) → Rests l (undo_as l cause at next)
rests-undo_as l cause e at (UndoNext.Goes next) = on l (fits_undo l.call.stage cause) e
rests-undo_as l cause e at UndoNext.Waits = on l (fits_undo l.call.stage cause) e
rests-undo_as l cause e at UndoNext.Undone = null_pays cause l.key l.call.request _ _
    (other_to_undo l.call.stage cause e)
    (nothing_got l.call.stage l.call.old l.call.new (getting_to_undo l.call.stage cause e))

pub rests-undo_learn_of : (l : Local) (cause : NullCause) (e : fits_undo l.call.stage cause ≡ true) (at : UndoAt)
    (found : ℕ) → Rests l (undo_learn_of l cause at found)
rests-undo_learn_of l cause e at found = rests-undo_as l cause e at (undo_learn at found)

-- the block of an object that was freed is put
rests-kept_as : (l : Local) (f : Faces l) (e : is_ending l.call.stage l.call.request ≡ true) (one : Option ℕ)
    → Rests l (kept_as l one)
rests-kept_as l f e (Some block) = on l (is_ending l.call.stage l.call.request) e
rests-kept_as l f e None = rests-ticked l f (working_to_end l.call.stage l.call.request e)

rests-keep_as : (l : Local) (f : Faces l) (e : is_ending l.call.stage l.call.request ≡ true) (at : KeepAt)
    (next : KeepNext) → Rests l (keep_as l at next)
rests-keep_as l f e at (KeepNext.Goes next) = on l (is_ending l.call.stage l.call.request) e
rests-keep_as l f e at KeepNext.Waits = on l (is_ending l.call.stage l.call.request) e
rests-keep_as l f e at (KeepNext.Kept released) = rests-kept_as l f e released

pub rests-keep_learn_of : (l : Local) (f : Faces l) (e : is_ending l.call.stage l.call.request ≡ true) (at : KeepAt)
    (found : ℕ) → Rests l (keep_learn_of l at found)
rests-keep_learn_of l f e at found = rests-keep_as l f e at (keep_learn at found)

rests-tick_at : (l : Local) (s : Stage) → l.call.stage ≡ s → is_working s l.call.request ≡ true
    → Rests l (tick_at l s)
rests-tick_at l Stage.Getting is e = on l (is_getting l.call.stage) (ap is_getting is)
rests-tick_at l Stage.Ending is e =
    on l (is_ending l.call.stage l.call.request) (ap (λ (s : Stage). is_ending s l.call.request) is ∙ e)
rests-tick_at l Stage.Replacing is e =
    on l (is_ending l.call.stage l.call.request) (ap (λ (s : Stage). is_ending s l.call.request) is ∙ e)
rests-tick_at l Stage.Undoing is e =
    on l (is_ending l.call.stage l.call.request) (ap (λ (s : Stage). is_ending s l.call.request) is ∙ e)
rests-tick_at l _ is e = absurd (cc)

pub rests-tick : (l : Local) (found : ℕ) → is_working l.call.stage l.call.request ≡ true
    → Rests l (tick_at (record l { call = record l.call { time = (found + 1) % 2 ^ 64 } }) l.call.stage)
rests-tick l found e =
    rests-tick_at (record l { call = record l.call { time = (found + 1) % 2 ^ 64 } }) l.call.stage refl e

-- where an object lies
rests-object_at : (l : Local) (e : is_getting l.call.stage ≡ true) (slab : ℕ) (one : Option ℕ) (unit : ℕ)
    → Rests l (object_at l slab one unit)
rests-object_at l e slab (Some head) unit = on l (is_getting l.call.stage) e
rests-object_at l e slab None unit = on l (is_getting l.call.stage) e

rests-object_in : (l : Local) (e : is_getting l.call.stage ≡ true) (slab : ℕ) (found : Option HeapSlab)
    → Rests l (object_in l slab found)
rests-object_in l e slab (Some kept) = rests-object_at l e slab kept.head (unit_of slab kept.class kept.handed)
rests-object_in l e slab None = rests-object_at l e slab None 0

rests-located_as : (l : Local) (e : is_getting l.call.stage ≡ true) (region base : ℕ) (served : Served)
    → Rests l (located_as l region base served)
rests-located_as l e region base (Served.Small class) =
    rests-object_in l e l.call.slab (record_at l.heap.slabs.records l.call.slab)
rests-located_as l e region base (Served.Large granules alignment) = on l (is_getting l.call.stage) e

rests-slot_looked : (l : Local) (e : is_getting l.call.stage ≡ true) (slot region : ℕ)
    → Rests l (slot_looked l slot region)
rests-slot_looked l e slot region =
    either l (has_granule (region_of region) (located_index l l.call.served)) _ _ (on l (is_getting l.call.stage) e)
    (either l (ltb slot last_slot) _ _ (on l (is_getting l.call.stage) e) (on l (is_getting l.call.stage) e))

pub rests-locate_learn : (l : Local) (e : is_getting l.call.stage ≡ true) (at : LocateAt) (found : ℕ)
    → Rests l (locate_learn l at found)
rests-locate_learn l e (LocateAt.Region slot) found = rests-slot_looked l e slot found
rests-locate_learn l e (LocateAt.Base slot region) found =
    rests-located_as (record l { call = record l.call { region = region } }) e region found l.call.served

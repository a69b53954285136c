-- A call goes on with large objects, and with looks, at its stage.
use Rattle.std.proofs.Common.{◌≡◌, Bool, cond, eqb, true, false, refl, subst, sym, ℕ}
use Rattle.std.specs.Prelude.{None, Option, Some, ltb, ◌%◌, [], ◌∷◌}
use Rattle.heap_slabs.specs.Records.{after_free, is_unused, unit_of}
use Rattle.heap_slabs.specs.Rolls.{newest_of}
use Rattle.heap_slabs.specs.Slabs.{first_from, record_at}
use Rattle.heap_slabs.specs.declared.records.HeapSlab.{HeapSlab}
use Rattle.heap_slabs.specs.declared.slabs.Wanted.{Wanted}
use Rattle.large_cache.specs.declared.sweep.Cleanup.{Cleanup}
use Rattle.pool_types.specs.declared.values.NullCause.{NullCause}
use Rattle.pool_types.specs.declared.values.Request.{Request}
use Rattle.step_local.specs.Answers.{ended_object, replaces, slab_of}
use Rattle.step_local.specs.Getting.{decided, get_or, getting, getting_as, refusal_of, served_as}
use Rattle.step_local.specs.Getting.{stays}
use Rattle.step_local.specs.Large.{bins_swept, cached, cached_at, cleanup_ticks, emptying, emptying_by}
use Rattle.step_local.specs.Large.{got_block, kept_as}
use Rattle.step_local.specs.Frames.{last_cache_bin}
use Rattle.step_local.specs.Large.{last_slot, locate_learn, located_as, located_index, next_bin}
use Rattle.step_local.specs.Large.{object_at, object_in, releasing, releasing_by, slot_looked}
use Rattle.step_local.specs.Large.{swept, tick_at, ticked}
use Rattle.step_local.specs.Large.{unused_next}
use Rattle.step_local.specs.Objects.{freed_in, freed_own, freed_slab, held, held_as}
use Rattle.step_local.specs.declared.frames.Local.{Local}
use Rattle.step_local.specs.declared.frames.LocateAt.{LocateAt}
use Rattle.step_local.specs.declared.frames.Served.{Served}
use Rattle.step_local.specs.declared.frames.Stage.{Stage}
use Rattle.large_cache.specs.declared.get.GetAt.{GetAt}
use Rattle.large_cache.specs.declared.get.GetNext.{GetNext}
use Rattle.large_cache.specs.declared.keep.KeepAt.{KeepAt}
use Rattle.large_cache.specs.declared.keep.KeepNext.{KeepNext}
use Rattle.large_cache.specs.declared.sweep.SweepAt.{SweepAt}
use Rattle.large_cache.specs.declared.sweep.SweepNext.{SweepNext}
use Rattle.large_cache.specs.declared.undo.UndoAt.{UndoAt}
use Rattle.large_cache.specs.declared.undo.UndoNext.{UndoNext}
use Rattle.step_local.specs.Large.{get_as, granules_of_served, keep_as, swept_as, undo_as}
use Rattle.heap_tasks.proofs.Staged.{Goes, either, ending_empties, ending_ticks, getting_empties, getting_fetches}
use Rattle.heap_tasks.proofs.Staged.{getting_sweeps, getting_ticks, none_left, tails}
use Rattle.heap_tasks.proofs.StagedSmall.{goes-getting_small}
use Rattle.pool_types.specs.declared.values.Turn.{Turn}
use Rattle.object_laws.specs.Objects.{Note}
use Rattle.heap_tasks.specs.Notes.{IsTail, noted, notes_of}
use Rattle.heap_tasks.specs.Stages.{IsEnding, IsGetting, MaySweep, MayTick, StageFits}
use Rattle.word_codes.specs.RegionWords.{has_granule, region_of}

-- once a look has found an object held, that is what is noted
abbrev pub Finds : Local → Local × Turn → Type 0
Finds l turn = StageFits turn.0 × IsTail (notes_of turn.0) (noted l.call.old ∷ [])

either_found : (l : Local) (b : Bool) (x y : Local × Turn) → Finds l x → Finds l y → Finds l (cond b x y)
either_found l true x y one other = one
either_found l false x y one other = other

-- while another object is got, at most the old one is noted
got_notes : (b : Bool) (n : Note) → IsTail (cond b (n ∷ []) []) (n ∷ [])
got_notes true n = IsTail.all
got_notes false n = IsTail.behind IsTail.all

pub goes-getting : (l : Local) (served : Served) → Goes (getting_as l served) (getting l served)
goes-getting l (Served.Small class) = goes-getting_small (getting_as l (Served.Small class)) class tt
goes-getting l (Served.Large granules alignment) = (tt, IsTail.all)

found-getting : (l : Local) (served : Served) → Finds l (getting l served)
found-getting l served = let step : Goes (getting_as l served) (getting l served) = goes-getting l served in
    (step.0, tails step.1 (got_notes (replaces l.call.request) (noted l.call.old)))

found-get_or : (l : Local) (wanted : Option Served) (cause : Option NullCause) → Finds l (get_or l wanted cause)
found-get_or l wanted (Some cause) = (tt, none_left (noted l.call.old ∷ []))
found-get_or l (Some served) None = found-getting l served
found-get_or l None None = (tt, none_left (noted l.call.old ∷ []))

found-decided : (l : Local) (size : ℕ) (alignment : Option ℕ) (base : ℕ) → Finds l (decided l size alignment base)
found-decided l size alignment base = either_found l (eqb size 0) _ _ (tt, IsTail.all)
    (either_found l (stays l size alignment base) _ _ (tt, none_left (noted l.call.old ∷ []))
    (found-get_or l (served_as size alignment) (refusal_of l (served_as size alignment))))

found-held_as : (l : Local) (base : ℕ) (request : Request) → Finds l (held_as l base request)
found-held_as l base (Request.Msize place) = (tt, none_left (noted l.call.old ∷ []))
found-held_as l base (Request.Identify place) = (tt, none_left (noted l.call.old ∷ []))
found-held_as l base (Request.Realloc place size) = found-decided l size None base
found-held_as l base (Request.AlignedRealloc place size alignment) = found-decided l size (Some alignment) base
found-held_as l base (Request.Malloc size) = (tt, IsTail.all)
found-held_as l base (Request.Aligned size alignment) = (tt, IsTail.all)
found-held_as l base (Request.Free place) = (tt, IsTail.all)
found-held_as l base Request.Exit = (tt, IsTail.all)

pub found-held : (l : Local) (base : ℕ) → Finds l (held l base)
found-held l base = found-held_as l base l.call.request

pub goes-got_block : (l : Local) → IsGetting l.call.stage → Goes l (got_block l)
goes-got_block l is = either l l.call.missed _ _ (is, IsTail.all) (is, IsTail.all)

goes-cached_at : (l : Local) (stage : Stage) → l.call.stage ≡ stage → Goes l (cached_at l stage)
goes-cached_at l Stage.Getting at = goes-got_block l (subst IsGetting (sym at) tt)
goes-cached_at l _ at = (tt, none_left (notes_of l))

pub goes-cached : (l : Local) → Goes l (cached l)
goes-cached l = goes-cached_at l l.call.stage refl

pub goes-ticked : (l : Local) → MayTick l.call.stage → Goes l (ticked l)
goes-ticked l is = either l (eqb (l.call.time % cleanup_ticks) 0) _ _ (is, IsTail.all) (goes-cached l)

pub goes-swept : (l : Local) (cleanup : Cleanup) → MaySweep cleanup l.call.stage → Goes l (swept l cleanup)
goes-swept l Cleanup.Regular is = goes-cached l
goes-swept l Cleanup.Soft is = (is, IsTail.all)
goes-swept l Cleanup.Hard is = (is, IsTail.all)

pub goes-unused_next : (l : Local) (found : Option HeapSlab) → IsGetting l.call.stage → Goes l (unused_next l found)
goes-unused_next l (Some kept) is = (getting_empties l.call.stage is, IsTail.all)
goes-unused_next l None is = goes-swept l l.sweep.cleanup (getting_sweeps l.sweep.cleanup l.call.stage is)

pub goes-emptying_by : (l : Local) (one : Option ℕ) → IsGetting l.call.stage → Goes l (emptying_by l one)
goes-emptying_by l (Some slab) is = (getting_fetches l.call.stage is, IsTail.all)
goes-emptying_by l None is = goes-unused_next l (first_from Wanted.Unused l.heap.slabs 0) is

pub goes-emptying : (l : Local) → IsGetting l.call.stage → Goes l (emptying l)
goes-emptying l is = goes-emptying_by l (newest_of l.heap.cached) is

pub goes-bins_swept : (l : Local) (cleanup : Cleanup) → MaySweep cleanup l.call.stage → Goes l (bins_swept l cleanup)
goes-bins_swept l Cleanup.Regular is = goes-swept l Cleanup.Regular is
goes-bins_swept l Cleanup.Soft is = goes-swept l Cleanup.Soft is
goes-bins_swept l Cleanup.Hard is = goes-emptying l is

pub goes-next_bin : (l : Local) → MaySweep l.sweep.cleanup l.call.stage → Goes l (next_bin l)
goes-next_bin l is =
    either l (ltb l.sweep.granules last_cache_bin) _ _ (is, IsTail.all) (goes-bins_swept l l.sweep.cleanup is)

pub goes-releasing_by : (l : Local) (one : Option ℕ) → MaySweep l.sweep.cleanup l.call.stage
    → Goes l (releasing_by l one)
goes-releasing_by l (Some block) is = (is, IsTail.all)
goes-releasing_by l None is = goes-next_bin l is

pub goes-releasing : (l : Local) → MaySweep l.sweep.cleanup l.call.stage → Goes l (releasing l)
goes-releasing l is = goes-releasing_by l (newest_of l.released) is

pub goes-kept_as : (l : Local) (one : Option ℕ) → IsEnding l.call.stage → Goes l (kept_as l one)
goes-kept_as l (Some block) is = (is, IsTail.all)
goes-kept_as l None is = goes-ticked l (ending_ticks l.call.stage is)

pub goes-tick_at : (l : Local) (stage : Stage) → l.call.stage ≡ stage → MayTick stage → Goes l (tick_at l stage)
goes-tick_at l Stage.Getting at is = (subst IsGetting (sym at) tt, IsTail.all)
goes-tick_at l Stage.Ending at is = (subst IsEnding (sym at) tt, IsTail.all)
goes-tick_at l Stage.Replacing at is = (subst IsEnding (sym at) tt, IsTail.all)
goes-tick_at l Stage.Undoing at is = (subst IsEnding (sym at) tt, IsTail.all)
goes-tick_at l _ at is = absurd is

goes-object_at : (l : Local) (slab : ℕ) (one : Option ℕ) (unit : ℕ) → IsGetting l.call.stage
    → Goes l (object_at l slab one unit)
goes-object_at l slab (Some head) unit is = (is, IsTail.all)
goes-object_at l slab None unit is = (is, IsTail.all)

goes-object_in : (l : Local) (slab : ℕ) (found : Option HeapSlab) → IsGetting l.call.stage
    → Goes l (object_in l slab found)
goes-object_in l slab (Some kept) is = goes-object_at l slab kept.head (unit_of slab kept.class kept.handed) is
goes-object_in l slab None is = (is, IsTail.all)

pub goes-located_as : (l : Local) (region : ℕ) (base : ℕ) (served : Served) → IsGetting l.call.stage
    → Goes l (located_as l region base served)
goes-located_as l region base (Served.Small class) is =
    goes-object_in l l.call.slab (record_at l.heap.slabs.records l.call.slab) is
goes-located_as l region base (Served.Large granules alignment) is = (is, IsTail.all)

pub goes-slot_looked : (l : Local) (slot : ℕ) (region : ℕ) → IsGetting l.call.stage
    → Goes l (slot_looked l slot region)
goes-slot_looked l slot region is =
    either l (has_granule (region_of region) (located_index l l.call.served)) _ _ (is, IsTail.all) (either l
    (ltb slot last_slot) _ _ (is, IsTail.all) (is, IsTail.all))

pub goes-locate_learn : (l : Local) (at : LocateAt) (f : ℕ) → IsGetting l.call.stage → Goes l (locate_learn l at f)
goes-locate_learn l (LocateAt.Region slot) f is = goes-slot_looked l slot f is
goes-locate_learn l (LocateAt.Base slot region) f is =
    goes-located_as (record l { call = record l.call { region = region } }) region f l.call.served is

-- the grant of an object in a slab that the heap keeps is ended
freed_slab_goes : (l : Local) (slab : ℕ) (kept : HeapSlab) → IsEnding l.call.stage → Goes l (freed_slab l slab kept)
freed_slab_goes l slab kept is =
    either l (is_unused kept) _ _ (ending_empties l.call.stage is, IsTail.all) (tt, none_left (notes_of l))

freed_goes : (l : Local) (unit slab : ℕ) (found : Option HeapSlab) → IsEnding l.call.stage
    → Goes l (freed_in l unit slab found)
freed_goes l unit slab (Some kept) is = freed_slab_goes l slab (after_free kept unit) is
freed_goes l unit slab None is = (tt, none_left (notes_of l))

pub freed_own_goes : (l : Local) → IsEnding l.call.stage → Goes l (freed_own l)
freed_own_goes l is = let unit : ℕ = (ended_object l).unit in
    freed_goes l unit (slab_of unit) (record_at l.heap.slabs.records (slab_of unit)) is

-- a job of the cache goes on, waits, or is done
pub goes-get_as : (l : Local) (at : GetAt) (next : GetNext) → IsGetting l.call.stage → Goes l (get_as l at next)
goes-get_as l at (GetNext.Goes next) is = (is, IsTail.all)
goes-get_as l at GetNext.Waits is = (is, IsTail.all)
goes-get_as l at (GetNext.Took block) is = goes-ticked (record l {
  call = record l.call {
    missed = false;
    block = record { first = block; granules = granules_of_served l.call.served };
  };
}) (getting_ticks l.call.stage is)
goes-get_as l at GetNext.Missed is =
    goes-ticked (record l { call = record l.call { missed = true } }) (getting_ticks l.call.stage is)

pub goes-undo_as : (l : Local) (cause : NullCause) (at : UndoAt) (next : UndoNext) → IsGetting l.call.stage
    → Goes l (undo_as l cause at next)
goes-undo_as l cause at (UndoNext.Goes next) is = (is, IsTail.all)
goes-undo_as l cause at UndoNext.Waits is = (is, IsTail.all)
goes-undo_as l cause at UndoNext.Undone is = (tt, none_left (notes_of l))

pub goes-keep_as : (l : Local) (at : KeepAt) (next : KeepNext) → IsEnding l.call.stage → Goes l (keep_as l at next)
goes-keep_as l at (KeepNext.Goes next) is = (is, IsTail.all)
goes-keep_as l at KeepNext.Waits is = (is, IsTail.all)
goes-keep_as l at (KeepNext.Kept released) is = goes-kept_as l released is

pub goes-swept_as : (l : Local) (at : SweepAt) (next : SweepNext) → MaySweep l.sweep.cleanup l.call.stage
    → Goes l (swept_as l at next)
goes-swept_as l at (SweepNext.Goes next) is = (is, IsTail.all)
goes-swept_as l at (SweepNext.Stays next) is = (is, IsTail.all)
goes-swept_as l at (SweepNext.Stale block next) is = (is, IsTail.all)
goes-swept_as l at SweepNext.Waits is = (is, IsTail.all)
goes-swept_as l at (SweepNext.Began time) is = (is, IsTail.all)
goes-swept_as l at SweepNext.Passed is = goes-next_bin l is
goes-swept_as l at SweepNext.Swept is = goes-releasing l is

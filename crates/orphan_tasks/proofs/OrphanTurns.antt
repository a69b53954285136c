-- What a turn at a job of orphans leaves a seat to do with them.
use Rattle.std.proofs.Common.{◌≡◌, ◌+◌, ℕ, Bool, true, false, cond, refl, sym, subst}
use Rattle.std.specs.Prelude.{None, Option, Some}
use Rattle.pool_types.specs.Sums.{capped}
use Rattle.heap_slabs.specs.Rolls.{after_push, newest_of}
use Rattle.heap_slabs.specs.Slabs.{after_free_of, after_remove}
use Rattle.backend_bins.specs.declared.bin.BinAt.{BinAt}
use Rattle.backend_bins.specs.declared.bin.BinNext.{BinNext}
use Rattle.orphans.specs.declared.adopting.AdoptAt.{AdoptAt}
use Rattle.orphans.specs.declared.leaving.LeaveNext.{LeaveNext}
use Rattle.orphans.specs.Adopting.{adopt_learn, adopt_taken}
use Rattle.public_list.specs.declared.joining.JoinAt.{JoinAt}
use Rattle.public_list.specs.Joining.{join_learn, join_taken, join_walked}
use Rattle.reset_steps.specs.declared.strip.StripAt.{StripAt}
use Rattle.reset_steps.specs.declared.strip.StripNext.{StripNext}
use Rattle.reset_steps.specs.Strip.{strip_from}
use Rattle.word_codes.specs.declared.marks.Mark.{Mark}
use Rattle.word_codes.specs.declared.publics.Public.{Public}
use Rattle.word_codes.specs.Links.{link_of}
use Rattle.word_codes.specs.Marks.{mark_of}
use Rattle.word_codes.specs.Nexts.{next_of, next_link_of}
use Rattle.word_codes.specs.Publics.{public_of}
use Rattle.step_local.specs.declared.frames.Local.{Local}
use Rattle.step_local.specs.declared.frames.ResetStage.{ResetStage}
use Rattle.step_local.specs.declared.frames.Stage.{Stage}
use Rattle.step_local.specs.Leaving.{leaving, left_as, with_slabs}
use Rattle.step_local.specs.Resetting.{binned_as, binned_at, reset_on, resetting, strip_call, stripped_as, stripping}
use Rattle.step_local.specs.Slabs.{adopted_as, adopted_at, adopting_on, adopts_enough, emptied_at, fetched}
use Rattle.step_local.specs.Slabs.{joined_as, spared_as, spared_on, sparing, with_joined}
use Rattle.orphan_tasks.specs.Laws.{OrphanMoves}
use Rattle.orphan_tasks.specs.Orphans.{adopted_spares, adopted_task, bin_left, joined_left, left_task, rested_task}
use Rattle.orphan_tasks.specs.Orphans.{returned_spares, returned_task, slab_left, spared_spares, spared_task}
use Rattle.orphan_tasks.specs.Orphans.{sparing_spares, sparing_task, stage_left, stage_task}
use Rattle.orphan_tasks.specs.Starts.{AdoptFits, NoOrphans, NoneBehind}
use Rattle.orphan_tasks.proofs.Moves.{done, ends, waits_on}
use Rattle.orphan_tasks.proofs.Started.{moves, none_behind}
use Rattle.orphan_tasks.proofs.StartedResets.{starts-reset_on}
use Rattle.orphan_tasks.proofs.StartedSmall.{starts-emptied_at, starts-fetched, starts-leaving}

pub leave_turn : (l : Local) (slab : ℕ) (next : LeaveNext) → NoOrphans l.call.stage
    → OrphanMoves (left_as l slab next).0 (left_task slab next) l.heap.spares
leave_turn l slab (LeaveNext.Goes at) free = record { goes_on = refl; fits = free; spares' = refl }
leave_turn l slab LeaveNext.Filled free = record { goes_on = free; fits = free; spares' = refl }
leave_turn l slab LeaveNext.Left free =
    let l' : Local = record l { heap = record l.heap { slabs = after_remove l.heap.slabs slab } } in
    done l (leaving l') (moves l' l (leaving l') refl (starts-leaving l' free))

-- those that were put aside are pushed back, one by one
sparing_turn : (l : Local) (one : Option ℕ) → NoOrphans l.call.stage
    → OrphanMoves (sparing l one).0 (sparing_task l.fetch.class one) (sparing_spares l.heap.spares one)
sparing_turn l (Some slab) free = record { goes_on = refl; fits = free; spares' = refl }
sparing_turn l None free = ends l (fetched l) (starts-fetched l (none_behind l.call.stage free))

spared_turn : (l : Local) (rest : Option ℕ) → NoOrphans l.call.stage → OrphanMoves (spared_on l rest).0
    (spared_task l.fetch.class l.heap.spares rest) (spared_spares l.heap.spares rest)
spared_turn l (Some slab) free = record { goes_on = refl; fits = free; spares' = refl }
spared_turn l None free = sparing_turn l (newest_of l.heap.spares) free

pub spare_turn : (l : Local) (next : LeaveNext) → NoOrphans l.call.stage → OrphanMoves (spared_as l next).0
    (returned_task l.fetch.class l.fetch.spare l.heap.spares next) (returned_spares l.heap.spares next)
spare_turn l (LeaveNext.Goes at) free = record { goes_on = refl; fits = free; spares' = refl }
spare_turn l LeaveNext.Filled free = sparing_turn l (newest_of l.heap.spares) free
spare_turn l LeaveNext.Left free = sparing_turn l (newest_of l.heap.spares) free

taken_turn : (l : Local) (one : Option ℕ) → NoneBehind l.call.stage
    → OrphanMoves (adopted_as l (adopt_taken one)).0 (adopted_task l.fetch.class l.heap.spares (adopt_taken one))
    (adopted_spares l.heap.spares (adopt_taken one))
taken_turn l (Some slab) fits = record { goes_on = refl; fits = tt; spares' = refl }
taken_turn l None fits = ends l (fetched l) (starts-fetched l fits)

pub adopt_turn : (l : Local) (at : AdoptAt) (f : ℕ) → AdoptFits at l.call.stage
    → OrphanMoves (adopted_as l (adopt_learn at f)).0 (adopted_task l.fetch.class l.heap.spares (adopt_learn at f))
    (adopted_spares l.heap.spares (adopt_learn at f))
adopt_turn l AdoptAt.Take f fits = taken_turn l (link_of f) fits
adopt_turn l (AdoptAt.Header slab) f fits = record { goes_on = refl; fits = tt; spares' = refl }
adopt_turn l (AdoptAt.Next slab header) f fits = record { goes_on = refl; fits = tt; spares' = refl }
adopt_turn l (AdoptAt.Settle slab header rest) f fits = record { goes_on = refl; fits = tt; spares' = refl }
adopt_turn l (AdoptAt.Own slab header rest) f fits = record { goes_on = refl; fits = tt; spares' = refl }
adopt_turn l (AdoptAt.Spare slab) f fits =
    let l' : Local = record l { heap = record l.heap { spares = after_push l.heap.spares slab } } in
    spared_turn l' (next_link_of (next_of f)) fits

-- an adopted slab is stripped while those behind it wait
stripping_turn : (l : Local) (slab : ℕ) (one : Option StripAt)
    → OrphanMoves (stripping l slab one).0 (stage_task l.fetch.class l.call.stage) l.heap.spares
stripping_turn l slab (Some at) = record {
  goes_on = waits_on l.fetch.class l.call.stage (stripping l slab (Some at)).0 refl (λ free. free);
  fits = tt;
  spares' = refl;
}
stripping_turn l slab None = record {
  goes_on = waits_on l.fetch.class l.call.stage (stripping l slab None).0 refl (λ free. free);
  fits = tt;
  spares' = refl;
}

pub strip_turn : (l : Local) (slab : ℕ) (next : StripNext)
    → OrphanMoves (stripped_as l slab next).0 (stage_task l.fetch.class l.call.stage) l.heap.spares
strip_turn l slab (StripNext.Goes at) = stripping_turn l slab (Some at)
strip_turn l slab (StripNext.Freed object unit) =
    let l' : Local = with_slabs l (after_free_of l.heap.slabs slab unit) in
    stripping_turn l' slab (strip_from (strip_call l' slab) (capped (object + 1)))
strip_turn l slab StripNext.Stripped = stripping_turn l slab None

-- the next orphan in hand is adopted, or put aside
next_fits : (stage : Stage) (slab : ℕ) (enough : Bool) → NoOrphans stage
    → AdoptFits (cond enough (AdoptAt.Spare slab) (AdoptAt.Header slab)) stage
next_fits stage slab true free = free
next_fits stage slab false free = tt

adopting_turn : (l : Local) (enough : Bool) (rest : Option ℕ) → NoOrphans l.call.stage
    → OrphanMoves (adopting_on l enough rest).0 (rested_task l.fetch.class enough rest) l.heap.spares
adopting_turn l enough None free = ends l (fetched l) (starts-fetched l (none_behind l.call.stage free))
adopting_turn l enough (Some slab) free = record {
  goes_on = refl;
  fits = next_fits l.call.stage slab enough free;
  spares' = refl;
}

-- the stage is the local's
slab_turn : (l : Local) (slab : ℕ) (rest : Option ℕ) (stage : Stage) → l.call.stage ≡ stage
    → OrphanMoves (adopted_at l slab rest stage).0 (slab_left l slab rest stage) l.heap.spares
slab_turn l slab rest (Stage.Resetting stage) here =
    let l' : Local = resetting l (ResetStage.Orphans rest) in
    stripping_turn l' slab (strip_from (strip_call l' slab) 0)
slab_turn l slab rest Stage.Idle here =
    adopting_turn l (adopts_enough l slab) rest (subst NoOrphans (sym here) tt)
slab_turn l slab rest Stage.Looking here =
    adopting_turn l (adopts_enough l slab) rest (subst NoOrphans (sym here) tt)
slab_turn l slab rest Stage.Getting here =
    adopting_turn l (adopts_enough l slab) rest (subst NoOrphans (sym here) tt)
slab_turn l slab rest Stage.Ending here =
    adopting_turn l (adopts_enough l slab) rest (subst NoOrphans (sym here) tt)
slab_turn l slab rest Stage.Replacing here =
    adopting_turn l (adopts_enough l slab) rest (subst NoOrphans (sym here) tt)
slab_turn l slab rest Stage.Undoing here =
    adopting_turn l (adopts_enough l slab) rest (subst NoOrphans (sym here) tt)
slab_turn l slab rest Stage.Leaving here =
    adopting_turn l (adopts_enough l slab) rest (subst NoOrphans (sym here) tt)

take_turn : (l : Local) (slab : ℕ) (rest : Option ℕ) (public : Public)
    → OrphanMoves (joined_as l slab rest (join_taken public)).0 (joined_left l slab rest (join_taken public))
    l.heap.spares
take_turn l slab rest Public.Null = slab_turn l slab rest l.call.stage refl
take_turn l slab rest Public.Unusable = slab_turn l slab rest l.call.stage refl
take_turn l slab rest (Public.Filled first) = record { goes_on = refl; fits = tt; spares' = refl }

walk_turn : (l : Local) (slab : ℕ) (rest : Option ℕ) (first at count : ℕ) (mark : Mark)
    → OrphanMoves (joined_as l slab rest (join_walked first at count mark)).0
    (joined_left l slab rest (join_walked first at count mark)) l.heap.spares
walk_turn l slab rest first at count Mark.Unmarked = record { goes_on = refl; fits = tt; spares' = refl }
walk_turn l slab rest first at count (Mark.Granted g) = record { goes_on = refl; fits = tt; spares' = refl }
walk_turn l slab rest first at count (Mark.Hand seat) = record { goes_on = refl; fits = tt; spares' = refl }
walk_turn l slab rest first at count (Mark.Link next) = record { goes_on = refl; fits = tt; spares' = refl }
walk_turn l slab rest first at count Mark.End = record { goes_on = refl; fits = tt; spares' = refl }
walk_turn l slab rest first at count Mark.EndUnusable = record { goes_on = refl; fits = tt; spares' = refl }

pub join_turn : (l : Local) (slab : ℕ) (rest : Option ℕ) (at : JoinAt) (f : ℕ)
    → OrphanMoves (joined_as l slab rest (join_learn at f)).0 (joined_left l slab rest (join_learn at f))
    l.heap.spares
join_turn l slab rest JoinAt.Take f = take_turn l slab rest (public_of f)
join_turn l slab rest (JoinAt.Walk first at count) f =
    walk_turn l slab rest first at (capped (count + 1)) (mark_of f)
join_turn l slab rest (JoinAt.Tie first last count) f =
    slab_turn (with_joined l slab first count) slab rest l.call.stage refl

-- a slab that ends: in a reset its block is put while those behind it wait
pub emptied_turn : (l : Local) (slab : ℕ) (stage : Stage) → l.call.stage ≡ stage
    → OrphanMoves (emptied_at l slab stage).0 (stage_task l.fetch.class stage) l.heap.spares
emptied_turn l slab (Stage.Resetting stage) here = record {
  goes_on = waits_on l.fetch.class (Stage.Resetting stage) (emptied_at l slab (Stage.Resetting stage)).0 refl
      (λ free. free);
  fits = tt;
  spares' = refl;
}
emptied_turn l slab stage here =
    ends l (emptied_at l slab stage) (starts-emptied_at l slab stage tt (subst NoOrphans (sym here) tt))

binned_turn : (l : Local) (stage : Stage) → l.call.stage ≡ stage
    → OrphanMoves (binned_at l stage).0 (stage_left l.fetch.class stage) l.heap.spares
unfolding reset_on
binned_turn l (Stage.Resetting (ResetStage.Orphans (Some slab))) here =
    record { goes_on = refl; fits = tt; spares' = refl }
binned_turn l (Stage.Resetting (ResetStage.Orphans None)) here =
    ends l (reset_on l (ResetStage.Orphans None)) (starts-reset_on l (ResetStage.Orphans None) here tt)
binned_turn l (Stage.Resetting (ResetStage.Heap class)) here =
    ends l (reset_on l (ResetStage.Heap class)) (starts-reset_on l (ResetStage.Heap class) here tt)
binned_turn l (Stage.Resetting (ResetStage.Large region granule)) here =
    ends l (reset_on l (ResetStage.Large region granule))
    (starts-reset_on l (ResetStage.Large region granule) here tt)
binned_turn l (Stage.Resetting (ResetStage.Cache granules)) here =
    ends l (reset_on l (ResetStage.Cache granules)) (starts-reset_on l (ResetStage.Cache granules) here tt)
binned_turn l (Stage.Resetting (ResetStage.Queue rest)) here =
    ends l (reset_on l (ResetStage.Queue rest)) (starts-reset_on l (ResetStage.Queue rest) here tt)
binned_turn l (Stage.Resetting (ResetStage.Regions below)) here =
    ends l (reset_on l (ResetStage.Regions below)) (starts-reset_on l (ResetStage.Regions below) here tt)
binned_turn l _ here = record { goes_on = tt; fits = tt; spares' = refl }

pub bin_turn : (l : Local) (at : BinAt) (next : BinNext)
    → OrphanMoves (binned_as l at next).0 (bin_left l next) l.heap.spares
bin_turn l at (BinNext.Goes next) = record {
  goes_on = waits_on l.fetch.class l.call.stage (binned_as l at (BinNext.Goes next)).0 refl (λ free. free);
  fits = tt;
  spares' = refl;
}
bin_turn l at BinNext.Waits = record {
  goes_on = waits_on l.fetch.class l.call.stage (binned_as l at BinNext.Waits).0 refl (λ free. free);
  fits = tt;
  spares' = refl;
}
bin_turn l at BinNext.Done = binned_turn l l.call.stage refl

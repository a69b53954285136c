-- What the heap is after each turn at a job of orphans.
use Rattle.std.proofs.Common.{◌≡◌, ℕ, Bool, refl, sym, subst}
use Rattle.std.specs.Prelude.{None, Option, Some}
use Rattle.pool_words.specs.declared.actions.Seen.{Seen}
use Rattle.pool_words.specs.Actions.{word_seen}
use Rattle.heap_slabs.specs.Rolls.{after_push, newest_of}
use Rattle.heap_slabs.specs.Slabs.{after_remove}
use Rattle.orphans.specs.declared.adopting.AdoptAt.{AdoptAt}
use Rattle.orphans.specs.declared.leaving.LeaveNext.{LeaveNext}
use Rattle.orphans.specs.Adopting.{adopt_learn, adopt_taken}
use Rattle.orphans.specs.Leaving.{leave_learn}
use Rattle.public_list.specs.declared.joining.JoinNext.{JoinNext}
use Rattle.public_list.specs.Joining.{join_learn}
use Rattle.reset_steps.specs.declared.strip.StripAt.{StripAt}
use Rattle.reset_steps.specs.Strip.{strip_from}
use Rattle.word_codes.specs.Links.{link_of}
use Rattle.word_codes.specs.Nexts.{next_of, next_link_of}
use Rattle.step_local.specs.declared.frames.At.{At}
use Rattle.step_local.specs.declared.frames.Local.{Local}
use Rattle.step_local.specs.declared.frames.ResetStage.{ResetStage}
use Rattle.step_local.specs.declared.frames.Stage.{Stage}
use Rattle.step_local.specs.Learn.{learn_at}
use Rattle.step_local.specs.Leaving.{left_as}
use Rattle.step_local.specs.Resetting.{resetting, strip_call, stripping}
use Rattle.step_local.specs.Slabs.{adopted_as, adopted_at, adopting_on, adopts_enough, joined_as, spared_as, spared_on}
use Rattle.step_local.specs.Slabs.{sparing, with_joined}
use Rattle.orphan_tasks.specs.Heaps.{HeapMoves, adopted_heap, joined_heap, left_heap, returned_heap}
use Rattle.orphan_tasks.specs.Laws.{TurnsMoveOrphanHeaps}
use Rattle.orphan_tasks.specs.Orphans.{spared_spares, sparing_spares}
use Rattle.orphan_tasks.specs.Starts.{AdoptFits, NoOrphans, NoneBehind, OrphanFitsAt}
use Rattle.orphan_tasks.proofs.Started.{none_behind}
use Rattle.orphan_tasks.proofs.StartedSmall.{starts-fetched, starts-leaving}

left : (l : Local) (slab : ℕ) (next : LeaveNext) → NoOrphans l.call.stage
    → (left_as l slab next).0.heap ≡ left_heap l.heap slab next
left l slab (LeaveNext.Goes at) free = refl
left l slab LeaveNext.Filled free = refl
left l slab LeaveNext.Left free =
    let l' : Local = record l { heap = record l.heap { slabs = after_remove l.heap.slabs slab } } in
    (starts-leaving l' free).1

spares_go : (l : Local) (one : Option ℕ) → NoOrphans l.call.stage
    → (sparing l one).0.heap ≡ record l.heap { spares = sparing_spares l.heap.spares one }
spares_go l (Some slab) free = refl
spares_go l None free = (starts-fetched l (none_behind l.call.stage free)).1

spared : (l : Local) (rest : Option ℕ) → NoOrphans l.call.stage
    → (spared_on l rest).0.heap ≡ record l.heap { spares = spared_spares l.heap.spares rest }
spared l (Some slab) free = refl
spared l None free = spares_go l (newest_of l.heap.spares) free

returned : (l : Local) (next : LeaveNext) → NoOrphans l.call.stage
    → (spared_as l next).0.heap ≡ returned_heap l.heap next
returned l (LeaveNext.Goes at) free = refl
returned l LeaveNext.Filled free = spares_go l (newest_of l.heap.spares) free
returned l LeaveNext.Left free = spares_go l (newest_of l.heap.spares) free

taken : (l : Local) (one : Option ℕ) → NoneBehind l.call.stage
    → (adopted_as l (adopt_taken one)).0.heap ≡ adopted_heap l.heap l.fetch.class (adopt_taken one)
taken l (Some slab) fits = refl
taken l None fits = (starts-fetched l fits).1

adopted : (l : Local) (at : AdoptAt) (f : ℕ) → AdoptFits at l.call.stage
    → (adopted_as l (adopt_learn at f)).0.heap ≡ adopted_heap l.heap l.fetch.class (adopt_learn at f)
adopted l AdoptAt.Take f fits = taken l (link_of f) fits
adopted l (AdoptAt.Header slab) f fits = refl
adopted l (AdoptAt.Next slab header) f fits = refl
adopted l (AdoptAt.Settle slab header rest) f fits = refl
adopted l (AdoptAt.Own slab header rest) f fits = refl
adopted l (AdoptAt.Spare slab) f fits =
    let l' : Local = record l { heap = record l.heap { spares = after_push l.heap.spares slab } } in
    spared l' (next_link_of (next_of f)) fits

stripped : (l : Local) (slab : ℕ) (one : Option StripAt) → (stripping l slab one).0.heap ≡ l.heap
stripped l slab (Some at) = refl
stripped l slab None = refl

rested : (l : Local) (enough : Bool) (rest : Option ℕ) → NoOrphans l.call.stage
    → (adopting_on l enough rest).0.heap ≡ l.heap
rested l enough None free = (starts-fetched l (none_behind l.call.stage free)).1
rested l enough (Some slab) free = refl

-- the stage is the local's
next_taken : (l : Local) (slab : ℕ) (rest : Option ℕ) (stage : Stage) → l.call.stage ≡ stage
    → (adopted_at l slab rest stage).0.heap ≡ l.heap
next_taken l slab rest (Stage.Resetting stage) here =
    let l' : Local = resetting l (ResetStage.Orphans rest) in stripped l' slab (strip_from (strip_call l' slab) 0)
next_taken l slab rest Stage.Idle here = rested l (adopts_enough l slab) rest (subst NoOrphans (sym here) tt)
next_taken l slab rest Stage.Looking here = rested l (adopts_enough l slab) rest (subst NoOrphans (sym here) tt)
next_taken l slab rest Stage.Getting here = rested l (adopts_enough l slab) rest (subst NoOrphans (sym here) tt)
next_taken l slab rest Stage.Ending here = rested l (adopts_enough l slab) rest (subst NoOrphans (sym here) tt)
next_taken l slab rest Stage.Replacing here = rested l (adopts_enough l slab) rest (subst NoOrphans (sym here) tt)
next_taken l slab rest Stage.Undoing here = rested l (adopts_enough l slab) rest (subst NoOrphans (sym here) tt)
next_taken l slab rest Stage.Leaving here = rested l (adopts_enough l slab) rest (subst NoOrphans (sym here) tt)

joined : (l : Local) (slab : ℕ) (rest : Option ℕ) (next : JoinNext)
    → (joined_as l slab rest next).0.heap ≡ joined_heap l.heap slab next
joined l slab rest (JoinNext.Goes at) = refl
joined l slab rest JoinNext.Nothing = next_taken l slab rest l.call.stage refl
joined l slab rest (JoinNext.Joined first count) =
    next_taken (with_joined l slab first count) slab rest l.call.stage refl

heap_at : (l : Local) (at : At) (s : Seen) → OrphanFitsAt at l.call.stage
    → HeapMoves l at (word_seen s) (learn_at l at s).0.heap
heap_at l (At.Leave slab at) s fits = left l slab (leave_learn at (word_seen s)) fits
heap_at l (At.Adopt at) s fits = adopted l at (word_seen s) fits
heap_at l (At.Join slab rest at) s fits = joined l slab rest (join_learn at (word_seen s))
heap_at l (At.Spare at) s fits = returned l (leave_learn at (word_seen s)) fits
heap_at l _ s fits = tt

pub turns_move_orphan_heaps : TurnsMoveOrphanHeaps
turns_move_orphan_heaps l s fits = heap_at l l.at s fits

-- A reset goes on: what comes by mail and of orphans, and slabs that are given up.
use Rattle.std.proofs.Common.{◌≡◌, eqb, true, ℕ}
use Rattle.std.specs.Prelude.{None, Option, Some, ◌||◌}
use Rattle.heap_slabs.specs.Rolls.{without_newest, after_push, newest_of}
use Rattle.heap_slabs.specs.Slabs.{after_remove}
use Rattle.mailbox.specs.Boxes.{box_learn}
use Rattle.mailbox.specs.declared.boxes.BoxAt.{BoxAt}
use Rattle.mailbox.specs.declared.boxes.BoxNext.{BoxNext}
use Rattle.orphans.specs.Adopting.{adopt_learn}
use Rattle.orphans.specs.Leaving.{leave_learn}
use Rattle.orphans.specs.declared.adopting.AdoptAt.{AdoptAt}
use Rattle.orphans.specs.declared.adopting.AdoptNext.{AdoptNext}
use Rattle.orphans.specs.declared.leaving.LeaveAt.{LeaveAt}
use Rattle.orphans.specs.declared.leaving.LeaveNext.{LeaveNext}
use Rattle.public_list.specs.Joining.{join_learn}
use Rattle.public_list.specs.declared.joining.JoinAt.{JoinAt}
use Rattle.public_list.specs.declared.joining.JoinNext.{JoinNext}
use Rattle.step_local.specs.Leaving.{with_slabs}
use Rattle.step_local.specs.Slabs.{adopt_learn_of, adopted_as, adopted_at, box_learn_of, boxed_as, emptied_at}
use Rattle.step_local.specs.Slabs.{fetched, fetched_at, join_learn_of, joined_as, mailed_on, newest_given, slab_adopted}
use Rattle.step_local.specs.Slabs.{slab_came, slab_emptied, small_learn, spare_learn_of, spared_as, spared_on}
use Rattle.step_local.specs.Slabs.{spares_back, sparing, with_joined}
use Rattle.step_local.specs.declared.frames.Local.{Local}
use Rattle.step_local.specs.declared.frames.SmallAt.{SmallAt}
use Rattle.step_local.specs.declared.frames.Stage.{Stage}
use Rattle.call_laws.specs.Calls.{is_resetting}
use Rattle.quiet_laws.specs.Resets.{GoesOn, is_given_up}
use Rattle.quiet_laws.proofs.Given.{IsOn, on-orphan_adopted, on-reset_on}

on-fetched_at : (l : Local) (e : IsOn l) (stage : Stage) → is_resetting stage ≡ true → GoesOn l (fetched_at l stage)
on-fetched_at l e (Stage.Resetting stage) s = on-reset_on l e stage
on-fetched_at l e Stage.Getting s = absurd (cc)
on-fetched_at l e Stage.Leaving s = absurd (cc)
on-fetched_at l e Stage.Idle s = absurd (cc)
on-fetched_at l e Stage.Looking s = absurd (cc)
on-fetched_at l e Stage.Ending s = absurd (cc)
on-fetched_at l e Stage.Replacing s = absurd (cc)
on-fetched_at l e Stage.Undoing s = absurd (cc)

on-fetched : (l : Local) (e : IsOn l) → GoesOn l (fetched l)
on-fetched l e = on-fetched_at l e l.call.stage e

on-mailed_on : (l : Local) (e : IsOn l) (one : Option ℕ) → GoesOn l (mailed_on l one)
on-mailed_on l e (Some slab) = cc
on-mailed_on l e None = on-fetched l e

on-slab_came : (l : Local) (e : IsOn l) (slab : ℕ) (rest : Option ℕ) → GoesOn l (slab_came l slab rest)
on-slab_came l e slab rest = on-mailed_on
    (record l { fetch = record l.fetch { came = l.fetch.came || eqb slab l.fetch.awaited } }) e rest

on-boxed_as : (l : Local) (e : IsOn l) (next : BoxNext) → GoesOn l (boxed_as l next)
on-boxed_as l e (BoxNext.Goes at) = cc
on-boxed_as l e BoxNext.Empty = on-fetched l e
on-boxed_as l e (BoxNext.Unchanged slab rest) = on-slab_came l e slab rest
on-boxed_as l e (BoxNext.Joined slab first count rest) = on-slab_came (with_joined l slab first count) e slab rest

pub on-box_learn_of : (l : Local) (e : IsOn l) (at : BoxAt) (f : ℕ) → GoesOn l (box_learn_of l at f)
on-box_learn_of l e at f = on-boxed_as l e (box_learn at f)

on-sparing : (l : Local) (e : IsOn l) (one : Option ℕ) → GoesOn l (sparing l one)
on-sparing l e (Some slab) = cc
on-sparing l e None = on-fetched l e

on-spares_back : (l : Local) (e : IsOn l) → GoesOn l (spares_back l)
on-spares_back l e = on-sparing l e (newest_of l.heap.spares)

on-spared_on : (l : Local) (e : IsOn l) (one : Option ℕ) → GoesOn l (spared_on l one)
on-spared_on l e (Some slab) = cc
on-spared_on l e None = on-spares_back l e

on-adopted_as : (l : Local) (e : IsOn l) (next : AdoptNext) → GoesOn l (adopted_as l next)
on-adopted_as l e (AdoptNext.Goes at) = cc
on-adopted_as l e AdoptNext.Empty = on-fetched l e
on-adopted_as l e (AdoptNext.Adopted slab header rest) = cc
on-adopted_as l e (AdoptNext.Spared slab rest) = on-spared_on
    (record l { heap = record l.heap { spares = after_push l.heap.spares slab } }) e rest

pub on-adopt_learn_of : (l : Local) (e : IsOn l) (at : AdoptAt) (f : ℕ) → GoesOn l (adopt_learn_of l at f)
on-adopt_learn_of l e at f = on-adopted_as l e (adopt_learn at f)

on-adopted_at : (l : Local) (slab : ℕ) (rest : Option ℕ) (stage : Stage) → is_resetting stage ≡ true
    → GoesOn l (adopted_at l slab rest stage)
on-adopted_at l slab rest (Stage.Resetting stage) s = on-orphan_adopted l slab rest
on-adopted_at l slab rest Stage.Idle s = absurd (cc)
on-adopted_at l slab rest Stage.Looking s = absurd (cc)
on-adopted_at l slab rest Stage.Getting s = absurd (cc)
on-adopted_at l slab rest Stage.Ending s = absurd (cc)
on-adopted_at l slab rest Stage.Replacing s = absurd (cc)
on-adopted_at l slab rest Stage.Undoing s = absurd (cc)
on-adopted_at l slab rest Stage.Leaving s = absurd (cc)

on-slab_adopted : (l : Local) (e : IsOn l) (slab : ℕ) (rest : Option ℕ) → GoesOn l (slab_adopted l slab rest)
on-slab_adopted l e slab rest = on-adopted_at l slab rest l.call.stage e

on-joined_as : (l : Local) (e : IsOn l) (slab : ℕ) (rest : Option ℕ) (next : JoinNext)
    → GoesOn l (joined_as l slab rest next)
on-joined_as l e slab rest (JoinNext.Goes at) = cc
on-joined_as l e slab rest JoinNext.Nothing = on-slab_adopted l e slab rest
on-joined_as l e slab rest (JoinNext.Joined first count) =
    on-slab_adopted (with_joined l slab first count) e slab rest

pub on-join_learn_of : (l : Local) (e : IsOn l) (slab : ℕ) (rest : Option ℕ) (at : JoinAt) (f : ℕ)
    → GoesOn l (join_learn_of l slab rest at f)
on-join_learn_of l e slab rest at f = on-joined_as l e slab rest (join_learn at f)

on-spared_as : (l : Local) (e : IsOn l) (next : LeaveNext) → GoesOn l (spared_as l next)
on-spared_as l e (LeaveNext.Goes at) = cc
on-spared_as l e LeaveNext.Filled = on-spares_back l e
on-spared_as l e LeaveNext.Left = on-spares_back l e

pub on-spare_learn_of : (l : Local) (e : IsOn l) (at : LeaveAt) (f : ℕ) → GoesOn l (spare_learn_of l at f)
on-spare_learn_of l e at f = on-spared_as l e (leave_learn at f)

on-emptied_at : (l : Local) (slab : ℕ) (stage : Stage) → is_resetting stage ≡ true → GoesOn l (emptied_at l slab stage)
on-emptied_at l slab (Stage.Resetting stage) s = cc
on-emptied_at l slab Stage.Getting s = absurd (cc)
on-emptied_at l slab Stage.Leaving s = absurd (cc)
on-emptied_at l slab Stage.Idle s = absurd (cc)
on-emptied_at l slab Stage.Looking s = absurd (cc)
on-emptied_at l slab Stage.Ending s = absurd (cc)
on-emptied_at l slab Stage.Replacing s = absurd (cc)
on-emptied_at l slab Stage.Undoing s = absurd (cc)

on-slab_emptied : (l : Local) (e : IsOn l) (slab : ℕ) → GoesOn l (slab_emptied l slab)
on-slab_emptied l e slab = on-emptied_at (with_slabs l (after_remove l.heap.slabs slab)) slab l.call.stage e

on-newest_given : (l : Local) (slab : ℕ) (stage : Stage) → is_resetting stage ≡ true
    → GoesOn l (newest_given l slab stage)
on-newest_given l slab (Stage.Resetting stage) s = cc
on-newest_given l slab Stage.Getting s = absurd (cc)
on-newest_given l slab Stage.Leaving s = absurd (cc)
on-newest_given l slab Stage.Idle s = absurd (cc)
on-newest_given l slab Stage.Looking s = absurd (cc)
on-newest_given l slab Stage.Ending s = absurd (cc)
on-newest_given l slab Stage.Replacing s = absurd (cc)
on-newest_given l slab Stage.Undoing s = absurd (cc)

pub on-small_learn : (l : Local) (e : IsOn l) (at : SmallAt) (f : ℕ) → is_given_up at ≡ true
    → GoesOn l (small_learn l at f)
on-small_learn l e (SmallAt.Empty slab) f g = on-slab_emptied l e slab
on-small_learn l e (SmallAt.Newest slab) f g =
    on-newest_given (record l { heap = record l.heap { cached = without_newest l.heap.cached } }) slab l.call.stage e
on-small_learn l e (SmallAt.Uncache slab) f g = absurd (cc)
on-small_learn l e (SmallAt.Next slab) f g = absurd (cc)
on-small_learn l e (SmallAt.Public slab) f g = absurd (cc)
on-small_learn l e (SmallAt.Own slab) f g = absurd (cc)
on-small_learn l e (SmallAt.Kind slab) f g = absurd (cc)
on-small_learn l e (SmallAt.Behind slab head) f g = absurd (cc)
on-small_learn l e (SmallAt.Private slab head below) f g = absurd (cc)
on-small_learn l e (SmallAt.Rest slab unit) f g = absurd (cc)
on-small_learn l e (SmallAt.Cache slab) f g = absurd (cc)
on-small_learn l e (SmallAt.Oldest slab) f g = absurd (cc)

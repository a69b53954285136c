-- What each step of a drain leaves to do, and keeps of what it says by itself.
use Rattle.std.proofs.Common.{◌≡◌, ◌∙◌, ℕ, refl, subst, sym}
use Rattle.std.specs.Bool.{⊤}
use Rattle.std.specs.Prelude.{Option, Some, None}
use Rattle.word_codes.specs.Links.{link_of}
use Rattle.coalescer.specs.declared.drain.DrainAt.{DrainAt}
use Rattle.coalescer.specs.declared.drain.DrainCall.{DrainCall}
use Rattle.coalescer.specs.declared.drain.DrainNext.{DrainNext}
use Rattle.coalescer.specs.declared.put.PutAt.{PutAt}
use Rattle.coalescer.specs.declared.put.PutNext.{PutNext}
use Rattle.coalescer.specs.Drain.{drain_learn, goes_on, put_call as drained_put, put_goes}
use Rattle.coalescer.specs.Put.{put_learn}
use Rattle.guard_laws.specs.Blocks as guards
use Rattle.bin_laws.specs.Bins as tasks
use Rattle.queue_laws.specs.Queue as queue
use Rattle.backend_tasks.specs.Bins.{drain_task, drain_task_left}
use Rattle.backend_tasks.specs.Fits.{DrainFits}
use Rattle.backend_tasks.specs.Guards.{GuardGoesOn, drain_guard, drain_guard_left, put_guard_left}
use Rattle.backend_tasks.specs.Queue.{drain_queue, drain_queue_left, drained, drained_by}
use Rattle.backend_tasks.proofs.Opens.{PutThenFits, put_guard_then, put_task_then}
use Rattle.backend_tasks.proofs.Puts.{put_guard_moves, put_task_moves}
use Rattle.backend_tasks.proofs.PutFits.{put_keeps_fits}

-- on guards
abbrev pub drain_guard_then : DrainAt → DrainNext → guards.Task
drain_guard_then at (DrainNext.Goes next) = drain_guard next
drain_guard_then at (DrainNext.Waits bin) = drain_guard at
drain_guard_then at (DrainNext.Gives b rest) = guards.Task.Away
drain_guard_then at DrainNext.Drained = guards.Task.Away

on_guard : (at : DrainAt) (one : Option ℕ) → drain_guard_then at (goes_on one) ≡ guards.Task.Away
on_guard at (Some first) = refl
on_guard at None = refl

put_goes_guard : (rest : Option ℕ) (p : PutAt) (next : PutNext)
    → put_guard_then p p.step next ≡ drain_guard_then (DrainAt.Put rest p) (put_goes rest next)
put_goes_guard rest p (PutNext.Goes next) = refl
put_goes_guard rest p (PutNext.Waits bin) = refl
put_goes_guard rest p PutNext.Done = sym (on_guard (DrainAt.Put rest p) rest)
put_goes_guard rest p (PutNext.Gives b) = refl

pub drain_guard_moves : (c : DrainCall) (at : DrainAt) (found : ℕ)
    → GuardGoesOn (drain_guard_then at (drain_learn c at found)) (drain_guard_left at found)
drain_guard_moves c DrainAt.Swap found =
    subst (λ (t : guards.Task). GuardGoesOn t guards.Task.Away)
    (sym (on_guard DrainAt.Swap (link_of found))) tt
drain_guard_moves c (DrainAt.Link first) found = tt
drain_guard_moves c (DrainAt.Put rest p) found =
    subst (λ (t : guards.Task). GuardGoesOn t (put_guard_left p p.step found))
    (put_goes_guard rest p (put_learn (drained_put c) p found)) (put_guard_moves (drained_put c) p p.step found)

-- in bins
abbrev pub drain_task_then : DrainCall → DrainAt → DrainNext → tasks.Task
drain_task_then c at (DrainNext.Goes next) = drain_task c next
drain_task_then c at (DrainNext.Waits bin) = drain_task c at
drain_task_then c at (DrainNext.Gives b rest) = tasks.Task.Away
drain_task_then c at DrainNext.Drained = tasks.Task.Away

on_task : (c : DrainCall) (at : DrainAt) (one : Option ℕ) → drain_task_then c at (goes_on one) ≡ tasks.Task.Away
on_task c at (Some first) = refl
on_task c at None = refl

put_goes_task : (c : DrainCall) (rest : Option ℕ) (p : PutAt) (next : PutNext)
    → drain_task_then c (DrainAt.Put rest p) (put_goes rest next) ≡ put_task_then (drained_put c) p p.step next
put_goes_task c rest p (PutNext.Goes next) = refl
put_goes_task c rest p (PutNext.Waits bin) = refl
put_goes_task c rest p PutNext.Done = on_task c (DrainAt.Put rest p) rest
put_goes_task c rest p (PutNext.Gives b) = refl

pub drain_task_moves : (c : DrainCall) (at : DrainAt) (found : ℕ)
    → drain_task_then c at (drain_learn c at found) ≡ drain_task_left c at found
drain_task_moves c DrainAt.Swap found = on_task c DrainAt.Swap (link_of found)
drain_task_moves c (DrainAt.Link first) found = refl
drain_task_moves c (DrainAt.Put rest p) found =
    put_goes_task c rest p (put_learn (drained_put c) p found) ∙ put_task_moves (drained_put c) p p.step found

-- at the queue
abbrev pub drain_queue_then : DrainAt → DrainNext → queue.Task
drain_queue_then at (DrainNext.Goes next) = drain_queue next
drain_queue_then at (DrainNext.Waits bin) = drain_queue at
drain_queue_then at (DrainNext.Gives b rest) = queue.Task.Drains rest
drain_queue_then at DrainNext.Drained = queue.Task.Away

pub on_queue : (at : DrainAt) (one : Option ℕ) → drain_queue_then at (goes_on one) ≡ drained one
on_queue at (Some first) = refl
on_queue at None = refl

put_goes_queue : (rest : Option ℕ) (p : PutAt) (next : PutNext)
    → drain_queue_then (DrainAt.Put rest p) (put_goes rest next) ≡ drained_by rest next
put_goes_queue rest p (PutNext.Goes next) = refl
put_goes_queue rest p (PutNext.Waits bin) = refl
put_goes_queue rest p PutNext.Done = on_queue (DrainAt.Put rest p) rest
put_goes_queue rest p (PutNext.Gives b) = refl

pub drain_queue_moves : (c : DrainCall) (at : DrainAt) (found : ℕ)
    → drain_queue_then at (drain_learn c at found) ≡ drain_queue_left c at found
drain_queue_moves c DrainAt.Swap found = on_queue DrainAt.Swap (link_of found)
drain_queue_moves c (DrainAt.Link first) found = refl
drain_queue_moves c (DrainAt.Put rest p) found = put_goes_queue rest p (put_learn (drained_put c) p found)

-- by itself
abbrev pub DrainThenFits : DrainCall → DrainNext → Type 0
DrainThenFits c (DrainNext.Goes next) = DrainFits c next
DrainThenFits c (DrainNext.Waits bin) = ⊤
DrainThenFits c (DrainNext.Gives b rest) = ⊤
DrainThenFits c DrainNext.Drained = ⊤

pub on_fits : (c : DrainCall) (one : Option ℕ) → DrainThenFits c (goes_on one)
on_fits c (Some first) = tt
on_fits c None = tt

put_goes_fits : (c : DrainCall) (rest : Option ℕ) (next : PutNext) → PutThenFits (drained_put c) next
    → DrainThenFits c (put_goes rest next)
put_goes_fits c rest (PutNext.Goes next) fits = fits
put_goes_fits c rest (PutNext.Waits bin) fits = tt
put_goes_fits c rest PutNext.Done fits = on_fits c rest
put_goes_fits c rest (PutNext.Gives b) fits = tt

pub drain_keeps_fits : (c : DrainCall) (at : DrainAt) (found : ℕ) → DrainFits c at
    → DrainThenFits c (drain_learn c at found)
drain_keeps_fits c DrainAt.Swap found fits = on_fits c (link_of found)
drain_keeps_fits c (DrainAt.Link first) found fits = tt
drain_keeps_fits c (DrainAt.Put rest p) found fits =
    put_goes_fits c rest (put_learn (drained_put c) p found) (put_keeps_fits (drained_put c) p p.step found fits)

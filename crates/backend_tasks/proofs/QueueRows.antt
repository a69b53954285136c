-- Each step is a row of the queue.
use Rattle.std.proofs.Common.{ℕ, refl}
use Rattle.std.specs.Prelude.{Option, Some, None}
use Rattle.pool_words.specs.declared.actions.Action.{Action}
use Rattle.pool_words.specs.declared.actions.Seen.{Seen}
use Rattle.pool_words.specs.Actions.{word_seen}
use Rattle.coalescer.specs.declared.drain.DrainAt.{DrainAt}
use Rattle.coalescer.specs.declared.drain.DrainCall.{DrainCall}
use Rattle.coalescer.specs.declared.put.PutAt.{PutAt}
use Rattle.coalescer.specs.declared.put.PutCall.{PutCall}
use Rattle.coalescer.specs.declared.put.PutNext.{PutNext}
use Rattle.coalescer.specs.declared.put.PutStep.{PutStep}
use Rattle.coalescer.specs.Drain.{drain_course, put_call as drained_put}
use Rattle.coalescer.specs.Put.{insert_call, left_win, put_learn, right_win, step_course as put_step, unlink_call}
use Rattle.region_steps.specs.declared.office.OfficeNext.{OfficeNext}
use Rattle.region_steps.specs.Office.{office_learn}
use Rattle.reset_steps.specs.declared.unqueue.UnqueueAt.{UnqueueAt}
use Rattle.step_local.specs.declared.frames.At.{At}
use Rattle.step_local.specs.declared.frames.Local.{Local}
use Rattle.step_local.specs.declared.frames.OfficeFor.{OfficeFor}
use Rattle.step_local.specs.declared.frames.ResetAt.{ResetAt}
use Rattle.step_local.specs.Backend.{drain_call, office_call}
use Rattle.step_local.specs.Course.{course_at}
use Rattle.step_local.specs.Leaving.{put_call}
use Rattle.queue_laws.specs.Queue.Task.{Away, Drains}
use Rattle.step_writes.proofs.CallerLemmas.{other_jobs_leave_kinds}
use Rattle.backend_tasks.specs.Fits.{DrainFits, FitsAt, PutFits}
use Rattle.backend_tasks.specs.Laws.{RowsLeaveQueueTasks}
use Rattle.backend_tasks.specs.Queue.{drain_queue, drain_queue_left, drained, drained_by, given_by, office_queue}
use Rattle.backend_tasks.specs.Queue.{office_queue_left, put_queue, put_queue_left, queue_left_at, queue_task_at}
use Rattle.backend_tasks.specs.Rows.{QueueRow, Spares, queue_kinds}
use Rattle.backend_tasks.specs.Rows.QueueRow.{ends, others, pushes, reads, takes, unqueues}
use Rattle.backend_tasks.proofs.Spares.{bin_spares, large_no_queue, queue_no_guards, small_no_queue, win_spares}

put_row : (c : PutCall) (p : PutAt) (step : PutStep) (found : ℕ)
    → QueueRow (put_queue p step) (put_step c p step) found (put_queue_left p step found)
put_row c p PutStep.Size found = others Away (put_step c p PutStep.Size) found tt refl
put_row c p PutStep.Left found = others Away (put_step c p PutStep.Left) found tt refl
put_row c p PutStep.LeftWord found = others Away (put_step c p PutStep.LeftWord) found tt refl
put_row c p (PutStep.WinLeft n at) found =
    others Away (put_step c p (PutStep.WinLeft n at)) found tt
    (win_spares queue_kinds (left_win p n) at queue_no_guards)
put_row c p (PutStep.UnlinkLeft b at) found =
    others Away (put_step c p (PutStep.UnlinkLeft b at)) found tt (bin_spares (unlink_call c b) at)
put_row c p PutStep.RightWord found = others Away (put_step c p PutStep.RightWord) found tt refl
put_row c p (PutStep.WinRight n at) found =
    others Away (put_step c p (PutStep.WinRight n at)) found tt
    (win_spares queue_kinds (right_win p n) at queue_no_guards)
put_row c p (PutStep.UnlinkRight b at) found =
    others Away (put_step c p (PutStep.UnlinkRight b at)) found tt (bin_spares (unlink_call c b) at)
put_row c p PutStep.FarLeft found = others Away (put_step c p PutStep.FarLeft) found tt refl
put_row c p PutStep.FarRight found = others Away (put_step c p PutStep.FarRight) found tt refl
put_row c p (PutStep.Queue at) found = pushes p.block.first p.block.granules at found
put_row c p (PutStep.Bin at) found =
    others Away (put_step c p (PutStep.Bin at)) found tt (bin_spares (insert_call c p.block) at)

-- what came from the queue does not go back to it
drained_spares : (c : DrainCall) (p : PutAt) (step : PutStep) → PutFits (drained_put c) step
    → Spares queue_kinds (put_step (drained_put c) p step)
drained_spares c p PutStep.Size fits = refl
drained_spares c p PutStep.Left fits = refl
drained_spares c p PutStep.LeftWord fits = refl
drained_spares c p (PutStep.WinLeft n at) fits = win_spares queue_kinds (left_win p n) at queue_no_guards
drained_spares c p (PutStep.UnlinkLeft b at) fits = bin_spares (unlink_call (drained_put c) b) at
drained_spares c p PutStep.RightWord fits = refl
drained_spares c p (PutStep.WinRight n at) fits = win_spares queue_kinds (right_win p n) at queue_no_guards
drained_spares c p (PutStep.UnlinkRight b at) fits = bin_spares (unlink_call (drained_put c) b) at
drained_spares c p PutStep.FarLeft fits = refl
drained_spares c p PutStep.FarRight fits = refl
drained_spares c p (PutStep.Queue at) fits = absurd (cc)
drained_spares c p (PutStep.Bin at) fits = bin_spares (insert_call (drained_put c) p.block) at

rest_row : (action : Action) (found : ℕ) (rest : Option ℕ) → Spares queue_kinds action
    → QueueRow (Drains rest) action found (drained rest)
rest_row action found (Some first) spares = others (Drains (Some first)) action found tt spares
rest_row action found None spares = ends action found spares

drained_row : (action : Action) (found : ℕ) (rest : Option ℕ) (next : PutNext) → Spares queue_kinds action
    → QueueRow (Drains rest) action found (drained_by rest next)
drained_row action found rest (PutNext.Goes at) spares = others (Drains rest) action found tt spares
drained_row action found rest (PutNext.Waits bin) spares = others (Drains rest) action found tt spares
drained_row action found rest PutNext.Done spares = rest_row action found rest spares
drained_row action found rest (PutNext.Gives b) spares = others (Drains rest) action found tt spares

drain_row : (c : DrainCall) (at : DrainAt) (found : ℕ) → DrainFits c at
    → QueueRow (drain_queue at) (drain_course c at) found (drain_queue_left c at found)
drain_row c DrainAt.Swap found fits = takes found
drain_row c (DrainAt.Link first) found fits = reads first found
drain_row c (DrainAt.Put rest at) found fits =
    drained_row (put_step (drained_put c) at at.step) found rest (put_learn (drained_put c) at found)
    (drained_spares c at at.step fits)

given_row : (action : Action) (found : ℕ) (rest : Option ℕ) (next : OfficeNext) → Spares queue_kinds action
    → QueueRow (Drains rest) action found (given_by rest next)
given_row action found rest (OfficeNext.Goes at) spares = others (Drains rest) action found tt spares
given_row action found rest OfficeNext.Waits spares = others (Drains rest) action found tt spares
given_row action found rest (OfficeNext.Left end) spares = rest_row action found rest spares

office_row : (action : Action) (found : ℕ) (job : OfficeFor) (next : OfficeNext) → Spares queue_kinds action
    → QueueRow (office_queue job) action found (office_queue_left job next)
office_row action found OfficeFor.Ask next spares = others Away action found tt spares
office_row action found (OfficeFor.Put first) next spares = others Away action found tt spares
office_row action found (OfficeFor.Drain first rest) next spares = given_row action found rest next spares

row_at : (l : Local) (at : At) (s : Seen) → FitsAt l at
    → QueueRow (queue_task_at l at) (course_at l at) (word_seen s) (queue_left_at l at s)
row_at l (At.Drain at) s fits = drain_row (drain_call l) at (word_seen s) fits
row_at l (At.Put at) s fits = put_row (put_call l) at at.step (word_seen s)
row_at l (At.Office job at) s fits =
    office_row (course_at l (At.Office job at)) (word_seen s) job (office_learn (office_call l job) at s)
    (other_jobs_leave_kinds l (At.Office job at) queue_kinds refl)
row_at l (At.Reset (ResetAt.Unqueue UnqueueAt.Take)) s fits = unqueues (word_seen s)
row_at l (At.Reset (ResetAt.Unqueue (UnqueueAt.Link first))) s fits =
    others Away (course_at l (At.Reset (ResetAt.Unqueue (UnqueueAt.Link first)))) (word_seen s) tt refl
row_at l (At.Reset at) s fits =
    others Away (course_at l (At.Reset at)) (word_seen s) tt (other_jobs_leave_kinds l (At.Reset at) queue_kinds refl)
row_at l (At.Small at) s fits =
    others Away (course_at l (At.Small at)) (word_seen s) tt
    (other_jobs_leave_kinds l (At.Small at) queue_kinds (small_no_queue at))
row_at l (At.Large at) s fits =
    others Away (course_at l (At.Large at)) (word_seen s) tt
    (other_jobs_leave_kinds l (At.Large at) queue_kinds (large_no_queue at))
row_at l at s fits = others Away (course_at l at) (word_seen s) tt (other_jobs_leave_kinds l at queue_kinds refl)

pub rows_leave_queue_tasks : RowsLeaveQueueTasks
rows_leave_queue_tasks l s fits = row_at l l.at s fits

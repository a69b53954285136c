-- The steps of a put at which no task is under way, and one may start; and the places where a put goes on so.
use Rattle.std.proofs.Common.{◌≡◌, Bool, true, false, cond, refl}
use Rattle.std.specs.Bool.{⊤}
use Rattle.std.specs.Prelude.{◌&&◌}
use Rattle.word_codes.specs.declared.guards.Guard.{Guard}
use Rattle.chain_words.specs.declared.pushing.PushAt.{PushAt}
use Rattle.backend_bins.specs.declared.bin.BinAt.{BinAt}
use Rattle.coalescer.specs.declared.put.Beside.{Beside}
use Rattle.coalescer.specs.declared.put.PutAt.{PutAt}
use Rattle.coalescer.specs.declared.put.PutCall.{PutCall}
use Rattle.coalescer.specs.declared.put.PutNext.{PutNext}
use Rattle.coalescer.specs.declared.put.PutStep.{PutStep}
use Rattle.coalescer.specs.Put.{bins, ends, goes, is_walled, judges_left, judges_right, left_ends, looks_far}
use Rattle.coalescer.specs.Put.{looks_far_right, queues, right_ends, sees_far_left, sees_far_right, sides_known}
use Rattle.guard_laws.specs.Blocks as guards
use Rattle.bin_laws.specs.Bins as tasks
use Rattle.queue_laws.specs.Queue as queue
use Rattle.backend_tasks.specs.Bins.{put_task}
use Rattle.backend_tasks.specs.Fits.{PutFits}
use Rattle.backend_tasks.specs.Guards.{GuardStarts, WinStarts, put_guard}
use Rattle.backend_tasks.specs.Queue.{PushStarts, QueueStarts, put_queue}
use Rattle.backend_tasks.proofs.Bare.{BinBare}

abbrev pub PutOpens : PutCall → PutStep → Type 0
PutOpens c PutStep.Size = ⊤
PutOpens c PutStep.Left = ⊤
PutOpens c PutStep.LeftWord = ⊤
PutOpens c (PutStep.WinLeft granules at) = WinStarts at
PutOpens c (PutStep.UnlinkLeft neighbour at) = ⊥
PutOpens c PutStep.RightWord = ⊤
PutOpens c (PutStep.WinRight granules at) = WinStarts at
PutOpens c (PutStep.UnlinkRight neighbour at) = ⊥
PutOpens c PutStep.FarLeft = ⊤
PutOpens c PutStep.FarRight = ⊤
PutOpens c (PutStep.Queue at) = (c.drained ≡ false) × PushStarts at
PutOpens c (PutStep.Bin at) = BinBare at

abbrev pub ThenOpens : PutCall → PutNext → Type 0
ThenOpens c (PutNext.Goes p) = PutOpens c p.step
ThenOpens c (PutNext.Waits bin) = ⊥
ThenOpens c PutNext.Done = ⊤
ThenOpens c (PutNext.Gives b) = ⊤

either_opens : (c : PutCall) (b : Bool) (x y : PutNext) → ThenOpens c x → ThenOpens c y → ThenOpens c (cond b x y)
either_opens c true x y one other = one
either_opens c false x y one other = other

pub opens-queues : (c : PutCall) (p : PutAt) → ThenOpens c (queues c p)
opens-queues c p = by c.drained refl
  where
    by : (b : Bool) → c.drained ≡ b → ThenOpens c (cond b (bins p) (goes p (PutStep.Queue PushAt.Look)))
    by true is = tt
    by false is = (is, tt)

opens-right_ends : (c : PutCall) (p : PutAt) (right : Beside) → ThenOpens c (right_ends p right)
opens-right_ends c p Beside.Joined = tt
opens-right_ends c p Beside.InUse = tt
opens-right_ends c p Beside.Wall = tt
opens-right_ends c p Beside.Unknown = tt

opens-looks_far_right : (c : PutCall) (p : PutAt) → ThenOpens c (looks_far_right p)
opens-looks_far_right c p = opens-right_ends c p p.right

opens-left_ends : (c : PutCall) (p : PutAt) (left : Beside) → ThenOpens c (left_ends p left)
opens-left_ends c p Beside.Joined = tt
opens-left_ends c p Beside.InUse = opens-looks_far_right c p
opens-left_ends c p Beside.Wall = opens-looks_far_right c p
opens-left_ends c p Beside.Unknown = opens-looks_far_right c p

opens-sides_known : (c : PutCall) (p : PutAt) → ThenOpens c (sides_known c p)
opens-sides_known c p =
    either_opens c (c.gives && is_walled p) (looks_far p) (bins p) (opens-left_ends c p p.left) tt

pub opens-ends : (c : PutCall) (p : PutAt) (right : Beside) → ThenOpens c (ends c p right)
opens-ends c p right = opens-sides_known c (record p { right = right })

pub opens-judges_left : (c : PutCall) (p : PutAt) (guard : Guard) → ThenOpens c (judges_left c p guard)
opens-judges_left c p Guard.Used = tt
opens-judges_left c p Guard.Wall = tt
opens-judges_left c p Guard.Coalescing = opens-queues c p
opens-judges_left c p (Guard.Free granules) = tt

pub opens-judges_right : (c : PutCall) (p : PutAt) (guard : Guard) → ThenOpens c (judges_right c p guard)
opens-judges_right c p Guard.Used = opens-ends c p Beside.InUse
opens-judges_right c p Guard.Wall = opens-ends c p Beside.Wall
opens-judges_right c p Guard.Coalescing = opens-queues c p
opens-judges_right c p (Guard.Free granules) = tt

pub opens-sees_far_left : (c : PutCall) (p : PutAt) (guard : Guard) → ThenOpens c (sees_far_left p guard)
opens-sees_far_left c p Guard.Wall = opens-looks_far_right c p
opens-sees_far_left c p Guard.Used = tt
opens-sees_far_left c p Guard.Coalescing = tt
opens-sees_far_left c p (Guard.Free granules) = tt

pub opens-sees_far_right : (c : PutCall) (p : PutAt) (guard : Guard) → ThenOpens c (sees_far_right p guard)
opens-sees_far_right c p Guard.Wall = tt
opens-sees_far_right c p Guard.Used = tt
opens-sees_far_right c p Guard.Coalescing = tt
opens-sees_far_right c p (Guard.Free granules) = tt

-- what the tasks are there
bin_opens_guard : (p : PutAt) (at : BinAt) → BinBare at → GuardStarts (put_guard p (PutStep.Bin at))
bin_opens_guard p BinAt.Lock opens = tt
bin_opens_guard p _ opens = absurd opens

step_opens_guard : (c : PutCall) (p : PutAt) (step : PutStep) → PutOpens c step → GuardStarts (put_guard p step)
step_opens_guard c p (PutStep.WinLeft granules at) opens = opens
step_opens_guard c p (PutStep.WinRight granules at) opens = opens
step_opens_guard c p (PutStep.UnlinkLeft neighbour at) opens = absurd opens
step_opens_guard c p (PutStep.UnlinkRight neighbour at) opens = absurd opens
step_opens_guard c p (PutStep.Bin at) opens = bin_opens_guard p at opens
step_opens_guard c p _ opens = tt

bin_opens_task : (c : PutCall) (p : PutAt) (at : BinAt) → BinBare at
    → put_task c p (PutStep.Bin at) ≡ tasks.Task.Away
bin_opens_task c p BinAt.Lock opens = refl
bin_opens_task c p _ opens = absurd opens

step_opens_task : (c : PutCall) (p : PutAt) (step : PutStep) → PutOpens c step
    → put_task c p step ≡ tasks.Task.Away
step_opens_task c p (PutStep.UnlinkLeft neighbour at) opens = absurd opens
step_opens_task c p (PutStep.UnlinkRight neighbour at) opens = absurd opens
step_opens_task c p (PutStep.Bin at) opens = bin_opens_task c p at opens
step_opens_task c p _ opens = refl

step_opens_queue : (c : PutCall) (p : PutAt) (step : PutStep) → PutOpens c step → QueueStarts (put_queue p step)
step_opens_queue c p (PutStep.Queue at) opens = opens.1
step_opens_queue c p _ opens = tt

bin_opens_fits : (c : PutCall) (at : BinAt) → BinBare at → PutFits c (PutStep.Bin at)
bin_opens_fits c BinAt.Lock opens = tt
bin_opens_fits c _ opens = absurd opens

step_opens_fits : (c : PutCall) (step : PutStep) → PutOpens c step → PutFits c step
step_opens_fits c (PutStep.UnlinkLeft neighbour at) opens = absurd opens
step_opens_fits c (PutStep.UnlinkRight neighbour at) opens = absurd opens
step_opens_fits c (PutStep.Queue at) opens = opens.0
step_opens_fits c (PutStep.Bin at) opens = bin_opens_fits c at opens
step_opens_fits c _ opens = tt

-- the task on guards where a put goes on, waits, is done, or gives its block
abbrev pub put_guard_then : PutAt → PutStep → PutNext → guards.Task
put_guard_then p step (PutNext.Goes next) = put_guard next next.step
put_guard_then p step (PutNext.Waits bin) = put_guard p step
put_guard_then p step PutNext.Done = guards.Task.Away
put_guard_then p step (PutNext.Gives b) = guards.Task.Away

-- that in bins
abbrev pub put_task_then : PutCall → PutAt → PutStep → PutNext → tasks.Task
put_task_then c p step (PutNext.Goes next) = put_task c next next.step
put_task_then c p step (PutNext.Waits bin) = put_task c p step
put_task_then c p step PutNext.Done = tasks.Task.Away
put_task_then c p step (PutNext.Gives b) = tasks.Task.Away

-- that at the queue
abbrev pub put_queue_then : PutAt → PutStep → PutNext → queue.Task
put_queue_then p step (PutNext.Goes next) = put_queue next next.step
put_queue_then p step (PutNext.Waits bin) = put_queue p step
put_queue_then p step PutNext.Done = queue.Task.Away
put_queue_then p step (PutNext.Gives b) = queue.Task.Away

abbrev pub PutThenFits : PutCall → PutNext → Type 0
PutThenFits c (PutNext.Goes next) = PutFits c next.step
PutThenFits c (PutNext.Waits bin) = ⊤
PutThenFits c PutNext.Done = ⊤
PutThenFits c (PutNext.Gives b) = ⊤

pub opens_guard : (c : PutCall) (p : PutAt) (step : PutStep) (next : PutNext) → ThenOpens c next
    → GuardStarts (put_guard_then p step next)
opens_guard c p step (PutNext.Goes next) opens = step_opens_guard c next next.step opens
opens_guard c p step (PutNext.Waits bin) opens = absurd opens
opens_guard c p step PutNext.Done opens = tt
opens_guard c p step (PutNext.Gives b) opens = tt

pub opens_task : (c : PutCall) (p : PutAt) (step : PutStep) (next : PutNext) → ThenOpens c next
    → put_task_then c p step next ≡ tasks.Task.Away
opens_task c p step (PutNext.Goes next) opens = step_opens_task c next next.step opens
opens_task c p step (PutNext.Waits bin) opens = absurd opens
opens_task c p step PutNext.Done opens = refl
opens_task c p step (PutNext.Gives b) opens = refl

pub opens_queue : (c : PutCall) (p : PutAt) (step : PutStep) (next : PutNext) → ThenOpens c next
    → QueueStarts (put_queue_then p step next)
opens_queue c p step (PutNext.Goes next) opens = step_opens_queue c next next.step opens
opens_queue c p step (PutNext.Waits bin) opens = absurd opens
opens_queue c p step PutNext.Done opens = tt
opens_queue c p step (PutNext.Gives b) opens = tt

pub opens_fits : (c : PutCall) (next : PutNext) → ThenOpens c next → PutThenFits c next
opens_fits c (PutNext.Goes next) opens = step_opens_fits c next.step opens
opens_fits c (PutNext.Waits bin) opens = absurd opens
opens_fits c PutNext.Done opens = tt
opens_fits c (PutNext.Gives b) opens = tt

-- What each step of a put, and of a drain, leaves to do.
use Rattle.std.proofs.Common.{◌≡◌, ◌∙◌, ℕ, refl, subst}
use Rattle.word_codes.specs.Guards.{guard_of}
use Rattle.chain_words.specs.declared.pushing.PushAt.{PushAt}
use Rattle.chain_words.specs.declared.pushing.PushNext.{PushNext}
use Rattle.chain_words.specs.Pushing.{push_learn}
use Rattle.guards.specs.declared.win.WinAt.{WinAt}
use Rattle.guards.specs.declared.win.WinNext.{WinNext}
use Rattle.guards.specs.Win.{win_learn}
use Rattle.backend_bins.specs.declared.bin.BinAt.{BinAt}
use Rattle.backend_bins.specs.declared.bin.BinNext.{BinNext}
use Rattle.backend_bins.specs.declared.blocks.Block.{Block}
use Rattle.backend_bins.specs.Bin.{bin_learn}
use Rattle.coalescer.specs.declared.put.Beside.{Beside}
use Rattle.coalescer.specs.declared.put.PutAt.{PutAt}
use Rattle.coalescer.specs.declared.put.PutCall.{PutCall}
use Rattle.coalescer.specs.declared.put.PutStep.{PutStep}
use Rattle.coalescer.specs.Put.{bin_goes, ends, insert_call, judges_left, judges_right, left_neighbour, left_win}
use Rattle.coalescer.specs.Put.{queue_goes, queues, right_neighbour, right_win, sees_far_left}
use Rattle.coalescer.specs.Put.{sees_far_right, step_learn, unlink_call, unlinks_left, unlinks_right, wins_left}
use Rattle.coalescer.specs.Put.{wins_right}
use Rattle.guard_laws.specs.Blocks as guards
use Rattle.guard_laws.specs.Steps.{task_after}
use Rattle.bin_laws.specs.Bins as tasks
use Rattle.queue_laws.specs.Queue as queue
use Rattle.queue_laws.specs.Steps.{task_queued}
use Rattle.backend_tasks.specs.Bins.{bin_task, put_task_left, won_left}
use Rattle.backend_tasks.specs.Guards.{GuardGoesOn, bin_guard}
use Rattle.backend_tasks.specs.Guards.{put_guard_left}
use Rattle.backend_tasks.specs.Queue.{QueueGoesOn}
use Rattle.backend_tasks.specs.Queue.{put_queue_left}
use Rattle.backend_tasks.proofs.GoesOn.{guard_same}
use Rattle.backend_tasks.proofs.Jobs.{guard_moves, guard_then}
use Rattle.backend_tasks.proofs.Jobs.{task_moves, task_then}
use Rattle.backend_tasks.proofs.Opens.{opens-ends, opens-judges_left, opens-judges_right}
use Rattle.backend_tasks.proofs.Opens.{opens-queues, opens-sees_far_left, opens-sees_far_right}
use Rattle.backend_tasks.proofs.Opens.{opens_guard, opens_queue, opens_task, put_guard_then, put_queue_then}
use Rattle.backend_tasks.proofs.Opens.{put_task_then}

-- on guards
left_won_guard : (c : PutCall) (p : PutAt) (n : ℕ) (at : WinAt) (next : WinNext)
    → GuardGoesOn (put_guard_then p (PutStep.WinLeft n at) (wins_left c p n next)) (task_after (left_win p n) next)
left_won_guard c p n at (WinNext.Goes next) = refl
left_won_guard c p n at WinNext.Won = tt
left_won_guard c p n at (WinNext.NotWon found) =
    opens_guard c p (PutStep.WinLeft n at) (judges_left c p (guard_of found))
    (opens-judges_left c p (guard_of found))
left_won_guard c p n at WinNext.GivenBack =
    opens_guard c p (PutStep.WinLeft n at) (queues c p) (opens-queues c p)

right_won_guard : (c : PutCall) (p : PutAt) (n : ℕ) (at : WinAt) (next : WinNext)
    → GuardGoesOn (put_guard_then p (PutStep.WinRight n at) (wins_right c p n next)) (task_after (right_win p n) next)
right_won_guard c p n at (WinNext.Goes next) = refl
right_won_guard c p n at WinNext.Won = tt
right_won_guard c p n at (WinNext.NotWon found) =
    opens_guard c p (PutStep.WinRight n at) (judges_right c p (guard_of found))
    (opens-judges_right c p (guard_of found))
right_won_guard c p n at WinNext.GivenBack =
    opens_guard c p (PutStep.WinRight n at) (queues c p) (opens-queues c p)

left_out_guard : (p : PutAt) (b : Block) (at : BinAt) (next : BinNext)
    → GuardGoesOn (put_guard_then p (PutStep.UnlinkLeft b at) (unlinks_left p b next)) (guard_then b at next)
left_out_guard p b at (BinNext.Goes next) = guard_same (bin_guard b next)
left_out_guard p b at BinNext.Waits = guard_same (bin_guard b at)
left_out_guard p b at BinNext.Done = tt

right_out_guard : (c : PutCall) (p : PutAt) (b : Block) (at : BinAt) (next : BinNext)
    → GuardGoesOn (put_guard_then p (PutStep.UnlinkRight b at) (unlinks_right c p b next)) (guard_then b at next)
right_out_guard c p b at (BinNext.Goes next) = guard_same (bin_guard b next)
right_out_guard c p b at BinNext.Waits = guard_same (bin_guard b at)
right_out_guard c p b at BinNext.Done =
    opens_guard c p (PutStep.UnlinkRight b at) (ends c p Beside.Joined) (opens-ends c p Beside.Joined)

bin_in_guard : (p : PutAt) (at : BinAt) (next : BinNext)
    → GuardGoesOn (put_guard_then p (PutStep.Bin at) (bin_goes p next)) (guard_then p.block at next)
bin_in_guard p at (BinNext.Goes next) = guard_same (bin_guard p.block next)
bin_in_guard p at BinNext.Waits = guard_same (bin_guard p.block at)
bin_in_guard p at BinNext.Done = tt

queue_guard : (p : PutAt) (at : PushAt) (next : PushNext)
    → GuardGoesOn (put_guard_then p (PutStep.Queue at) (queue_goes p next)) guards.Task.Away
queue_guard p at (PushNext.Goes next) = tt
queue_guard p at (PushNext.Pushed found) = tt

pub put_guard_moves : (c : PutCall) (p : PutAt) (step : PutStep) (found : ℕ)
    → GuardGoesOn (put_guard_then p step (step_learn c p step found)) (put_guard_left p step found)
put_guard_moves c p PutStep.Size found = tt
put_guard_moves c p PutStep.Left found = tt
put_guard_moves c p PutStep.LeftWord found =
    opens_guard c p PutStep.LeftWord (judges_left c p (guard_of found)) (opens-judges_left c p (guard_of found))
put_guard_moves c p (PutStep.WinLeft n at) found = left_won_guard c p n at (win_learn (left_win p n) at found)
put_guard_moves c p (PutStep.UnlinkLeft b at) found =
    let next : BinNext = bin_learn (unlink_call c b) at found in
    subst (GuardGoesOn (put_guard_then p (PutStep.UnlinkLeft b at) (unlinks_left p b next)))
    (guard_moves (unlink_call c b) at found) (left_out_guard p b at next)
put_guard_moves c p PutStep.RightWord found =
    opens_guard c p PutStep.RightWord (judges_right c p (guard_of found)) (opens-judges_right c p (guard_of found))
put_guard_moves c p (PutStep.WinRight n at) found = right_won_guard c p n at (win_learn (right_win p n) at found)
put_guard_moves c p (PutStep.UnlinkRight b at) found =
    let next : BinNext = bin_learn (unlink_call c b) at found in
    subst (GuardGoesOn (put_guard_then p (PutStep.UnlinkRight b at) (unlinks_right c p b next)))
    (guard_moves (unlink_call c b) at found) (right_out_guard c p b at next)
put_guard_moves c p PutStep.FarLeft found =
    opens_guard c p PutStep.FarLeft (sees_far_left p (guard_of found)) (opens-sees_far_left c p (guard_of found))
put_guard_moves c p PutStep.FarRight found =
    opens_guard c p PutStep.FarRight (sees_far_right p (guard_of found)) (opens-sees_far_right c p (guard_of found))
put_guard_moves c p (PutStep.Queue at) found = queue_guard p at (push_learn at found)
put_guard_moves c p (PutStep.Bin at) found =
    let next : BinNext = bin_learn (insert_call c p.block) at found in
    subst (GuardGoesOn (put_guard_then p (PutStep.Bin at) (bin_goes p next)))
    (guard_moves (insert_call c p.block) at found) (bin_in_guard p at next)

-- in bins
left_won_task : (c : PutCall) (p : PutAt) (n : ℕ) (at : WinAt) (next : WinNext)
    → put_task_then c p (PutStep.WinLeft n at) (wins_left c p n next)
    ≡ won_left tasks.Task.Away (left_neighbour p n) next
left_won_task c p n at (WinNext.Goes next) = refl
left_won_task c p n at WinNext.Won = refl
left_won_task c p n at (WinNext.NotWon found) =
    opens_task c p (PutStep.WinLeft n at) (judges_left c p (guard_of found)) (opens-judges_left c p (guard_of found))
left_won_task c p n at WinNext.GivenBack =
    opens_task c p (PutStep.WinLeft n at) (queues c p) (opens-queues c p)

right_won_task : (c : PutCall) (p : PutAt) (n : ℕ) (at : WinAt) (next : WinNext)
    → put_task_then c p (PutStep.WinRight n at) (wins_right c p n next)
    ≡ won_left tasks.Task.Away (right_neighbour p n) next
right_won_task c p n at (WinNext.Goes next) = refl
right_won_task c p n at WinNext.Won = refl
right_won_task c p n at (WinNext.NotWon found) =
    opens_task c p (PutStep.WinRight n at) (judges_right c p (guard_of found))
    (opens-judges_right c p (guard_of found))
right_won_task c p n at WinNext.GivenBack =
    opens_task c p (PutStep.WinRight n at) (queues c p) (opens-queues c p)

left_out_task : (c : PutCall) (p : PutAt) (b : Block) (at : BinAt) (next : BinNext)
    → put_task_then c p (PutStep.UnlinkLeft b at) (unlinks_left p b next)
    ≡ task_then (unlink_call c b) (bin_task (unlink_call c b) at) next
left_out_task c p b at (BinNext.Goes next) = refl
left_out_task c p b at BinNext.Waits = refl
left_out_task c p b at BinNext.Done = refl

right_out_task : (c : PutCall) (p : PutAt) (b : Block) (at : BinAt) (next : BinNext)
    → put_task_then c p (PutStep.UnlinkRight b at) (unlinks_right c p b next)
    ≡ task_then (unlink_call c b) (bin_task (unlink_call c b) at) next
right_out_task c p b at (BinNext.Goes next) = refl
right_out_task c p b at BinNext.Waits = refl
right_out_task c p b at BinNext.Done =
    opens_task c p (PutStep.UnlinkRight b at) (ends c p Beside.Joined) (opens-ends c p Beside.Joined)

bin_in_task : (c : PutCall) (p : PutAt) (at : BinAt) (next : BinNext)
    → put_task_then c p (PutStep.Bin at) (bin_goes p next)
    ≡ task_then (insert_call c p.block) (bin_task (insert_call c p.block) at) next
bin_in_task c p at (BinNext.Goes next) = refl
bin_in_task c p at BinNext.Waits = refl
bin_in_task c p at BinNext.Done = refl

queue_task : (c : PutCall) (p : PutAt) (at : PushAt) (next : PushNext)
    → put_task_then c p (PutStep.Queue at) (queue_goes p next) ≡ tasks.Task.Away
queue_task c p at (PushNext.Goes next) = refl
queue_task c p at (PushNext.Pushed found) = refl

pub put_task_moves : (c : PutCall) (p : PutAt) (step : PutStep) (found : ℕ)
    → put_task_then c p step (step_learn c p step found) ≡ put_task_left c p step found
put_task_moves c p PutStep.Size found = refl
put_task_moves c p PutStep.Left found = refl
put_task_moves c p PutStep.LeftWord found =
    opens_task c p PutStep.LeftWord (judges_left c p (guard_of found)) (opens-judges_left c p (guard_of found))
put_task_moves c p (PutStep.WinLeft n at) found = left_won_task c p n at (win_learn (left_win p n) at found)
put_task_moves c p (PutStep.UnlinkLeft b at) found =
    left_out_task c p b at (bin_learn (unlink_call c b) at found) ∙ task_moves (unlink_call c b) at found
put_task_moves c p PutStep.RightWord found =
    opens_task c p PutStep.RightWord (judges_right c p (guard_of found)) (opens-judges_right c p (guard_of found))
put_task_moves c p (PutStep.WinRight n at) found = right_won_task c p n at (win_learn (right_win p n) at found)
put_task_moves c p (PutStep.UnlinkRight b at) found =
    right_out_task c p b at (bin_learn (unlink_call c b) at found) ∙ task_moves (unlink_call c b) at found
put_task_moves c p PutStep.FarLeft found =
    opens_task c p PutStep.FarLeft (sees_far_left p (guard_of found)) (opens-sees_far_left c p (guard_of found))
put_task_moves c p PutStep.FarRight found =
    opens_task c p PutStep.FarRight (sees_far_right p (guard_of found)) (opens-sees_far_right c p (guard_of found))
put_task_moves c p (PutStep.Queue at) found = queue_task c p at (push_learn at found)
put_task_moves c p (PutStep.Bin at) found =
    bin_in_task c p at (bin_learn (insert_call c p.block) at found) ∙ task_moves (insert_call c p.block) at found

-- at the queue
left_won_queue : (c : PutCall) (p : PutAt) (n : ℕ) (at : WinAt) (next : WinNext)
    → QueueGoesOn (put_queue_then p (PutStep.WinLeft n at) (wins_left c p n next)) queue.Task.Away
left_won_queue c p n at (WinNext.Goes next) = tt
left_won_queue c p n at WinNext.Won = tt
left_won_queue c p n at (WinNext.NotWon found) =
    opens_queue c p (PutStep.WinLeft n at) (judges_left c p (guard_of found)) (opens-judges_left c p (guard_of found))
left_won_queue c p n at WinNext.GivenBack =
    opens_queue c p (PutStep.WinLeft n at) (queues c p) (opens-queues c p)

right_won_queue : (c : PutCall) (p : PutAt) (n : ℕ) (at : WinAt) (next : WinNext)
    → QueueGoesOn (put_queue_then p (PutStep.WinRight n at) (wins_right c p n next)) queue.Task.Away
right_won_queue c p n at (WinNext.Goes next) = tt
right_won_queue c p n at WinNext.Won = tt
right_won_queue c p n at (WinNext.NotWon found) =
    opens_queue c p (PutStep.WinRight n at) (judges_right c p (guard_of found))
    (opens-judges_right c p (guard_of found))
right_won_queue c p n at WinNext.GivenBack =
    opens_queue c p (PutStep.WinRight n at) (queues c p) (opens-queues c p)

left_out_queue : (p : PutAt) (b : Block) (at : BinAt) (next : BinNext)
    → QueueGoesOn (put_queue_then p (PutStep.UnlinkLeft b at) (unlinks_left p b next)) queue.Task.Away
left_out_queue p b at (BinNext.Goes next) = tt
left_out_queue p b at BinNext.Waits = tt
left_out_queue p b at BinNext.Done = tt

right_out_queue : (c : PutCall) (p : PutAt) (b : Block) (at : BinAt) (next : BinNext)
    → QueueGoesOn (put_queue_then p (PutStep.UnlinkRight b at) (unlinks_right c p b next)) queue.Task.Away
right_out_queue c p b at (BinNext.Goes next) = tt
right_out_queue c p b at BinNext.Waits = tt
right_out_queue c p b at BinNext.Done =
    opens_queue c p (PutStep.UnlinkRight b at) (ends c p Beside.Joined) (opens-ends c p Beside.Joined)

bin_in_queue : (p : PutAt) (at : BinAt) (next : BinNext)
    → QueueGoesOn (put_queue_then p (PutStep.Bin at) (bin_goes p next)) queue.Task.Away
bin_in_queue p at (BinNext.Goes next) = tt
bin_in_queue p at BinNext.Waits = tt
bin_in_queue p at BinNext.Done = tt

queue_queue : (p : PutAt) (at : PushAt) (next : PushNext)
    → QueueGoesOn (put_queue_then p (PutStep.Queue at) (queue_goes p next))
    (task_queued p.block.first p.block.granules next)
queue_queue p at (PushNext.Goes next) = refl
queue_queue p at (PushNext.Pushed found) = tt

pub put_queue_moves : (c : PutCall) (p : PutAt) (step : PutStep) (found : ℕ)
    → QueueGoesOn (put_queue_then p step (step_learn c p step found)) (put_queue_left p step found)
put_queue_moves c p PutStep.Size found = tt
put_queue_moves c p PutStep.Left found = tt
put_queue_moves c p PutStep.LeftWord found =
    opens_queue c p PutStep.LeftWord (judges_left c p (guard_of found)) (opens-judges_left c p (guard_of found))
put_queue_moves c p (PutStep.WinLeft n at) found = left_won_queue c p n at (win_learn (left_win p n) at found)
put_queue_moves c p (PutStep.UnlinkLeft b at) found =
    left_out_queue p b at (bin_learn (unlink_call c b) at found)
put_queue_moves c p PutStep.RightWord found =
    opens_queue c p PutStep.RightWord (judges_right c p (guard_of found)) (opens-judges_right c p (guard_of found))
put_queue_moves c p (PutStep.WinRight n at) found = right_won_queue c p n at (win_learn (right_win p n) at found)
put_queue_moves c p (PutStep.UnlinkRight b at) found =
    right_out_queue c p b at (bin_learn (unlink_call c b) at found)
put_queue_moves c p PutStep.FarLeft found =
    opens_queue c p PutStep.FarLeft (sees_far_left p (guard_of found)) (opens-sees_far_left c p (guard_of found))
put_queue_moves c p PutStep.FarRight found =
    opens_queue c p PutStep.FarRight (sees_far_right p (guard_of found)) (opens-sees_far_right c p (guard_of found))
put_queue_moves c p (PutStep.Queue at) found = queue_queue p at (push_learn at found)
put_queue_moves c p (PutStep.Bin at) found = bin_in_queue p at (bin_learn (insert_call c p.block) at found)

-- What each step of a put keeps of what it says by itself.
use Rattle.std.proofs.Common.{◌≡◌, ℕ, false, refl}
use Rattle.word_codes.specs.Guards.{guard_of}
use Rattle.chain_words.specs.declared.pushing.PushNext.{PushNext}
use Rattle.chain_words.specs.Pushing.{push_learn}
use Rattle.guards.specs.declared.win.WinNext.{WinNext}
use Rattle.guards.specs.Win.{win_learn}
use Rattle.backend_bins.specs.declared.bin.BinNext.{BinNext}
use Rattle.backend_bins.specs.declared.blocks.Block.{Block}
use Rattle.backend_bins.specs.Bin.{bin_learn}
use Rattle.coalescer.specs.declared.put.Beside.{Beside}
use Rattle.coalescer.specs.declared.put.PutAt.{PutAt}
use Rattle.coalescer.specs.declared.put.PutCall.{PutCall}
use Rattle.coalescer.specs.declared.put.PutStep.{PutStep}
use Rattle.coalescer.specs.Put.{bin_goes, ends, insert_call, judges_left, judges_right, left_win, queue_goes, queues}
use Rattle.coalescer.specs.Put.{right_win, sees_far_left, sees_far_right, step_learn, unlink_call, unlinks_left}
use Rattle.coalescer.specs.Put.{unlinks_right, wins_left, wins_right}
use Rattle.backend_tasks.specs.Fits.{PutFits}
use Rattle.backend_tasks.proofs.Jobs.{ThenPuts, ThenTakes, puts_moves, takes_moves}
use Rattle.backend_tasks.proofs.Opens.{PutThenFits, opens-ends, opens-judges_left, opens-judges_right, opens-queues}
use Rattle.backend_tasks.proofs.Opens.{opens-sees_far_left, opens-sees_far_right, opens_fits}

left_won_fits : (c : PutCall) (p : PutAt) (n : ℕ) (next : WinNext) → PutThenFits c (wins_left c p n next)
left_won_fits c p n (WinNext.Goes next) = tt
left_won_fits c p n WinNext.Won = tt
left_won_fits c p n (WinNext.NotWon found) =
    opens_fits c (judges_left c p (guard_of found)) (opens-judges_left c p (guard_of found))
left_won_fits c p n WinNext.GivenBack = opens_fits c (queues c p) (opens-queues c p)

right_won_fits : (c : PutCall) (p : PutAt) (n : ℕ) (next : WinNext) → PutThenFits c (wins_right c p n next)
right_won_fits c p n (WinNext.Goes next) = tt
right_won_fits c p n WinNext.Won = tt
right_won_fits c p n (WinNext.NotWon found) =
    opens_fits c (judges_right c p (guard_of found)) (opens-judges_right c p (guard_of found))
right_won_fits c p n WinNext.GivenBack = opens_fits c (queues c p) (opens-queues c p)

left_out_fits : (c : PutCall) (p : PutAt) (b : Block) (next : BinNext) → ThenTakes next
    → PutThenFits c (unlinks_left p b next)
left_out_fits c p b (BinNext.Goes next) takes = takes
left_out_fits c p b BinNext.Waits takes = tt
left_out_fits c p b BinNext.Done takes = tt

right_out_fits : (c : PutCall) (p : PutAt) (b : Block) (next : BinNext) → ThenTakes next
    → PutThenFits c (unlinks_right c p b next)
right_out_fits c p b (BinNext.Goes next) takes = takes
right_out_fits c p b BinNext.Waits takes = tt
right_out_fits c p b BinNext.Done takes = opens_fits c (ends c p Beside.Joined) (opens-ends c p Beside.Joined)

bin_in_fits : (c : PutCall) (p : PutAt) (next : BinNext) → ThenPuts next → PutThenFits c (bin_goes p next)
bin_in_fits c p (BinNext.Goes next) puts = puts
bin_in_fits c p BinNext.Waits puts = tt
bin_in_fits c p BinNext.Done puts = tt

queue_fits : (c : PutCall) (p : PutAt) (next : PushNext) → c.drained ≡ false → PutThenFits c (queue_goes p next)
queue_fits c p (PushNext.Goes next) drained = drained
queue_fits c p (PushNext.Pushed found) drained = tt

pub put_keeps_fits : (c : PutCall) (p : PutAt) (step : PutStep) (found : ℕ) → PutFits c step
    → PutThenFits c (step_learn c p step found)
put_keeps_fits c p PutStep.Size found fits = tt
put_keeps_fits c p PutStep.Left found fits = tt
put_keeps_fits c p PutStep.LeftWord found fits =
    opens_fits c (judges_left c p (guard_of found)) (opens-judges_left c p (guard_of found))
put_keeps_fits c p (PutStep.WinLeft n at) found fits = left_won_fits c p n (win_learn (left_win p n) at found)
put_keeps_fits c p (PutStep.UnlinkLeft b at) found fits =
    left_out_fits c p b (bin_learn (unlink_call c b) at found) (takes_moves (unlink_call c b) at found refl fits)
put_keeps_fits c p PutStep.RightWord found fits =
    opens_fits c (judges_right c p (guard_of found)) (opens-judges_right c p (guard_of found))
put_keeps_fits c p (PutStep.WinRight n at) found fits = right_won_fits c p n (win_learn (right_win p n) at found)
put_keeps_fits c p (PutStep.UnlinkRight b at) found fits =
    right_out_fits c p b (bin_learn (unlink_call c b) at found) (takes_moves (unlink_call c b) at found refl fits)
put_keeps_fits c p PutStep.FarLeft found fits =
    opens_fits c (sees_far_left p (guard_of found)) (opens-sees_far_left c p (guard_of found))
put_keeps_fits c p PutStep.FarRight found fits =
    opens_fits c (sees_far_right p (guard_of found)) (opens-sees_far_right c p (guard_of found))
put_keeps_fits c p (PutStep.Queue at) found fits = queue_fits c p (push_learn at found) fits
put_keeps_fits c p (PutStep.Bin at) found fits =
    bin_in_fits c p (bin_learn (insert_call c p.block) at found)
    (puts_moves (insert_call c p.block) at found refl fits)

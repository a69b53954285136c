-- The steps of a put by which its block goes into the queue.
use Rattle.std.proofs.Common.{◌≡◌, ◌+◌, ℕ, List, ◌++◌, sym, subst, arith}
use Rattle.pool_words.specs.declared.words.Key.{Key}
use Rattle.guards.specs.declared.win.Side.{Side}
use Rattle.guards.specs.declared.win.Taking.{Taking}
use Rattle.chain_words.specs.declared.pushing.PushAt.{PushAt}
use Rattle.chain_words.specs.declared.pushing.PushNext.{PushNext}
use Rattle.chain_words.specs.Pushing.{push_course, push_learn}
use Rattle.coalescer.specs.declared.put.PutAt.{PutAt}
use Rattle.coalescer.specs.declared.put.PutCall.{PutCall}
use Rattle.coalescer.specs.declared.put.PutStep.{PutStep}
use Rattle.coalescer.specs.Put.{push_call, queue_goes}
use Rattle.word_laws.specs.Memory.{Mem, after}
use Rattle.guard_laws.specs.Blocks.{Place, Use}
use Rattle.bin_laws.specs.Bins as binning
use Rattle.queue_laws.specs.Queue as line_laws
use Rattle.queue_laws.specs.Steps.{shadow_queued, task_queued}
use Rattle.hand_blocks.specs.Changes.{HandsLead, given_changes, pushed_changes}
use Rattle.hand_blocks.specs.Hands.{Hand, joining}
use Rattle.pool_laws.specs.Wholes.{Whole, WholeGood}
use Rattle.seat_ties.specs.Says.{AreMarked}
use Rattle.seat_ties.specs.Ties.{HandsTied}
use Rattle.put_moves.proofs.Blocks.{goes_out}
use Rattle.put_moves.proofs.Job.{After, Before, NextSays, found_at, marks_stay}
use Rattle.put_moves.proofs.QueueMoves.{pushes}
use Rattle.put_moves.proofs.Words.{guard_elsewhere, push_writes}

-- a push leaves the hand as it was until the block is the queue's first one
pushed_hands : (k : Key) (w : Whole) (seat : ℕ) (p : PutAt) (next : PushNext) (was is : List Hand) → WholeGood k w
    → w.pool.blocks.place p.block.first ≡ Place.Block p.block.first p.block.granules (Use.Held seat Taking.ToJoin)
    → HandsTied w.pool.blocks.place (w.drained seat) seat was
    → HandsLead (pushed_changes (joining p.block) next ++ given_changes (queue_goes p next)) was is
    → HandsTied (shadow_queued p.block.first p.block.granules next w.pool.blocks).place (w.drained seat) seat is
pushed_hands k w seat p (PushNext.Goes at) was is good lies tied leads =
    subst (HandsTied w.pool.blocks.place (w.drained seat) seat) (sym leads) tied
pushed_hands k w seat p (PushNext.Pushed head) was is good lies tied leads =
    subst (HandsTied (shadow_queued p.block.first p.block.granules (PushNext.Pushed head) w.pool.blocks).place
    (w.drained seat) seat) (sym leads.2)
    (goes_out k w seat p.block.first p.block.granules Taking.ToJoin Use.Queued was leads.0 good lies tied leads.1)

pushed_says : (later : Whole) (seat : ℕ) (p : PutAt) (step : PutStep) (next : PushNext)
    → AreMarked later.pool.mem p.block.first p.block.granules → NextSays later seat p step (queue_goes p next)
pushed_says later seat p step (PushNext.Goes at) marked = record { marked = marked }
pushed_says later seat p step (PushNext.Pushed head) marked = tt

push_marks : (k : Key) (w later : Whole) (p : PutAt) (at : PushAt)
    → later.pool.mem ≡ after k w.pool.mem (push_course (push_call p at) at)
    → AreMarked w.pool.mem p.block.first p.block.granules → AreMarked later.pool.mem p.block.first p.block.granules
push_marks k w later p at words marked =
    let action = push_course (push_call p at) at in
    let writes = push_writes (push_call p at) at (omega arith, omega arith) (omega arith, omega arith) in
    subst (λ (m : Mem). AreMarked m p.block.first p.block.granules) (sym words)
    (marks_stay w.pool.mem (after k w.pool.mem action) p.block.first p.block.granules
    (guard_elsewhere k w.pool.mem action Side.Begin p.block.first writes)
    (guard_elsewhere k w.pool.mem action Side.End (p.block.first + p.block.granules) writes) marked)

pub queue_turns : (k : Key) (w : Whole) (c : PutCall) (p : PutAt) (at : PushAt) (was is : List Hand)
    → Before k w c p (PutStep.Queue at) (line_laws.Task.Queues p.block.first p.block.granules at) was is
    → After k w c p (PutStep.Queue at)
    (task_queued p.block.first p.block.granules (push_learn at (found_at w c p (PutStep.Queue at)))) is
queue_turns k w c p at was is b =
    let next : PushNext = push_learn at (found_at w c p (PutStep.Queue at)) in
    record {
      place' = (shadow_queued p.block.first p.block.granules next w.pool.blocks).place;
      steps = pushes k w c.seat p.block.first p.block.granules at binning.Task.Away b.now;
      hands = pushed_hands k w c.seat p next was is b.good b.each.0.lies b.tied b.leads;
      says = λ later l. pushed_says later c.seat p (PutStep.Queue at) next
          (push_marks k w later p at l.words b.says.marked);
    }

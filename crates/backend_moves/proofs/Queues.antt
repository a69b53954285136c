-- A look at the queue is a step of the whole.
use Rattle.std.proofs.Common.{◌≡◌, [], true, refl}
use Rattle.pool_words.specs.declared.words.Key.{Key}
use Rattle.pool_words.specs.declared.words.Word.{Word}
use Rattle.guard_laws.specs.Blocks as guards
use Rattle.bin_laws.specs.Bins as bins
use Rattle.step_local.specs.declared.frames.At.{At}
use Rattle.step_local.specs.declared.frames.Local.{Local}
use Rattle.step_local.specs.Course.{course}
use Rattle.step_runs.specs.Places.{has_word}
use Rattle.pool_laws.specs.Wholes.{Whole, WholeGood}
use Rattle.seat_ties.specs.Left.{Suits}
use Rattle.seat_ties.specs.Ties.{SeatTied}
use Rattle.seat_ties.specs.Turns.{StepLeaves, found_in, seen_in}
use Rattle.seat_ties.proofs.CallerLemmas.{nothing_is_said_elsewhere}
use Rattle.backend_moves.specs.Moved.{Moved}
use Rattle.backend_moves.specs.Laws.{QueuesAreTurned}
use Rattle.backend_moves.specs.Positions.{IsQueueAt}
use Rattle.backend_moves.proofs.Finish.{leaves_by, others_stay}
use Rattle.backend_moves.proofs.Looks.{idle_away, is_free, look_moves}

queue_turned : (k : Key) (w : Whole) (l : Local) (at : At) → IsQueueAt at → WholeGood k w
    → SeatTied k w l.seat (record l { at = at }) → has_word (course (record l { at = at })) ≡ true
    → Suits k (record l { at = at }) (seen_in w (record l { at = at })) → StepLeaves k w (record l { at = at })
queue_turned k w l At.Queue is good tied word suits =
    let at : Local = record l { at = At.Queue } in
    let moved : Moved k w l.seat (course at) guards.Task.Away bins.Task.Away [] =
    look_moves k w l.seat Word.Queue guards.Task.Away bins.Task.Away
    (is_free w l.seat tied.tasks.jobs (idle_away (w.queue l.seat) tied.tasks.queue)) tied.tasks.guards
    tied.tasks.bins in
    leaves_by k w at tied word suits (others_stay l At.Queue (found_in w at) tt) refl moved
    (nothing_is_said_elsewhere moved.later l.seat at (seen_in w at) tt).words
queue_turned k w l _ is good tied word suits = absurd is

pub queues_are_turned : QueuesAreTurned
queues_are_turned k w l good tied reset word suits is = queue_turned k w l l.at is good tied word suits

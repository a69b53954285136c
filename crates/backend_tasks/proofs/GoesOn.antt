-- A task that is left, and the one that is there now.
use Rattle.std.proofs.Common.{refl}
use Rattle.guard_laws.specs.Blocks as guards
use Rattle.queue_laws.specs.Queue as queue
use Rattle.backend_tasks.specs.Guards.{GuardGoesOn, GuardStarts}
use Rattle.backend_tasks.specs.Queue.{QueueGoesOn, QueueStarts}

pub guard_same : (task : guards.Task) → GuardGoesOn task task
guard_same guards.Task.Away = tt
guard_same (guards.Task.Wins call at) = refl
guard_same (guards.Task.Offers first granules) = refl

-- what ends with no task goes on with one that starts
pub guard_from_away : (now left : guards.Task) → GuardGoesOn guards.Task.Away left → GuardStarts now
    → GuardGoesOn now left
guard_from_away now guards.Task.Away goes starts = starts
guard_from_away now (guards.Task.Wins call at) goes starts = absurd (cc)
guard_from_away now (guards.Task.Offers first granules) goes starts = absurd (cc)

pub queue_same : (task : queue.Task) → QueueGoesOn task task
queue_same queue.Task.Away = tt
queue_same (queue.Task.Queues first granules at) = refl
queue_same (queue.Task.Drains rest) = refl

pub queue_from_away : (now left : queue.Task) → QueueGoesOn queue.Task.Away left → QueueStarts now
    → QueueGoesOn now left
queue_from_away now queue.Task.Away goes starts = starts
queue_from_away now (queue.Task.Queues first granules at) goes starts = absurd (cc)
queue_from_away now (queue.Task.Drains rest) goes starts = absurd (cc)

-- What a seat is about to do with the queue, by its position, and what its next step leaves of that.
use Rattle.std.specs.Prelude.{◌≡◌, ℕ, ⊤, Option, Some, None}
use Rattle.pool_words.specs.declared.actions.Seen.{Seen}
use Rattle.pool_words.specs.Actions.{word_seen}
use Rattle.word_codes.specs.Links.{link_of}
use Rattle.word_codes.specs.QueueLinks.{queue_link_of}
use Rattle.chain_words.specs.declared.pushing.PushAt.{PushAt}
use Rattle.chain_words.specs.Pushing.{push_learn}
use Rattle.coalescer.specs.declared.drain.DrainAt.{DrainAt}
use Rattle.coalescer.specs.declared.drain.DrainCall.{DrainCall}
use Rattle.coalescer.specs.declared.put.PutAt.{PutAt}
use Rattle.coalescer.specs.declared.put.PutNext.{PutNext}
use Rattle.coalescer.specs.declared.put.PutStep.{PutStep}
use Rattle.coalescer.specs.Drain.{put_call as drained_put}
use Rattle.coalescer.specs.Put.{put_learn}
use Rattle.region_steps.specs.declared.office.OfficeNext.{OfficeNext}
use Rattle.region_steps.specs.Office.{office_learn}
use Rattle.queue_laws.specs.Queue.{Task}
use Rattle.queue_laws.specs.Queue.Task.{Away, Queues, Drains}
use Rattle.queue_laws.specs.Steps.{task_queued}
use Rattle.step_local.specs.declared.frames.At.{At}
use Rattle.step_local.specs.declared.frames.Local.{Local}
use Rattle.step_local.specs.declared.frames.OfficeFor.{OfficeFor}
use Rattle.step_local.specs.Backend.{drain_call, office_call}

abbrev pub put_queue : PutAt → PutStep → Task
put_queue p (PutStep.Queue at) = Queues p.block.first p.block.granules at
put_queue p _ = Away

-- all through the put of a block that came from the queue, the seat has what is left of it
abbrev pub drain_queue : DrainAt → Task
drain_queue DrainAt.Swap = Away
drain_queue (DrainAt.Link first) = Drains (Some first)
drain_queue (DrainAt.Put rest at) = Drains rest

-- so it has while it gives back the region that such a block is
abbrev pub office_queue : OfficeFor → Task
office_queue OfficeFor.Ask = Away
office_queue (OfficeFor.Put first) = Away
office_queue (OfficeFor.Drain first rest) = Drains rest

abbrev pub queue_task_at : Local → At → Task
queue_task_at l (At.Drain at) = drain_queue at
queue_task_at l (At.Put at) = put_queue at at.step
queue_task_at l (At.Office job at) = office_queue job
queue_task_at l _ = Away

-- what the seat is about to do with the queue
abbrev pub queue_task_of : Local → Task
queue_task_of l = queue_task_at l l.at

abbrev pub put_queue_left : PutAt → PutStep → ℕ → Task
put_queue_left p (PutStep.Queue at) found = task_queued p.block.first p.block.granules (push_learn at found)
put_queue_left p _ found = Away

-- where nothing is left of the queue the drain ends with that turn
abbrev pub drained : Option ℕ → Task
drained (Some first) = Drains (Some first)
drained None = Away

abbrev pub drained_by : Option ℕ → PutNext → Task
drained_by rest (PutNext.Goes at) = Drains rest
drained_by rest (PutNext.Waits bin) = Drains rest
drained_by rest PutNext.Done = drained rest
drained_by rest (PutNext.Gives b) = Drains rest

abbrev pub drain_queue_left : DrainCall → DrainAt → ℕ → Task
drain_queue_left c DrainAt.Swap found = drained (link_of found)
drain_queue_left c (DrainAt.Link first) found = Drains (queue_link_of found).next
drain_queue_left c (DrainAt.Put rest at) found = drained_by rest (put_learn (drained_put c) at found)

abbrev pub given_by : Option ℕ → OfficeNext → Task
given_by rest (OfficeNext.Goes at) = Drains rest
given_by rest OfficeNext.Waits = Drains rest
given_by rest (OfficeNext.Left end) = drained rest

abbrev pub office_queue_left : OfficeFor → OfficeNext → Task
office_queue_left OfficeFor.Ask next = Away
office_queue_left (OfficeFor.Put first) next = Away
office_queue_left (OfficeFor.Drain first rest) next = given_by rest next

-- what the next step leaves to do, if it sees this: the office answers with more than a number
abbrev pub queue_left_at : Local → At → Seen → Task
queue_left_at l (At.Drain at) seen = drain_queue_left (drain_call l) at (word_seen seen)
queue_left_at l (At.Put at) seen = put_queue_left at at.step (word_seen seen)
queue_left_at l (At.Office job at) seen = office_queue_left job (office_learn (office_call l job) at seen)
queue_left_at l _ seen = Away

abbrev pub queue_left : Local → Seen → Task
queue_left l seen = queue_left_at l l.at seen

-- where no task is left, one may start: a push, by a look at the queue
abbrev pub PushStarts : PushAt → Type 0
PushStarts PushAt.Look = ⊤
PushStarts (PushAt.Link found) = ⊥
PushStarts (PushAt.Exchange found) = ⊥

abbrev pub QueueStarts : Task → Type 0
QueueStarts Away = ⊤
QueueStarts (Queues first granules at) = PushStarts at
QueueStarts (Drains rest) = ⊥

-- the task now is the one that was left; where none was, it may be one that starts
abbrev pub QueueGoesOn : Task → Task → Type 0
QueueGoesOn now Away = QueueStarts now
QueueGoesOn now (Queues first granules at) = now ≡ Queues first granules at
QueueGoesOn now (Drains rest) = now ≡ Drains rest

-- Steps of the whole at the queue.
use Rattle.std.proofs.Common.{◌≡◌, ℕ, Some, None, List, [], ◌∙◌, refl}
use Rattle.pool_words.specs.declared.words.Key.{Key}
use Rattle.pool_words.specs.declared.words.Word.{Word}
use Rattle.pool_words.specs.declared.actions.Action.{Action}
use Rattle.pool_words.specs.declared.actions.Action.TheVariants.{Load, Swap}
use Rattle.word_codes.specs.Links.{link_of}
use Rattle.word_codes.specs.QueueLinks.{queue_link_of}
use Rattle.chain_words.specs.declared.pushing.PushAt.{PushAt}
use Rattle.chain_words.specs.declared.pushing.PushNext.{PushNext}
use Rattle.chain_words.specs.Pushing.{push_learn}
use Rattle.word_laws.specs.Memory.{Mem, after, found, put}
use Rattle.word_laws.proofs.CallerLemmas.{put_here}
use Rattle.chain_laws.specs.Pushing.{push_action}
use Rattle.chain_laws.specs.Seats.{items_after}
use Rattle.guard_laws.specs.Blocks as blocks
use Rattle.guard_laws.specs.Steps.{shadow_drained}
use Rattle.bin_laws.specs.Bins as binning
use Rattle.queue_laws.specs.Queue as queues
use Rattle.queue_laws.specs.Queue.{push_of, queue_words}
use Rattle.queue_laws.specs.Steps.{QueueStep, behind, shadow_queued, task_queued}
use Rattle.queue_laws.specs.Steps as queuing
use Rattle.free_laws.specs.Spaces.{queue_of, queue_tasks}
use Rattle.free_laws.specs.Steps.{with_queue}
use Rattle.pool_laws.specs.Changes.{with_space}
use Rattle.pool_laws.specs.Steps.{WholeStep}
use Rattle.pool_laws.specs.Wholes.{Whole, space_of}
use Rattle.seat_ties.specs.Turns.{stays, steps_on}
use Rattle.put_moves.proofs.Frame.{Now, SameElse, Steps, Tasks, tasks}

same_queue : (h : queues.Shadow) (m : Mem) (l : queues.Locals) (w : Whole)
    → SameElse w (with_space (with_queue h m l (space_of w)) w)
same_queue h m l w = record {
  locals = refl;
  kept = refl;
  cached = refl;
  jobs = refl;
  desks = refl;
  office = refl;
  settled = refl;
  mails = refl;
  tasks = refl;
  spares = refl;
}

abbrev pub at_queue : binning.Task → queues.Task → Tasks
at_queue bin line = tasks blocks.Task.Away bin line

-- a step of a push
pub pushes : (k : Key) (w : Whole) (seat x n : ℕ) (at : PushAt) (bin : binning.Task)
    → Now w seat (at_queue bin (queues.Task.Queues x n at))
    → Steps k w seat (push_action queue_words (push_of x n) at)
    (at_queue bin (task_queued x n (push_learn at (found w.pool.mem (push_action queue_words (push_of x n) at)))))
    (shadow_queued x n (push_learn at (found w.pool.mem (push_action queue_words (push_of x n) at)))
    w.pool.blocks).place (w.drained seat)
pushes k w seat x n at bin now =
    let next : PushNext = push_learn at (found w.pool.mem (push_action queue_words (push_of x n) at)) in
    let h : queues.Shadow = record {
      guards = shadow_queued x n next w.pool.blocks;
      queued = items_after (push_of x n) w.queued next;
      drained = w.drained;
    } in
    let m' : Mem = after k w.pool.mem (push_action queue_words (push_of x n) at) in
    let l' : queues.Locals = queuing.with_queue seat (task_queued x n next) (queue_tasks (space_of w)) in
    record {
      later = with_space (with_queue h m' l' (space_of w)) w;
      run = steps_on stays (WholeStep.queue h m' l' (QueueStep.pushes x n at now.queue now.guards) tt now.jobs);
      words = refl;
      guards = now.guards;
      bins = now.bins;
      queue = put_here w.queue seat seat (task_queued x n next) refl;
      same = same_queue h m' l' w;
      place = refl;
      drained = refl;
    }

-- the queue is taken
pub takes : (k : Key) (w : Whole) (seat : ℕ) (bin : binning.Task) → Now w seat (at_queue bin queues.Task.Away)
    → Steps k w seat (Swap Word.Queue 0)
    (at_queue bin (queues.Task.Drains (link_of (found w.pool.mem (Swap Word.Queue 0)))))
    (shadow_drained seat w.pool.blocks).place w.queued
takes k w seat bin now =
    let next : queues.Task = queues.Task.Drains (link_of (found w.pool.mem (Swap Word.Queue 0))) in
    let h : queues.Shadow = record {
      guards = shadow_drained seat w.pool.blocks;
      queued = [];
      drained = put w.drained seat w.queued;
    } in
    let m' : Mem = after k w.pool.mem (Swap Word.Queue 0) in
    let l' : queues.Locals = queuing.with_queue seat next (queue_tasks (space_of w)) in
    record {
      later = with_space (with_queue h m' l' (space_of w)) w;
      run = steps_on stays (WholeStep.queue h m' l' (QueueStep.takes now.queue) tt now.jobs);
      words = refl;
      guards = now.guards;
      bins = now.bins;
      queue = put_here w.queue seat seat next refl;
      same = same_queue h m' l' w;
      place = refl;
      drained = put_here w.drained seat seat w.queued refl;
    }

-- the link of its first block is read
pub reads_link : (k : Key) (w : Whole) (seat x : ℕ) (bin : binning.Task)
    → Now w seat (at_queue bin (queues.Task.Drains (Some x)))
    → Steps k w seat (Load (Word.QueueLink x))
    (at_queue bin (queues.Task.Drains (queue_link_of (found w.pool.mem (Load (Word.QueueLink x)))).next))
    w.pool.blocks.place (behind (w.drained seat))
reads_link k w seat x bin now =
    let next : queues.Task =
    queues.Task.Drains (queue_link_of (found w.pool.mem (Load (Word.QueueLink x)))).next in
    let h : queues.Shadow = record {
      guards = w.pool.blocks;
      queued = w.queued;
      drained = put w.drained seat (behind (w.drained seat));
    } in
    let l' : queues.Locals = queuing.with_queue seat next (queue_tasks (space_of w)) in
    record {
      later = with_space (with_queue h w.pool.mem l' (space_of w)) w;
      run = steps_on stays (WholeStep.queue h w.pool.mem l' (QueueStep.reads x now.queue) tt now.jobs);
      words = refl;
      guards = now.guards;
      bins = now.bins;
      queue = put_here w.queue seat seat next refl;
      same = same_queue h w.pool.mem l' w;
      place = refl;
      drained = put_here w.drained seat seat (behind (w.drained seat)) refl;
    }

-- behind other steps: all of it is put
pub ends : (k : Key) (w : Whole) (seat : ℕ) (action : Action) (t : Tasks) (place : ℕ → blocks.Place) (gone : List ℕ)
    → (before : Steps k w seat action t place gone) → t.line ≡ queues.Task.Drains None → Now before.later seat t
    → Steps k w seat action (tasks t.guard t.bin queues.Task.Away) place gone
ends k w seat action t place gone before none now =
    let mid : Whole = before.later in
    let l' : queues.Locals = queuing.with_queue seat queues.Task.Away (queue_tasks (space_of mid)) in
    record {
      later = with_space (with_queue (queue_of (space_of mid)) mid.pool.mem l' (space_of mid)) mid;
      run = steps_on before.run (WholeStep.queue (queue_of (space_of mid)) mid.pool.mem l'
          (QueueStep.ends (now.queue ∙ none)) tt now.jobs);
      words = before.words;
      guards = before.guards;
      bins = before.bins;
      queue = put_here mid.queue seat seat queues.Task.Away refl;
      same = record {
        locals = before.same.locals;
        kept = before.same.kept;
        cached = before.same.cached;
        jobs = before.same.jobs;
        desks = before.same.desks;
        office = before.same.office;
        settled = before.same.settled;
        mails = before.same.mails;
        tasks = before.same.tasks;
        spares = before.same.spares;
      };
      place = before.place;
      drained = before.drained;
    }

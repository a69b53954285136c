-- What a turn at the cache, a start there and a tick make of the whole, and what they rest on.
use Rattle.std.specs.Prelude.{◌≡◌, ℕ, []}
use Rattle.guards.specs.declared.win.Taking.{Taking}
use Rattle.pool_words.specs.declared.words.Key.{Key}
use Rattle.word_laws.specs.Memory.{after, found, put}
use Rattle.guard_laws.specs.Blocks as guards
use Rattle.bin_laws.specs.Bins as bins
use Rattle.queue_laws.specs.Queue as queues
use Rattle.cache_laws.specs.Good.{Task}
use Rattle.shelf_laws.specs.Steps.{with_job}
use Rattle.use_laws.specs.After.{with_mem}
use Rattle.step_local.specs.declared.frames.At.{At}
use Rattle.step_local.specs.declared.frames.LargeAt.{LargeAt}
use Rattle.step_local.specs.declared.frames.Local.{Local}
use Rattle.step_local.specs.Course.{course}
use Rattle.cache_tasks.specs.Cache.{CacheStarts, cache_left, cache_task_of}
use Rattle.cache_tasks.specs.Shelves.{HasJob, StartRestsAt, shelf_left}
use Rattle.pool_laws.specs.Changes.{with_pool, with_shelf}
use Rattle.pool_laws.specs.Steps.{WholeStep}
use Rattle.pool_laws.specs.Wholes.{Whole, shelf_of}

-- a seat that has nothing to do with guards, bins or the queue, and nothing left of what it took of the queue
pub record IsOffBackend (w : Whole) (seat : ℕ) : Type 0 where
  pub guards : w.pool.tasks seat ≡ guards.Task.Away
  pub bins : w.bins seat ≡ bins.Task.Away
  pub queue : w.queue seat ≡ queues.Task.Away
  pub drained : w.drained seat ≡ []

-- a local with a job at a bin of the cache, which is what the whole has of its seat
pub record TurnFits (l : Local) (w : Whole) : Type 0 where
  pub job : HasJob l
  pub task : w.jobs l.seat ≡ cache_task_of l
  pub off : IsOffBackend w l.seat

-- the whole after the turn, where the blocks that leave a bin are taken so
abbrev pub whole_turned : Key → Taking → Local → Whole → Whole
whole_turned k taking l w = with_shelf (shelf_left k taking l (shelf_of w)) w

-- what a turn leaves of the other tasks of every seat
pub record KeepsTasks (w later : Whole) : Type 0 where
  pub guards' : later.pool.tasks ≡ w.pool.tasks
  pub objects' : later.pool.locals ≡ w.pool.locals
  pub desks' : later.desks ≡ w.desks
  pub bins' : later.bins ≡ w.bins
  pub queue' : later.queue ≡ w.queue
  pub drained' : later.drained ≡ w.drained
  pub mails' : later.mails ≡ w.mails
  pub orphans' : later.tasks ≡ w.tasks
  pub spares' : later.spares ≡ w.spares

-- the turn is a step of the whole: the memory is that after the local's step, and the job what it left
pub record IsWholeTurn (k : Key) (taking : Taking) (l : Local) (w : Whole) : Type 0 where
  pub step : WholeStep k l.seat w (whole_turned k taking l w)
  pub mem' : (whole_turned k taking l w).pool.mem ≡ after k w.pool.mem (course l)
  pub jobs' : (whole_turned k taking l w).jobs ≡ put w.jobs l.seat (cache_left l (found w.pool.mem (course l)))

-- a local that starts a job at the cache, of whose seat the whole has none
pub record StartFitsWhole (l : Local) (w : Whole) : Type 0 where
  pub job : HasJob l
  pub starts : CacheStarts l
  pub away : w.jobs l.seat ≡ Task.Away
  pub off : IsOffBackend w l.seat
  pub rests : StartRestsAt l (shelf_of w) l.at

abbrev pub whole_started : Local → Whole → Whole
whole_started l w = with_shelf (with_job l.seat (cache_task_of l) (shelf_of w)) w

-- a local that ticks the clock, while its seat has no job at the cache
pub record TickFits (l : Local) (w : Whole) : Type 0 where
  pub ticks : l.at ≡ At.Large LargeAt.Tick
  pub away : w.jobs l.seat ≡ Task.Away
  pub off : IsOffBackend w l.seat

-- the whole after a tick
abbrev pub whole_ticked : Key → Local → Whole → Whole
whole_ticked k l w = with_pool (with_mem (after k w.pool.mem (course l)) w.pool) w

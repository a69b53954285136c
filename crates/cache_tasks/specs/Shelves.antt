-- A turn at the cache, and the start of a job there, as the steps of a pool and its cache.
use Rattle.std.specs.Prelude.{◌≡◌, ◌<◌, ⊤}
use Rattle.guards.specs.declared.win.Taking.{Taking}
use Rattle.pool_words.specs.declared.words.Key.{Key}
use Rattle.pool_words.specs.Words.{cache_counts}
use Rattle.word_laws.specs.Memory.{after, found, put}
use Rattle.guard_laws.specs.Blocks as guards
use Rattle.cache_laws.specs.Good.{Task}
use Rattle.use_laws.specs.Pools.{InHand}
use Rattle.shelf_laws.specs.Shelves.{State}
use Rattle.shelf_laws.specs.Steps.{ShelfStep, state_got, state_kept, state_swept, state_undone, with_job}
use Rattle.step_local.specs.declared.frames.At.{At}
use Rattle.step_local.specs.declared.frames.Local.{Local}
use Rattle.step_local.specs.Course.{course}
use Rattle.step_local.specs.Large.{granules_of_served}
use Rattle.cache_tasks.specs.Cache.{CacheStarts, cache_left, cache_task_of, gone_at}

-- the positions of the jobs at a bin of the cache
abbrev pub HasJobAt : At → Type 0
HasJobAt (At.Get at) = ⊤
HasJobAt (At.Undo cause at) = ⊤
HasJobAt (At.Keep at) = ⊤
HasJobAt (At.Sweep at) = ⊤
HasJobAt _ = ⊥

abbrev pub HasJob : Local → Type 0
HasJob l = HasJobAt l.at

-- what the next step leaves of the pool and its cache, where the blocks that leave a bin are taken so
abbrev pub shelf_left_at : Key → Taking → Local → At → State → State
shelf_left_at k taking l (At.Get at) s =
    state_got k l.seat taking (granules_of_served l.call.served) l.call.time at s
shelf_left_at k taking l (At.Undo cause at) s = state_undone k l.seat (granules_of_served l.call.served) at s
shelf_left_at k taking l (At.Keep at) s =
    state_kept k l.seat taking l.call.block.granules l.call.time l.call.block.first at s
shelf_left_at k taking l (At.Sweep at) s = state_swept k l.seat taking l.sweep.granules l.sweep.time l.sweep.cleanup
    (gone_at l.released.items at) at s
shelf_left_at k taking l _ s = s

abbrev pub shelf_left : Key → Taking → Local → State → State
shelf_left k taking l s = shelf_left_at k taking l l.at s

-- the seat's job is the local's task, and it is at no guard
pub record JobFits (l : Local) (s : State) : Type 0 where
  pub job : HasJob l
  pub task : s.jobs l.seat ≡ cache_task_of l
  pub away : s.pool.tasks l.seat ≡ guards.Task.Away

-- the turn is a step of the pool and its cache: the memory is that after the local's step, and the seat's job what it
-- left
pub record IsShelfTurn (k : Key) (taking : Taking) (l : Local) (s : State) : Type 0 where
  pub step : ShelfStep k l.seat s (shelf_left k taking l s)
  pub mem' : (shelf_left k taking l s).pool.mem ≡ after k s.pool.mem (course l)
  pub jobs' : (shelf_left k taking l s).jobs
      ≡ put s.jobs l.seat (cache_left l (found s.pool.mem (course l)))

-- what a start rests on: there is such a bin, and what is to be put is in the seat's hand
abbrev pub StartRestsAt : Local → State → At → Type 0
StartRestsAt l s (At.Get at) = granules_of_served l.call.served < cache_counts
StartRestsAt l s (At.Undo cause at) = granules_of_served l.call.served < cache_counts
StartRestsAt l s (At.Keep at) = (l.call.block.granules < cache_counts)
    × InHand s.pool l.seat l.call.block.first l.call.block.granules Taking.ForUse
StartRestsAt l s (At.Sweep at) = l.sweep.granules < cache_counts
StartRestsAt l s _ = ⊤

pub record StartFits (l : Local) (s : State) : Type 0 where
  pub job : HasJob l
  pub starts : CacheStarts l
  pub away : s.jobs l.seat ≡ Task.Away
  pub rests : StartRestsAt l s l.at

abbrev pub IsShelfStart : Key → Local → State → Type 0
IsShelfStart k l s = ShelfStep k l.seat s (with_job l.seat (cache_task_of l) s)

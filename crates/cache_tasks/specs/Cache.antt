-- What a seat is about to do at the cache of large blocks, by its position, and what its next step leaves of that.
use Rattle.std.specs.Prelude.{◌≡◌, ℕ, false, List, [], ⊤}
use Rattle.large_cache.specs.declared.get.GetAt.{GetAt}
use Rattle.large_cache.specs.declared.keep.KeepAt.{KeepAt}
use Rattle.large_cache.specs.declared.sweep.Cleanup.{Cleanup}
use Rattle.large_cache.specs.declared.sweep.SweepAt.{SweepAt}
use Rattle.large_cache.specs.declared.undo.UndoAt.{UndoAt}
use Rattle.large_cache.specs.Get.{get_learn}
use Rattle.large_cache.specs.Keep.{keep_learn}
use Rattle.large_cache.specs.Sweep.{sweep_learn}
use Rattle.large_cache.specs.Undo.{undo_learn}
use Rattle.cache_laws.specs.Good.{Task, sweep_holds}
use Rattle.cache_laws.specs.Good.Task.{Away, Getting, Undoing, Keeping, Sweeping}
use Rattle.cache_laws.specs.Steps.{task_got, task_undone, task_kept, task_swept}
use Rattle.step_local.specs.declared.frames.At.{At}
use Rattle.step_local.specs.declared.frames.Local.{Local}
use Rattle.step_local.specs.declared.frames.Served.{Served}
use Rattle.step_local.specs.declared.frames.Stage.{Stage}
use Rattle.step_local.specs.Large.{granules_of_served, sweep_call}

-- the blocks of the bin that go, the newest first, as far as the sweep has judged them; none before it has the lock
abbrev pub gone_at : List ℕ → SweepAt → List ℕ
gone_at released SweepAt.Clock = []
gone_at released SweepAt.Peek = []
gone_at released SweepAt.Lock = []
gone_at released _ = released

abbrev pub cache_task_at : Local → At → Task
cache_task_at l (At.Get at) = Getting (granules_of_served l.call.served) l.call.time at
cache_task_at l (At.Undo cause at) = Undoing (granules_of_served l.call.served) at
cache_task_at l (At.Keep at) = Keeping l.call.block.granules l.call.time l.call.block.first at
cache_task_at l (At.Sweep at) = Sweeping l.sweep.granules l.sweep.time l.sweep.cleanup (gone_at l.released.items at) at
cache_task_at l _ = Away

-- what the seat is about to do at the cache; a reset, which clears bins while no other seat steps, has no task
abbrev pub cache_task_of : Local → Task
cache_task_of l = cache_task_at l l.at

-- what the next step leaves to do, if it finds this
abbrev pub cache_left_at : Local → At → ℕ → Task
cache_left_at l (At.Get at) found = task_got (granules_of_served l.call.served) l.call.time (get_learn at found)
cache_left_at l (At.Undo cause at) found = task_undone (granules_of_served l.call.served) (undo_learn at found)
cache_left_at l (At.Keep at) found =
    task_kept l.call.block.granules l.call.time l.call.block.first (keep_learn at found)
cache_left_at l (At.Sweep at) found = task_swept l.sweep.granules l.sweep.time l.sweep.cleanup
    (gone_at l.released.items at) (sweep_learn (sweep_call l) at found)
cache_left_at l _ found = Away

abbrev pub cache_left : Local → ℕ → Task
cache_left l found = cache_left_at l l.at found

abbrev pub IsLarge : Served → Type 0
IsLarge (Served.Small class) = ⊥
IsLarge (Served.Large granules alignment) = ⊤

-- where a task starts: a get, an undo and a put at the lock, a sweep of a bin with the look at it, or a soft cleanup
-- with its clock
abbrev pub SweepStarts : Local → SweepAt → Type 0
SweepStarts l SweepAt.Clock = l.sweep.cleanup ≡ Cleanup.Soft
SweepStarts l SweepAt.Peek = ⊤
SweepStarts l _ = ⊥

abbrev pub CacheStartsAt : Local → At → Type 0
CacheStartsAt l (At.Get at) = (at ≡ GetAt.Lock) × (l.call.stage ≡ Stage.Getting)
CacheStartsAt l (At.Undo cause at) = (at ≡ UndoAt.Lock) × IsLarge l.call.served
CacheStartsAt l (At.Keep at) = at ≡ KeepAt.Lock
CacheStartsAt l (At.Sweep at) = SweepStarts l at
CacheStartsAt l _ = ⊤

abbrev pub CacheStarts : Local → Type 0
CacheStarts l = CacheStartsAt l l.at

-- what a seat may begin with: at the lock, and a sweep at whatever position before it, with no block that goes
abbrev pub IsCacheStart : Task → Type 0
IsCacheStart Away = ⊤
IsCacheStart (Getting granules time at) = at ≡ GetAt.Lock
IsCacheStart (Undoing granules at) = at ≡ UndoAt.Lock
IsCacheStart (Keeping granules time block at) = at ≡ KeepAt.Lock
IsCacheStart (Sweeping granules time cleanup gone at) = (gone ≡ []) × (sweep_holds at ≡ false)

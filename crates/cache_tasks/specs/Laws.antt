-- The laws of what each seat is about to do at the cache of large blocks.
use Rattle.std.specs.Prelude.{◌≡◌, ◌⊎◌, ℕ, ⊤}
use Rattle.pool_types.specs.declared.values.Request.{Request}
use Rattle.pool_words.specs.declared.actions.Seen.{Seen}
use Rattle.pool_words.specs.declared.words.Key.{Key}
use Rattle.pool_words.specs.Actions.{word_seen}
use Rattle.guards.specs.declared.win.Taking.{Taking}
use Rattle.large_cache.specs.declared.sweep.SweepAt.{SweepAt}
use Rattle.large_cache.specs.Get.{get_course, get_learn}
use Rattle.large_cache.specs.Keep.{keep_course, keep_learn}
use Rattle.large_cache.specs.Sweep.{sweep_course, sweep_learn}
use Rattle.large_cache.specs.Undo.{undo_course, undo_learn}
use Rattle.word_laws.specs.Memory.{Mem}
use Rattle.cache_laws.specs.Bins.{Bin}
use Rattle.cache_laws.specs.Good.{Task, CacheGood}
use Rattle.cache_laws.specs.Good.Task.{Away}
use Rattle.cache_laws.specs.Steps.{call_of, keep_of, sweep_of, task_got, task_undone, task_kept, task_swept}
use Rattle.cache_laws.specs.Sweeps.{gone_of}
use Rattle.shelf_laws.specs.Shelves.{State}
use Rattle.step_local.specs.declared.frames.At.{At}
use Rattle.step_local.specs.declared.frames.Local.{Local}
use Rattle.step_local.specs.declared.frames.PutFor.{PutFor}
use Rattle.step_local.specs.declared.frames.Reset.{Reset}
use Rattle.step_local.specs.Course.{course}
use Rattle.step_local.specs.Frames.{made}
use Rattle.step_local.specs.Getting.{begun, reset_begun}
use Rattle.step_local.specs.Large.{cache_call, granules_of_served, keep_call, sweep_call}
use Rattle.step_local.specs.Learn.{learn}
use Rattle.cache_tasks.specs.Cache.{cache_left, cache_task_of, CacheStarts, IsCacheStart}
use Rattle.cache_tasks.specs.Hands.{ComesIntoHand, IsPutting, PutsOn}
use Rattle.cache_tasks.specs.Released.{HasRoom, ReleasedFits}
use Rattle.cache_tasks.specs.Shelves.{IsShelfStart, IsShelfTurn, JobFits, StartFits}

-- a local goes on with what was left to do; where nothing was, it may start something
abbrev pub CacheGoesOn : Local → Task → Type 0
CacheGoesOn next Away = CacheStarts next
CacheGoesOn next task = cache_task_of next ≡ task

abbrev pub TurnsMoveCacheTasks : Type 0
TurnsMoveCacheTasks = (l : Local) (s : Seen) → HasRoom l → CacheGoesOn (learn l s).0 (cache_left l (word_seen s))

-- a call or a reset that begins may start something; one that is refused changes nothing
abbrev pub StartsOrStaysAtCache : Local → Local → Type 0
StartsOrStaysAtCache l next = ((cache_task_of l ≡ Away) × CacheStarts next) ⊎ (next ≡ l)

pub record BeginsStartCache (l : Local) : Type 0 where
  pub begins : (request : Request) → StartsOrStaysAtCache l (begun l request).0
  pub resets : (reset : Reset) → StartsOrStaysAtCache l (reset_begun l reset).0

abbrev pub BeginsStartCacheTasks : Type 0
BeginsStartCacheTasks = (l : Local) → BeginsStartCache l

abbrev pub StartedCacheTasksAreStarts : Type 0
StartedCacheTasksAreStarts = (l : Local) → CacheStarts l → IsCacheStart (cache_task_of l)

-- what the rows of the cache leave to a seat of its task, if its step finds this
abbrev pub row_left : ℕ → Task → ℕ → Task
row_left seat Away found = Away
row_left seat (Task.Getting b time at) found = task_got b time (get_learn at found)
row_left seat (Task.Undoing b at) found = task_undone b (undo_learn at found)
row_left seat (Task.Keeping b time block at) found = task_kept b time block (keep_learn at found)
row_left seat (Task.Sweeping b time cleanup gone at) found =
    task_swept b time cleanup gone (sweep_learn (sweep_of seat b time cleanup) at found)

abbrev pub RowsLeaveCacheTasks : Type 0
RowsLeaveCacheTasks = (l : Local) (found : ℕ) → cache_left l found ≡ row_left l.seat (cache_task_of l) found

-- the step of a local with a task is the row's; an undo's call has the local's time, which no step of it asks for
abbrev pub IsRow : Local → Task → Type 0
IsRow l Away = ⊤
IsRow l (Task.Getting b time at) = course l ≡ get_course (call_of l.seat b time) at
IsRow l (Task.Undoing b at) = course l ≡ undo_course (call_of l.seat b 0) at
IsRow l (Task.Keeping b time block at) = course l ≡ keep_course (keep_of l.seat b time block) at
IsRow l (Task.Sweeping b time cleanup gone at) = course l ≡ sweep_course (sweep_of l.seat b time cleanup) at

pub record CallsAreThose (l : Local) : Type 0 where
  pub gets : cache_call l ≡ call_of l.seat (granules_of_served l.call.served) l.call.time
  pub keeps : keep_call l ≡ keep_of l.seat l.call.block.granules l.call.time l.call.block.first
  pub sweeps : sweep_call l ≡ sweep_of l.seat l.sweep.granules l.sweep.time l.sweep.cleanup
  pub rows : IsRow l (cache_task_of l)

abbrev pub CallsAreThoseOfTasks : Type 0
CallsAreThoseOfTasks = (l : Local) → CallsAreThose l

-- each turn keeps what a local has released by its position, and so do a call and a reset that begin
pub record KeepsReleased (l : Local) : Type 0 where
  pub turns : (s : Seen) → ReleasedFits (learn l s).0
  pub begins : (request : Request) → ReleasedFits (begun l request).0
  pub resets : (reset : Reset) → ReleasedFits (reset_begun l reset).0

abbrev pub TurnsKeepReleased : Type 0
TurnsKeepReleased = (l : Local) → ReleasedFits l → KeepsReleased l

abbrev pub FreshLocalsFit : Type 0
FreshLocalsFit = (k : Key) (seat : ℕ) → ReleasedFits (made k seat)

-- a bin has no more blocks than there is room for
abbrev pub GoodSweepsHaveRoom : Type 0
GoodSweepsHaveRoom =
    (k : Key) (g : ℕ → Bin) (m : Mem) (tasks : ℕ → Task) (seat : ℕ) (l : Local) → CacheGood k g m tasks
    → tasks seat ≡ cache_task_of l → ReleasedFits l → HasRoom l

-- what a sweep has released as it frees the lock is what goes of the bin
abbrev pub ReleasedAreThoseThatGo : Type 0
ReleasedAreThoseThatGo =
    (k : Key) (g : ℕ → Bin) (m : Mem) (tasks : ℕ → Task) (seat : ℕ) (l : Local) → CacheGood k g m tasks
    → tasks seat ≡ cache_task_of l → l.at ≡ At.Sweep SweepAt.Unlock
    → l.released.items ≡ gone_of l.sweep.cleanup l.sweep.time (g l.sweep.granules)

abbrev pub TakenBlocksComeIntoHand : Type 0
TakenBlocksComeIntoHand = (l : Local) (s : Seen) → ComesIntoHand l (learn l s).0 l.at

abbrev pub SweptBlocksArePut : Type 0
SweptBlocksArePut =
    (l : Local) (s : Seen) → IsPutting l.at → l.put ≡ PutFor.Swept → PutsOn l (learn l s).0

abbrev pub TurnsAreShelfSteps : Type 0
TurnsAreShelfSteps = (k : Key) (taking : Taking) (l : Local) (s : State) → JobFits l s → IsShelfTurn k taking l s

abbrev pub StartsAreShelfSteps : Type 0
StartsAreShelfSteps = (k : Key) (l : Local) (s : State) → StartFits l s → IsShelfStart k l s

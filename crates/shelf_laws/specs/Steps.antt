-- The steps of a seat on the pool and its cache of large blocks. A job at a bin moves blocks where it frees the bin's
-- lock: what it put lies in the cache then, and what left the bin is in the seat's hand.
use Rattle.std.specs.Prelude.{◌≡◌, ℕ, ◌<◌, false, Option, Some, None, List, [], ◌∷◌}
use Rattle.pool_words.specs.declared.words.Key.{Key}
use Rattle.pool_words.specs.Words.{cache_counts, cache_locks, cache_heads, cache_items, cache_used, cache_means}
use Rattle.pool_words.specs.Words.{cache_thresholds, cache_gets, cache_cleaned, cache_links, cache_ages}
use Rattle.guards.specs.declared.win.Taking.{Taking}
use Rattle.large_cache.specs.declared.get.GetAt.{GetAt}
use Rattle.large_cache.specs.declared.keep.KeepAt.{KeepAt}
use Rattle.large_cache.specs.declared.sweep.Cleanup.{Cleanup}
use Rattle.large_cache.specs.declared.sweep.SweepAt.{SweepAt}
use Rattle.large_cache.specs.declared.undo.UndoAt.{UndoAt}
use Rattle.large_cache.specs.Get.{get_course, get_learn}
use Rattle.large_cache.specs.Keep.{keep_course, keep_learn}
use Rattle.large_cache.specs.Sweep.{sweep_course, sweep_learn}
use Rattle.large_cache.specs.Undo.{undo_course, undo_learn}
use Rattle.word_laws.specs.Memory.{Mem, put, after, found}
use Rattle.guard_laws.specs.Blocks as guards
use Rattle.cache_laws.specs.Good.{Task, hand, sweep_holds}
use Rattle.cache_laws.specs.Steps.{call_of, keep_of, sweep_of, task_got, task_undone, task_kept, task_swept, bins_got}
use Rattle.cache_laws.specs.Steps.{bins_undone, bins_kept, bins_swept}
use Rattle.use_laws.specs.Pools.{Pool, InHand}
use Rattle.use_laws.specs.After.{with_mem, pool_shelved, pool_unshelved}
use Rattle.use_laws.specs.Steps.{PoolStep}
use Rattle.use_laws.specs.Stays.{LeavesShelf}
use Rattle.shelf_laws.specs.Shelves.{State}

-- the words of the cache are the same
pub record SameCache (m m' : Mem) : Type 0 where
  pub locks : m' cache_locks ≡ m cache_locks
  pub heads : m' cache_heads ≡ m cache_heads
  pub items : m' cache_items ≡ m cache_items
  pub used : m' cache_used ≡ m cache_used
  pub means : m' cache_means ≡ m cache_means
  pub thresholds : m' cache_thresholds ≡ m cache_thresholds
  pub gets : m' cache_gets ≡ m cache_gets
  pub cleaned : m' cache_cleaned ≡ m cache_cleaned
  pub links : m' cache_links ≡ m cache_links
  pub ages : m' cache_ages ≡ m cache_ages

abbrev pub list_of : Option ℕ → List ℕ
list_of (Some x) = x ∷ []
list_of None = []

-- the blocks that leave the bin with a step of a get, of a put, and of a sweep
abbrev pub left_by_get : GetAt → List ℕ
left_by_get GetAt.Lock = []
left_by_get GetAt.Items = []
left_by_get (GetAt.Head items) = []
left_by_get (GetAt.Hit at) = []
left_by_get GetAt.Cleaned = []
left_by_get (GetAt.SetThreshold cleaned) = []
left_by_get GetAt.ClearCleaned = []
left_by_get (GetAt.SetTime block) = []
left_by_get (GetAt.Used block) = []
left_by_get (GetAt.SetUsed block used) = []
left_by_get (GetAt.Unlock block) = list_of block

abbrev pub left_by_keep : KeepAt → List ℕ
left_by_keep KeepAt.Lock = []
left_by_keep KeepAt.Items = []
left_by_keep (KeepAt.Head items) = []
left_by_keep (KeepAt.Walk tail) = []
left_by_keep (KeepAt.OldAge tail) = []
left_by_keep (KeepAt.Cut tail age) = []
left_by_keep (KeepAt.SetCleaned tail age) = []
left_by_keep (KeepAt.SetLink items head released) = []
left_by_keep (KeepAt.SetAge items released) = []
left_by_keep (KeepAt.SetHead items released) = []
left_by_keep (KeepAt.SetItems items released) = []
left_by_keep (KeepAt.Used released) = []
left_by_keep (KeepAt.SetUsed released used) = []
left_by_keep (KeepAt.Unlock released) = list_of released

abbrev pub left_by_sweep : List ℕ → SweepAt → List ℕ
left_by_sweep gone SweepAt.Clock = []
left_by_sweep gone SweepAt.Peek = []
left_by_sweep gone SweepAt.Lock = []
left_by_sweep gone SweepAt.Items = []
left_by_sweep gone (SweepAt.Judge at) = []
left_by_sweep gone (SweepAt.SetThreshold count threshold) = []
left_by_sweep gone (SweepAt.Head count threshold) = []
left_by_sweep gone (SweepAt.Age walk) = []
left_by_sweep gone (SweepAt.Link walk) = []
left_by_sweep gone (SweepAt.Cut walk) = []
left_by_sweep gone (SweepAt.SetItems walk) = []
left_by_sweep gone (SweepAt.SetCleaned walk) = []
left_by_sweep gone SweepAt.Unlock = gone

-- the block that is put lies in the cache with the last step of the put
abbrev pub shelved_by : KeepAt → ℕ → ℕ → Pool → Pool
shelved_by KeepAt.Lock block b p = p
shelved_by KeepAt.Items block b p = p
shelved_by (KeepAt.Head items) block b p = p
shelved_by (KeepAt.Walk tail) block b p = p
shelved_by (KeepAt.OldAge tail) block b p = p
shelved_by (KeepAt.Cut tail age) block b p = p
shelved_by (KeepAt.SetCleaned tail age) block b p = p
shelved_by (KeepAt.SetLink items head released) block b p = p
shelved_by (KeepAt.SetAge items released) block b p = p
shelved_by (KeepAt.SetHead items released) block b p = p
shelved_by (KeepAt.SetItems items released) block b p = p
shelved_by (KeepAt.Used released) block b p = p
shelved_by (KeepAt.SetUsed released used) block b p = p
shelved_by (KeepAt.Unlock released) block b p = pool_shelved block b p

-- blocks of so many granules come from the cache into a seat's hand
abbrev pub taken_out : ℕ → Taking → ℕ → List ℕ → Pool → Pool
taken_out seat taking b [] p = p
taken_out seat taking b (x ∷ xs) p = taken_out seat taking b xs (pool_unshelved seat x b taking p)

abbrev pub with_job : ℕ → Task → State → State
with_job seat task s = record s { jobs = put s.jobs seat task }

-- what a step of each job leaves
abbrev pub state_got : Key → ℕ → Taking → ℕ → ℕ → GetAt → State → State
state_got k seat taking b time at s = record {
  pool = taken_out seat taking b (left_by_get at)
      (with_mem (after k s.pool.mem (get_course (call_of seat b time) at)) s.pool);
  bins = bins_got b time at s.bins;
  jobs = put s.jobs seat
      (task_got b time (get_learn at (found s.pool.mem (get_course (call_of seat b time) at))));
}

abbrev pub state_undone : Key → ℕ → ℕ → UndoAt → State → State
state_undone k seat b at s = record {
  pool = with_mem (after k s.pool.mem (undo_course (call_of seat b 0) at)) s.pool;
  bins = bins_undone b at s.bins;
  jobs = put s.jobs seat (task_undone b (undo_learn at (found s.pool.mem (undo_course (call_of seat b 0) at))));
}

abbrev pub state_kept : Key → ℕ → Taking → ℕ → ℕ → ℕ → KeepAt → State → State
state_kept k seat taking b time block at s = record {
  pool = taken_out seat taking b (left_by_keep at) (shelved_by at block b
      (with_mem (after k s.pool.mem (keep_course (keep_of seat b time block) at)) s.pool));
  bins = bins_kept b time block at s.bins;
  jobs = put s.jobs seat
      (task_kept b time block (keep_learn at (found s.pool.mem (keep_course (keep_of seat b time block) at))));
}

abbrev pub state_swept : Key → ℕ → Taking → ℕ → ℕ → Cleanup → List ℕ → SweepAt → State → State
state_swept k seat taking b time cleanup gone at s = record {
  pool = taken_out seat taking b (left_by_sweep gone at)
      (with_mem (after k s.pool.mem (sweep_course (sweep_of seat b time cleanup) at)) s.pool);
  bins = bins_swept b time cleanup at s.bins;
  jobs = put s.jobs seat (task_swept b time cleanup gone (sweep_learn (sweep_of seat b time cleanup) at
      (found s.pool.mem (sweep_course (sweep_of seat b time cleanup) at))));
}

pub data ShelfStep (k : Key) (seat : ℕ) (s : State) : State → Type 0 where
  -- a step of the pool on other words, by a seat that puts no block into the cache just then
  pool : (later : Pool) → (step : PoolStep k seat s.pool later) → LeavesShelf k seat s.pool later step
      → hand (s.jobs seat) ≡ None → SameCache s.pool.mem later.mem
      → ShelfStep k seat s (record s { pool = later })
  -- a get, an undo or a sweep begins, or the put of a block in hand, at the bin for its granules
  asks : (b time : ℕ) → b < cache_counts → s.jobs seat ≡ Task.Away
      → ShelfStep k seat s (with_job seat (Task.Getting b time GetAt.Lock) s)
  regrets : (b : ℕ) → b < cache_counts → s.jobs seat ≡ Task.Away
      → ShelfStep k seat s (with_job seat (Task.Undoing b UndoAt.Lock) s)
  cleans : (b time : ℕ) (cleanup : Cleanup) (at : SweepAt) → b < cache_counts → sweep_holds at ≡ false
      → s.jobs seat ≡ Task.Away
      → ShelfStep k seat s (with_job seat (Task.Sweeping b time cleanup [] at) s)
  gives : (b time block : ℕ) → b < cache_counts → s.jobs seat ≡ Task.Away → InHand s.pool seat block b Taking.ForUse
      → ShelfStep k seat s (with_job seat (Task.Keeping b time block KeepAt.Lock) s)
  -- the steps of the jobs, by a seat that is at no guard
  gets : (b time : ℕ) (at : GetAt) (taking : Taking) → s.jobs seat ≡ Task.Getting b time at
      → s.pool.tasks seat ≡ guards.Task.Away → ShelfStep k seat s (state_got k seat taking b time at s)
  undoes : (b : ℕ) (at : UndoAt) → s.jobs seat ≡ Task.Undoing b at
      → ShelfStep k seat s (state_undone k seat b at s)
  keeps : (b time block : ℕ) (at : KeepAt) (taking : Taking) → s.jobs seat ≡ Task.Keeping b time block at
      → s.pool.tasks seat ≡ guards.Task.Away → ShelfStep k seat s (state_kept k seat taking b time block at s)
  sweeps : (b time : ℕ) (cleanup : Cleanup) (gone : List ℕ) (at : SweepAt) (taking : Taking)
      → s.jobs seat ≡ Task.Sweeping b time cleanup gone at → s.pool.tasks seat ≡ guards.Task.Away
      → ShelfStep k seat s (state_swept k seat taking b time cleanup gone at s)

-- any number of steps of any number of seats
pub data ShelfRun (k : Key) (s : State) : State → Type 0 where
  starts : ShelfRun k s s
  steps : {before later : State} → ShelfRun k s before → (seat : ℕ) → ShelfStep k seat before later
      → ShelfRun k s later

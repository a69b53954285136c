-- The steps of the seats at cache bins, and what each leaves.
use Rattle.std.specs.Prelude.{◌≡◌, ◌≢◌, ◌⊎◌, ℕ, ◌<◌, false, Some, List, [], ◌∷◌, ◌++◌, ⊤}
use Rattle.pool_words.specs.declared.words.Key.{Key}
use Rattle.pool_words.specs.declared.words.Word.{Word}
use Rattle.pool_words.specs.declared.actions.Action.{Action}
use Rattle.pool_words.specs.declared.actions.Action.TheVariants.{Load, Store, Swap, Exchange, Add}
use Rattle.pool_words.specs.declared.actions.Action.TheVariants.{TakeOffice, GiveOffice, Nothing}
use Rattle.pool_words.specs.Words.{kind_of_word, number, cache_locks, cache_ages, cache_counts}
use Rattle.large_cache.specs.declared.get.CacheCall.{CacheCall}
use Rattle.large_cache.specs.declared.get.GetAt.{GetAt}
use Rattle.large_cache.specs.declared.get.GetNext.{GetNext}
use Rattle.large_cache.specs.declared.undo.UndoAt.{UndoAt}
use Rattle.large_cache.specs.declared.undo.UndoNext.{UndoNext}
use Rattle.large_cache.specs.declared.keep.KeepCall.{KeepCall}
use Rattle.large_cache.specs.declared.keep.KeepAt.{KeepAt}
use Rattle.large_cache.specs.declared.keep.KeepNext.{KeepNext}
use Rattle.large_cache.specs.Keep.{keep_course, keep_learn}
use Rattle.large_cache.specs.declared.sweep.Cleanup.{Cleanup}
use Rattle.large_cache.specs.declared.sweep.SweepCall.{SweepCall}
use Rattle.large_cache.specs.declared.sweep.SweepAt.{SweepAt}
use Rattle.large_cache.specs.declared.sweep.SweepNext.{SweepNext}
use Rattle.large_cache.specs.Sweep.{sweep_course, sweep_learn}
use Rattle.large_cache.specs.Get.{get_course, get_learn}
use Rattle.large_cache.specs.Undo.{undo_course, undo_learn}
use Rattle.word_laws.specs.Memory.{Mem, put, after, found}
use Rattle.chain_laws.specs.Chains.{tally}
use Rattle.cache_laws.specs.Bins.{Bin, blocks_of}
use Rattle.cache_laws.specs.Gets.{get_done, undo_done}
use Rattle.cache_laws.specs.Puts.{keep_done}
use Rattle.cache_laws.specs.Sweeps.{sweep_done}
use Rattle.cache_laws.specs.Good.{Task, hand, sweep_holds}

abbrev pub call_of : ℕ → ℕ → ℕ → CacheCall
call_of seat b time = record { seat = seat; granules = b; time = time }

abbrev pub keep_of : ℕ → ℕ → ℕ → ℕ → KeepCall
keep_of seat b time block = record { seat = seat; granules = b; time = time; block = block }

abbrev pub sweep_of : ℕ → ℕ → ℕ → Cleanup → SweepCall
sweep_of seat b time cleanup = record { seat = seat; granules = b; time = time; cleanup = cleanup }

-- where a seat goes on
abbrev pub task_got : ℕ → ℕ → GetNext → Task
task_got b time (GetNext.Goes at) = Task.Getting b time at
task_got b time GetNext.Waits = Task.Getting b time GetAt.Lock
task_got b time (GetNext.Took block) = Task.Away
task_got b time GetNext.Missed = Task.Away

abbrev pub task_undone : ℕ → UndoNext → Task
task_undone b (UndoNext.Goes at) = Task.Undoing b at
task_undone b UndoNext.Waits = Task.Undoing b UndoAt.Lock
task_undone b UndoNext.Undone = Task.Away

abbrev pub task_kept : ℕ → ℕ → ℕ → KeepNext → Task
task_kept b time block (KeepNext.Goes at) = Task.Keeping b time block at
task_kept b time block KeepNext.Waits = Task.Keeping b time block KeepAt.Lock
task_kept b time block (KeepNext.Kept released) = Task.Away

-- a block that stays keeps all before it; one that does not goes, if none behind it stays
abbrev pub task_swept : ℕ → ℕ → Cleanup → List ℕ → SweepNext → Task
task_swept b time cleanup gone (SweepNext.Goes at) = Task.Sweeping b time cleanup gone at
task_swept b time cleanup gone (SweepNext.Stays at) = Task.Sweeping b time cleanup [] at
task_swept b time cleanup gone (SweepNext.Stale block at) = Task.Sweeping b time cleanup (gone ++ (block ∷ [])) at
task_swept b time cleanup gone SweepNext.Waits = Task.Sweeping b time cleanup gone SweepAt.Lock
task_swept b time cleanup gone (SweepNext.Began time') = Task.Away
task_swept b time cleanup gone SweepNext.Passed = Task.Away
task_swept b time cleanup gone SweepNext.Swept = Task.Away

-- a bin changes where its lock is freed, and nowhere else
abbrev pub bins_got : ℕ → ℕ → GetAt → (ℕ → Bin) → ℕ → Bin
bins_got b time GetAt.Lock g = g
bins_got b time GetAt.Items g = g
bins_got b time (GetAt.Head items) g = g
bins_got b time (GetAt.Hit at) g = g
bins_got b time GetAt.Cleaned g = g
bins_got b time (GetAt.SetThreshold cleaned) g = g
bins_got b time GetAt.ClearCleaned g = g
bins_got b time (GetAt.SetTime block) g = g
bins_got b time (GetAt.Used block) g = g
bins_got b time (GetAt.SetUsed block used) g = g
bins_got b time (GetAt.Unlock block) g = put g b (get_done time (g b))

abbrev pub bins_undone : ℕ → UndoAt → (ℕ → Bin) → ℕ → Bin
bins_undone b UndoAt.Lock g = g
bins_undone b UndoAt.Used g = g
bins_undone b (UndoAt.SetUsed used) g = g
bins_undone b UndoAt.Unlock g = put g b (undo_done (g b))

abbrev pub bins_kept : ℕ → ℕ → ℕ → KeepAt → (ℕ → Bin) → ℕ → Bin
bins_kept b time block KeepAt.Lock g = g
bins_kept b time block KeepAt.Items g = g
bins_kept b time block (KeepAt.Head items) g = g
bins_kept b time block (KeepAt.Walk tail) g = g
bins_kept b time block (KeepAt.OldAge tail) g = g
bins_kept b time block (KeepAt.Cut tail age) g = g
bins_kept b time block (KeepAt.SetCleaned tail age) g = g
bins_kept b time block (KeepAt.SetLink items head released) g = g
bins_kept b time block (KeepAt.SetAge items released) g = g
bins_kept b time block (KeepAt.SetHead items released) g = g
bins_kept b time block (KeepAt.SetItems items released) g = g
bins_kept b time block (KeepAt.Used released) g = g
bins_kept b time block (KeepAt.SetUsed released used) g = g
bins_kept b time block (KeepAt.Unlock released) g = put g b (keep_done time block (g b))

abbrev pub bins_swept : ℕ → ℕ → Cleanup → SweepAt → (ℕ → Bin) → ℕ → Bin
bins_swept b time cleanup SweepAt.Clock g = g
bins_swept b time cleanup SweepAt.Peek g = g
bins_swept b time cleanup SweepAt.Lock g = g
bins_swept b time cleanup SweepAt.Items g = g
bins_swept b time cleanup (SweepAt.Judge at) g = g
bins_swept b time cleanup (SweepAt.SetThreshold count threshold) g = g
bins_swept b time cleanup (SweepAt.Head count threshold) g = g
bins_swept b time cleanup (SweepAt.Age walk) g = g
bins_swept b time cleanup (SweepAt.Link walk) g = g
bins_swept b time cleanup (SweepAt.Cut walk) g = g
bins_swept b time cleanup (SweepAt.SetItems walk) g = g
bins_swept b time cleanup (SweepAt.SetCleaned walk) g = g
bins_swept b time cleanup SweepAt.Unlock g = put g b (sweep_done cleanup time (g b))

-- a block that is in no bin, and that no seat is about to put
pub record IsFree (g : ℕ → Bin) (tasks : ℕ → Task) (block : ℕ) : Type 0 where
  pub bins : (b : ℕ) → tally block (blocks_of (g b).items) ≡ 0
  pub hands : (seat : ℕ) → hand (tasks seat) ≢ Some block

-- a word that is none of the cache's
abbrev pub IsOtherWord : Word → Type 0
IsOtherWord w =
    (number (kind_of_word w) < number cache_locks) ⊎ (number cache_ages < number (kind_of_word w))

abbrev pub IsOtherAction : Action → Type 0
IsOtherAction (Load w) = ⊤
IsOtherAction (Store w value) = IsOtherWord w
IsOtherAction (Swap w value) = IsOtherWord w
IsOtherAction (Exchange w from to) = IsOtherWord w
IsOtherAction (Add w value) = IsOtherWord w
IsOtherAction (TakeOffice job) = ⊤
IsOtherAction GiveOffice = ⊤
IsOtherAction Nothing = ⊤

pub data BinStep (k : Key) (g : ℕ → Bin) (m : Mem) (tasks : ℕ → Task) :
    (ℕ → Bin) → Mem → (ℕ → Task) → Type 0 where
  -- a get or an undo begins
  asks : (seat b time : ℕ) → b < cache_counts → tasks seat ≡ Task.Away
      → BinStep k g m tasks g m (put tasks seat (Task.Getting b time GetAt.Lock))
  regrets : (seat b : ℕ) → b < cache_counts → tasks seat ≡ Task.Away
      → BinStep k g m tasks g m (put tasks seat (Task.Undoing b UndoAt.Lock))
  -- a block that was freed is to be put
  gives : (seat b time block : ℕ) → b < cache_counts → block < k.span → IsFree g tasks block → tasks seat ≡ Task.Away
      → BinStep k g m tasks g m (put tasks seat (Task.Keeping b time block KeepAt.Lock))
  -- a sweep begins, at whatever position before the lock
  cleans : (seat b time : ℕ) (cleanup : Cleanup) (at : SweepAt) → b < cache_counts → sweep_holds at ≡ false
      → tasks seat ≡ Task.Away → BinStep k g m tasks g m (put tasks seat (Task.Sweeping b time cleanup [] at))
  gets : (seat b time : ℕ) (at : GetAt) → tasks seat ≡ Task.Getting b time at
      → BinStep k g m tasks (bins_got b time at g) (after k m (get_course (call_of seat b time) at))
      (put tasks seat (task_got b time (get_learn at (found m (get_course (call_of seat b time) at)))))
  undoes : (seat b : ℕ) (at : UndoAt) → tasks seat ≡ Task.Undoing b at
      → BinStep k g m tasks (bins_undone b at g) (after k m (undo_course (call_of seat b 0) at))
      (put tasks seat (task_undone b (undo_learn at (found m (undo_course (call_of seat b 0) at)))))
  keeps : (seat b time block : ℕ) (at : KeepAt) → tasks seat ≡ Task.Keeping b time block at
      → BinStep k g m tasks (bins_kept b time block at g) (after k m (keep_course (keep_of seat b time block) at))
      (put tasks seat
      (task_kept b time block (keep_learn at (found m (keep_course (keep_of seat b time block) at)))))
  sweeps : (seat b time : ℕ) (cleanup : Cleanup) (gone : List ℕ) (at : SweepAt)
      → tasks seat ≡ Task.Sweeping b time cleanup gone at
      → BinStep k g m tasks (bins_swept b time cleanup at g)
      (after k m (sweep_course (sweep_of seat b time cleanup) at))
      (put tasks seat (task_swept b time cleanup gone (sweep_learn (sweep_of seat b time cleanup) at
      (found m (sweep_course (sweep_of seat b time cleanup) at)))))
  -- each load of whatever word, and each step on a word that is none of the cache's
  others : (action : Action) → IsOtherAction action → BinStep k g m tasks g (after k m action) tasks

-- any number of steps of any number of seats
pub data BinRun (k : Key) (g0 : ℕ → Bin) (m0 : Mem) (tasks0 : ℕ → Task) :
    (ℕ → Bin) → Mem → (ℕ → Task) → Type 0 where
  starts : BinRun k g0 m0 tasks0 g0 m0 tasks0
  steps : {g1 : ℕ → Bin} {m1 : Mem} {t1 : ℕ → Task} {h : ℕ → Bin} {m' : Mem} {t' : ℕ → Task}
      → BinRun k g0 m0 tasks0 g1 m1 t1 → BinStep k g1 m1 t1 h m' t' → BinRun k g0 m0 tasks0 h m' t'

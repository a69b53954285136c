-- A job at the cache begins.
use Rattle.std.proofs.Common.{◌≡◌, ◌<◌, ℕ, List, [], false, refl, sym, subst}
use Rattle.pool_words.specs.declared.words.Key.{Key}
use Rattle.pool_words.specs.Words.{cache_counts}
use Rattle.large_cache.specs.declared.get.GetAt.{GetAt}
use Rattle.large_cache.specs.declared.keep.KeepAt.{KeepAt}
use Rattle.large_cache.specs.declared.sweep.SweepAt.{SweepAt}
use Rattle.large_cache.specs.declared.undo.UndoAt.{UndoAt}
use Rattle.word_laws.specs.Memory.{put}
use Rattle.word_laws.proofs.CallerLemmas.{put_here}
use Rattle.queue_laws.specs.Steps.{IsIdle}
use Rattle.cache_laws.specs.Good.{Task, sweep_holds}
use Rattle.shelf_laws.specs.Steps.{ShelfStep, with_job}
use Rattle.step_local.specs.declared.frames.At.{At}
use Rattle.step_local.specs.declared.frames.Local.{Local}
use Rattle.step_local.specs.Large.{granules_of_served}
use Rattle.cache_tasks.specs.Cache.{CacheStartsAt, SweepStarts, cache_task_at, gone_at}
use Rattle.cache_tasks.specs.Shelves.{StartRestsAt}
use Rattle.pool_laws.specs.Steps.{WholeStep}
use Rattle.pool_laws.specs.Wholes.{Whole, shelf_of}
use Rattle.seat_ties.specs.Turns.{Here, goes_on, may_start, SeatRun, stays, steps_on}

pub record JobBegun (k : Key) (w : Whole) (seat : ℕ) (task : Task) : Type 0 where
  pub jobs : ℕ → Task
  pub run : SeatRun k seat w (record w { jobs = jobs })
  pub are : jobs seat ≡ task

pub same_job : (k : Key) (w : Whole) (seat : ℕ) (task : Task) → w.jobs seat ≡ task → JobBegun k w seat task
same_job k w seat task is = record { jobs = w.jobs; run = stays; are = is }

-- a job that this step begins
begun_by : (k : Key) (w : Whole) (seat : ℕ) (task : Task) → WholeStep k seat w (record w { jobs = put w.jobs seat task })
    → JobBegun k w seat task
begun_by k w seat task step = record {
  jobs = put w.jobs seat task;
  run = steps_on stays step;
  are = put_here w.jobs seat seat task refl;
}

sweep_low : (l : Local) (at : SweepAt) → SweepStarts l at → sweep_holds at ≡ false
sweep_low l SweepAt.Clock starts = refl
sweep_low l SweepAt.Peek starts = refl
sweep_low l _ starts = absurd starts

sweep_gone : (released : List ℕ) (l : Local) (at : SweepAt) → SweepStarts l at → gone_at released at ≡ []
sweep_gone released l SweepAt.Clock starts = refl
sweep_gone released l SweepAt.Peek starts = refl
sweep_gone released l _ starts = absurd starts

sweep_begun : (k : Key) (w : Whole) (l : Local) (at : SweepAt) → l.sweep.granules < cache_counts
    → IsIdle (w.queue l.seat) → w.jobs l.seat ≡ Task.Away → SweepStarts l at
    → JobBegun k w l.seat (cache_task_at l (At.Sweep at))
sweep_begun k w l at low idle away starts =
    subst (λ gone. JobBegun k w l.seat (Task.Sweeping l.sweep.granules l.sweep.time l.sweep.cleanup gone at))
    (sym (sweep_gone l.released.items l at starts))
    (begun_by k w l.seat (Task.Sweeping l.sweep.granules l.sweep.time l.sweep.cleanup [] at)
    (WholeStep.shelves (with_job l.seat (Task.Sweeping l.sweep.granules l.sweep.time l.sweep.cleanup [] at) (shelf_of w))
    (ShelfStep.cleans l.sweep.granules l.sweep.time l.sweep.cleanup at low (sweep_low l at starts) away) tt idle))

pub job_begun : (k : Key) (w : Whole) (l : Local) (at : At) → StartRestsAt l (shelf_of w) at → IsIdle (w.queue l.seat)
    → Here (w.jobs l.seat) (cache_task_at l at) Task.Away (CacheStartsAt l at)
    → JobBegun k w l.seat (cache_task_at l at)
job_begun k w l at rests idle (goes_on e) = same_job k w l.seat (cache_task_at l at) e
job_begun k w l (At.Get GetAt.Lock) rests idle (may_start away starts) =
    begun_by k w l.seat (cache_task_at l (At.Get GetAt.Lock))
    (WholeStep.shelves (with_job l.seat (cache_task_at l (At.Get GetAt.Lock)) (shelf_of w))
    (ShelfStep.asks (granules_of_served l.call.served) l.call.time rests away) tt idle)
job_begun k w l (At.Get _) rests idle (may_start away starts) = absurd (let e = starts.0 in cc)
job_begun k w l (At.Undo cause UndoAt.Lock) rests idle (may_start away starts) =
    begun_by k w l.seat (cache_task_at l (At.Undo cause UndoAt.Lock))
    (WholeStep.shelves (with_job l.seat (cache_task_at l (At.Undo cause UndoAt.Lock)) (shelf_of w))
    (ShelfStep.regrets (granules_of_served l.call.served) rests away) tt idle)
job_begun k w l (At.Undo cause _) rests idle (may_start away starts) = absurd (let e = starts.0 in cc)
job_begun k w l (At.Keep KeepAt.Lock) rests idle (may_start away starts) =
    begun_by k w l.seat (cache_task_at l (At.Keep KeepAt.Lock))
    (WholeStep.shelves (with_job l.seat (cache_task_at l (At.Keep KeepAt.Lock)) (shelf_of w))
    (ShelfStep.gives l.call.block.granules l.call.time l.call.block.first rests.0 away rests.1) tt idle)
job_begun k w l (At.Keep _) rests idle (may_start away starts) = absurd (cc)
job_begun k w l (At.Sweep at) rests idle (may_start away starts) = sweep_begun k w l at rests idle away starts
job_begun k w l at rests idle (may_start away starts) = same_job k w l.seat (cache_task_at l at) away

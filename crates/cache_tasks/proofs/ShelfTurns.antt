-- A turn at the cache is a step of a pool and its cache.
use Rattle.std.proofs.Common.{◌≡◌, ◌∙◌, [], ◌∷◌, ℕ, List, refl, ap, sym, subst}
use Rattle.guards.specs.declared.win.Taking.{Taking}
use Rattle.large_cache.specs.declared.keep.KeepAt.{KeepAt}
use Rattle.large_cache.specs.declared.sweep.SweepAt.{SweepAt}
use Rattle.large_cache.specs.Get.{get_course}
use Rattle.large_cache.specs.Keep.{keep_course}
use Rattle.large_cache.specs.Sweep.{sweep_course}
use Rattle.large_cache.specs.Undo.{undo_learn}
use Rattle.pool_words.specs.declared.words.Key.{Key}
use Rattle.word_laws.specs.Memory.{after, found, put}
use Rattle.guard_laws.specs.Blocks as guards
use Rattle.cache_laws.specs.Good.{Task}
use Rattle.cache_laws.specs.Steps.{task_undone}
use Rattle.use_laws.specs.After.{pool_unshelved, with_mem}
use Rattle.use_laws.specs.Pools.{Pool}
use Rattle.shelf_laws.specs.Shelves.{State}
use Rattle.shelf_laws.specs.Steps.{ShelfStep, left_by_get, left_by_keep, left_by_sweep, shelved_by, taken_out}
use Rattle.shelf_laws.specs.Steps.{with_job}
use Rattle.step_local.specs.declared.frames.At.{At}
use Rattle.step_local.specs.declared.frames.Local.{Local}
use Rattle.step_local.specs.Course.{course_at}
use Rattle.step_local.specs.Large.{cache_call, granules_of_served, keep_call, sweep_call}
use Rattle.cache_tasks.specs.Cache.{CacheStartsAt, cache_left_at, cache_task_at, gone_at}
use Rattle.cache_tasks.specs.Laws.{StartsAreShelfSteps, TurnsAreShelfSteps}
use Rattle.cache_tasks.specs.Shelves.{HasJobAt, StartRestsAt, shelf_left_at}
use Rattle.cache_tasks.proofs.CacheTurns.{undoes_as}

-- blocks that move leave the memory as it is
mem_out : (seat : ℕ) (taking : Taking) (b : ℕ) (xs : List ℕ) (p : Pool) → (taken_out seat taking b xs p).mem ≡ p.mem
mem_out seat taking b [] p = refl
mem_out seat taking b (x ∷ xs) p = mem_out seat taking b xs (pool_unshelved seat x b taking p)

mem_shelved : (at : KeepAt) (x b : ℕ) (p : Pool) → (shelved_by at x b p).mem ≡ p.mem
mem_shelved KeepAt.Lock x b p = refl
mem_shelved KeepAt.Items x b p = refl
mem_shelved (KeepAt.Head items) x b p = refl
mem_shelved (KeepAt.Walk tail) x b p = refl
mem_shelved (KeepAt.OldAge tail) x b p = refl
mem_shelved (KeepAt.Cut tail age) x b p = refl
mem_shelved (KeepAt.SetCleaned tail age) x b p = refl
mem_shelved (KeepAt.SetLink items head released) x b p = refl
mem_shelved (KeepAt.SetAge items released) x b p = refl
mem_shelved (KeepAt.SetHead items released) x b p = refl
mem_shelved (KeepAt.SetItems items released) x b p = refl
mem_shelved (KeepAt.Used released) x b p = refl
mem_shelved (KeepAt.SetUsed released used) x b p = refl
mem_shelved (KeepAt.Unlock released) x b p = refl

record TurnAt (k : Key) (taking : Taking) (l : Local) (s : State) (at : At) : Type 0 where
  step : ShelfStep k l.seat s (shelf_left_at k taking l at s)
  mem' : (shelf_left_at k taking l at s).pool.mem ≡ after k s.pool.mem (course_at l at)
  jobs' : (shelf_left_at k taking l at s).jobs
      ≡ put s.jobs l.seat (cache_left_at l at (found s.pool.mem (course_at l at)))

turn_at : (k : Key) (taking : Taking) (l : Local) (s : State) (at : At) → HasJobAt at
    → s.jobs l.seat ≡ cache_task_at l at → s.pool.tasks l.seat ≡ guards.Task.Away → TurnAt k taking l s at
turn_at k taking l s (At.Get at) job task away =
    let b : ℕ = granules_of_served l.call.served in
    record {
      step = ShelfStep.gets b l.call.time at taking task away;
      mem' = mem_out l.seat taking b (left_by_get at)
          (with_mem (after k s.pool.mem (get_course (cache_call l) at)) s.pool);
      jobs' = refl;
    }
turn_at k taking l s (At.Undo cause at) job task away =
    let b : ℕ = granules_of_served l.call.served in
    record {
      step = ShelfStep.undoes b at task;
      mem' = ap (λ action. after k s.pool.mem action) (sym (undoes_as l at));
      jobs' = ap (λ action. put s.jobs l.seat (task_undone b (undo_learn at (found s.pool.mem action))))
          (sym (undoes_as l at));
    }
turn_at k taking l s (At.Keep at) job task away =
    let b : ℕ = l.call.block.granules in
    let p : Pool = with_mem (after k s.pool.mem (keep_course (keep_call l) at)) s.pool in
    record {
      step = ShelfStep.keeps b l.call.time l.call.block.first at taking task away;
      mem' = mem_out l.seat taking b (left_by_keep at) (shelved_by at l.call.block.first b p)
          ∙ mem_shelved at l.call.block.first b p;
      jobs' = refl;
    }
turn_at k taking l s (At.Sweep at) job task away =
    let b : ℕ = l.sweep.granules in
    let gone : List ℕ = gone_at l.released.items at in
    record {
      step = ShelfStep.sweeps b l.sweep.time l.sweep.cleanup gone at taking task away;
      mem' = mem_out l.seat taking b (left_by_sweep gone at)
          (with_mem (after k s.pool.mem (sweep_course (sweep_call l) at)) s.pool);
      jobs' = refl;
    }
turn_at k taking l s _ job task away = absurd job

pub turns_are_shelf_steps : TurnsAreShelfSteps
turns_are_shelf_steps k taking l s fits =
    let turn = turn_at k taking l s l.at fits.job fits.task fits.away in
    record { step = turn.step; mem' = turn.mem'; jobs' = turn.jobs' }

start_at : (k : Key) (l : Local) (s : State) (at : At) → HasJobAt at → CacheStartsAt l at → s.jobs l.seat ≡ Task.Away
    → StartRestsAt l s at → ShelfStep k l.seat s (with_job l.seat (cache_task_at l at) s)
start_at k l s (At.Get at) job starts away below =
    let b : ℕ = granules_of_served l.call.served in
    subst (λ a. ShelfStep k l.seat s (with_job l.seat (Task.Getting b l.call.time a) s)) (sym starts.0)
    (ShelfStep.asks b l.call.time below away)
start_at k l s (At.Undo cause at) job starts away below =
    let b : ℕ = granules_of_served l.call.served in
    subst (λ a. ShelfStep k l.seat s (with_job l.seat (Task.Undoing b a) s)) (sym starts.0)
    (ShelfStep.regrets b below away)
start_at k l s (At.Keep at) job starts away rests =
    let b : ℕ = l.call.block.granules in
    subst (λ a. ShelfStep k l.seat s (with_job l.seat (Task.Keeping b l.call.time l.call.block.first a) s))
    (sym starts) (ShelfStep.gives b l.call.time l.call.block.first rests.0 away rests.1)
start_at k l s (At.Sweep SweepAt.Clock) job starts away below =
    ShelfStep.cleans l.sweep.granules l.sweep.time l.sweep.cleanup SweepAt.Clock below refl away
start_at k l s (At.Sweep SweepAt.Peek) job starts away below =
    ShelfStep.cleans l.sweep.granules l.sweep.time l.sweep.cleanup SweepAt.Peek below refl away
start_at k l s (At.Sweep _) job starts away below = absurd starts
start_at k l s _ job starts away rests = absurd job

pub starts_are_shelf_steps : StartsAreShelfSteps
starts_are_shelf_steps k l s fits = start_at k l s l.at fits.job fits.starts fits.away fits.rests

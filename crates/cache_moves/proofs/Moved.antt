-- Turns at the cache, starts there and ticks are steps of the whole.
use Rattle.std.proofs.Common.{◌≡◌, ◌∙◌, [], ◌∷◌, ℕ, List, refl, ap, sym, subst, arith}
use Rattle.guards.specs.declared.win.Taking.{Taking}
use Rattle.large_cache.specs.declared.get.GetAt.{GetAt}
use Rattle.large_cache.specs.declared.keep.KeepAt.{KeepAt}
use Rattle.large_cache.specs.declared.sweep.SweepAt.{SweepAt}
use Rattle.large_cache.specs.declared.undo.UndoAt.{UndoAt}
use Rattle.large_cache.specs.Get.{get_course}
use Rattle.large_cache.specs.Keep.{keep_course}
use Rattle.large_cache.specs.Sweep.{sweep_course}
use Rattle.pool_words.specs.declared.words.Key.{Key}
use Rattle.word_laws.specs.Memory.{after}
use Rattle.chain_laws.specs.Chains.{tally}
use Rattle.guard_laws.specs.Blocks.{Piece}
use Rattle.bin_laws.specs.Steps.{kept_of}
use Rattle.queue_laws.specs.Steps.{IsIdle}
use Rattle.cache_laws.specs.Good.{Task, hand}
use Rattle.use_laws.specs.After.{pool_unshelved, with_mem}
use Rattle.use_laws.specs.Pools.{Pool}
use Rattle.shelf_laws.specs.Shelves.{State}
use Rattle.shelf_laws.specs.Steps.{ShelfStep, left_by_get, left_by_keep, left_by_sweep, shelved_by, taken_out}
use Rattle.shelf_laws.specs.Steps.{with_job}
use Rattle.free_laws.specs.Steps.{IsLoose}
use Rattle.step_local.specs.declared.frames.At.{At}
use Rattle.step_local.specs.declared.frames.Local.{Local}
use Rattle.step_local.specs.Course.{course, course_at}
use Rattle.step_local.specs.Large.{cache_call, granules_of_served, keep_call, sweep_call}
use Rattle.cache_tasks.specs.Cache.{CacheStartsAt, cache_task_at, gone_at}
use Rattle.cache_tasks.specs.Shelves.{HasJobAt, StartRestsAt, shelf_left_at}
use Rattle.cache_tasks.proofs.CallerLemmas.{turns_are_shelf_steps}
use Rattle.pool_laws.specs.Changes.{with_shelf}
use Rattle.pool_laws.specs.Steps.{IsFree, IsOfNone, WholeStep}
use Rattle.pool_laws.specs.Wholes.{Whole, shelf_of, space_of}
use Rattle.cache_moves.specs.Laws.{StartsAreWholeSteps, TicksAreWholeSteps, TurnsAreWholeSteps, TurnsLeaveOtherTasks}
use Rattle.cache_moves.specs.Moved.{IsOffBackend}

-- a seat off the backend has no block that it is to take out of a list
loose : (w : Whole) (seat x : ℕ) → IsOffBackend w seat → IsLoose (space_of w) seat x
loose w seat x off = record {
  listed = λ n is. absurd (let r : Piece.NoPiece ≡ Piece.Got x n = sym (ap (λ t. kept_of t) off.bins) ∙ is in cc);
  taken = ap (λ xs. tally x xs) off.drained;
}

idle : (w : Whole) (seat : ℕ) → IsOffBackend w seat → IsIdle (w.queue seat)
idle w seat off = subst (λ t. IsIdle t) (sym off.queue) tt

free : (w : Whole) (seat : ℕ) → w.jobs seat ≡ Task.Away → IsOffBackend w seat → IsFree w seat
free w seat away off = record { shelf = ap (λ t. hand t) away; queue = idle w seat off }

step_at : (k : Key) (taking : Taking) (l : Local) (w : Whole) (at : At) → HasJobAt at
    → w.jobs l.seat ≡ cache_task_at l at → IsOffBackend w l.seat
    → WholeStep k l.seat w (with_shelf (shelf_left_at k taking l at (shelf_of w)) w)
step_at k taking l w (At.Get at) job task off =
    let later : State = shelf_left_at k taking l (At.Get at) (shelf_of w) in
    WholeStep.shelves later (ShelfStep.gets (granules_of_served l.call.served) l.call.time at taking task off.guards)
    tt (idle w l.seat off)
step_at k taking l w (At.Undo cause at) job task off =
    let later : State = shelf_left_at k taking l (At.Undo cause at) (shelf_of w) in
    WholeStep.shelves later (ShelfStep.undoes (granules_of_served l.call.served) at task) tt (idle w l.seat off)
step_at k taking l w (At.Keep at) job task off =
    let later : State = shelf_left_at k taking l (At.Keep at) (shelf_of w) in
    WholeStep.shelves later
    (ShelfStep.keeps l.call.block.granules l.call.time l.call.block.first at taking task off.guards)
    (loose w l.seat l.call.block.first off) (idle w l.seat off)
step_at k taking l w (At.Sweep at) job task off =
    let later : State = shelf_left_at k taking l (At.Sweep at) (shelf_of w) in
    WholeStep.shelves later
    (ShelfStep.sweeps l.sweep.granules l.sweep.time l.sweep.cleanup (gone_at l.released.items at) at taking task
    off.guards) tt (idle w l.seat off)
step_at k taking l w _ job task off = absurd job

pub turns_are_whole_steps : TurnsAreWholeSteps
turns_are_whole_steps k taking l w fits =
    let turn = turns_are_shelf_steps k taking l (shelf_of w)
    (record { job = fits.job; task = fits.task; away = fits.off.guards }) in
    record { step = step_at k taking l w l.at fits.job fits.task fits.off; mem' = turn.mem'; jobs' = turn.jobs' }

-- blocks that come into a hand change no task and no note
tasks_out : (seat : ℕ) (taking : Taking) (b : ℕ) (xs : List ℕ) (p : Pool)
    → (taken_out seat taking b xs p).tasks ≡ p.tasks
tasks_out seat taking b [] p = refl
tasks_out seat taking b (x ∷ xs) p = tasks_out seat taking b xs (pool_unshelved seat x b taking p)

locals_out : (seat : ℕ) (taking : Taking) (b : ℕ) (xs : List ℕ) (p : Pool)
    → (taken_out seat taking b xs p).locals ≡ p.locals
locals_out seat taking b [] p = refl
locals_out seat taking b (x ∷ xs) p = locals_out seat taking b xs (pool_unshelved seat x b taking p)

tasks_shelved : (at : KeepAt) (x b : ℕ) (p : Pool) → (shelved_by at x b p).tasks ≡ p.tasks
tasks_shelved KeepAt.Lock x b p = refl
tasks_shelved KeepAt.Items x b p = refl
tasks_shelved (KeepAt.Head items) x b p = refl
tasks_shelved (KeepAt.Walk tail) x b p = refl
tasks_shelved (KeepAt.OldAge tail) x b p = refl
tasks_shelved (KeepAt.Cut tail age) x b p = refl
tasks_shelved (KeepAt.SetCleaned tail age) x b p = refl
tasks_shelved (KeepAt.SetLink items head released) x b p = refl
tasks_shelved (KeepAt.SetAge items released) x b p = refl
tasks_shelved (KeepAt.SetHead items released) x b p = refl
tasks_shelved (KeepAt.SetItems items released) x b p = refl
tasks_shelved (KeepAt.Used released) x b p = refl
tasks_shelved (KeepAt.SetUsed released used) x b p = refl
tasks_shelved (KeepAt.Unlock released) x b p = refl

locals_shelved : (at : KeepAt) (x b : ℕ) (p : Pool) → (shelved_by at x b p).locals ≡ p.locals
locals_shelved KeepAt.Lock x b p = refl
locals_shelved KeepAt.Items x b p = refl
locals_shelved (KeepAt.Head items) x b p = refl
locals_shelved (KeepAt.Walk tail) x b p = refl
locals_shelved (KeepAt.OldAge tail) x b p = refl
locals_shelved (KeepAt.Cut tail age) x b p = refl
locals_shelved (KeepAt.SetCleaned tail age) x b p = refl
locals_shelved (KeepAt.SetLink items head released) x b p = refl
locals_shelved (KeepAt.SetAge items released) x b p = refl
locals_shelved (KeepAt.SetHead items released) x b p = refl
locals_shelved (KeepAt.SetItems items released) x b p = refl
locals_shelved (KeepAt.Used released) x b p = refl
locals_shelved (KeepAt.SetUsed released used) x b p = refl
locals_shelved (KeepAt.Unlock released) x b p = refl

tasks_at : (k : Key) (taking : Taking) (l : Local) (w : Whole) (at : At)
    → (shelf_left_at k taking l at (shelf_of w)).pool.tasks ≡ w.pool.tasks
tasks_at k taking l w (At.Get at) =
    let b : ℕ = granules_of_served l.call.served in
    tasks_out l.seat taking b (left_by_get at) (with_mem (after k w.pool.mem (get_course (cache_call l) at)) w.pool)
tasks_at k taking l w (At.Undo cause at) = refl
tasks_at k taking l w (At.Keep at) =
    let b : ℕ = l.call.block.granules in
    let p : Pool = with_mem (after k w.pool.mem (keep_course (keep_call l) at)) w.pool in
    tasks_out l.seat taking b (left_by_keep at) (shelved_by at l.call.block.first b p)
    ∙ tasks_shelved at l.call.block.first b p
tasks_at k taking l w (At.Sweep at) =
    tasks_out l.seat taking l.sweep.granules (left_by_sweep (gone_at l.released.items at) at)
    (with_mem (after k w.pool.mem (sweep_course (sweep_call l) at)) w.pool)
tasks_at k taking l w _ = refl

locals_at : (k : Key) (taking : Taking) (l : Local) (w : Whole) (at : At)
    → (shelf_left_at k taking l at (shelf_of w)).pool.locals ≡ w.pool.locals
locals_at k taking l w (At.Get at) =
    let b : ℕ = granules_of_served l.call.served in
    locals_out l.seat taking b (left_by_get at) (with_mem (after k w.pool.mem (get_course (cache_call l) at)) w.pool)
locals_at k taking l w (At.Undo cause at) = refl
locals_at k taking l w (At.Keep at) =
    let b : ℕ = l.call.block.granules in
    let p : Pool = with_mem (after k w.pool.mem (keep_course (keep_call l) at)) w.pool in
    locals_out l.seat taking b (left_by_keep at) (shelved_by at l.call.block.first b p)
    ∙ locals_shelved at l.call.block.first b p
locals_at k taking l w (At.Sweep at) =
    locals_out l.seat taking l.sweep.granules (left_by_sweep (gone_at l.released.items at) at)
    (with_mem (after k w.pool.mem (sweep_course (sweep_call l) at)) w.pool)
locals_at k taking l w _ = refl

pub turns_leave_other_tasks : TurnsLeaveOtherTasks
turns_leave_other_tasks k taking l w = record {
  guards' = tasks_at k taking l w l.at;
  objects' = locals_at k taking l w l.at;
  desks' = refl;
  bins' = refl;
  queue' = refl;
  drained' = refl;
  mails' = refl;
  orphans' = refl;
  spares' = refl;
}

start_at : (k : Key) (l : Local) (w : Whole) (at : At) → HasJobAt at → CacheStartsAt l at
    → w.jobs l.seat ≡ Task.Away → IsIdle (w.queue l.seat) → StartRestsAt l (shelf_of w) at
    → WholeStep k l.seat w (with_shelf (with_job l.seat (cache_task_at l at) (shelf_of w)) w)
start_at k l w (At.Get at) job starts away none below =
    let b : ℕ = granules_of_served l.call.served in
    let later : GetAt → State = λ a. with_job l.seat (Task.Getting b l.call.time a) (shelf_of w) in
    subst (λ a. WholeStep k l.seat w (with_shelf (later a) w)) (sym starts.0)
    (WholeStep.shelves (later GetAt.Lock) (ShelfStep.asks b l.call.time below away) tt none)
start_at k l w (At.Undo cause at) job starts away none below =
    let b : ℕ = granules_of_served l.call.served in
    let later : UndoAt → State = λ a. with_job l.seat (Task.Undoing b a) (shelf_of w) in
    subst (λ a. WholeStep k l.seat w (with_shelf (later a) w)) (sym starts.0)
    (WholeStep.shelves (later UndoAt.Lock) (ShelfStep.regrets b below away) tt none)
start_at k l w (At.Keep at) job starts away none rests =
    let b : ℕ = l.call.block.granules in
    let later : KeepAt → State =
    λ a. with_job l.seat (Task.Keeping b l.call.time l.call.block.first a) (shelf_of w) in
    subst (λ a. WholeStep k l.seat w (with_shelf (later a) w)) (sym starts)
    (WholeStep.shelves (later KeepAt.Lock)
    (ShelfStep.gives b l.call.time l.call.block.first rests.0 away rests.1) tt none)
start_at k l w (At.Sweep SweepAt.Clock) job starts away none below =
    WholeStep.shelves (with_job l.seat (cache_task_at l (At.Sweep SweepAt.Clock)) (shelf_of w))
    (ShelfStep.cleans l.sweep.granules l.sweep.time l.sweep.cleanup SweepAt.Clock below refl away) tt none
start_at k l w (At.Sweep SweepAt.Peek) job starts away none below =
    WholeStep.shelves (with_job l.seat (cache_task_at l (At.Sweep SweepAt.Peek)) (shelf_of w))
    (ShelfStep.cleans l.sweep.granules l.sweep.time l.sweep.cleanup SweepAt.Peek below refl away) tt none
start_at k l w (At.Sweep _) job starts away none below = absurd starts
start_at k l w _ job starts away none rests = absurd job

pub starts_are_whole_steps : StartsAreWholeSteps
starts_are_whole_steps k l w fits =
    start_at k l w l.at fits.job fits.starts fits.away (idle w l.seat fits.off) fits.rests

pub ticks_are_whole_steps : TicksAreWholeSteps
ticks_are_whole_steps k l w fits =
    WholeStep.others (course l)
    (subst (λ at. IsOfNone (course_at l at)) (sym fits.ticks) (omega arith, omega arith))
    (free w l.seat fits.away fits.off)

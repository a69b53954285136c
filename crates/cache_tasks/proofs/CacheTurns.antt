-- What a turn leaves a seat to do at the cache, position by position.
use Rattle.std.proofs.Common.{◌≡◌, ◌∙◌, ◌<◌, ◌++◌, ◌∷◌, [], Bool, true, false, cond, ◌==◌, ℕ, refl, ap, length}
use Rattle.std.proofs.lemmas.Bool.{lt-ltb}
use Rattle.std.specs.Prelude.{None, Option, Some, List}
use Rattle.heap_slabs.specs.Rolls.{Rolled, after_push}
use Rattle.large_cache.specs.declared.get.GetAt.{GetAt}
use Rattle.large_cache.specs.declared.get.GetNext.{GetNext}
use Rattle.large_cache.specs.declared.keep.KeepAt.{KeepAt}
use Rattle.large_cache.specs.declared.keep.KeepNext.{KeepNext}
use Rattle.large_cache.specs.declared.sweep.Cleanup.{Cleanup}
use Rattle.large_cache.specs.declared.sweep.JudgeAt.{JudgeAt}
use Rattle.large_cache.specs.declared.sweep.SweepAt.{SweepAt}
use Rattle.large_cache.specs.declared.sweep.SweepCall.{SweepCall}
use Rattle.large_cache.specs.declared.sweep.SweepNext.{SweepNext}
use Rattle.large_cache.specs.declared.sweep.Walk.{Walk}
use Rattle.large_cache.specs.declared.undo.UndoAt.{UndoAt}
use Rattle.large_cache.specs.declared.undo.UndoNext.{UndoNext}
use Rattle.large_cache.specs.Get.{get_learn, get_unlocked}
use Rattle.large_cache.specs.Keep.{keep_learn}
use Rattle.large_cache.specs.Sweep.{judge_learn, sweep_aged, sweep_begun, sweep_counted, sweep_headed, sweep_is_stale}
use Rattle.large_cache.specs.Sweep.{sweep_learn, sweep_meant, sweep_set, sweep_walked, with_kept, with_stale}
use Rattle.large_cache.specs.Undo.{undo_course, undo_learn}
use Rattle.pool_types.specs.declared.values.NullCause.{NullCause}
use Rattle.pool_words.specs.declared.actions.Seen.{Seen}
use Rattle.pool_words.specs.Actions.{word_seen}
use Rattle.reset_steps.specs.Clear.{clear_learn}
use Rattle.word_codes.specs.Links.{link_of}
use Rattle.cache_laws.specs.Good.{Task, sweep_holds}
use Rattle.cache_laws.specs.Steps.{call_of, task_got, task_kept, task_swept, task_undone}
use Rattle.step_local.specs.declared.frames.At.{At}
use Rattle.step_local.specs.declared.frames.Local.{Local}
use Rattle.step_local.specs.declared.frames.ResetAt.{ResetAt}
use Rattle.step_local.specs.Course.{course_at}
use Rattle.step_local.specs.Large.{cache_call, get_as, granules_of_served, keep_as, kept_as, sweep_call, swept_as}
use Rattle.step_local.specs.Large.{undo_as}
use Rattle.step_local.specs.Learn.{learn_at}
use Rattle.cache_tasks.specs.Cache.{CacheStarts, CacheStartsAt, IsCacheStart, cache_left_at, cache_task_at, gone_at}
use Rattle.cache_tasks.specs.Laws.{CacheGoesOn, CallsAreThoseOfTasks, IsRow, RowsLeaveCacheTasks, row_left}
use Rattle.cache_tasks.specs.Laws.{StartedCacheTasksAreStarts, TurnsMoveCacheTasks}
use Rattle.cache_tasks.specs.Released.{HasRoomAt}
use Rattle.cache_tasks.proofs.StartedLarge.{starts-next_bin, starts-releasing, starts-ticked}
use Rattle.cache_tasks.proofs.StartedResets.{starts-cleared_as}
use Rattle.cache_tasks.proofs.Turns.{job_turn}

-- a get
get_ends : (l : Local) (one : Option ℕ) → CacheStarts (get_as l (GetAt.Unlock one) (get_unlocked one)).0
get_ends l (Some block) = (starts-ticked (record l {
  call = record l.call {
    missed = false;
    block = record { first = block; granules = granules_of_served l.call.served };
  };
})).0
get_ends l None = (starts-ticked (record l { call = record l.call { missed = true } })).0

abbrev GetGoesOn : Local → GetAt → GetNext → Type 0
GetGoesOn l at next =
    CacheGoesOn (get_as l at next).0 (task_got (granules_of_served l.call.served) l.call.time next)

get_unlocks : (l : Local) (one : Option ℕ) → GetGoesOn l (GetAt.Unlock one) (get_unlocked one)
get_unlocks l (Some block) = get_ends l (Some block)
get_unlocks l None = get_ends l None

get_turn : (l : Local) (at : GetAt) (f : ℕ) → GetGoesOn l at (get_learn at f)
get_turn l GetAt.Lock f = by (f == 0)
  where
    by : (b : Bool) → GetGoesOn l GetAt.Lock (cond b (GetNext.Goes GetAt.Items) GetNext.Waits)
    by true = refl
    by false = refl
get_turn l GetAt.Items f = refl
get_turn l (GetAt.Head items) f = refl
get_turn l (GetAt.Hit at) f = refl
get_turn l GetAt.Cleaned f = refl
get_turn l (GetAt.SetThreshold cleaned) f = refl
get_turn l GetAt.ClearCleaned f = refl
get_turn l (GetAt.SetTime block) f = refl
get_turn l (GetAt.Used block) f = refl
get_turn l (GetAt.SetUsed block used) f = refl
get_turn l (GetAt.Unlock block) f = get_unlocks l block

-- an undo
abbrev UndoGoesOn : Local → NullCause → UndoAt → UndoNext → Type 0
UndoGoesOn l cause at next =
    CacheGoesOn (undo_as l cause at next).0 (task_undone (granules_of_served l.call.served) next)

undo_turn : (l : Local) (cause : NullCause) (at : UndoAt) (f : ℕ) → UndoGoesOn l cause at (undo_learn at f)
undo_turn l cause UndoAt.Lock f = by (f == 0)
  where
    by : (b : Bool) → UndoGoesOn l cause UndoAt.Lock (cond b (UndoNext.Goes UndoAt.Used) UndoNext.Waits)
    by true = refl
    by false = refl
undo_turn l cause UndoAt.Used f = refl
undo_turn l cause (UndoAt.SetUsed used) f = refl
undo_turn l cause UndoAt.Unlock f = tt

-- a put
abbrev KeepGoesOn : Local → KeepAt → KeepNext → Type 0
KeepGoesOn l at next = CacheGoesOn (keep_as l at next).0
    (task_kept l.call.block.granules l.call.time l.call.block.first next)

keep_ends : (l : Local) (one : Option ℕ) → CacheStarts (kept_as l one).0
keep_ends l (Some block) = tt
keep_ends l None = (starts-ticked l).0

keep_turn : (l : Local) (at : KeepAt) (f : ℕ) → KeepGoesOn l at (keep_learn at f)
keep_turn l KeepAt.Lock f = by (f == 0)
  where
    by : (b : Bool) → KeepGoesOn l KeepAt.Lock (cond b (KeepNext.Goes KeepAt.Items) KeepNext.Waits)
    by true = refl
    by false = refl
keep_turn l KeepAt.Items f = refl
keep_turn l (KeepAt.Head items) f = refl
keep_turn l (KeepAt.Walk tail) f = refl
keep_turn l (KeepAt.OldAge tail) f = refl
keep_turn l (KeepAt.Cut tail age) f = refl
keep_turn l (KeepAt.SetCleaned tail age) f = refl
keep_turn l (KeepAt.SetLink items head released) f = refl
keep_turn l (KeepAt.SetAge items released) f = refl
keep_turn l (KeepAt.SetHead items released) f = refl
keep_turn l (KeepAt.SetItems items released) f = refl
keep_turn l (KeepAt.Used released) f = refl
keep_turn l (KeepAt.SetUsed released used) f = refl
keep_turn l (KeepAt.Unlock released) f = keep_ends l released

-- a sweep keeps the lock from its count on
holds_set : (count old threshold : ℕ) → sweep_holds (sweep_set count old threshold) ≡ true
holds_set count old threshold = by (threshold == old)
  where
    by : (b : Bool) → sweep_holds (cond b (SweepAt.Head count threshold) (SweepAt.SetThreshold count threshold)) ≡ true
    by true = refl
    by false = refl

holds_counted : (cleanup : Cleanup) (count : ℕ) → sweep_holds (sweep_counted cleanup count) ≡ true
holds_counted cleanup count = by (count == 0) cleanup
  where
    by : (b : Bool) (c : Cleanup) → sweep_holds (cond b SweepAt.Unlock (sweep_begun c count)) ≡ true
    by true c = refl
    by false Cleanup.Regular = refl
    by false Cleanup.Soft = refl
    by false Cleanup.Hard = refl

holds_meant : (cleanup : Cleanup) (count threshold mean : ℕ)
    → sweep_holds (sweep_meant cleanup count threshold mean) ≡ true
holds_meant Cleanup.Regular count threshold mean = refl
holds_meant Cleanup.Soft count threshold mean = holds_set count threshold _
holds_meant Cleanup.Hard count threshold mean = refl

holds_judged : (c : SweepCall) (at : JudgeAt) (f : ℕ) → sweep_holds (judge_learn c at f) ≡ true
holds_judged c (JudgeAt.Threshold count) f = refl
holds_judged c (JudgeAt.Mean count threshold) f = holds_meant c.cleanup count threshold f
holds_judged c (JudgeAt.Get count threshold mean) f = refl
holds_judged c (JudgeAt.Used count threshold mean get) f = holds_set count threshold _

holds_headed : (count threshold : ℕ) (one : Option ℕ) → sweep_holds (sweep_headed count threshold one) ≡ true
holds_headed count threshold (Some block) = refl
holds_headed count threshold None = refl

holds_walked : (walk : Walk) (one : Option ℕ) → sweep_holds (sweep_walked walk one) ≡ true
holds_walked walk (Some block) = refl
holds_walked walk None = by (walk.stale == 0)
  where
    by : (b : Bool) → sweep_holds (cond b SweepAt.Unlock (SweepAt.Cut walk)) ≡ true
    by true = refl
    by false = refl

pub held_gone : (released : List ℕ) (at : SweepAt) → sweep_holds at ≡ true → gone_at released at ≡ released
held_gone released SweepAt.Clock holds = absurd (cc)
held_gone released SweepAt.Peek holds = absurd (cc)
held_gone released SweepAt.Lock holds = absurd (cc)
held_gone released _ holds = refl

abbrev task_of_sweep : Local → List ℕ → SweepAt → Task
task_of_sweep l gone at = Task.Sweeping l.sweep.granules l.sweep.time l.sweep.cleanup gone at

sweep_goes : (l : Local) (at : SweepAt) → sweep_holds at ≡ true
    → task_of_sweep l (gone_at l.released.items at) at ≡ task_of_sweep l l.released.items at
sweep_goes l at holds = ap (λ gone. task_of_sweep l gone at) (held_gone l.released.items at holds)

pub pushed : (r : Rolled ℕ) (x : ℕ) → length r.items < r.room → (after_push r x).items ≡ r.items ++ (x ∷ [])
pushed r x room = ap (λ b. (cond {A = Rolled ℕ} b (record r { items = r.items ++ (x ∷ []) }) r).items)
    (lt-ltb (length r.items) r.room room)

abbrev SweepGoesOn : Local → SweepAt → SweepNext → Type 0
SweepGoesOn l at next = CacheGoesOn (swept_as l at next).0
    (task_swept l.sweep.granules l.sweep.time l.sweep.cleanup (gone_at l.released.items at) next)

judged_turn : (l : Local) (walk : Walk) (f : ℕ) → length l.released.items < l.released.room
    → SweepGoesOn l (SweepAt.Age walk) (sweep_aged (sweep_call l) walk f)
judged_turn l walk f room = by (sweep_is_stale l.sweep.cleanup l.sweep.time walk.threshold f)
  where
    by : (b : Bool) → SweepGoesOn l (SweepAt.Age walk)
        (cond b (SweepNext.Stale walk.block (SweepAt.Link (with_stale walk f)))
        (SweepNext.Stays (SweepAt.Link (with_kept walk))))
    by true = ap (λ gone. task_of_sweep l gone (SweepAt.Link (with_stale walk f)))
        (pushed l.released walk.block room)
    by false = refl

sweep_turn : (l : Local) (at : SweepAt) (f : ℕ) → HasRoomAt l (At.Sweep at)
    → SweepGoesOn l at (sweep_learn (sweep_call l) at f)
sweep_turn l SweepAt.Clock f room = tt
sweep_turn l SweepAt.Peek f room = by (f == 0)
  where
    by : (b : Bool) → SweepGoesOn l SweepAt.Peek (cond b SweepNext.Passed (SweepNext.Goes SweepAt.Lock))
    by true = (starts-next_bin l).0
    by false = refl
sweep_turn l SweepAt.Lock f none = by (f == 0)
  where
    by : (b : Bool) → SweepGoesOn l SweepAt.Lock (cond b (SweepNext.Goes SweepAt.Items) SweepNext.Waits)
    by true = ap (λ gone. task_of_sweep l gone SweepAt.Items) none
    by false = refl
sweep_turn l SweepAt.Items f room =
    sweep_goes l (sweep_counted l.sweep.cleanup f) (holds_counted l.sweep.cleanup f)
sweep_turn l (SweepAt.Judge at) f room =
    sweep_goes l (judge_learn (sweep_call l) at f) (holds_judged (sweep_call l) at f)
sweep_turn l (SweepAt.SetThreshold count threshold) f room = refl
sweep_turn l (SweepAt.Head count threshold) f room =
    sweep_goes l (sweep_headed count threshold (link_of f)) (holds_headed count threshold (link_of f))
sweep_turn l (SweepAt.Age walk) f room = judged_turn l walk f room
sweep_turn l (SweepAt.Link walk) f room =
    sweep_goes l (sweep_walked walk (link_of f)) (holds_walked walk (link_of f))
sweep_turn l (SweepAt.Cut walk) f room = refl
sweep_turn l (SweepAt.SetItems walk) f room = refl
sweep_turn l (SweepAt.SetCleaned walk) f room = refl
sweep_turn l SweepAt.Unlock f room = (starts-releasing l).0

turn_at : (l : Local) (at : At) (s : Seen) → l.at ≡ at → HasRoomAt l at
    → CacheGoesOn (learn_at l at s).0 (cache_left_at l at (word_seen s))
turn_at l (At.Get at) s here room = get_turn l at (word_seen s)
turn_at l (At.Undo cause at) s here room = undo_turn l cause at (word_seen s)
turn_at l (At.Keep at) s here room = keep_turn l at (word_seen s)
turn_at l (At.Sweep at) s here room = sweep_turn l at (word_seen s) room
turn_at l (At.Reset (ResetAt.Clear granules at)) s here room =
    starts-cleared_as l granules at (clear_learn at (word_seen s))
turn_at l at s here room = (job_turn l at s here tt).0

pub turns_move_cache_tasks : TurnsMoveCacheTasks
turns_move_cache_tasks l s room = turn_at l l.at s refl room

starts_is : (l : Local) (at : At) → CacheStartsAt l at → IsCacheStart (cache_task_at l at)
starts_is l (At.Get at) starts = starts.0
starts_is l (At.Undo cause at) starts = starts.0
starts_is l (At.Keep at) starts = starts
starts_is l (At.Sweep SweepAt.Clock) starts = (refl, refl)
starts_is l (At.Sweep SweepAt.Peek) starts = (refl, refl)
starts_is l (At.Sweep _) starts = absurd starts
starts_is l _ starts = tt

pub started_cache_tasks_are_starts : StartedCacheTasksAreStarts
started_cache_tasks_are_starts l starts = starts_is l l.at starts

row_at : (l : Local) (at : At) (found : ℕ)
    → cache_left_at l at found ≡ row_left l.seat (cache_task_at l at) found
row_at l (At.Get at) found = refl
row_at l (At.Undo cause at) found = refl
row_at l (At.Keep at) found = refl
row_at l (At.Sweep at) found = refl
row_at l _ found = refl

pub rows_leave_cache_tasks : RowsLeaveCacheTasks
rows_leave_cache_tasks l found = row_at l l.at found

-- an undo asks for no time
pub undoes_as : (l : Local) (at : UndoAt)
    → undo_course (cache_call l) at ≡ undo_course (call_of l.seat (granules_of_served l.call.served) 0) at
undoes_as l UndoAt.Lock = refl
undoes_as l UndoAt.Used = refl
undoes_as l (UndoAt.SetUsed used) = refl
undoes_as l UndoAt.Unlock = refl

is_row : (l : Local) (at : At) → l.at ≡ at → IsRow l (cache_task_at l at)
is_row l (At.Get at) here = ap (course_at l) here
is_row l (At.Undo cause at) here = ap (course_at l) here ∙ undoes_as l at
is_row l (At.Keep at) here = ap (course_at l) here
is_row l (At.Sweep at) here = ap (course_at l) here
is_row l _ here = tt

pub calls_are_those_of_tasks : CallsAreThoseOfTasks
calls_are_those_of_tasks l = record { gets = refl; keeps = refl; sweeps = refl; rows = is_row l l.at refl }

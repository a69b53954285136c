-- What a turn of a job of the cache makes of the seat's lock.
use Rattle.std.proofs.Common.{◌≡◌, ℕ, Bool, true, false, cond, eqb, refl, Option, Some, None}
use Rattle.std.specs.Prelude.{nat_le}
use Rattle.pool_types.specs.declared.values.NullCause.{NullCause}
use Rattle.word_codes.specs.Links.{link_of}
use Rattle.cache_ages.specs.Times.{most_items, soft_threshold}
use Rattle.large_cache.specs.Get.{get_headed, hit_learn}
use Rattle.large_cache.specs.Keep.{keep_headed, keep_released, keep_walked}
use Rattle.large_cache.specs.Sweep.{judge_learn, sweep_begun, sweep_headed, sweep_is_stale, sweep_meant}
use Rattle.large_cache.specs.Sweep.{sweep_set, sweep_walked, with_kept, with_stale}
use Rattle.large_cache.specs.declared.get.GetAt.{GetAt}
use Rattle.large_cache.specs.declared.get.GetNext.{GetNext}
use Rattle.large_cache.specs.declared.get.HitAt.{HitAt}
use Rattle.large_cache.specs.declared.keep.KeepAt.{KeepAt}
use Rattle.large_cache.specs.declared.keep.KeepNext.{KeepNext}
use Rattle.large_cache.specs.declared.keep.Tail.{Tail}
use Rattle.large_cache.specs.declared.sweep.Cleanup.{Cleanup}
use Rattle.large_cache.specs.declared.sweep.JudgeAt.{JudgeAt}
use Rattle.large_cache.specs.declared.sweep.SweepAt.{SweepAt}
use Rattle.large_cache.specs.declared.sweep.SweepCall.{SweepCall}
use Rattle.large_cache.specs.declared.sweep.SweepNext.{SweepNext}
use Rattle.large_cache.specs.declared.sweep.Walk.{Walk}
use Rattle.large_cache.specs.declared.undo.UndoAt.{UndoAt}
use Rattle.large_cache.specs.declared.undo.UndoNext.{UndoNext}
use Rattle.reset_steps.specs.Clear.{clear_headed, clear_walked, number_after, peeked, zeroed}
use Rattle.reset_steps.specs.declared.clear.ClearAt.{ClearAt}
use Rattle.reset_steps.specs.declared.clear.ClearNext.{ClearNext}
use Rattle.reset_steps.specs.declared.clear.Number.{Number}
use Rattle.step_local.specs.declared.frames.Local.{Local}
use Rattle.step_local.specs.Large.{cache_call, get_as, get_learn_of, granules_of_served, keep_as, keep_call}
use Rattle.step_local.specs.Large.{keep_learn_of, sweep_call, sweep_learn_of, swept_as}
use Rattle.step_local.specs.Large.{undo_as, undo_learn_of}
use Rattle.step_local.specs.Resetting.{clear_learn_of, cleared_as}
use Rattle.step_locks.specs.Holdings.{no_lock, cache_lock, after_change}
use Rattle.step_locks.specs.Jobs.{get_holds, get_change, undo_holds, undo_change, keep_holds, keep_change}
use Rattle.step_locks.specs.Jobs.{sweep_holds, sweep_change, clear_holds, clear_change}
use Rattle.step_locks.specs.Positions.{holding_of}
use Rattle.step_locks.proofs.FreeLarge.{free-ticked, free-kept_as, free-next_bin, free-releasing}
use Rattle.step_locks.proofs.FreeResets.{free-bin_cleared, free-uncaching}

-- where a job goes on by a test
get_by : (granules : ℕ) (b : Bool) (x y : GetAt) → get_holds granules x ≡ cache_lock granules
    → get_holds granules y ≡ cache_lock granules → get_holds granules (cond b x y) ≡ cache_lock granules
get_by granules true x y one other = one
get_by granules false x y one other = other

get_on : (granules items : ℕ) (block : Option ℕ) → get_holds granules (get_headed items block) ≡ cache_lock granules
get_on granules items (Some block) = refl
get_on granules items None = refl

hit_on : (granules : ℕ) (at : HitAt) (f : ℕ) → get_holds granules (hit_learn at f) ≡ cache_lock granules
hit_on granules (HitAt.Link items block) f = refl
hit_on granules _ f = refl

pub get_turn : (l : Local) (at : GetAt) (f : ℕ)
    → holding_of (get_learn_of l at f).0
    ≡ after_change (get_change (cache_call l).granules at) f (get_holds (cache_call l).granules at)
get_turn l GetAt.Lock f = by (eqb f 0)
  where
    by : (b : Bool) → holding_of (get_as l GetAt.Lock (cond b (GetNext.Goes GetAt.Items) GetNext.Waits)).0
        ≡ cond b (cache_lock (cache_call l).granules) no_lock
    by true = refl
    by false = refl
get_turn l GetAt.Items f = get_by (cache_call l).granules (eqb f 0) GetAt.Cleaned (GetAt.Head f) refl refl
get_turn l (GetAt.Head items) f = get_on (cache_call l).granules items (link_of f)
get_turn l (GetAt.Hit at) f = hit_on (cache_call l).granules at f
get_turn l GetAt.Cleaned f =
    get_by (cache_call l).granules (eqb f 0) (GetAt.SetTime None) (GetAt.SetThreshold f) refl refl
get_turn l (GetAt.Unlock (Some block)) f = free-ticked (record l {
  call = record l.call {
    missed = false;
    block = record { first = block; granules = granules_of_served l.call.served };
  };
})
get_turn l (GetAt.Unlock None) f = free-ticked (record l { call = record l.call { missed = true } })
get_turn l _ f = refl

pub undo_turn : (l : Local) (cause : NullCause) (at : UndoAt) (f : ℕ)
    → holding_of (undo_learn_of l cause at f).0
    ≡ after_change (undo_change (cache_call l).granules at) f (undo_holds (cache_call l).granules at)
undo_turn l cause UndoAt.Lock f = by (eqb f 0)
  where
    by : (b : Bool)
        → holding_of (undo_as l cause UndoAt.Lock (cond b (UndoNext.Goes UndoAt.Used) UndoNext.Waits)).0
        ≡ cond b (cache_lock (cache_call l).granules) no_lock
    by true = refl
    by false = refl
undo_turn l cause _ f = refl

keep_by : (granules : ℕ) (b : Bool) (x y : KeepAt) → keep_holds granules x ≡ cache_lock granules
    → keep_holds granules y ≡ cache_lock granules → keep_holds granules (cond b x y) ≡ cache_lock granules
keep_by granules true x y one other = one
keep_by granules false x y one other = other

keep_on : (granules items head : ℕ) (block : Option ℕ)
    → keep_holds granules (keep_headed items head block) ≡ cache_lock granules
keep_on granules items head (Some block) = keep_by granules (nat_le most_items items) _ _ refl refl
keep_on granules items head None = refl

keep_behind : (granules : ℕ) (tail : Tail) (block : Option ℕ)
    → keep_holds granules (keep_walked tail block) ≡ cache_lock granules
keep_behind granules tail (Some block) = refl
keep_behind granules tail None = refl

keep_without : (granules : ℕ) (tail : Tail) (before : Option ℕ)
    → keep_holds granules (keep_released tail before) ≡ cache_lock granules
keep_without granules tail (Some before) = refl
keep_without granules tail None = refl

pub keep_turn : (l : Local) (at : KeepAt) (f : ℕ)
    → holding_of (keep_learn_of l at f).0
    ≡ after_change (keep_change (keep_call l).granules at) f (keep_holds (keep_call l).granules at)
keep_turn l KeepAt.Lock f = by (eqb f 0)
  where
    by : (b : Bool) → holding_of (keep_as l KeepAt.Lock (cond b (KeepNext.Goes KeepAt.Items) KeepNext.Waits)).0
        ≡ cond b (cache_lock (keep_call l).granules) no_lock
    by true = refl
    by false = refl
keep_turn l (KeepAt.Head items) f = keep_on (keep_call l).granules items f (link_of f)
keep_turn l (KeepAt.Walk tail) f = keep_behind (keep_call l).granules tail (link_of f)
keep_turn l (KeepAt.SetCleaned tail age) f = keep_without (keep_call l).granules tail tail.before
keep_turn l (KeepAt.Unlock released) f = free-kept_as l released
keep_turn l _ f = refl

sweep_by : (granules : ℕ) (b : Bool) (x y : SweepAt) → sweep_holds granules x ≡ cache_lock granules
    → sweep_holds granules y ≡ cache_lock granules → sweep_holds granules (cond b x y) ≡ cache_lock granules
sweep_by granules true x y one other = one
sweep_by granules false x y one other = other

sweep_setting : (granules count old threshold : ℕ)
    → sweep_holds granules (sweep_set count old threshold) ≡ cache_lock granules
sweep_setting granules count old threshold = sweep_by granules (eqb threshold old) _ _ refl refl

sweep_meaning : (granules : ℕ) (cleanup : Cleanup) (count threshold mean : ℕ)
    → sweep_holds granules (sweep_meant cleanup count threshold mean) ≡ cache_lock granules
sweep_meaning granules Cleanup.Regular count threshold mean = refl
sweep_meaning granules Cleanup.Soft count threshold mean =
    sweep_setting granules count threshold (soft_threshold threshold mean)
sweep_meaning granules Cleanup.Hard count threshold mean = refl

sweep_beginning : (granules : ℕ) (cleanup : Cleanup) (count : ℕ)
    → sweep_holds granules (sweep_begun cleanup count) ≡ cache_lock granules
sweep_beginning granules Cleanup.Regular count = refl
sweep_beginning granules Cleanup.Soft count = refl
sweep_beginning granules Cleanup.Hard count = refl

judged : (c : SweepCall) (at : JudgeAt) (f : ℕ) → sweep_holds c.granules (judge_learn c at f) ≡ cache_lock c.granules
judged c (JudgeAt.Threshold count) f = refl
judged c (JudgeAt.Mean count threshold) f = sweep_meaning c.granules c.cleanup count threshold f
judged c (JudgeAt.Get count threshold mean) f = refl
judged c (JudgeAt.Used count threshold mean get) f = sweep_setting c.granules count threshold _

sweep_on : (granules count threshold : ℕ) (block : Option ℕ)
    → sweep_holds granules (sweep_headed count threshold block) ≡ cache_lock granules
sweep_on granules count threshold (Some block) = refl
sweep_on granules count threshold None = refl

sweep_behind : (granules : ℕ) (walk : Walk) (block : Option ℕ)
    → sweep_holds granules (sweep_walked walk block) ≡ cache_lock granules
sweep_behind granules walk (Some block) = refl
sweep_behind granules walk None = sweep_by granules (eqb walk.stale 0) _ _ refl refl

sweep_either : (l : Local) (at : SweepAt) (b : Bool) (x y : SweepNext)
    → holding_of (swept_as l at x).0 ≡ cache_lock l.sweep.granules
    → holding_of (swept_as l at y).0 ≡ cache_lock l.sweep.granules
    → holding_of (swept_as l at (cond b x y)).0 ≡ cache_lock l.sweep.granules
sweep_either l at true x y one other = one
sweep_either l at false x y one other = other

pub sweep_turn : (l : Local) (at : SweepAt) (f : ℕ)
    → holding_of (sweep_learn_of l at f).0
    ≡ after_change (sweep_change (sweep_call l).granules at) f (sweep_holds (sweep_call l).granules at)
sweep_turn l SweepAt.Peek f = by (eqb f 0)
  where
    by : (b : Bool) → holding_of (swept_as l SweepAt.Peek (cond b SweepNext.Passed (SweepNext.Goes SweepAt.Lock))).0
        ≡ no_lock
    by true = free-next_bin l
    by false = refl
sweep_turn l SweepAt.Lock f = by (eqb f 0)
  where
    by : (b : Bool) → holding_of (swept_as l SweepAt.Lock (cond b (SweepNext.Goes SweepAt.Items) SweepNext.Waits)).0
        ≡ cond b (cache_lock (sweep_call l).granules) no_lock
    by true = refl
    by false = refl
sweep_turn l SweepAt.Items f = sweep_by l.sweep.granules (eqb f 0) SweepAt.Unlock (sweep_begun l.sweep.cleanup f) refl
    (sweep_beginning l.sweep.granules l.sweep.cleanup f)
sweep_turn l (SweepAt.Judge at) f = judged (sweep_call l) at f
sweep_turn l (SweepAt.Head count threshold) f = sweep_on l.sweep.granules count threshold (link_of f)
sweep_turn l (SweepAt.Age walk) f =
    sweep_either l (SweepAt.Age walk) (sweep_is_stale l.sweep.cleanup l.sweep.time walk.threshold f)
    (SweepNext.Stale walk.block (SweepAt.Link (with_stale walk f))) (SweepNext.Stays (SweepAt.Link (with_kept walk)))
    refl refl
sweep_turn l (SweepAt.Link walk) f = sweep_behind l.sweep.granules walk (link_of f)
sweep_turn l SweepAt.Unlock f = free-releasing l
sweep_turn l _ f = refl

clear_peeking : (l : Local) (granules : ℕ) (number : Number) (next : Option Number)
    → holding_of (cleared_as l granules (ClearAt.Peek number) (peeked next)).0 ≡ no_lock
clear_peeking l granules number (Some next) = refl
clear_peeking l granules number None = free-bin_cleared l granules

clear_heading : (l : Local) (granules : ℕ) (block : Option ℕ)
    → holding_of (cleared_as l granules ClearAt.Head (clear_headed block)).0 ≡ cache_lock granules
clear_heading l granules (Some block) = refl
clear_heading l granules None = refl

clear_walking : (l : Local) (granules at : ℕ) (block : Option ℕ)
    → holding_of (cleared_as l granules (ClearAt.Link at) (clear_walked block)).0 ≡ cache_lock granules
clear_walking l granules at (Some block) = refl
clear_walking l granules at None = refl

clear_zeroing : (l : Local) (granules : ℕ) (number : Number) (next : Option Number)
    → holding_of (cleared_as l granules (ClearAt.Zero number) (zeroed next)).0 ≡ cache_lock granules
clear_zeroing l granules number (Some next) = refl
clear_zeroing l granules number None = refl

pub clear_turn : (l : Local) (granules : ℕ) (at : ClearAt) (f : ℕ)
    → holding_of (clear_learn_of l granules at f).0
    ≡ after_change (clear_change granules at) f (clear_holds granules at)
clear_turn l granules (ClearAt.Peek number) f = by (eqb f 0)
  where
    by : (b : Bool)
        → holding_of (cleared_as l granules (ClearAt.Peek number)
        (cond b (peeked (number_after number)) (ClearNext.Goes ClearAt.Lock))).0 ≡ no_lock
    by true = clear_peeking l granules number (number_after number)
    by false = refl
clear_turn l granules ClearAt.Lock f = by (eqb f 0)
  where
    by : (b : Bool)
        → holding_of (cleared_as l granules ClearAt.Lock (cond b (ClearNext.Goes ClearAt.Head) ClearNext.Waits)).0
        ≡ cond b (cache_lock granules) no_lock
    by true = refl
    by false = refl
clear_turn l granules ClearAt.Head f = clear_heading l granules (link_of f)
clear_turn l granules (ClearAt.Link block) f = clear_walking l granules block (link_of f)
clear_turn l granules ClearAt.Cut f = refl
clear_turn l granules (ClearAt.Zero number) f = clear_zeroing l granules number (number_after number)
clear_turn l granules ClearAt.Unlock f = free-uncaching l granules

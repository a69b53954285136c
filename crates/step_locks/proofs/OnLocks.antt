-- A step on a lock's word takes the lock or frees it, and no other step writes such a word.
use Rattle.std.proofs.Common.{◌≡◌, ℕ, false, refl, ap, ◌∙◌}
use Rattle.std.specs.Prelude.{Option, Some, None}
use Rattle.pool_words.specs.declared.actions.Action.{Action}
use Rattle.pool_words.specs.Words.{queues, queue_links}
use Rattle.backend_bins.specs.Bin.{bin_course}
use Rattle.backend_bins.specs.Cut.{back_call, cut_course, front_call}
use Rattle.backend_bins.specs.Scan.{step_course as scan_step}
use Rattle.backend_bins.specs.declared.bin.BinAt.{BinAt}
use Rattle.backend_bins.specs.declared.bin.BinCall.{BinCall}
use Rattle.backend_bins.specs.declared.cut.CutAt.{CutAt}
use Rattle.backend_bins.specs.declared.cut.CutCall.{CutCall}
use Rattle.backend_bins.specs.declared.scan.ScanAt.{ScanAt}
use Rattle.backend_bins.specs.declared.scan.ScanCall.{ScanCall}
use Rattle.backend_bins.specs.declared.scan.ScanStep.{ScanStep}
use Rattle.chain_words.specs.declared.pushing.PushAt.{PushAt}
use Rattle.coalescer.specs.Drain.{drain_course, put_call as drained_put}
use Rattle.coalescer.specs.Put.{insert_call, step_course as put_step, unlink_call}
use Rattle.coalescer.specs.declared.drain.DrainAt.{DrainAt}
use Rattle.coalescer.specs.declared.drain.DrainCall.{DrainCall}
use Rattle.coalescer.specs.declared.put.PutAt.{PutAt}
use Rattle.coalescer.specs.declared.put.PutCall.{PutCall}
use Rattle.coalescer.specs.declared.put.PutStep.{PutStep}
use Rattle.guards.specs.declared.win.Side.{Side}
use Rattle.guards.specs.declared.win.WinAt.{WinAt}
use Rattle.large_cache.specs.Get.{get_course}
use Rattle.large_cache.specs.Keep.{keep_course}
use Rattle.large_cache.specs.Sweep.{sweep_course}
use Rattle.large_cache.specs.Undo.{undo_course}
use Rattle.large_cache.specs.declared.get.CacheCall.{CacheCall}
use Rattle.large_cache.specs.declared.get.GetAt.{GetAt}
use Rattle.large_cache.specs.declared.get.HitAt.{HitAt}
use Rattle.large_cache.specs.declared.keep.KeepAt.{KeepAt}
use Rattle.large_cache.specs.declared.keep.KeepCall.{KeepCall}
use Rattle.large_cache.specs.declared.sweep.SweepAt.{SweepAt}
use Rattle.large_cache.specs.declared.sweep.SweepCall.{SweepCall}
use Rattle.large_cache.specs.declared.undo.UndoAt.{UndoAt}
use Rattle.locked_chain.specs.declared.insert.InsertAt.{InsertAt}
use Rattle.locked_chain.specs.declared.remove.RemoveAt.{RemoveAt}
use Rattle.reset_steps.specs.Clear.{clear_course}
use Rattle.reset_steps.specs.Unite.{unite_course, unlink_call as unite_unlink}
use Rattle.reset_steps.specs.declared.clear.ClearAt.{ClearAt}
use Rattle.reset_steps.specs.declared.clear.ClearCall.{ClearCall}
use Rattle.reset_steps.specs.declared.clear.Number.{Number}
use Rattle.reset_steps.specs.declared.unite.UniteAt.{UniteAt}
use Rattle.reset_steps.specs.declared.unite.UniteCall.{UniteCall}
use Rattle.word_codes.specs.Links.{link_of}
use Rattle.step_local.specs.declared.frames.At.{At}
use Rattle.step_local.specs.declared.frames.LargeAt.{LargeAt}
use Rattle.step_local.specs.declared.frames.Local.{Local}
use Rattle.step_local.specs.declared.frames.ResetAt.{ResetAt}
use Rattle.step_local.specs.declared.frames.SmallAt.{SmallAt}
use Rattle.step_local.specs.Backend.{cut_call, drain_call, whole_call}
use Rattle.step_local.specs.Course.{course_at}
use Rattle.step_local.specs.Large.{cache_call, keep_call, sweep_call}
use Rattle.step_local.specs.Leaving.{put_call, scan_call}
use Rattle.step_local.specs.Resetting.{binning_call, clear_call, unite_call}
use Rattle.step_writes.specs.Jobs.{skip_writes, insert_writes, remove_writes, win_writes, cut_behind_writes}
use Rattle.step_writes.specs.Jobs.{number_kind, hit_writes, push_writes}
use Rattle.step_writes.specs.Kinds.{large_kinds, small_kinds}
use Rattle.step_writes.specs.Writings.{Writing, loads, stores, has_kind, share_kind, writes_one_of, writing_of}
use Rattle.step_writes.proofs.CallerLemmas.{other_jobs_leave_kinds, bin_job, scan_job, put_job, unite_job, get_job}
use Rattle.step_writes.proofs.CallerLemmas.{keep_job, sweep_job, clear_job}
use Rattle.step_locks.specs.Jobs.{bin_holds, bin_change, scan_holds, scan_change, cut_holds, cut_change, put_holds}
use Rattle.step_locks.specs.Jobs.{put_change, drain_holds, drain_change, unite_holds, unite_change, get_holds}
use Rattle.step_locks.specs.Jobs.{get_change, undo_holds, undo_change, keep_holds, keep_change, sweep_holds}
use Rattle.step_locks.specs.Jobs.{sweep_change, clear_holds, clear_change}
use Rattle.step_locks.specs.Laws.{IsOnLock, lock_kinds, StepsTakeAndFreeLocks}
use Rattle.step_locks.specs.Positions.{change_at, holding_at}

abbrev LeavesLocks : Writing → Type 0
LeavesLocks w = writes_one_of lock_kinds w ≡ false

skip_leaves : (before : Option ℕ) → LeavesLocks (skip_writes before)
skip_leaves (Some before) = refl
skip_leaves None = refl

insert_leaves : (at : InsertAt) → LeavesLocks (insert_writes at)
insert_leaves InsertAt.Head = refl
insert_leaves _ = refl

remove_leaves : (at : RemoveAt) → LeavesLocks (remove_writes at)
remove_leaves (RemoveAt.Skip forward backward) = skip_leaves (link_of backward)
remove_leaves _ = refl

win_leaves : (side : Side) (at : WinAt) → LeavesLocks (win_writes side at)
win_leaves Side.Begin WinAt.First = refl
win_leaves Side.Begin WinAt.Second = refl
win_leaves Side.Begin WinAt.Back = refl
win_leaves Side.End WinAt.First = refl
win_leaves Side.End WinAt.Second = refl
win_leaves Side.End WinAt.Back = refl

cut_behind_leaves : (kept : Option ℕ) → LeavesLocks (cut_behind_writes kept)
cut_behind_leaves (Some kept) = refl
cut_behind_leaves None = refl

number_leaves : (number : Number) → has_kind (number_kind number) lock_kinds ≡ false
number_leaves Number.Items = refl
number_leaves _ = refl

left_by : (action : Action) (w : Writing) → writing_of action ≡ w → LeavesLocks w → LeavesLocks (writing_of action)
left_by action w e none = ap (λ x. writes_one_of lock_kinds x) e ∙ none

bin_on : (c : BinCall) (at : BinAt) → IsOnLock c.seat (bin_holds c at) (bin_change c at) (bin_course c at)
bin_on c BinAt.Lock = (refl, refl)
bin_on c BinAt.Size = refl
bin_on c BinAt.Left = refl
bin_on c (BinAt.Insert at) =
    left_by (bin_course c (BinAt.Insert at)) (insert_writes at) (bin_job c (BinAt.Insert at)) (insert_leaves at)
bin_on c (BinAt.Out at) =
    left_by (bin_course c (BinAt.Out at)) (remove_writes at) (bin_job c (BinAt.Out at)) (remove_leaves at)
bin_on c BinAt.Unlock = refl

cut_on : (c : CutCall) (at : CutAt) → IsOnLock c.seat (cut_holds c at) (cut_change c at) (cut_course c at)
cut_on c (CutAt.Front at) = bin_on (front_call c) at
cut_on c (CutAt.Back at) = bin_on (back_call c) at
cut_on c _ = refl

scan_on : (c : ScanCall) (s : ScanAt) (step : ScanStep)
    → IsOnLock c.seat (scan_holds s.bin step) (scan_change s.bin step) (scan_step c s step)
scan_on c s ScanStep.Lock = (refl, refl)
scan_on c s (ScanStep.Win b at) =
    left_by (scan_step c s (ScanStep.Win b at)) (win_writes Side.Begin at) (scan_job c s (ScanStep.Win b at))
    (win_leaves Side.Begin at)
scan_on c s (ScanStep.Out b at) =
    left_by (scan_step c s (ScanStep.Out b at)) (remove_writes at) (scan_job c s (ScanStep.Out b at)) (remove_leaves at)
scan_on c s _ = refl

push_leaves : (at : PushAt) → LeavesLocks (push_writes queues queue_links at)
push_leaves PushAt.Look = refl
push_leaves _ = refl

put_on : (c : PutCall) (p : PutAt) (step : PutStep)
    → IsOnLock c.seat (put_holds c p step) (put_change c p step) (put_step c p step)
put_on c p (PutStep.WinLeft granules at) =
    left_by (put_step c p (PutStep.WinLeft granules at)) (win_writes Side.End at)
    (put_job c p (PutStep.WinLeft granules at)) (win_leaves Side.End at)
put_on c p (PutStep.WinRight granules at) =
    left_by (put_step c p (PutStep.WinRight granules at)) (win_writes Side.Begin at)
    (put_job c p (PutStep.WinRight granules at)) (win_leaves Side.Begin at)
put_on c p (PutStep.UnlinkLeft neighbour at) = bin_on (unlink_call c neighbour) at
put_on c p (PutStep.UnlinkRight neighbour at) = bin_on (unlink_call c neighbour) at
put_on c p (PutStep.Queue at) =
    left_by (put_step c p (PutStep.Queue at)) (push_writes queues queue_links at) (put_job c p (PutStep.Queue at))
    (push_leaves at)
put_on c p (PutStep.Bin at) = bin_on (insert_call c p.block) at
put_on c p _ = refl

drain_on : (c : DrainCall) (at : DrainAt)
    → IsOnLock c.seat (drain_holds c at) (drain_change c at) (drain_course c at)
drain_on c (DrainAt.Put rest at) = put_on (drained_put c) at at.step
drain_on c _ = refl

unite_on : (c : UniteCall) (at : UniteAt)
    → IsOnLock c.seat (unite_holds c at) (unite_change c at) (unite_course c at)
unite_on c (UniteAt.Size first) = refl
unite_on c (UniteAt.Win b at) =
    left_by (unite_course c (UniteAt.Win b at)) (win_writes Side.Begin at) (unite_job c (UniteAt.Win b at))
    (win_leaves Side.Begin at)
unite_on c (UniteAt.Unlink b at) = bin_on (unite_unlink c b) at

hit_leaves : (at : HitAt) → LeavesLocks (hit_writes at)
hit_leaves (HitAt.Link items block) = refl
hit_leaves _ = refl

get_on : (c : CacheCall) (at : GetAt)
    → IsOnLock c.seat (get_holds c.granules at) (get_change c.granules at) (get_course c at)
get_on c GetAt.Lock = (refl, refl)
get_on c (GetAt.Hit at) =
    left_by (get_course c (GetAt.Hit at)) (hit_writes at) (get_job c (GetAt.Hit at)) (hit_leaves at)
get_on c _ = refl

undo_on : (c : CacheCall) (at : UndoAt)
    → IsOnLock c.seat (undo_holds c.granules at) (undo_change c.granules at) (undo_course c at)
undo_on c UndoAt.Lock = (refl, refl)
undo_on c _ = refl

keep_on : (c : KeepCall) (at : KeepAt)
    → IsOnLock c.seat (keep_holds c.granules at) (keep_change c.granules at) (keep_course c at)
keep_on c KeepAt.Lock = (refl, refl)
keep_on c (KeepAt.Cut tail age) =
    left_by (keep_course c (KeepAt.Cut tail age)) (cut_behind_writes tail.before) (keep_job c (KeepAt.Cut tail age))
    (cut_behind_leaves tail.before)
keep_on c _ = refl

sweep_on : (c : SweepCall) (at : SweepAt)
    → IsOnLock c.seat (sweep_holds c.granules at) (sweep_change c.granules at) (sweep_course c at)
sweep_on c SweepAt.Lock = (refl, refl)
sweep_on c (SweepAt.Judge at) =
    left_by (sweep_course c (SweepAt.Judge at)) loads (sweep_job c (SweepAt.Judge at)) refl
sweep_on c (SweepAt.Cut walk) =
    left_by (sweep_course c (SweepAt.Cut walk)) (cut_behind_writes walk.kept) (sweep_job c (SweepAt.Cut walk))
    (cut_behind_leaves walk.kept)
sweep_on c _ = refl

clear_on : (c : ClearCall) (at : ClearAt)
    → IsOnLock c.seat (clear_holds c.granules at) (clear_change c.granules at) (clear_course c at)
clear_on c (ClearAt.Peek number) =
    left_by (clear_course c (ClearAt.Peek number)) loads (clear_job c (ClearAt.Peek number)) refl
clear_on c ClearAt.Lock = (refl, refl)
clear_on c (ClearAt.Zero number) =
    left_by (clear_course c (ClearAt.Zero number)) (stores (number_kind number)) (clear_job c (ClearAt.Zero number))
    (number_leaves number)
clear_on c _ = refl

abbrev IsOn : Local → At → Type 0
IsOn l at = IsOnLock l.seat (holding_at l at) (change_at l at) (course_at l at)

reset_on : (l : Local) (at : ResetAt) → IsOn l (At.Reset at)
reset_on l (ResetAt.Clear granules at) = clear_on (clear_call l granules) at
reset_on l (ResetAt.Unite region at) = unite_on (unite_call l region) at
reset_on l (ResetAt.Bin at) = bin_on (binning_call l) at
reset_on l (ResetAt.Seek at) = refl
reset_on l (ResetAt.Strip slab at) =
    other_jobs_leave_kinds l (At.Reset (ResetAt.Strip slab at)) lock_kinds refl
reset_on l (ResetAt.Evict region at) =
    other_jobs_leave_kinds l (At.Reset (ResetAt.Evict region at)) lock_kinds refl
reset_on l (ResetAt.Unqueue at) = other_jobs_leave_kinds l (At.Reset (ResetAt.Unqueue at)) lock_kinds refl

small_apart : (at : SmallAt) → share_kind lock_kinds (small_kinds at) ≡ false
small_apart (SmallAt.Uncache slab) = refl
small_apart _ = refl

large_apart : (at : LargeAt) → share_kind lock_kinds (large_kinds at) ≡ false
large_apart LargeAt.Tick = refl
large_apart _ = refl

on_at : (l : Local) (at : At) → IsOn l at
on_at l (At.Get at) = get_on (cache_call l) at
on_at l (At.Undo cause at) = undo_on (cache_call l) at
on_at l (At.Keep at) = keep_on (keep_call l) at
on_at l (At.Sweep at) = sweep_on (sweep_call l) at
on_at l (At.Scan at) = scan_on (scan_call l) at at.step
on_at l (At.Cut at) = cut_on (cut_call l) at
on_at l (At.Whole at) = bin_on (whole_call l) at
on_at l (At.Drain at) = drain_on (drain_call l) at
on_at l (At.Put at) = put_on (put_call l) at at.step
on_at l (At.Reset at) = reset_on l at
on_at l (At.Small at) = other_jobs_leave_kinds l (At.Small at) lock_kinds (small_apart at)
on_at l (At.Large at) = other_jobs_leave_kinds l (At.Large at) lock_kinds (large_apart at)
on_at l at = other_jobs_leave_kinds l at lock_kinds refl

pub steps_take_and_free_locks : StepsTakeAndFreeLocks
steps_take_and_free_locks l = on_at l l.at

-- Each step is a row of bins.
use Rattle.std.proofs.Common.{◌≡◌, ℕ, Bool, true, false, cond, eqb, refl, subst, sym}
use Rattle.std.specs.Prelude.{Option, Some, None}
use Rattle.chain_words.specs.declared.pushing.PushAt.{PushAt}
use Rattle.guards.specs.declared.win.WinAt.{WinAt}
use Rattle.guards.specs.declared.win.WinCall.{WinCall}
use Rattle.guards.specs.declared.win.WinNext.{WinNext}
use Rattle.guards.specs.Win.{free_word, win_course, win_learn}
use Rattle.locked_chain.specs.declared.remove.RemoveAt.{RemoveAt}
use Rattle.locked_chain.specs.Locks.{lock_course, lock_learn, unlock_course}
use Rattle.locked_chain.specs.Remove.{remove_course, remove_learn}
use Rattle.backend_bins.specs.declared.bin.BinAt.{BinAt}
use Rattle.backend_bins.specs.declared.bin.BinCall.{BinCall}
use Rattle.backend_bins.specs.declared.bin.BinJob.{BinJob}
use Rattle.backend_bins.specs.declared.blocks.Block.{Block}
use Rattle.backend_bins.specs.declared.cut.CutAt.{CutAt}
use Rattle.backend_bins.specs.declared.cut.CutCall.{CutCall}
use Rattle.backend_bins.specs.declared.scan.ScanAt.{ScanAt}
use Rattle.backend_bins.specs.declared.scan.ScanCall.{ScanCall}
use Rattle.backend_bins.specs.declared.scan.ScanStep.{ScanStep}
use Rattle.backend_bins.specs.Bin.{bin_course, bin_lock}
use Rattle.backend_bins.specs.Blocks.{bin_of, block}
use Rattle.backend_bins.specs.Cut.{back_call, cut_course, front_call}
use Rattle.backend_bins.specs.Scan.{step_course as scan_step, win_of}
use Rattle.coalescer.specs.declared.drain.DrainAt.{DrainAt}
use Rattle.coalescer.specs.declared.drain.DrainCall.{DrainCall}
use Rattle.coalescer.specs.declared.put.PutAt.{PutAt}
use Rattle.coalescer.specs.declared.put.PutCall.{PutCall}
use Rattle.coalescer.specs.declared.put.PutStep.{PutStep}
use Rattle.coalescer.specs.Drain.{drain_course, put_call as drained_put}
use Rattle.coalescer.specs.Put.{insert_call, left_win, right_win, step_course as put_step, unlink_call}
use Rattle.reset_steps.specs.declared.unite.UniteAt.{UniteAt}
use Rattle.reset_steps.specs.declared.unite.UniteCall.{UniteCall}
use Rattle.reset_steps.specs.Unite.{unite_course, unite_win, unlink_call as unite_unlink}
use Rattle.step_local.specs.declared.frames.At.{At}
use Rattle.step_local.specs.declared.frames.Local.{Local}
use Rattle.step_local.specs.declared.frames.ResetAt.{ResetAt}
use Rattle.step_local.specs.Backend.{cut_call, drain_call, whole_call}
use Rattle.step_local.specs.Course.{course_at}
use Rattle.step_local.specs.Leaving.{put_call, scan_call}
use Rattle.step_local.specs.Resetting.{binning_call, unite_call}
use Rattle.lock_laws.specs.Locks.{lock_by}
use Rattle.lock_laws.specs.Seats.{list_call}
use Rattle.guard_laws.specs.Blocks as guards
use Rattle.bin_laws.specs.Bins.{Task, bin_words}
use Rattle.bin_laws.specs.Bins.Task.{Away, Has, Unlinks}
use Rattle.bin_laws.specs.Steps.{task_unlinked}
use Rattle.free_laws.specs.Steps.{IsNotWon}
use Rattle.pool_words.specs.declared.actions.Action.{Action}
use Rattle.step_writes.proofs.CallerLemmas.{other_jobs_leave_kinds}
use Rattle.backend_tasks.specs.Bins.{bin_left_at, bin_task, bin_task_at, bin_task_left, bin_waits, cut_task}
use Rattle.backend_tasks.specs.Bins.{cut_task_left, drain_task, drain_task_left, locked_left, put_task, put_task_left}
use Rattle.backend_tasks.specs.Bins.{scan_frees, scan_task, scan_task_left, unite_task, unite_task_left, won_left}
use Rattle.backend_tasks.specs.Fits.{FitsAt, ScanFits, TookFits}
use Rattle.backend_tasks.specs.Guards.{bin_guard, cut_guard, drain_guard, guard_task_at, put_guard, scan_guard}
use Rattle.backend_tasks.specs.Guards.{unite_guard}
use Rattle.backend_tasks.specs.Laws.{RowsLeaveBinTasks}
use Rattle.backend_tasks.specs.Rows.{BinRow, Spares, list_kinds}
use Rattle.backend_tasks.specs.Rows.BinRow.{comes, frees, leaves, links, others, takes, unlinks, wins}
use Rattle.backend_tasks.proofs.Spares.{large_no_lists, lists_no_guards, small_no_lists, win_spares}

-- a win: the second guard brings the block into the seat's hand
abbrev WinRow : ℕ → Task → WinCall → WinAt → ℕ → WinNext → Type 0
WinRow seat task c at found next =
    BinRow seat (guards.Task.Wins c at) task (win_course c at) found (won_left task (block c.begin c.granules) next)

lost_row : (seat : ℕ) (task : Task) (c : WinCall) (at : WinAt) (found : ℕ) → IsNotWon (win_learn c at found)
    → BinRow seat (guards.Task.Wins c at) task (win_course c at) found task
lost_row seat task c at found lost =
    others task (win_course c at) found lost (win_spares list_kinds c at lists_no_guards)

second_row : (seat : ℕ) (task : Task) (c : WinCall) (found : ℕ) (next : WinNext)
    → win_learn c WinAt.Second found ≡ next → WinRow seat task c WinAt.Second found next
second_row seat task c found (WinNext.Goes at) is =
    lost_row seat task c WinAt.Second found (subst IsNotWon (sym is) tt)
second_row seat task c found WinNext.Won is = wins c task found refl is
second_row seat task c found (WinNext.NotWon other) is =
    lost_row seat task c WinAt.Second found (subst IsNotWon (sym is) tt)
second_row seat task c found WinNext.GivenBack is =
    lost_row seat task c WinAt.Second found (subst IsNotWon (sym is) tt)

first_row : (seat : ℕ) (task : Task) (c : WinCall) (found : ℕ) (free : Bool) → eqb found (free_word c) ≡ free
    → WinRow seat task c WinAt.First found (cond free (WinNext.Goes WinAt.Second) (WinNext.NotWon found))
first_row seat task c found true is =
    lost_row seat task c WinAt.First found
    (subst (λ (b : Bool). IsNotWon (cond b (WinNext.Goes WinAt.Second) (WinNext.NotWon found))) (sym is) tt)
first_row seat task c found false is =
    lost_row seat task c WinAt.First found
    (subst (λ (b : Bool). IsNotWon (cond b (WinNext.Goes WinAt.Second) (WinNext.NotWon found))) (sym is) tt)

win_row : (seat : ℕ) (task : Task) (c : WinCall) (at : WinAt) (found : ℕ)
    → WinRow seat task c at found (win_learn c at found)
win_row seat task c WinAt.First found = first_row seat task c found (eqb found (free_word c)) refl
win_row seat task c WinAt.Second found = second_row seat task c found (win_learn c WinAt.Second found) refl
win_row seat task c WinAt.Back found = lost_row seat task c WinAt.Back found tt

lock_row : (c : BinCall) (job : BinJob) (found : ℕ)
    → BinRow c.seat guards.Task.Away (bin_waits c job) (lock_course (bin_lock c)) found
    (locked_left c job (lock_learn (bin_lock c) found))
lock_row c BinJob.Insert found = takes (bin_of c.block.granules) found refl
lock_row c BinJob.Unlink found = leaves c.block.first c.block.granules found refl

bin_row : (c : BinCall) (at : BinAt) (found : ℕ)
    → BinRow c.seat (bin_guard c.block at) (bin_task c at) (bin_course c at) found (bin_task_left c at found)
bin_row c BinAt.Lock found = lock_row c c.job found
bin_row c BinAt.Size found = others (bin_task c BinAt.Size) (bin_course c BinAt.Size) found tt refl
bin_row c BinAt.Left found = comes c.block found refl
bin_row c (BinAt.Insert at) found = links c.block.first c.block.granules at found refl
bin_row c (BinAt.Out at) found = unlinks c.block.first c.block.granules at found refl
bin_row c BinAt.Unlock found = frees (bin_of c.block.granules) found refl

-- a step that is at no guard and in no bin, or that only reads under a bin's lock
abbrev AwayRow : ℕ → Task → Action → ℕ → Type 0
AwayRow seat task action found = BinRow seat guards.Task.Away task action found task

rests : (seat : ℕ) (task : Task) (action : Action) (found : ℕ) → Spares list_kinds action
    → AwayRow seat task action found
rests seat task action found spares = others task action found tt spares

-- a scan takes a block out of the bin whose lock it has, which is the block's
out_row : (seat bin : ℕ) (b : Block) (at : RemoveAt) (found : ℕ) → bin ≡ bin_of b.granules
    → BinRow seat guards.Task.Away (Unlinks b.first b.granules at)
    (remove_course (list_call bin_words bin b.first) at) found
    (task_unlinked b.first b.granules (remove_learn at found))
out_row seat bin b at found is =
    subst (λ (n : ℕ). BinRow seat guards.Task.Away (Unlinks b.first b.granules at)
    (remove_course (list_call bin_words n b.first) at) found
    (task_unlinked b.first b.granules (remove_learn at found)))
    (sym is) (unlinks b.first b.granules at found refl)

took_row : (seat : ℕ) (s : ScanAt) (took : Option Block) (found : ℕ) → TookFits s took
    → BinRow seat guards.Task.Away (scan_frees s took) (unlock_course (lock_by bin_words.lock seat s.bin)) found Away
took_row seat s (Some b) found is =
    subst (λ (n : ℕ). BinRow seat guards.Task.Away (Has (bin_of b.granules))
    (unlock_course (lock_by bin_words.lock seat n)) found Away)
    (sym is) (frees (bin_of b.granules) found refl)
took_row seat s None found is = frees s.bin found refl

scan_row : (c : ScanCall) (s : ScanAt) (step : ScanStep) (found : ℕ) → ScanFits s step
    → BinRow c.seat (scan_guard step) (scan_task s step) (scan_step c s step) found (scan_task_left c s step found)
scan_row c s ScanStep.Peek found fits = rests c.seat Away (scan_step c s ScanStep.Peek) found refl
scan_row c s ScanStep.Lock found fits = takes s.bin found refl
scan_row c s ScanStep.Head found fits = rests c.seat (Has s.bin) (scan_step c s ScanStep.Head) found refl
scan_row c s (ScanStep.Length first) found fits =
    rests c.seat (Has s.bin) (scan_step c s (ScanStep.Length first)) found refl
scan_row c s (ScanStep.Win b at) found fits = win_row c.seat (Has s.bin) (win_of b) at found
scan_row c s (ScanStep.Next first) found fits =
    rests c.seat (Has s.bin) (scan_step c s (ScanStep.Next first)) found refl
scan_row c s (ScanStep.Out b at) found fits = out_row c.seat s.bin b at found fits
scan_row c s (ScanStep.Unlock took) found fits = took_row c.seat s took found fits

cut_row : (c : CutCall) (at : CutAt) (found : ℕ)
    → BinRow c.seat (cut_guard c at) (cut_task c at) (cut_course c at) found (cut_task_left c at found)
cut_row c CutAt.FrontLeft found = rests c.seat Away (cut_course c CutAt.FrontLeft) found refl
cut_row c CutAt.FrontSize found = rests c.seat Away (cut_course c CutAt.FrontSize) found refl
cut_row c CutAt.BackLeft found = rests c.seat Away (cut_course c CutAt.BackLeft) found refl
cut_row c CutAt.BackSize found = rests c.seat Away (cut_course c CutAt.BackSize) found refl
cut_row c (CutAt.Front at) found = bin_row (front_call c) at found
cut_row c (CutAt.Back at) found = bin_row (back_call c) at found

put_row : (c : PutCall) (p : PutAt) (step : PutStep) (found : ℕ)
    → BinRow c.seat (put_guard p step) (put_task c p step) (put_step c p step) found (put_task_left c p step found)
put_row c p PutStep.Size found = rests c.seat Away (put_step c p PutStep.Size) found refl
put_row c p PutStep.Left found = rests c.seat Away (put_step c p PutStep.Left) found refl
put_row c p PutStep.LeftWord found = rests c.seat Away (put_step c p PutStep.LeftWord) found refl
put_row c p (PutStep.WinLeft granules at) found = win_row c.seat Away (left_win p granules) at found
put_row c p (PutStep.UnlinkLeft neighbour at) found = bin_row (unlink_call c neighbour) at found
put_row c p PutStep.RightWord found = rests c.seat Away (put_step c p PutStep.RightWord) found refl
put_row c p (PutStep.WinRight granules at) found = win_row c.seat Away (right_win p granules) at found
put_row c p (PutStep.UnlinkRight neighbour at) found = bin_row (unlink_call c neighbour) at found
put_row c p PutStep.FarLeft found = rests c.seat Away (put_step c p PutStep.FarLeft) found refl
put_row c p PutStep.FarRight found = rests c.seat Away (put_step c p PutStep.FarRight) found refl
put_row c p (PutStep.Queue PushAt.Look) found =
    rests c.seat Away (put_step c p (PutStep.Queue PushAt.Look)) found refl
put_row c p (PutStep.Queue (PushAt.Link head)) found =
    rests c.seat Away (put_step c p (PutStep.Queue (PushAt.Link head))) found refl
put_row c p (PutStep.Queue (PushAt.Exchange head)) found =
    rests c.seat Away (put_step c p (PutStep.Queue (PushAt.Exchange head))) found refl
put_row c p (PutStep.Bin at) found = bin_row (insert_call c p.block) at found

drain_row : (c : DrainCall) (at : DrainAt) (found : ℕ)
    → BinRow c.seat (drain_guard at) (drain_task c at) (drain_course c at) found (drain_task_left c at found)
drain_row c DrainAt.Swap found = rests c.seat Away (drain_course c DrainAt.Swap) found refl
drain_row c (DrainAt.Link first) found = rests c.seat Away (drain_course c (DrainAt.Link first)) found refl
drain_row c (DrainAt.Put rest at) found = put_row (drained_put c) at at.step found

unite_row : (c : UniteCall) (at : UniteAt) (found : ℕ)
    → BinRow c.seat (unite_guard at) (unite_task c at) (unite_course c at) found (unite_task_left c at found)
unite_row c (UniteAt.Size first) found = rests c.seat Away (unite_course c (UniteAt.Size first)) found refl
unite_row c (UniteAt.Win b at) found = win_row c.seat Away (unite_win b) at found
unite_row c (UniteAt.Unlink b at) found = bin_row (unite_unlink c b) at found

row_at : (l : Local) (at : At) (found : ℕ) → FitsAt l at
    → BinRow l.seat (guard_task_at l at) (bin_task_at l at) (course_at l at) found (bin_left_at l at found)
row_at l (At.Scan at) found fits = scan_row (scan_call l) at at.step found fits
row_at l (At.Cut at) found fits = cut_row (cut_call l) at found
row_at l (At.Whole at) found fits = bin_row (whole_call l) at found
row_at l (At.Drain at) found fits = drain_row (drain_call l) at found
row_at l (At.Put at) found fits = put_row (put_call l) at at.step found
row_at l (At.Reset (ResetAt.Unite region at)) found fits = unite_row (unite_call l region) at found
row_at l (At.Reset (ResetAt.Bin at)) found fits = bin_row (binning_call l) at found
row_at l (At.Reset at) found fits =
    rests l.seat Away (course_at l (At.Reset at)) found (other_jobs_leave_kinds l (At.Reset at) list_kinds refl)
row_at l (At.Small at) found fits =
    rests l.seat Away (course_at l (At.Small at)) found
    (other_jobs_leave_kinds l (At.Small at) list_kinds (small_no_lists at))
row_at l (At.Large at) found fits =
    rests l.seat Away (course_at l (At.Large at)) found
    (other_jobs_leave_kinds l (At.Large at) list_kinds (large_no_lists at))
row_at l at found fits = rests l.seat Away (course_at l at) found (other_jobs_leave_kinds l at list_kinds refl)

pub rows_leave_bin_tasks : RowsLeaveBinTasks
rows_leave_bin_tasks l found fits = row_at l l.at found fits

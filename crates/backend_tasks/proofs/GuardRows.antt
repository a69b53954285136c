-- Each step is a row of guards.
use Rattle.std.proofs.Common.{ℕ, refl}
use Rattle.chain_words.specs.declared.pushing.PushAt.{PushAt}
use Rattle.guards.specs.declared.win.Side.{Side}
use Rattle.backend_bins.specs.declared.bin.BinAt.{BinAt}
use Rattle.backend_bins.specs.declared.bin.BinCall.{BinCall}
use Rattle.backend_bins.specs.declared.cut.CutAt.{CutAt}
use Rattle.backend_bins.specs.declared.cut.CutCall.{CutCall}
use Rattle.backend_bins.specs.declared.scan.ScanAt.{ScanAt}
use Rattle.backend_bins.specs.declared.scan.ScanCall.{ScanCall}
use Rattle.backend_bins.specs.declared.scan.ScanStep.{ScanStep}
use Rattle.backend_bins.specs.Bin.{bin_course}
use Rattle.backend_bins.specs.Blocks.{bin_of, block_end}
use Rattle.backend_bins.specs.Cut.{back_call, cut_course, front_call}
use Rattle.backend_bins.specs.Scan.{step_course as scan_step, win_of}
use Rattle.coalescer.specs.declared.drain.DrainAt.{DrainAt}
use Rattle.coalescer.specs.declared.drain.DrainCall.{DrainCall}
use Rattle.coalescer.specs.declared.put.PutAt.{PutAt}
use Rattle.coalescer.specs.declared.put.PutCall.{PutCall}
use Rattle.coalescer.specs.declared.put.PutStep.{PutStep}
use Rattle.coalescer.specs.Drain.{drain_course, put_call as drained_put}
use Rattle.coalescer.specs.Put.{insert_call, left_win, right_win, step_course as put_step, unlink_call}
use Rattle.region_steps.specs.declared.office.OfficeAt.{OfficeAt}
use Rattle.region_steps.specs.declared.office.OfficeCall.{OfficeCall}
use Rattle.region_steps.specs.Office.{office_course, wall_of}
use Rattle.reset_steps.specs.declared.unite.UniteAt.{UniteAt}
use Rattle.reset_steps.specs.declared.unite.UniteCall.{UniteCall}
use Rattle.reset_steps.specs.Unite.{unite_course, unite_win, unlink_call as unite_unlink}
use Rattle.step_local.specs.declared.frames.At.{At}
use Rattle.step_local.specs.declared.frames.Local.{Local}
use Rattle.step_local.specs.declared.frames.ResetAt.{ResetAt}
use Rattle.step_local.specs.Backend.{cut_call, drain_call, office_call, whole_call}
use Rattle.step_local.specs.Course.{course_at}
use Rattle.step_local.specs.Leaving.{put_call, scan_call}
use Rattle.step_local.specs.Resetting.{binning_call, unite_call}
use Rattle.guard_laws.specs.Blocks as guards
use Rattle.step_writes.specs.Kinds.{guard_kinds}
use Rattle.step_writes.proofs.CallerLemmas.{other_jobs_leave_kinds}
use Rattle.backend_tasks.specs.Guards.{bin_guard, bin_guard_left, cut_guard, cut_guard_left, drain_guard}
use Rattle.backend_tasks.specs.Guards.{drain_guard_left, guard_left_at, guard_task_at, put_guard, put_guard_left}
use Rattle.backend_tasks.specs.Guards.{scan_guard, scan_guard_left, unite_guard, unite_guard_left}
use Rattle.backend_tasks.specs.Laws.{RowsLeaveGuardTasks}
use Rattle.backend_tasks.specs.Rows.{GuardRow}
use Rattle.backend_tasks.specs.Rows.GuardRow.{marks, offered, offers, others, readies, walls, wins}
use Rattle.backend_tasks.proofs.Spares.{guards_no_lists, insert_spares, large_no_guards, remove_spares}
use Rattle.backend_tasks.proofs.Spares.{small_no_guards}

bin_row : (c : BinCall) (at : BinAt) (found : ℕ)
    → GuardRow (bin_guard c.block at) (bin_course c at) found (bin_guard_left c.block at)
bin_row c BinAt.Lock found = others (bin_course c BinAt.Lock) found refl
bin_row c BinAt.Size found = offers c.block found
bin_row c BinAt.Left found = offered c.block found
bin_row c (BinAt.Insert at) found =
    others (bin_course c (BinAt.Insert at)) found
    (insert_spares guard_kinds (bin_of c.block.granules) c.block.first at guards_no_lists)
bin_row c (BinAt.Out at) found =
    others (bin_course c (BinAt.Out at)) found
    (remove_spares guard_kinds (bin_of c.block.granules) c.block.first at guards_no_lists)
bin_row c BinAt.Unlock found = others (bin_course c BinAt.Unlock) found refl

scan_row : (c : ScanCall) (s : ScanAt) (step : ScanStep) (found : ℕ)
    → GuardRow (scan_guard step) (scan_step c s step) found (scan_guard_left step found)
scan_row c s ScanStep.Peek found = others (scan_step c s ScanStep.Peek) found refl
scan_row c s ScanStep.Lock found = others (scan_step c s ScanStep.Lock) found refl
scan_row c s ScanStep.Head found = others (scan_step c s ScanStep.Head) found refl
scan_row c s (ScanStep.Length first) found = others (scan_step c s (ScanStep.Length first)) found refl
scan_row c s (ScanStep.Win b at) found = wins (win_of b) at found
scan_row c s (ScanStep.Next first) found = others (scan_step c s (ScanStep.Next first)) found refl
scan_row c s (ScanStep.Out b at) found =
    others (scan_step c s (ScanStep.Out b at)) found (remove_spares guard_kinds s.bin b.first at guards_no_lists)
scan_row c s (ScanStep.Unlock took) found = others (scan_step c s (ScanStep.Unlock took)) found refl

-- the guards within a block that is cut say that it is in use
cut_row : (c : CutCall) (at : CutAt) (found : ℕ)
    → GuardRow (cut_guard c at) (cut_course c at) found (cut_guard_left c at)
cut_row c CutAt.FrontLeft found = readies Side.End c.piece.first found
cut_row c CutAt.FrontSize found = readies Side.Begin c.piece.first found
cut_row c CutAt.BackLeft found = readies Side.End (block_end c.piece) found
cut_row c CutAt.BackSize found = readies Side.Begin (block_end c.piece) found
cut_row c (CutAt.Front at) found = bin_row (front_call c) at found
cut_row c (CutAt.Back at) found = bin_row (back_call c) at found

put_row : (c : PutCall) (p : PutAt) (step : PutStep) (found : ℕ)
    → GuardRow (put_guard p step) (put_step c p step) found (put_guard_left p step found)
put_row c p PutStep.Size found = marks Side.Begin p.block found
put_row c p PutStep.Left found = marks Side.End p.block found
put_row c p PutStep.LeftWord found = others (put_step c p PutStep.LeftWord) found refl
put_row c p (PutStep.WinLeft granules at) found = wins (left_win p granules) at found
put_row c p (PutStep.UnlinkLeft neighbour at) found = bin_row (unlink_call c neighbour) at found
put_row c p PutStep.RightWord found = others (put_step c p PutStep.RightWord) found refl
put_row c p (PutStep.WinRight granules at) found = wins (right_win p granules) at found
put_row c p (PutStep.UnlinkRight neighbour at) found = bin_row (unlink_call c neighbour) at found
put_row c p PutStep.FarLeft found = others (put_step c p PutStep.FarLeft) found refl
put_row c p PutStep.FarRight found = others (put_step c p PutStep.FarRight) found refl
put_row c p (PutStep.Queue PushAt.Look) found = others (put_step c p (PutStep.Queue PushAt.Look)) found refl
put_row c p (PutStep.Queue (PushAt.Link head)) found =
    others (put_step c p (PutStep.Queue (PushAt.Link head))) found refl
put_row c p (PutStep.Queue (PushAt.Exchange head)) found =
    others (put_step c p (PutStep.Queue (PushAt.Exchange head))) found refl
put_row c p (PutStep.Bin at) found = bin_row (insert_call c p.block) at found

drain_row : (c : DrainCall) (at : DrainAt) (found : ℕ)
    → GuardRow (drain_guard at) (drain_course c at) found (drain_guard_left at found)
drain_row c DrainAt.Swap found = others (drain_course c DrainAt.Swap) found refl
drain_row c (DrainAt.Link first) found = others (drain_course c (DrainAt.Link first)) found refl
drain_row c (DrainAt.Put rest at) found = put_row (drained_put c) at at.step found

-- a region's walls, and its first and last guard
office_row : (c : OfficeCall) (at : OfficeAt) (found : ℕ)
    → GuardRow guards.Task.Away (office_course c at) found guards.Task.Away
office_row c (OfficeAt.WallSize one) found = walls Side.Begin (wall_of one) found
office_row c (OfficeAt.WallLeft one) found = walls Side.End one.first found
office_row c (OfficeAt.FirstSize one) found = readies Side.Begin one.first found
office_row c (OfficeAt.LastLeft one) found = readies Side.End (wall_of one) found
office_row c at found = others (office_course c at) found refl

unite_row : (c : UniteCall) (at : UniteAt) (found : ℕ)
    → GuardRow (unite_guard at) (unite_course c at) found (unite_guard_left at found)
unite_row c (UniteAt.Size first) found = others (unite_course c (UniteAt.Size first)) found refl
unite_row c (UniteAt.Win b at) found = wins (unite_win b) at found
unite_row c (UniteAt.Unlink b at) found = bin_row (unite_unlink c b) at found

row_at : (l : Local) (at : At) (found : ℕ)
    → GuardRow (guard_task_at l at) (course_at l at) found (guard_left_at l at found)
row_at l (At.Scan at) found = scan_row (scan_call l) at at.step found
row_at l (At.Cut at) found = cut_row (cut_call l) at found
row_at l (At.Whole at) found = bin_row (whole_call l) at found
row_at l (At.Drain at) found = drain_row (drain_call l) at found
row_at l (At.Put at) found = put_row (put_call l) at at.step found
row_at l (At.Office job at) found = office_row (office_call l job) at found
row_at l (At.Reset (ResetAt.Unite region at)) found = unite_row (unite_call l region) at found
row_at l (At.Reset (ResetAt.Bin at)) found = bin_row (binning_call l) at found
row_at l (At.Reset at) found =
    others (course_at l (At.Reset at)) found (other_jobs_leave_kinds l (At.Reset at) guard_kinds refl)
row_at l (At.Small at) found =
    others (course_at l (At.Small at)) found (other_jobs_leave_kinds l (At.Small at) guard_kinds (small_no_guards at))
row_at l (At.Large at) found =
    others (course_at l (At.Large at)) found (other_jobs_leave_kinds l (At.Large at) guard_kinds (large_no_guards at))
row_at l at found = others (course_at l at) found (other_jobs_leave_kinds l at guard_kinds refl)

pub rows_leave_guard_tasks : RowsLeaveGuardTasks
rows_leave_guard_tasks l found = row_at l l.at found

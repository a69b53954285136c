-- What a seat is about to do in bins, by its position, and what its next step leaves of that.
use Rattle.std.specs.Prelude.{ℕ, Option, Some, None}
use Rattle.guards.specs.declared.win.WinNext.{WinNext}
use Rattle.guards.specs.Win.{win_learn}
use Rattle.locked_chain.specs.declared.insert.InsertAt.{InsertAt}
use Rattle.locked_chain.specs.declared.lock.LockNext.{LockNext}
use Rattle.locked_chain.specs.Insert.{insert_learn}
use Rattle.locked_chain.specs.Locks.{lock_learn}
use Rattle.locked_chain.specs.Remove.{remove_learn}
use Rattle.backend_bins.specs.declared.bin.BinAt.{BinAt}
use Rattle.backend_bins.specs.declared.bin.BinCall.{BinCall}
use Rattle.backend_bins.specs.declared.bin.BinJob.{BinJob}
use Rattle.backend_bins.specs.declared.blocks.Block.{Block}
use Rattle.backend_bins.specs.declared.cut.CutAt.{CutAt}
use Rattle.backend_bins.specs.declared.cut.CutCall.{CutCall}
use Rattle.backend_bins.specs.declared.scan.ScanAt.{ScanAt}
use Rattle.backend_bins.specs.declared.scan.ScanCall.{ScanCall}
use Rattle.backend_bins.specs.declared.scan.ScanStep.{ScanStep}
use Rattle.backend_bins.specs.Bin.{bin_lock}
use Rattle.backend_bins.specs.Blocks.{bin_of}
use Rattle.backend_bins.specs.Cut.{front_call, back_call}
use Rattle.backend_bins.specs.Scan.{scan_lock, win_of}
use Rattle.coalescer.specs.declared.drain.DrainAt.{DrainAt}
use Rattle.coalescer.specs.declared.drain.DrainCall.{DrainCall}
use Rattle.coalescer.specs.declared.put.PutAt.{PutAt}
use Rattle.coalescer.specs.declared.put.PutCall.{PutCall}
use Rattle.coalescer.specs.declared.put.PutStep.{PutStep}
use Rattle.coalescer.specs.Drain.{put_call as drained_put}
use Rattle.coalescer.specs.Put.{insert_call, left_neighbour, left_win, right_neighbour, right_win, unlink_call}
use Rattle.reset_steps.specs.declared.unite.UniteAt.{UniteAt}
use Rattle.reset_steps.specs.declared.unite.UniteCall.{UniteCall}
use Rattle.reset_steps.specs.Unite.{unite_win, unlink_call as unite_unlink}
use Rattle.bin_laws.specs.Bins.{Task}
use Rattle.bin_laws.specs.Bins.Task.{Away, Won, Has, Links, Unlinks}
use Rattle.bin_laws.specs.Steps.{task_won, task_locked, task_leaves, task_linked, task_unlinked}
use Rattle.step_local.specs.declared.frames.At.{At}
use Rattle.step_local.specs.declared.frames.Local.{Local}
use Rattle.step_local.specs.declared.frames.ResetAt.{ResetAt}
use Rattle.step_local.specs.Backend.{cut_call, drain_call, whole_call}
use Rattle.step_local.specs.Leaving.{put_call, scan_call}
use Rattle.step_local.specs.Resetting.{binning_call, unite_call}

-- a block that is to leave its bin was won before the bin's lock is taken
abbrev pub bin_waits : BinCall → BinJob → Task
bin_waits c BinJob.Insert = Away
bin_waits c BinJob.Unlink = Won c.block.first c.block.granules

abbrev pub bin_task : BinCall → BinAt → Task
bin_task c BinAt.Lock = bin_waits c c.job
bin_task c BinAt.Size = Has (bin_of c.block.granules)
bin_task c BinAt.Left = Has (bin_of c.block.granules)
bin_task c (BinAt.Insert at) = Links c.block.first c.block.granules at
bin_task c (BinAt.Out at) = Unlinks c.block.first c.block.granules at
bin_task c BinAt.Unlock = Has (bin_of c.block.granules)

-- a scan has the lock of the bin that it is at; with a block that it took, that of the block's bin
abbrev pub scan_frees : ScanAt → Option Block → Task
scan_frees s (Some b) = Has (bin_of b.granules)
scan_frees s None = Has s.bin

abbrev pub scan_task : ScanAt → ScanStep → Task
scan_task s ScanStep.Peek = Away
scan_task s ScanStep.Lock = Away
scan_task s ScanStep.Head = Has s.bin
scan_task s (ScanStep.Length first) = Has s.bin
scan_task s (ScanStep.Win b at) = Has s.bin
scan_task s (ScanStep.Next first) = Has s.bin
scan_task s (ScanStep.Out b at) = Unlinks b.first b.granules at
scan_task s (ScanStep.Unlock took) = scan_frees s took

abbrev pub cut_task : CutCall → CutAt → Task
cut_task c (CutAt.Front at) = bin_task (front_call c) at
cut_task c (CutAt.Back at) = bin_task (back_call c) at
cut_task c _ = Away

abbrev pub put_task : PutCall → PutAt → PutStep → Task
put_task c p (PutStep.UnlinkLeft neighbour at) = bin_task (unlink_call c neighbour) at
put_task c p (PutStep.UnlinkRight neighbour at) = bin_task (unlink_call c neighbour) at
put_task c p (PutStep.Bin at) = bin_task (insert_call c p.block) at
put_task c p _ = Away

abbrev pub drain_task : DrainCall → DrainAt → Task
drain_task c DrainAt.Swap = Away
drain_task c (DrainAt.Link first) = Away
drain_task c (DrainAt.Put rest at) = put_task (drained_put c) at at.step

abbrev pub unite_task : UniteCall → UniteAt → Task
unite_task c (UniteAt.Size first) = Away
unite_task c (UniteAt.Win b at) = Away
unite_task c (UniteAt.Unlink b at) = bin_task (unite_unlink c b) at

abbrev pub reset_task : Local → ResetAt → Task
reset_task l (ResetAt.Unite region at) = unite_task (unite_call l region) at
reset_task l (ResetAt.Bin at) = bin_task (binning_call l) at
reset_task l _ = Away

abbrev pub bin_task_at : Local → At → Task
bin_task_at l (At.Scan at) = scan_task at at.step
bin_task_at l (At.Cut at) = cut_task (cut_call l) at
bin_task_at l (At.Whole at) = bin_task (whole_call l) at
bin_task_at l (At.Drain at) = drain_task (drain_call l) at
bin_task_at l (At.Put at) = put_task (put_call l) at at.step
bin_task_at l (At.Reset at) = reset_task l at
bin_task_at l _ = Away

-- what the seat is about to do in bins
abbrev pub bin_task_of : Local → Task
bin_task_of l = bin_task_at l l.at

-- what the next step leaves to do, if it finds this. A block that is won is to leave its bin.
abbrev pub won_left : Task → Block → WinNext → Task
won_left task b (WinNext.Goes at) = task
won_left task b WinNext.Won = task_won b.first b.granules task
won_left task b (WinNext.NotWon found) = task
won_left task b WinNext.GivenBack = task

abbrev pub locked_left : BinCall → BinJob → LockNext → Task
locked_left c BinJob.Insert next = task_locked (bin_of c.block.granules) next
locked_left c BinJob.Unlink next = task_leaves c.block.first c.block.granules next

abbrev pub bin_task_left : BinCall → BinAt → ℕ → Task
bin_task_left c BinAt.Lock found = locked_left c c.job (lock_learn (bin_lock c) found)
bin_task_left c BinAt.Size found = Has (bin_of c.block.granules)
bin_task_left c BinAt.Left found = Links c.block.first c.block.granules InsertAt.Head
bin_task_left c (BinAt.Insert at) found = task_linked c.block.first c.block.granules (insert_learn at found)
bin_task_left c (BinAt.Out at) found = task_unlinked c.block.first c.block.granules (remove_learn at found)
bin_task_left c BinAt.Unlock found = Away

abbrev pub scan_task_left : ScanCall → ScanAt → ScanStep → ℕ → Task
scan_task_left c s ScanStep.Peek found = Away
scan_task_left c s ScanStep.Lock found = task_locked s.bin (lock_learn (scan_lock c s) found)
scan_task_left c s ScanStep.Head found = Has s.bin
scan_task_left c s (ScanStep.Length first) found = Has s.bin
scan_task_left c s (ScanStep.Win b at) found = won_left (Has s.bin) b (win_learn (win_of b) at found)
scan_task_left c s (ScanStep.Next first) found = Has s.bin
scan_task_left c s (ScanStep.Out b at) found = task_unlinked b.first b.granules (remove_learn at found)
scan_task_left c s (ScanStep.Unlock took) found = Away

abbrev pub cut_task_left : CutCall → CutAt → ℕ → Task
cut_task_left c (CutAt.Front at) found = bin_task_left (front_call c) at found
cut_task_left c (CutAt.Back at) found = bin_task_left (back_call c) at found
cut_task_left c _ found = Away

abbrev pub put_task_left : PutCall → PutAt → PutStep → ℕ → Task
put_task_left c p (PutStep.WinLeft granules at) found =
    won_left Away (left_neighbour p granules) (win_learn (left_win p granules) at found)
put_task_left c p (PutStep.UnlinkLeft neighbour at) found = bin_task_left (unlink_call c neighbour) at found
put_task_left c p (PutStep.WinRight granules at) found =
    won_left Away (right_neighbour p granules) (win_learn (right_win p granules) at found)
put_task_left c p (PutStep.UnlinkRight neighbour at) found = bin_task_left (unlink_call c neighbour) at found
put_task_left c p (PutStep.Bin at) found = bin_task_left (insert_call c p.block) at found
put_task_left c p _ found = Away

abbrev pub drain_task_left : DrainCall → DrainAt → ℕ → Task
drain_task_left c DrainAt.Swap found = Away
drain_task_left c (DrainAt.Link first) found = Away
drain_task_left c (DrainAt.Put rest at) found = put_task_left (drained_put c) at at.step found

abbrev pub unite_task_left : UniteCall → UniteAt → ℕ → Task
unite_task_left c (UniteAt.Size first) found = Away
unite_task_left c (UniteAt.Win b at) found = won_left Away b (win_learn (unite_win b) at found)
unite_task_left c (UniteAt.Unlink b at) found = bin_task_left (unite_unlink c b) at found

abbrev pub reset_task_left : Local → ResetAt → ℕ → Task
reset_task_left l (ResetAt.Unite region at) found = unite_task_left (unite_call l region) at found
reset_task_left l (ResetAt.Bin at) found = bin_task_left (binning_call l) at found
reset_task_left l _ found = Away

abbrev pub bin_left_at : Local → At → ℕ → Task
bin_left_at l (At.Scan at) found = scan_task_left (scan_call l) at at.step found
bin_left_at l (At.Cut at) found = cut_task_left (cut_call l) at found
bin_left_at l (At.Whole at) found = bin_task_left (whole_call l) at found
bin_left_at l (At.Drain at) found = drain_task_left (drain_call l) at found
bin_left_at l (At.Put at) found = put_task_left (put_call l) at at.step found
bin_left_at l (At.Reset at) found = reset_task_left l at found
bin_left_at l _ found = Away

abbrev pub bin_left : Local → ℕ → Task
bin_left l found = bin_left_at l l.at found

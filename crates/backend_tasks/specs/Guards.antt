-- What a seat is about to do with guards, by its position, and what its next step leaves of that.
use Rattle.std.specs.Prelude.{◌≡◌, ℕ, ⊤}
use Rattle.guards.specs.declared.win.WinAt.{WinAt}
use Rattle.guards.specs.Win.{win_learn}
use Rattle.backend_bins.specs.declared.bin.BinAt.{BinAt}
use Rattle.backend_bins.specs.declared.blocks.Block.{Block}
use Rattle.backend_bins.specs.declared.cut.CutAt.{CutAt}
use Rattle.backend_bins.specs.declared.cut.CutCall.{CutCall}
use Rattle.backend_bins.specs.declared.scan.ScanStep.{ScanStep}
use Rattle.backend_bins.specs.Cut.{front_of, back_of}
use Rattle.backend_bins.specs.Scan.{win_of}
use Rattle.coalescer.specs.declared.drain.DrainAt.{DrainAt}
use Rattle.coalescer.specs.declared.put.PutAt.{PutAt}
use Rattle.coalescer.specs.declared.put.PutStep.{PutStep}
use Rattle.coalescer.specs.Put.{left_win, right_win}
use Rattle.reset_steps.specs.declared.unite.UniteAt.{UniteAt}
use Rattle.reset_steps.specs.Unite.{unite_win}
use Rattle.guard_laws.specs.Blocks.{Task}
use Rattle.guard_laws.specs.Blocks.Task.{Away, Wins, Offers}
use Rattle.guard_laws.specs.Steps.{task_after}
use Rattle.step_local.specs.declared.frames.At.{At}
use Rattle.step_local.specs.declared.frames.Local.{Local}
use Rattle.step_local.specs.declared.frames.ResetAt.{ResetAt}
use Rattle.step_local.specs.Backend.{cut_call}

-- between its two stores a block is offered at its begin alone
abbrev pub bin_guard : Block → BinAt → Task
bin_guard b BinAt.Lock = Away
bin_guard b BinAt.Size = Away
bin_guard b BinAt.Left = Offers b.first b.granules
bin_guard b (BinAt.Insert at) = Away
bin_guard b (BinAt.Out at) = Away
bin_guard b BinAt.Unlock = Away

abbrev pub scan_guard : ScanStep → Task
scan_guard (ScanStep.Win b at) = Wins (win_of b) at
scan_guard _ = Away

abbrev pub cut_guard : CutCall → CutAt → Task
cut_guard c (CutAt.Front at) = bin_guard (front_of c) at
cut_guard c (CutAt.Back at) = bin_guard (back_of c) at
cut_guard c _ = Away

abbrev pub put_guard : PutAt → PutStep → Task
put_guard p (PutStep.WinLeft granules at) = Wins (left_win p granules) at
put_guard p (PutStep.UnlinkLeft neighbour at) = bin_guard neighbour at
put_guard p (PutStep.WinRight granules at) = Wins (right_win p granules) at
put_guard p (PutStep.UnlinkRight neighbour at) = bin_guard neighbour at
put_guard p (PutStep.Bin at) = bin_guard p.block at
put_guard p _ = Away

abbrev pub drain_guard : DrainAt → Task
drain_guard DrainAt.Swap = Away
drain_guard (DrainAt.Link first) = Away
drain_guard (DrainAt.Put rest at) = put_guard at at.step

abbrev pub unite_guard : UniteAt → Task
unite_guard (UniteAt.Size first) = Away
unite_guard (UniteAt.Win b at) = Wins (unite_win b) at
unite_guard (UniteAt.Unlink b at) = bin_guard b at

abbrev pub reset_guard : Local → ResetAt → Task
reset_guard l (ResetAt.Unite region at) = unite_guard at
reset_guard l (ResetAt.Bin at) = bin_guard l.call.block at
reset_guard l _ = Away

abbrev pub guard_task_at : Local → At → Task
guard_task_at l (At.Scan at) = scan_guard at.step
guard_task_at l (At.Cut at) = cut_guard (cut_call l) at
guard_task_at l (At.Whole at) = bin_guard l.ask.block at
guard_task_at l (At.Drain at) = drain_guard at
guard_task_at l (At.Put at) = put_guard at at.step
guard_task_at l (At.Reset at) = reset_guard l at
guard_task_at l _ = Away

-- what the seat is about to do with guards
abbrev pub guard_task_of : Local → Task
guard_task_of l = guard_task_at l l.at

-- what the next step leaves to do, if it finds this
abbrev pub bin_guard_left : Block → BinAt → Task
bin_guard_left b BinAt.Lock = Away
bin_guard_left b BinAt.Size = Offers b.first b.granules
bin_guard_left b BinAt.Left = Away
bin_guard_left b (BinAt.Insert at) = Away
bin_guard_left b (BinAt.Out at) = Away
bin_guard_left b BinAt.Unlock = Away

abbrev pub scan_guard_left : ScanStep → ℕ → Task
scan_guard_left (ScanStep.Win b at) found = task_after (win_of b) (win_learn (win_of b) at found)
scan_guard_left _ found = Away

abbrev pub cut_guard_left : CutCall → CutAt → Task
cut_guard_left c (CutAt.Front at) = bin_guard_left (front_of c) at
cut_guard_left c (CutAt.Back at) = bin_guard_left (back_of c) at
cut_guard_left c _ = Away

abbrev pub put_guard_left : PutAt → PutStep → ℕ → Task
put_guard_left p (PutStep.WinLeft granules at) found =
    task_after (left_win p granules) (win_learn (left_win p granules) at found)
put_guard_left p (PutStep.UnlinkLeft neighbour at) found = bin_guard_left neighbour at
put_guard_left p (PutStep.WinRight granules at) found =
    task_after (right_win p granules) (win_learn (right_win p granules) at found)
put_guard_left p (PutStep.UnlinkRight neighbour at) found = bin_guard_left neighbour at
put_guard_left p (PutStep.Bin at) found = bin_guard_left p.block at
put_guard_left p _ found = Away

abbrev pub drain_guard_left : DrainAt → ℕ → Task
drain_guard_left DrainAt.Swap found = Away
drain_guard_left (DrainAt.Link first) found = Away
drain_guard_left (DrainAt.Put rest at) found = put_guard_left at at.step found

abbrev pub unite_guard_left : UniteAt → ℕ → Task
unite_guard_left (UniteAt.Size first) found = Away
unite_guard_left (UniteAt.Win b at) found = task_after (unite_win b) (win_learn (unite_win b) at found)
unite_guard_left (UniteAt.Unlink b at) found = bin_guard_left b at

abbrev pub reset_guard_left : Local → ResetAt → ℕ → Task
reset_guard_left l (ResetAt.Unite region at) found = unite_guard_left at found
reset_guard_left l (ResetAt.Bin at) found = bin_guard_left l.call.block at
reset_guard_left l _ found = Away

abbrev pub guard_left_at : Local → At → ℕ → Task
guard_left_at l (At.Scan at) found = scan_guard_left at.step found
guard_left_at l (At.Cut at) found = cut_guard_left (cut_call l) at
guard_left_at l (At.Whole at) found = bin_guard_left l.ask.block at
guard_left_at l (At.Drain at) found = drain_guard_left at found
guard_left_at l (At.Put at) found = put_guard_left at at.step found
guard_left_at l (At.Reset at) found = reset_guard_left l at found
guard_left_at l _ found = Away

abbrev pub guard_left : Local → ℕ → Task
guard_left l found = guard_left_at l l.at found

-- where no task is left, one may start: a win by its first guard
abbrev pub WinStarts : WinAt → Type 0
WinStarts WinAt.First = ⊤
WinStarts WinAt.Second = ⊥
WinStarts WinAt.Back = ⊥

abbrev pub GuardStarts : Task → Type 0
GuardStarts Away = ⊤
GuardStarts (Wins call at) = WinStarts at
GuardStarts (Offers first granules) = ⊥

-- the task now is the one that was left; where none was, it may be one that starts
abbrev pub GuardGoesOn : Task → Task → Type 0
GuardGoesOn now Away = GuardStarts now
GuardGoesOn now (Wins call at) = now ≡ Wins call at
GuardGoesOn now (Offers first granules) = now ≡ Offers first granules

-- What each turn keeps of what a local says by itself, and that its tasks are of one position.
use Rattle.std.proofs.Common.{◌≡◌, ℕ, refl, subst, sym}
use Rattle.std.specs.Prelude.{Option, Some, None}
use Rattle.pool_words.specs.declared.actions.Seen.{Seen}
use Rattle.pool_words.specs.Actions.{word_seen}
use Rattle.word_codes.specs.declared.region_words.RegionWord.{RegionWord}
use Rattle.backend_bins.specs.declared.bin.BinAt.{BinAt}
use Rattle.backend_bins.specs.declared.bin.BinCall.{BinCall}
use Rattle.backend_bins.specs.declared.bin.BinNext.{BinNext}
use Rattle.backend_bins.specs.declared.cut.CutAt.{CutAt}
use Rattle.backend_bins.specs.declared.cut.CutCall.{CutCall}
use Rattle.backend_bins.specs.declared.cut.CutNext.{CutNext}
use Rattle.backend_bins.specs.declared.scan.ScanAt.{ScanAt}
use Rattle.backend_bins.specs.declared.scan.ScanNext.{ScanNext}
use Rattle.backend_bins.specs.declared.scan.ScanStep.{ScanStep}
use Rattle.backend_bins.specs.Bin.{bin_learn}
use Rattle.backend_bins.specs.Cut.{back_call, cut_learn, front_call}
use Rattle.backend_bins.specs.Scan.{scan_learn}
use Rattle.coalescer.specs.declared.drain.DrainAt.{DrainAt}
use Rattle.coalescer.specs.declared.drain.DrainNext.{DrainNext}
use Rattle.coalescer.specs.declared.put.PutAt.{PutAt}
use Rattle.coalescer.specs.declared.put.PutCall.{PutCall}
use Rattle.coalescer.specs.declared.put.PutNext.{PutNext}
use Rattle.coalescer.specs.declared.put.PutStep.{PutStep}
use Rattle.coalescer.specs.Drain.{drain_learn, put_call as drained_put}
use Rattle.coalescer.specs.Put.{insert_call, put_learn, unlink_call}
use Rattle.region_steps.specs.declared.office.OfficeAt.{OfficeAt}
use Rattle.region_steps.specs.declared.office.OfficeEnd.{OfficeEnd}
use Rattle.region_steps.specs.declared.office.OfficeNext.{OfficeNext}
use Rattle.region_steps.specs.Office.{office_learn}
use Rattle.reset_steps.specs.declared.unite.UniteAt.{UniteAt}
use Rattle.reset_steps.specs.declared.unite.UniteCall.{UniteCall}
use Rattle.reset_steps.specs.declared.unite.UniteNext.{UniteNext}
use Rattle.reset_steps.specs.Unite.{unite_learn, unlink_call as unite_unlink}
use Rattle.step_local.specs.declared.frames.At.{At}
use Rattle.step_local.specs.declared.frames.Local.{Local}
use Rattle.step_local.specs.declared.frames.OfficeFor.{OfficeFor}
use Rattle.step_local.specs.declared.frames.ResetAt.{ResetAt}
use Rattle.step_local.specs.Backend.{asked, cut_as, cut_call, cutting, drain_call, drained_as, drained_on, in_vain}
use Rattle.step_local.specs.Backend.{obtained_as, office_as, office_call, office_left, put_as, put_done, scanned_as}
use Rattle.step_local.specs.Backend.{whole_as, whole_call}
use Rattle.step_local.specs.Learn.{learn_at}
use Rattle.step_local.specs.Leaving.{put_call, scan_call}
use Rattle.step_local.specs.Resetting.{binned_as, binned_at, binning_call, unite_call, uniting}
use Rattle.guard_laws.specs.Blocks as guards
use Rattle.bin_laws.specs.Bins as bins
use Rattle.free_laws.specs.Spaces.{LockFits, QueueFits}
use Rattle.backend_tasks.specs.Bins.{bin_task, bin_task_at, cut_task, drain_task, put_task, reset_task, scan_task}
use Rattle.backend_tasks.specs.Bins.{unite_task}
use Rattle.backend_tasks.specs.Fits.{BackendFits, CutFits, FindsAt, FitsAt, PutFits, PutsIn, ScanFits}
use Rattle.backend_tasks.specs.Guards.{bin_guard, cut_guard, drain_guard, guard_task_at, put_guard, reset_guard}
use Rattle.backend_tasks.specs.Guards.{scan_guard, unite_guard}
use Rattle.backend_tasks.specs.Laws.{FreshLocalsFit, TasksAreOfOnePosition, TurnsKeepBackendFits}
use Rattle.backend_tasks.specs.Queue.{drain_queue, office_queue, put_queue, queue_task_at}
use Rattle.backend_tasks.proofs.Bare.{bare_fits, bin_low}
use Rattle.backend_tasks.proofs.BareBackend.{bare-asked, bare-cutting, bare-in_vain, bare-obtained_as, bare-put_done}
use Rattle.backend_tasks.proofs.BareResets.{bare-binned_at, bare-united}
use Rattle.backend_tasks.proofs.Cuts.{CutThenFits, UniteThenFits, cut_keeps_fits, unite_keeps_fits}
use Rattle.backend_tasks.proofs.Drains.{DrainThenFits, drain_keeps_fits}
use Rattle.backend_tasks.proofs.Jobs.{ThenPuts, puts_moves}
use Rattle.backend_tasks.proofs.Opens.{PutThenFits}
use Rattle.backend_tasks.proofs.Others.{other_turn}
use Rattle.backend_tasks.proofs.PutFits.{put_keeps_fits}
use Rattle.backend_tasks.proofs.Scans.{ScanThenFits, scan_keeps_fits}

-- where a job waits, the position stays
scan_turn : (l : Local) (at : ScanAt) (next : ScanNext) → ScanFits at at.step → ScanThenFits next
    → BackendFits (scanned_as l at next).0
scan_turn l at (ScanNext.Goes next) now fits = fits
scan_turn l at ScanNext.WaitsLock now fits = now
scan_turn l at (ScanNext.WaitsHalf bin again) now fits = fits
scan_turn l at (ScanNext.Took b) now fits = bare_fits (cutting l b).0 (bare-cutting l b)
scan_turn l at (ScanNext.Nothing seen) now fits =
    bare_fits (in_vain l seen l.ask.tries).0 (bare-in_vain l seen l.ask.tries)

cut_turn : (l : Local) (at : CutAt) (next : CutNext) → CutFits at → CutThenFits next
    → BackendFits (cut_as l (At.Cut at) next).0
cut_turn l at (CutNext.Goes next) now fits = fits
cut_turn l at (CutNext.Waits bin) now fits = now
cut_turn l at CutNext.Done now fits = bare_fits (asked l).0 (bare-asked l)

whole_turn : (l : Local) (at : BinAt) (next : BinNext) → PutsIn at → ThenPuts next
    → BackendFits (whole_as l at next).0
whole_turn l at (BinNext.Goes next) now fits = fits
whole_turn l at BinNext.Waits now fits = now
whole_turn l at BinNext.Done now fits = tt

drain_turn : (l : Local) (at : DrainAt) (next : DrainNext) → FitsAt l (At.Drain at)
    → DrainThenFits (drain_call l) next → BackendFits (drained_as l (At.Drain at) next).0
drain_turn l at (DrainNext.Goes next) now fits = fits
drain_turn l at (DrainNext.Waits bin) now fits = now
drain_turn l at (DrainNext.Gives b rest) now fits = tt
drain_turn l at DrainNext.Drained now fits = bin_low l.ask.want.granules

put_turn : (l : Local) (at : PutAt) (next : PutNext) → PutFits (put_call l) at.step → PutThenFits (put_call l) next
    → BackendFits (put_as l at next).0
put_turn l at (PutNext.Goes next) now fits = fits
put_turn l at (PutNext.Waits bin) now fits = now
put_turn l at PutNext.Done now fits = bare_fits (put_done l).0 (bare-put_done l)
put_turn l at (PutNext.Gives b) now fits = tt

on_turn : (l : Local) (rest : Option ℕ) → BackendFits (drained_on l rest).0
on_turn l (Some first) = tt
on_turn l None = bin_low l.ask.want.granules

left_turn : (l : Local) (job : OfficeFor) (end : OfficeEnd) → BackendFits (office_left l job end).0
left_turn l OfficeFor.Ask end = bare_fits (obtained_as l end).0 (bare-obtained_as l end)
left_turn l (OfficeFor.Put first) end = bare_fits (put_done l).0 (bare-put_done l)
left_turn l (OfficeFor.Drain first rest) end = on_turn l rest

office_turn : (l : Local) (job : OfficeFor) (at : OfficeAt) (next : OfficeNext)
    → BackendFits (office_as l job at next).0
office_turn l job at (OfficeNext.Goes next) = tt
office_turn l job at OfficeNext.Waits = tt
office_turn l job at (OfficeNext.Left end) = left_turn l job end

unite_turn : (l : Local) (region : RegionWord) (at : UniteAt) (next : UniteNext)
    → FitsAt l (At.Reset (ResetAt.Unite region at)) → UniteThenFits next
    → BackendFits (uniting l region at next).0
unite_turn l region at (UniteNext.Goes next) now fits = fits
unite_turn l region at (UniteNext.Waits bin) now fits = now
unite_turn l region at (UniteNext.United b) now fits =
    bare_fits (uniting l region at (UniteNext.United b)).0 (bare-united l region at b)

binned_turn : (l : Local) (at : BinAt) (next : BinNext) → PutsIn at → ThenPuts next
    → BackendFits (binned_as l at next).0
binned_turn l at (BinNext.Goes next) now fits = fits
binned_turn l at BinNext.Waits now fits = now
binned_turn l at BinNext.Done now fits = bare_fits (binned_at l l.call.stage).0 (bare-binned_at l l.call.stage)

turn_at : (l : Local) (at : At) (s : Seen) → l.at ≡ at → FitsAt l at → FindsAt at (word_seen s)
    → BackendFits (learn_at l at s).0
turn_at l At.Idle s here fits finds = subst (FitsAt l) (sym here) tt
turn_at l (At.Scan at) s here fits finds =
    scan_turn l at (scan_learn (scan_call l) at (word_seen s)) fits
    (scan_keeps_fits (scan_call l) at at.step (word_seen s) fits finds)
turn_at l (At.Cut at) s here fits finds =
    cut_turn l at (cut_learn (cut_call l) at (word_seen s)) fits (cut_keeps_fits (cut_call l) at (word_seen s) fits)
turn_at l (At.Whole at) s here fits finds =
    whole_turn l at (bin_learn (whole_call l) at (word_seen s)) fits
    (puts_moves (whole_call l) at (word_seen s) refl fits)
turn_at l (At.Drain at) s here fits finds =
    drain_turn l at (drain_learn (drain_call l) at (word_seen s)) fits
    (drain_keeps_fits (drain_call l) at (word_seen s) fits)
turn_at l (At.Put at) s here fits finds =
    put_turn l at (put_learn (put_call l) at (word_seen s)) fits
    (put_keeps_fits (put_call l) at at.step (word_seen s) fits)
turn_at l (At.Office job at) s here fits finds = office_turn l job at (office_learn (office_call l job) at s)
turn_at l (At.Reset (ResetAt.Unite region at)) s here fits finds =
    unite_turn l region at (unite_learn (unite_call l region) at (word_seen s)) fits
    (unite_keeps_fits (unite_call l region) at (word_seen s) fits)
turn_at l (At.Reset (ResetAt.Bin at)) s here fits finds =
    binned_turn l at (bin_learn (binning_call l) at (word_seen s)) fits
    (puts_moves (binning_call l) at (word_seen s) refl fits)
turn_at l (At.Reset at) s here fits finds =
    bare_fits (learn_at l (At.Reset at) s).0 (other_turn l (At.Reset at) s refl)
turn_at l at s here fits finds = bare_fits (learn_at l at s).0 (other_turn l at s refl)

pub turns_keep_backend_fits : TurnsKeepBackendFits
turns_keep_backend_fits l s fits finds = turn_at l l.at s refl fits finds

pub fresh_locals_fit : FreshLocalsFit
fresh_locals_fit k seat = tt

-- a win under the lock of the block's bin, or in none; an offer under that alone
bin_lock : (c : BinCall) (at : BinAt) → LockFits (bin_guard c.block at) (bin_task c at)
bin_lock c BinAt.Left = refl
bin_lock c _ = tt

scan_lock : (s : ScanAt) (step : ScanStep) → ScanFits s step → LockFits (scan_guard step) (scan_task s step)
scan_lock s (ScanStep.Win b at) fits = fits
scan_lock s _ fits = tt

cut_lock : (c : CutCall) (at : CutAt) → LockFits (cut_guard c at) (cut_task c at)
cut_lock c (CutAt.Front at) = bin_lock (front_call c) at
cut_lock c (CutAt.Back at) = bin_lock (back_call c) at
cut_lock c _ = tt

put_lock : (c : PutCall) (p : PutAt) (step : PutStep) → LockFits (put_guard p step) (put_task c p step)
put_lock c p (PutStep.UnlinkLeft b at) = bin_lock (unlink_call c b) at
put_lock c p (PutStep.UnlinkRight b at) = bin_lock (unlink_call c b) at
put_lock c p (PutStep.Bin at) = bin_lock (insert_call c p.block) at
put_lock c p _ = tt

drain_lock : (l : Local) (at : DrainAt) → LockFits (drain_guard at) (drain_task (drain_call l) at)
drain_lock l (DrainAt.Put rest at) = put_lock (drained_put (drain_call l)) at at.step
drain_lock l _ = tt

unite_lock : (c : UniteCall) (at : UniteAt) → LockFits (unite_guard at) (unite_task c at)
unite_lock c (UniteAt.Unlink b at) = bin_lock (unite_unlink c b) at
unite_lock c _ = tt

reset_lock : (l : Local) (at : ResetAt) → LockFits (reset_guard l at) (reset_task l at)
reset_lock l (ResetAt.Unite region at) = unite_lock (unite_call l region) at
reset_lock l (ResetAt.Bin at) = bin_lock (binning_call l) at
reset_lock l _ = tt

lock_at : (l : Local) (at : At) → FitsAt l at → LockFits (guard_task_at l at) (bin_task_at l at)
lock_at l (At.Scan at) fits = scan_lock at at.step fits
lock_at l (At.Cut at) fits = cut_lock (cut_call l) at
lock_at l (At.Whole at) fits = bin_lock (whole_call l) at
lock_at l (At.Drain at) fits = drain_lock l at
lock_at l (At.Put at) fits = put_lock (put_call l) at at.step
lock_at l (At.Reset at) fits = reset_lock l at
lock_at l _ fits = tt

-- a push is at no guard and in no bin
put_alone : (c : PutCall) (p : PutAt) (step : PutStep)
    → QueueFits (put_guard p step) (put_task c p step) (put_queue p step)
put_alone c p (PutStep.Queue at) = (refl, refl)
put_alone c p _ = tt

drain_alone : (at : DrainAt) (guard : guards.Task) (bin : bins.Task) → QueueFits guard bin (drain_queue at)
drain_alone DrainAt.Swap guard bin = tt
drain_alone (DrainAt.Link first) guard bin = tt
drain_alone (DrainAt.Put rest at) guard bin = tt

office_alone : (job : OfficeFor) (guard : guards.Task) (bin : bins.Task) → QueueFits guard bin (office_queue job)
office_alone OfficeFor.Ask guard bin = tt
office_alone (OfficeFor.Put first) guard bin = tt
office_alone (OfficeFor.Drain first rest) guard bin = tt

alone_at : (l : Local) (at : At) → QueueFits (guard_task_at l at) (bin_task_at l at) (queue_task_at l at)
alone_at l (At.Drain at) = drain_alone at (guard_task_at l (At.Drain at)) (bin_task_at l (At.Drain at))
alone_at l (At.Put at) = put_alone (put_call l) at at.step
alone_at l (At.Office job at) = office_alone job guards.Task.Away bins.Task.Away
alone_at l _ = tt

pub tasks_are_of_one_position : TasksAreOfOnePosition
tasks_are_of_one_position l fits = record { lock = lock_at l l.at fits; queue = alone_at l l.at }

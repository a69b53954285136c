-- The positions at which nothing of guards, of bins and of the queue is under way, and turns after which that is so.
use Rattle.std.proofs.Common.{◌≡◌, ◌<◌, Bool, true, false, cond, refl, subst, sym, ℕ, arith}
use Rattle.std.specs.Bool.{⊤}
use Rattle.pool_types.specs.Geometry.{bin_count}
use Rattle.pool_types.specs.declared.values.Turn.{Turn}
use Rattle.backend_bins.specs.declared.bin.BinAt.{BinAt}
use Rattle.backend_bins.specs.declared.bin.BinCall.{BinCall}
use Rattle.backend_bins.specs.declared.bin.BinJob.{BinJob}
use Rattle.backend_bins.specs.declared.blocks.Block.{Block}
use Rattle.backend_bins.specs.declared.cut.CutAt.{CutAt}
use Rattle.backend_bins.specs.declared.cut.CutCall.{CutCall}
use Rattle.backend_bins.specs.declared.scan.ScanAt.{ScanAt}
use Rattle.backend_bins.specs.declared.scan.ScanStep.{ScanStep}
use Rattle.backend_bins.specs.Blocks.{bin_of}
use Rattle.backend_bins.specs.Cut.{back_call, back_of, front_call, front_of}
use Rattle.coalescer.specs.declared.drain.DrainAt.{DrainAt}
use Rattle.coalescer.specs.declared.drain.DrainCall.{DrainCall}
use Rattle.coalescer.specs.declared.put.PutAt.{PutAt}
use Rattle.coalescer.specs.declared.put.PutCall.{PutCall}
use Rattle.coalescer.specs.declared.put.PutStep.{PutStep}
use Rattle.region_steps.specs.declared.office.OfficeAt.{OfficeAt}
use Rattle.reset_steps.specs.declared.unite.UniteAt.{UniteAt}
use Rattle.step_local.specs.declared.frames.At.{At}
use Rattle.step_local.specs.declared.frames.Local.{Local}
use Rattle.step_local.specs.declared.frames.OfficeFor.{OfficeFor}
use Rattle.step_local.specs.declared.frames.ResetAt.{ResetAt}
use Rattle.step_local.specs.Backend.{cut_call, drain_call, whole_call}
use Rattle.step_local.specs.Leaving.{put_call}
use Rattle.step_local.specs.Resetting.{binning_call}
use Rattle.guard_laws.specs.Blocks as guards
use Rattle.bin_laws.specs.Bins as bins
use Rattle.queue_laws.specs.Queue as queue
use Rattle.backend_tasks.specs.Bins.{bin_task_at, bin_task_of, cut_task, drain_task, put_task, reset_task, scan_task}
use Rattle.backend_tasks.specs.Bins.{bin_task}
use Rattle.backend_tasks.specs.Fits.{BackendFits, CutFits, DrainFits, FitsAt, PutFits, PutsIn, ResetFits, ScanFits}
use Rattle.backend_tasks.specs.Guards.{bin_guard, cut_guard, drain_guard, guard_task_at, guard_task_of, put_guard}
use Rattle.backend_tasks.specs.Guards.{GuardStarts, reset_guard, scan_guard}
use Rattle.backend_tasks.specs.Laws.{HasNoTask}
use Rattle.backend_tasks.specs.Queue.{QueueStarts, drain_queue, office_queue, put_queue, queue_task_at}
use Rattle.backend_tasks.specs.Queue.{queue_task_of}

abbrev pub BinBare : BinAt → Type 0
BinBare BinAt.Lock = ⊤
BinBare _ = ⊥

abbrev pub ScanBare : ScanAt → ScanStep → Type 0
ScanBare s ScanStep.Peek = s.bin < bin_count
ScanBare s _ = ⊥

pub bin_low : (n : ℕ) → bin_of n < bin_count
bin_low n = omega arith

abbrev pub CutBare : CutAt → Type 0
CutBare (CutAt.Front at) = BinBare at
CutBare (CutAt.Back at) = BinBare at
CutBare CutAt.FrontLeft = ⊤
CutBare CutAt.BackLeft = ⊤
CutBare _ = ⊥

abbrev pub DrainBare : DrainAt → Type 0
DrainBare DrainAt.Swap = ⊤
DrainBare _ = ⊥

abbrev pub PutBare : PutStep → Type 0
PutBare PutStep.Size = ⊤
PutBare _ = ⊥

abbrev pub AskBare : OfficeAt → Type 0
AskBare OfficeAt.Lock = ⊤
AskBare _ = ⊥

abbrev pub OfficeBare : OfficeFor → OfficeAt → Type 0
OfficeBare OfficeFor.Ask at = AskBare at
OfficeBare (OfficeFor.Put first) at = ⊥
OfficeBare (OfficeFor.Drain first rest) at = ⊥

abbrev pub UniteBare : UniteAt → Type 0
UniteBare (UniteAt.Size first) = ⊤
UniteBare _ = ⊥

abbrev pub ResetBare : ResetAt → Type 0
ResetBare (ResetAt.Unite region at) = UniteBare at
ResetBare (ResetAt.Bin at) = BinBare at
ResetBare _ = ⊤

abbrev pub BareAt : At → Type 0
BareAt (At.Scan at) = ScanBare at at.step
BareAt (At.Cut at) = CutBare at
BareAt (At.Whole at) = BinBare at
BareAt (At.Drain at) = DrainBare at
BareAt (At.Put at) = PutBare at.step
BareAt (At.Office job at) = OfficeBare job at
BareAt (At.Reset at) = ResetBare at
BareAt _ = ⊤

abbrev pub Bare : Local → Type 0
Bare l = BareAt l.at

abbrev pub IsBare : Local × Turn → Type 0
IsBare turn = Bare turn.0

pub either : (b : Bool) (x y : Local × Turn) → IsBare x → IsBare y → IsBare (cond b x y)
either true x y one other = one
either false x y one other = other

-- no task on guards
bin_no_guard : (b : Block) (at : BinAt) → BinBare at → bin_guard b at ≡ guards.Task.Away
bin_no_guard b BinAt.Lock bare = refl
bin_no_guard b _ bare = absurd bare

scan_no_guard : (s : ScanAt) (step : ScanStep) → ScanBare s step → scan_guard step ≡ guards.Task.Away
scan_no_guard s ScanStep.Peek bare = refl
scan_no_guard s _ bare = absurd bare

cut_no_guard : (c : CutCall) (at : CutAt) → CutBare at → cut_guard c at ≡ guards.Task.Away
cut_no_guard c (CutAt.Front at) bare = bin_no_guard (front_of c) at bare
cut_no_guard c (CutAt.Back at) bare = bin_no_guard (back_of c) at bare
cut_no_guard c _ bare = refl

drain_no_guard : (at : DrainAt) → DrainBare at → drain_guard at ≡ guards.Task.Away
drain_no_guard DrainAt.Swap bare = refl
drain_no_guard _ bare = absurd bare

put_no_guard : (p : PutAt) (step : PutStep) → PutBare step → put_guard p step ≡ guards.Task.Away
put_no_guard p PutStep.Size bare = refl
put_no_guard p _ bare = absurd bare

reset_no_guard : (l : Local) (at : ResetAt) → ResetBare at → reset_guard l at ≡ guards.Task.Away
reset_no_guard l (ResetAt.Unite region (UniteAt.Size first)) bare = refl
reset_no_guard l (ResetAt.Unite region _) bare = absurd bare
reset_no_guard l (ResetAt.Bin at) bare = bin_no_guard l.call.block at bare
reset_no_guard l _ bare = refl

no_guard : (l : Local) (at : At) → BareAt at → guard_task_at l at ≡ guards.Task.Away
no_guard l (At.Scan at) bare = scan_no_guard at at.step bare
no_guard l (At.Cut at) bare = cut_no_guard (cut_call l) at bare
no_guard l (At.Whole at) bare = bin_no_guard l.ask.block at bare
no_guard l (At.Drain at) bare = drain_no_guard at bare
no_guard l (At.Put at) bare = put_no_guard at at.step bare
no_guard l (At.Reset at) bare = reset_no_guard l at bare
no_guard l _ bare = refl

-- no task in bins: a job on a bin that begins outside of a put puts a block in
bin_no_bin : (c : BinCall) (at : BinAt) → c.job ≡ BinJob.Insert → BinBare at → bin_task c at ≡ bins.Task.Away
bin_no_bin c BinAt.Lock job bare = rw job refl
bin_no_bin c _ job bare = absurd bare

scan_no_bin : (s : ScanAt) (step : ScanStep) → ScanBare s step → scan_task s step ≡ bins.Task.Away
scan_no_bin s ScanStep.Peek bare = refl
scan_no_bin s _ bare = absurd bare

cut_no_bin : (c : CutCall) (at : CutAt) → CutBare at → cut_task c at ≡ bins.Task.Away
cut_no_bin c (CutAt.Front at) bare = bin_no_bin (front_call c) at refl bare
cut_no_bin c (CutAt.Back at) bare = bin_no_bin (back_call c) at refl bare
cut_no_bin c _ bare = refl

drain_no_bin : (c : DrainCall) (at : DrainAt) → DrainBare at → drain_task c at ≡ bins.Task.Away
drain_no_bin c DrainAt.Swap bare = refl
drain_no_bin c _ bare = absurd bare

put_no_bin : (c : PutCall) (p : PutAt) (step : PutStep) → PutBare step → put_task c p step ≡ bins.Task.Away
put_no_bin c p PutStep.Size bare = refl
put_no_bin c p _ bare = absurd bare

reset_no_bin : (l : Local) (at : ResetAt) → ResetBare at → reset_task l at ≡ bins.Task.Away
reset_no_bin l (ResetAt.Unite region (UniteAt.Size first)) bare = refl
reset_no_bin l (ResetAt.Unite region _) bare = absurd bare
reset_no_bin l (ResetAt.Bin at) bare = bin_no_bin (binning_call l) at refl bare
reset_no_bin l _ bare = refl

no_bin : (l : Local) (at : At) → BareAt at → bin_task_at l at ≡ bins.Task.Away
no_bin l (At.Scan at) bare = scan_no_bin at at.step bare
no_bin l (At.Cut at) bare = cut_no_bin (cut_call l) at bare
no_bin l (At.Whole at) bare = bin_no_bin (whole_call l) at refl bare
no_bin l (At.Drain at) bare = drain_no_bin (drain_call l) at bare
no_bin l (At.Put at) bare = put_no_bin (put_call l) at at.step bare
no_bin l (At.Reset at) bare = reset_no_bin l at bare
no_bin l _ bare = refl

-- no task at the queue
drain_no_queue : (at : DrainAt) → DrainBare at → drain_queue at ≡ queue.Task.Away
drain_no_queue DrainAt.Swap bare = refl
drain_no_queue _ bare = absurd bare

put_no_queue : (p : PutAt) (step : PutStep) → PutBare step → put_queue p step ≡ queue.Task.Away
put_no_queue p PutStep.Size bare = refl
put_no_queue p _ bare = absurd bare

office_no_queue : (job : OfficeFor) (at : OfficeAt) → OfficeBare job at → office_queue job ≡ queue.Task.Away
office_no_queue OfficeFor.Ask at bare = refl
office_no_queue (OfficeFor.Put first) at bare = absurd bare
office_no_queue (OfficeFor.Drain first rest) at bare = absurd bare

no_queue : (l : Local) (at : At) → BareAt at → queue_task_at l at ≡ queue.Task.Away
no_queue l (At.Drain at) bare = drain_no_queue at bare
no_queue l (At.Put at) bare = put_no_queue at at.step bare
no_queue l (At.Office job at) bare = office_no_queue job at bare
no_queue l _ bare = refl

pub bare_no_task : (l : Local) → Bare l → HasNoTask l
bare_no_task l bare = record {
  guard = no_guard l l.at bare;
  bin = no_bin l l.at bare;
  queue = no_queue l l.at bare;
}

-- and what it says by itself is nothing
bin_fits : (at : BinAt) → BinBare at → PutsIn at
bin_fits BinAt.Lock bare = tt
bin_fits _ bare = absurd bare

scan_fits : (s : ScanAt) (step : ScanStep) → ScanBare s step → ScanFits s step
scan_fits s ScanStep.Peek bare = bare
scan_fits s _ bare = absurd bare

cut_fits : (at : CutAt) → CutBare at → CutFits at
cut_fits (CutAt.Front at) bare = bin_fits at bare
cut_fits (CutAt.Back at) bare = bin_fits at bare
cut_fits _ bare = tt

drain_fits : (c : DrainCall) (at : DrainAt) → DrainBare at → DrainFits c at
drain_fits c DrainAt.Swap bare = tt
drain_fits c _ bare = absurd bare

put_fits : (c : PutCall) (step : PutStep) → PutBare step → PutFits c step
put_fits c PutStep.Size bare = tt
put_fits c _ bare = absurd bare

reset_fits : (at : ResetAt) → ResetBare at → ResetFits at
reset_fits (ResetAt.Unite region (UniteAt.Size first)) bare = tt
reset_fits (ResetAt.Unite region _) bare = absurd bare
reset_fits (ResetAt.Bin at) bare = bin_fits at bare
reset_fits _ bare = tt

fits_at : (l : Local) (at : At) → BareAt at → FitsAt l at
fits_at l (At.Scan at) bare = scan_fits at at.step bare
fits_at l (At.Cut at) bare = cut_fits at bare
fits_at l (At.Whole at) bare = bin_fits at bare
fits_at l (At.Drain at) bare = drain_fits (drain_call l) at bare
fits_at l (At.Put at) bare = put_fits (put_call l) at.step bare
fits_at l (At.Reset at) bare = reset_fits at bare
fits_at l _ bare = tt

pub bare_fits : (l : Local) → Bare l → BackendFits l
bare_fits l bare = fits_at l l.at bare

-- the same, one by one
pub no_guard_task : (l : Local) → Bare l → guard_task_of l ≡ guards.Task.Away
no_guard_task l bare = no_guard l l.at bare

pub no_bin_task : (l : Local) → Bare l → bin_task_of l ≡ bins.Task.Away
no_bin_task l bare = no_bin l l.at bare

pub no_queue_task : (l : Local) → Bare l → queue_task_of l ≡ queue.Task.Away
no_queue_task l bare = no_queue l l.at bare

pub guard_starts : (l : Local) → Bare l → GuardStarts (guard_task_of l)
guard_starts l bare = subst GuardStarts (sym (no_guard l l.at bare)) tt

pub queue_starts : (l : Local) → Bare l → QueueStarts (queue_task_of l)
queue_starts l bare = subst QueueStarts (sym (no_queue l l.at bare)) tt

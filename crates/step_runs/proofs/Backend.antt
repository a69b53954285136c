-- Where a call asks the backend, or puts a block, its seat has not taken the office.
use Rattle.std.proofs.Common.{Bool, cond, eqb, false, refl, true, ℕ, ◌≡◌}
use Rattle.std.specs.Prelude.{None, Option, Some, ltb}
use Rattle.backend_bins.specs.Bin.{bin_learn}
use Rattle.backend_bins.specs.Blocks.{fits, piece_of}
use Rattle.backend_bins.specs.Cut.{at_back, at_last, at_rests, back_of, cut_begins, cut_learn, front_of}
use Rattle.backend_bins.specs.Scan.{scan_learn}
use Rattle.backend_bins.specs.declared.bin.BinAt.{BinAt}
use Rattle.backend_bins.specs.declared.bin.BinNext.{BinNext}
use Rattle.backend_bins.specs.declared.blocks.Block.{Block}
use Rattle.backend_bins.specs.declared.cut.CutAt.{CutAt}
use Rattle.backend_bins.specs.declared.cut.CutCall.{CutCall}
use Rattle.backend_bins.specs.declared.cut.CutNext.{CutNext}
use Rattle.backend_bins.specs.declared.scan.ScanAt.{ScanAt}
use Rattle.backend_bins.specs.declared.scan.ScanNext.{ScanNext}
use Rattle.coalescer.specs.Drain.{drain_learn}
use Rattle.coalescer.specs.Put.{put_learn}
use Rattle.coalescer.specs.declared.drain.DrainAt.{DrainAt}
use Rattle.coalescer.specs.declared.drain.DrainNext.{DrainNext}
use Rattle.coalescer.specs.declared.put.PutAt.{PutAt}
use Rattle.coalescer.specs.declared.put.PutNext.{PutNext}
use Rattle.pool_types.specs.declared.values.NullCause.{NullCause}
use Rattle.region_steps.specs.declared.office.OfficeEnd.{OfficeEnd}
use Rattle.step_local.specs.Backend.{asked, asked_as, cause_of, cut_as, cut_call, cut_learn_of, cutting, drain_call}
use Rattle.step_local.specs.Backend.{drain_learn_of, drained_as, drained_on, in_vain, no_piece, nothing_as, obtained}
use Rattle.step_local.specs.Backend.{obtained_as, office_left, put_as, put_done, put_done_as, put_learn_of, queue_as}
use Rattle.step_local.specs.Backend.{scan_learn_of, scanned_as, whole_as, whole_call, whole_learn_of}
use Rattle.step_local.specs.Leaving.{put_call, scan_call}
use Rattle.step_local.specs.declared.frames.At.{At}
use Rattle.step_local.specs.declared.frames.Local.{Local}
use Rattle.step_local.specs.declared.frames.OfficeFor.{OfficeFor}
use Rattle.step_local.specs.declared.frames.PutFor.{PutFor}
use Rattle.step_local.specs.declared.frames.Served.{Served}
use Rattle.step_local.specs.declared.frames.Tries.{Tries}
use Rattle.step_runs.proofs.Large.{carry-emptying, carry-releasing, carry-ticked}
use Rattle.step_runs.proofs.Small.{IsAway, carry-leaving, carry-surplus_left, either}
use Rattle.step_runs.specs.Places.{away, carry_of}

pub carry-asked_as : (l : Local) (piece : Block) (served : Served) → IsAway (asked_as l piece served)
carry-asked_as l piece (Served.Small class) = refl
carry-asked_as l piece (Served.Large granules alignment) = refl

pub carry-asked : (l : Local) → IsAway (asked l)
carry-asked l = carry-asked_as l (piece_of l.ask.want l.ask.block) l.call.served

pub carry-nothing_as : (l : Local) (cause : NullCause) (served : Served) → IsAway (nothing_as l cause served)
carry-nothing_as l cause (Served.Small class) = refl
carry-nothing_as l cause (Served.Large granules alignment) = refl

pub carry-in_vain : (l : Local) (seen : ℕ) (tries : Tries) → IsAway (in_vain l seen tries)
carry-in_vain l seen Tries.First = refl
carry-in_vain l seen Tries.Queue = refl
carry-in_vain l seen Tries.Soft = refl
carry-in_vain l seen Tries.Hard = carry-nothing_as l (cause_of l.ask.want seen l.ask.refused) l.call.served

pub carry-cut_as : (l : Local) (at : At) (next : CutNext) → carry_of at ≡ away → IsAway (cut_as l at next)
carry-cut_as l at (CutNext.Goes on) still = refl
carry-cut_as l at (CutNext.Waits bin) still = still
carry-cut_as l at CutNext.Done still = carry-asked l

-- a cut that begins waits for nothing
either_cut : (l : Local) (at : At) (b : Bool) (x y : CutNext) → IsAway (cut_as l at x) → IsAway (cut_as l at y)
    → IsAway (cut_as l at (cond b x y))
either_cut l at true x y one other = one
either_cut l at false x y one other = other

pub carry-last : (l : Local) (at : At) (c : CutCall) → IsAway (cut_as l at (at_last c))
carry-last l at c = either_cut l at (ltb 0 (back_of c).granules) _ _ refl (carry-asked l)

pub carry-rests : (l : Local) (at : At) (c : CutCall) → IsAway (cut_as l at (at_rests c))
carry-rests l at c = either_cut l at (ltb 0 (front_of c).granules) _ _ refl (carry-last l at c)

pub carry-back : (l : Local) (at : At) (c : CutCall) → IsAway (cut_as l at (at_back c))
carry-back l at c = either_cut l at (ltb 0 (back_of c).granules) _ _ refl (carry-rests l at c)

pub carry-begins : (l : Local) (at : At) (c : CutCall) → IsAway (cut_as l at (cut_begins c))
carry-begins l at c = either_cut l at (ltb 0 (front_of c).granules) _ _ refl (carry-back l at c)

pub carry-cutting : (l : Local) (block : Block) → IsAway (cutting l block)
carry-cutting l block =
    let l' : Local = record l { ask = record l.ask { block = block } } in carry-begins l' l'.at (cut_call l')

pub carry-cut_learn_of : (l : Local) (at : CutAt) (f : ℕ) → IsAway (cut_learn_of l at f)
carry-cut_learn_of l at f = carry-cut_as l (At.Cut at) (cut_learn (cut_call l) at f) refl

pub carry-scanned_as : (l : Local) (at : ScanAt) (next : ScanNext) → IsAway (scanned_as l at next)
carry-scanned_as l at (ScanNext.Goes next) = refl
carry-scanned_as l at ScanNext.WaitsLock = refl
carry-scanned_as l at (ScanNext.WaitsHalf bin again) = refl
carry-scanned_as l at (ScanNext.Took block) = carry-cutting l block
carry-scanned_as l at (ScanNext.Nothing seen) = carry-in_vain l seen l.ask.tries

pub carry-scan_learn_of : (l : Local) (at : ScanAt) (f : ℕ) → IsAway (scan_learn_of l at f)
carry-scan_learn_of l at f = carry-scanned_as l at (scan_learn (scan_call l) at f)

pub carry-queue_as : (l : Local) (one : Option ℕ) → IsAway (queue_as l one)
carry-queue_as l None = refl
carry-queue_as l (Some block) = refl

pub carry-whole_as : (l : Local) (at : BinAt) (next : BinNext) → IsAway (whole_as l at next)
carry-whole_as l at (BinNext.Goes next) = refl
carry-whole_as l at BinNext.Waits = refl
carry-whole_as l at BinNext.Done = refl

pub carry-whole_learn_of : (l : Local) (at : BinAt) (f : ℕ) → IsAway (whole_learn_of l at f)
carry-whole_learn_of l at f = carry-whole_as l at (bin_learn (whole_call l) at f)

pub carry-no_piece : (l : Local) (block : Block) → IsAway (no_piece l block)
carry-no_piece l block = either (eqb block.granules 0) _ _ refl refl

pub carry-obtained : (l : Local) (block : Block) → IsAway (obtained l block)
carry-obtained l block = either (fits l.ask.want block) _ _ (carry-cutting l block) (carry-no_piece l block)

pub carry-obtained_as : (l : Local) (end : OfficeEnd) → IsAway (obtained_as l end)
carry-obtained_as l (OfficeEnd.Obtained one) = carry-obtained l
    (record { first = one.first; granules = one.granules })
carry-obtained_as l (OfficeEnd.Refused error) = refl
carry-obtained_as l OfficeEnd.Given = refl

pub carry-put_done_as : (l : Local) (why : PutFor) → IsAway (put_done_as l why)
carry-put_done_as l PutFor.Surplus = carry-surplus_left l
carry-put_done_as l PutFor.Released = carry-ticked l
carry-put_done_as l PutFor.Swept = carry-releasing l
carry-put_done_as l PutFor.Emptied = carry-emptying l
carry-put_done_as l PutFor.Left = carry-leaving l

pub carry-put_done : (l : Local) → IsAway (put_done l)
carry-put_done l = carry-put_done_as l l.put

pub carry-put_as : (l : Local) (at : PutAt) (next : PutNext) → IsAway (put_as l at next)
carry-put_as l at (PutNext.Goes next) = refl
carry-put_as l at (PutNext.Waits bin) = refl
carry-put_as l at PutNext.Done = carry-put_done l
carry-put_as l at (PutNext.Gives block) = refl

pub carry-put_learn_of : (l : Local) (at : PutAt) (f : ℕ) → IsAway (put_learn_of l at f)
carry-put_learn_of l at f = carry-put_as l at (put_learn (put_call l) at f)

pub carry-drained_as : (l : Local) (at : At) (next : DrainNext) → carry_of at ≡ away → IsAway (drained_as l at next)
carry-drained_as l at (DrainNext.Goes on) still = refl
carry-drained_as l at (DrainNext.Waits bin) still = still
carry-drained_as l at (DrainNext.Gives block rest) still = refl
carry-drained_as l at DrainNext.Drained still = refl

pub carry-drain_learn_of : (l : Local) (at : DrainAt) (f : ℕ) → IsAway (drain_learn_of l at f)
carry-drain_learn_of l at f = carry-drained_as l (At.Drain at) (drain_learn (drain_call l) at f) refl

pub carry-drained_on : (l : Local) (rest : Option ℕ) → IsAway (drained_on l rest)
carry-drained_on l (Some block) = refl
carry-drained_on l None = refl

pub carry-office_left : (l : Local) (job : OfficeFor) (end : OfficeEnd) → IsAway (office_left l job end)
carry-office_left l OfficeFor.Ask end = carry-obtained_as l end
carry-office_left l (OfficeFor.Put first) end = carry-put_done l
carry-office_left l (OfficeFor.Drain first rest) end = carry-drained_on l rest

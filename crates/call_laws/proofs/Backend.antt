-- Where a call asks the backend, or puts a block, its seat has not taken the office.
use Rattle.std.proofs.Common.{Bool, cond, eqb, false, refl, true, ℕ, ◌≡◌}
use Rattle.std.specs.Prelude.{None, Option, Some, ltb}
use Rattle.backend_bins.specs.Bin.{bin_learn}
use Rattle.backend_bins.specs.Blocks.{fits, piece_of}
use Rattle.backend_bins.specs.Cut.{at_back, at_last, at_rests, back_of, cut_begins, cut_learn, front_of}
use Rattle.backend_bins.specs.Scan.{scan_learn}
use Rattle.backend_bins.specs.declared.bin.BinAt.{BinAt}
use Rattle.backend_bins.specs.declared.bin.BinNext.{BinNext}
use Rattle.backend_bins.specs.declared.blocks.Block.{Block}
use Rattle.backend_bins.specs.declared.cut.CutAt.{CutAt}
use Rattle.backend_bins.specs.declared.cut.CutCall.{CutCall}
use Rattle.backend_bins.specs.declared.cut.CutNext.{CutNext}
use Rattle.backend_bins.specs.declared.scan.ScanAt.{ScanAt}
use Rattle.backend_bins.specs.declared.scan.ScanNext.{ScanNext}
use Rattle.coalescer.specs.Drain.{drain_learn}
use Rattle.coalescer.specs.Put.{put_learn}
use Rattle.coalescer.specs.declared.drain.DrainAt.{DrainAt}
use Rattle.coalescer.specs.declared.drain.DrainNext.{DrainNext}
use Rattle.coalescer.specs.declared.put.PutAt.{PutAt}
use Rattle.coalescer.specs.declared.put.PutNext.{PutNext}
use Rattle.pool_types.specs.declared.values.NullCause.{NullCause}
use Rattle.region_steps.specs.declared.office.OfficeEnd.{OfficeEnd}
use Rattle.step_local.specs.Backend.{asked, asked_as, cause_of, cut_as, cut_call, cut_learn_of, cutting, drain_call}
use Rattle.step_local.specs.Backend.{drain_learn_of, drained_as, drained_on, in_vain, no_piece, nothing_as, obtained}
use Rattle.step_local.specs.Backend.{obtained_as, office_left, put_as, put_done, put_done_as, put_learn_of, queue_as}
use Rattle.step_local.specs.Backend.{scan_learn_of, scanned_as, whole_as, whole_call, whole_learn_of}
use Rattle.step_local.specs.Leaving.{put_call, scan_call}
use Rattle.step_local.specs.declared.frames.At.{At}
use Rattle.step_local.specs.declared.frames.Local.{Local}
use Rattle.step_local.specs.declared.frames.OfficeFor.{OfficeFor}
use Rattle.step_local.specs.declared.frames.PutFor.{PutFor}
use Rattle.step_local.specs.declared.frames.Served.{Served}
use Rattle.step_local.specs.declared.frames.Tries.{Tries}
use Rattle.call_laws.proofs.Large.{kept-emptying, kept-releasing, kept-ticked}
use Rattle.call_laws.proofs.Small.{kept-leaving, kept-surplus_left, either}
use Rattle.call_laws.specs.Calls.{IsCalling, IsKept, is_resetting, is_outside}

pub kept-asked_as : (l : Local) (e : IsCalling l) (piece : Block) (served : Served)
    → IsKept l (asked_as l piece served)
kept-asked_as l e piece (Served.Small class) = cc
kept-asked_as l e piece (Served.Large granules alignment) = cc

pub kept-asked : (l : Local) (e : IsCalling l) → IsKept l (asked l)
kept-asked l e = kept-asked_as l e (piece_of l.ask.want l.ask.block) l.call.served

pub kept-nothing_as : (l : Local) (e : IsCalling l) (cause : NullCause) (served : Served)
    → IsKept l (nothing_as l cause served)
kept-nothing_as l e cause (Served.Small class) = cc
kept-nothing_as l e cause (Served.Large granules alignment) = cc

pub kept-in_vain : (l : Local) (e : IsCalling l) (seen : ℕ) (tries : Tries) → IsKept l (in_vain l seen tries)
kept-in_vain l e seen Tries.First = cc
kept-in_vain l e seen Tries.Queue = cc
kept-in_vain l e seen Tries.Soft = cc
kept-in_vain l e seen Tries.Hard = kept-nothing_as l e (cause_of l.ask.want seen l.ask.refused) l.call.served

pub kept-cut_as : (l : Local) (e : IsCalling l) (at : At) (next : CutNext) → is_outside at ≡ false
    → IsKept l (cut_as l at next)
kept-cut_as l e at (CutNext.Goes on) still = cc
kept-cut_as l e at (CutNext.Waits bin) still = cc
kept-cut_as l e at CutNext.Done still = kept-asked l e

-- a cut that begins waits for nothing
either_cut : (l : Local) (e : IsCalling l) (at : At) (b : Bool) (x y : CutNext) → IsKept l (cut_as l at x)
    → IsKept l (cut_as l at y)
    → IsKept l (cut_as l at (cond b x y))
either_cut l e at true x y one other = one
either_cut l e at false x y one other = other

pub kept-last : (l : Local) (e : IsCalling l) (at : At) (c : CutCall) → IsKept l (cut_as l at (at_last c))
kept-last l e at c = either_cut l e at (ltb 0 (back_of c).granules) _ _ (cc) (kept-asked l e)

pub kept-rests : (l : Local) (e : IsCalling l) (at : At) (c : CutCall) → IsKept l (cut_as l at (at_rests c))
kept-rests l e at c = either_cut l e at (ltb 0 (front_of c).granules) _ _ (cc) (kept-last l e at c)

pub kept-back : (l : Local) (e : IsCalling l) (at : At) (c : CutCall) → IsKept l (cut_as l at (at_back c))
kept-back l e at c = either_cut l e at (ltb 0 (back_of c).granules) _ _ (cc) (kept-rests l e at c)

pub kept-begins : (l : Local) (e : IsCalling l) (at : At) (c : CutCall) → IsKept l (cut_as l at (cut_begins c))
kept-begins l e at c = either_cut l e at (ltb 0 (front_of c).granules) _ _ (cc) (kept-back l e at c)

pub kept-cutting : (l : Local) (e : IsCalling l) (block : Block) → IsKept l (cutting l block)
kept-cutting l e block =
    let l' : Local = record l { ask = record l.ask { block = block } } in kept-begins l' e l'.at (cut_call l')

pub kept-cut_learn_of : (l : Local) (e : IsCalling l) (at : CutAt) (f : ℕ) → IsKept l (cut_learn_of l at f)
kept-cut_learn_of l e at f = kept-cut_as l e (At.Cut at) (cut_learn (cut_call l) at f) refl

pub kept-scanned_as : (l : Local) (e : IsCalling l) (at : ScanAt) (next : ScanNext) → IsKept l (scanned_as l at next)
kept-scanned_as l e at (ScanNext.Goes next) = cc
kept-scanned_as l e at ScanNext.WaitsLock = cc
kept-scanned_as l e at (ScanNext.WaitsHalf bin again) = cc
kept-scanned_as l e at (ScanNext.Took block) = kept-cutting l e block
kept-scanned_as l e at (ScanNext.Nothing seen) = kept-in_vain l e seen l.ask.tries

pub kept-scan_learn_of : (l : Local) (e : IsCalling l) (at : ScanAt) (f : ℕ) → IsKept l (scan_learn_of l at f)
kept-scan_learn_of l e at f = kept-scanned_as l e at (scan_learn (scan_call l) at f)

pub kept-queue_as : (l : Local) (e : IsCalling l) (one : Option ℕ) → IsKept l (queue_as l one)
kept-queue_as l e None = cc
kept-queue_as l e (Some block) = cc

pub kept-whole_as : (l : Local) (e : IsCalling l) (at : BinAt) (next : BinNext) → IsKept l (whole_as l at next)
kept-whole_as l e at (BinNext.Goes next) = cc
kept-whole_as l e at BinNext.Waits = cc
kept-whole_as l e at BinNext.Done = cc

pub kept-whole_learn_of : (l : Local) (e : IsCalling l) (at : BinAt) (f : ℕ) → IsKept l (whole_learn_of l at f)
kept-whole_learn_of l e at f = kept-whole_as l e at (bin_learn (whole_call l) at f)

pub kept-no_piece : (l : Local) (e : IsCalling l) (block : Block) → IsKept l (no_piece l block)
kept-no_piece l e block = either l (eqb block.granules 0) _ _ (cc) (cc)

pub kept-obtained : (l : Local) (e : IsCalling l) (block : Block) → IsKept l (obtained l block)
kept-obtained l e block = either l (fits l.ask.want block) _ _ (kept-cutting l e block) (kept-no_piece l e block)

pub kept-obtained_as : (l : Local) (e : IsCalling l) (end : OfficeEnd) → IsKept l (obtained_as l end)
kept-obtained_as l e (OfficeEnd.Obtained one) = kept-obtained l e
    (record { first = one.first; granules = one.granules })
kept-obtained_as l e (OfficeEnd.Refused error) = cc
kept-obtained_as l e OfficeEnd.Given = cc

pub kept-put_done_as : (l : Local) (e : IsCalling l) (why : PutFor) → IsKept l (put_done_as l why)
kept-put_done_as l e PutFor.Surplus = kept-surplus_left l e
kept-put_done_as l e PutFor.Released = kept-ticked l e
kept-put_done_as l e PutFor.Swept = kept-releasing l e
kept-put_done_as l e PutFor.Emptied = kept-emptying l e
kept-put_done_as l e PutFor.Left = kept-leaving l e

pub kept-put_done : (l : Local) (e : IsCalling l) → IsKept l (put_done l)
kept-put_done l e = kept-put_done_as l e l.put

pub kept-put_as : (l : Local) (e : IsCalling l) (at : PutAt) (next : PutNext) → IsKept l (put_as l at next)
kept-put_as l e at (PutNext.Goes next) = cc
kept-put_as l e at (PutNext.Waits bin) = cc
kept-put_as l e at PutNext.Done = kept-put_done l e
kept-put_as l e at (PutNext.Gives block) = cc

pub kept-put_learn_of : (l : Local) (e : IsCalling l) (at : PutAt) (f : ℕ) → IsKept l (put_learn_of l at f)
kept-put_learn_of l e at f = kept-put_as l e at (put_learn (put_call l) at f)

pub kept-drained_as : (l : Local) (e : IsCalling l) (at : At) (next : DrainNext) → is_outside at ≡ false
    → IsKept l (drained_as l at next)
kept-drained_as l e at (DrainNext.Goes on) still = cc
kept-drained_as l e at (DrainNext.Waits bin) still = cc
kept-drained_as l e at (DrainNext.Gives block rest) still = cc
kept-drained_as l e at DrainNext.Drained still = cc

pub kept-drain_learn_of : (l : Local) (e : IsCalling l) (at : DrainAt) (f : ℕ) → IsKept l (drain_learn_of l at f)
kept-drain_learn_of l e at f = kept-drained_as l e (At.Drain at) (drain_learn (drain_call l) at f) refl

pub kept-drained_on : (l : Local) (e : IsCalling l) (rest : Option ℕ) → IsKept l (drained_on l rest)
kept-drained_on l e (Some block) = cc
kept-drained_on l e None = cc

pub kept-office_left : (l : Local) (e : IsCalling l) (job : OfficeFor) (end : OfficeEnd)
    → IsKept l (office_left l job end)
kept-office_left l e OfficeFor.Ask end = kept-obtained_as l e end
kept-office_left l e (OfficeFor.Put first) end = kept-put_done l e
kept-office_left l e (OfficeFor.Drain first rest) end = kept-drained_on l e rest

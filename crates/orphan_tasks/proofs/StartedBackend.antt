-- Where a call asks the backend, or puts a block, a task of orphans may start.
use Rattle.std.proofs.Common.{Bool, cond, eqb, false, refl, true, ℕ}
use Rattle.std.specs.Prelude.{None, Option, Some, ltb}
use Rattle.backend_bins.specs.Blocks.{fits, piece_of}
use Rattle.backend_bins.specs.Cut.{at_back, at_last, at_rests, back_of, cut_begins, front_of}
use Rattle.backend_bins.specs.declared.blocks.Block.{Block}
use Rattle.backend_bins.specs.declared.cut.CutCall.{CutCall}
use Rattle.backend_bins.specs.declared.cut.CutNext.{CutNext}
use Rattle.pool_types.specs.declared.values.NullCause.{NullCause}
use Rattle.region_steps.specs.declared.office.OfficeEnd.{OfficeEnd}
use Rattle.step_local.specs.Backend.{asked, asked_as, cause_of, cut_as, cut_call, cutting}
use Rattle.step_local.specs.Backend.{drained_on, in_vain, no_piece, nothing_as, obtained}
use Rattle.step_local.specs.Backend.{obtained_as, office_left, put_done, put_done_as, queue_as}
use Rattle.step_local.specs.declared.frames.At.{At}
use Rattle.step_local.specs.declared.frames.Local.{Local}
use Rattle.step_local.specs.declared.frames.OfficeFor.{OfficeFor}
use Rattle.step_local.specs.declared.frames.PutFor.{PutFor}
use Rattle.step_local.specs.declared.frames.Served.{Served}
use Rattle.step_local.specs.declared.frames.Tries.{Tries}
use Rattle.backend_bins.specs.declared.bin.BinAt.{BinAt}
use Rattle.backend_bins.specs.declared.bin.BinNext.{BinNext}
use Rattle.backend_bins.specs.declared.cut.CutAt.{CutAt}
use Rattle.backend_bins.specs.declared.scan.ScanAt.{ScanAt}
use Rattle.backend_bins.specs.declared.scan.ScanNext.{ScanNext}
use Rattle.coalescer.specs.declared.drain.DrainAt.{DrainAt}
use Rattle.coalescer.specs.declared.drain.DrainNext.{DrainNext}
use Rattle.coalescer.specs.declared.put.PutAt.{PutAt}
use Rattle.coalescer.specs.declared.put.PutNext.{PutNext}
use Rattle.region_steps.specs.declared.office.OfficeAt.{OfficeAt}
use Rattle.region_steps.specs.declared.office.OfficeNext.{OfficeNext}
use Rattle.step_local.specs.Backend.{drained_as, office_as, put_as, scanned_as, whole_as}
use Rattle.orphan_tasks.proofs.StartedLarge.{starts-emptying, starts-releasing, starts-ticked}
use Rattle.orphan_tasks.proofs.Started.{IsStarted, either}
use Rattle.orphan_tasks.proofs.StartedSmall.{starts-leaving, starts-surplus_left}
use Rattle.orphan_tasks.specs.Starts.{NoOrphans}

pub starts-asked_as : (l : Local) (piece : Block) (served : Served)
    → NoOrphans l.call.stage → IsStarted l (asked_as l piece served)
starts-asked_as l piece (Served.Small class) free = (free, refl)
starts-asked_as l piece (Served.Large granules alignment) free = (free, refl)

pub starts-asked : (l : Local) → NoOrphans l.call.stage → IsStarted l (asked l)
starts-asked l free = starts-asked_as l (piece_of l.ask.want l.ask.block) l.call.served free

pub starts-nothing_as : (l : Local) (cause : NullCause) (served : Served)
    → NoOrphans l.call.stage → IsStarted l (nothing_as l cause served)
starts-nothing_as l cause (Served.Small class) free = (tt, refl)
starts-nothing_as l cause (Served.Large granules alignment) free = (free, refl)

pub starts-in_vain : (l : Local) (seen : ℕ) (tries : Tries)
    → NoOrphans l.call.stage → IsStarted l (in_vain l seen tries)
starts-in_vain l seen Tries.First free = (free, refl)
starts-in_vain l seen Tries.Queue free = (free, refl)
starts-in_vain l seen Tries.Soft free = (free, refl)
starts-in_vain l seen Tries.Hard free = starts-nothing_as l (cause_of l.ask.want seen l.ask.refused) l.call.served free

-- a cut that begins waits for nothing
either_cut : (l : Local) (at : At) (b : Bool) (x y : CutNext) → IsStarted l (cut_as l at x)
    → IsStarted l (cut_as l at y) → IsStarted l (cut_as l at (cond b x y))
either_cut l at true x y one other = one
either_cut l at false x y one other = other

pub starts-last : (l : Local) (at : At) (c : CutCall) → NoOrphans l.call.stage → IsStarted l (cut_as l at (at_last c))
starts-last l at c free = either_cut l at (ltb 0 (back_of c).granules) _ _ (free, refl) (starts-asked l free)

pub starts-rests : (l : Local) (at : At) (c : CutCall)
    → NoOrphans l.call.stage → IsStarted l (cut_as l at (at_rests c))
starts-rests l at c free = either_cut l at (ltb 0 (front_of c).granules) _ _ (free, refl) (starts-last l at c free)

pub starts-back : (l : Local) (at : At) (c : CutCall) → NoOrphans l.call.stage → IsStarted l (cut_as l at (at_back c))
starts-back l at c free = either_cut l at (ltb 0 (back_of c).granules) _ _ (free, refl) (starts-rests l at c free)

pub starts-begins : (l : Local) (at : At) (c : CutCall)
    → NoOrphans l.call.stage → IsStarted l (cut_as l at (cut_begins c))
starts-begins l at c free = either_cut l at (ltb 0 (front_of c).granules) _ _ (free, refl) (starts-back l at c free)

pub starts-cutting : (l : Local) (block : Block) → NoOrphans l.call.stage → IsStarted l (cutting l block)
starts-cutting l block free =
    let l' : Local = record l { ask = record l.ask { block = block } } in starts-begins l' l'.at (cut_call l') free

pub starts-queue_as : (l : Local) (one : Option ℕ) → NoOrphans l.call.stage → IsStarted l (queue_as l one)
starts-queue_as l None free = (free, refl)
starts-queue_as l (Some block) free = (free, refl)

pub starts-no_piece : (l : Local) (block : Block) → NoOrphans l.call.stage → IsStarted l (no_piece l block)
starts-no_piece l block free = either l (eqb block.granules 0) _ _ (free, refl) (free, refl)

pub starts-obtained : (l : Local) (block : Block) → NoOrphans l.call.stage → IsStarted l (obtained l block)
starts-obtained l block free =
    either l (fits l.ask.want block) _ _ (starts-cutting l block free) (starts-no_piece l block free)

pub starts-obtained_as : (l : Local) (end : OfficeEnd) → NoOrphans l.call.stage → IsStarted l (obtained_as l end)
starts-obtained_as l (OfficeEnd.Obtained one) free = starts-obtained l
    (record { first = one.first; granules = one.granules }) free
starts-obtained_as l (OfficeEnd.Refused error) free = (free, refl)
starts-obtained_as l OfficeEnd.Given free = (free, refl)

pub starts-put_done_as : (l : Local) (why : PutFor) → NoOrphans l.call.stage → IsStarted l (put_done_as l why)
starts-put_done_as l PutFor.Surplus free = starts-surplus_left l free
starts-put_done_as l PutFor.Released free = starts-ticked l free
starts-put_done_as l PutFor.Swept free = starts-releasing l free
starts-put_done_as l PutFor.Emptied free = starts-emptying l free
starts-put_done_as l PutFor.Left free = starts-leaving l free

pub starts-put_done : (l : Local) → NoOrphans l.call.stage → IsStarted l (put_done l)
starts-put_done l free = starts-put_done_as l l.put free

pub starts-drained_on : (l : Local) (rest : Option ℕ) → NoOrphans l.call.stage → IsStarted l (drained_on l rest)
starts-drained_on l (Some block) free = (free, refl)
starts-drained_on l None free = (free, refl)

pub starts-office_left : (l : Local) (job : OfficeFor) (end : OfficeEnd)
    → NoOrphans l.call.stage → IsStarted l (office_left l job end)
starts-office_left l OfficeFor.Ask end free = starts-obtained_as l end free
starts-office_left l (OfficeFor.Put first) end free = starts-put_done l free
starts-office_left l (OfficeFor.Drain first rest) end free = starts-drained_on l rest free

-- a job of the backend goes on, waits, or is done
pub starts-scanned_as : (l : Local) (at : ScanAt) (next : ScanNext)
    → NoOrphans l.call.stage → IsStarted l (scanned_as l at next)
starts-scanned_as l at (ScanNext.Goes next) free = (free, refl)
starts-scanned_as l at ScanNext.WaitsLock free = (free, refl)
starts-scanned_as l at (ScanNext.WaitsHalf bin again) free = (free, refl)
starts-scanned_as l at (ScanNext.Took block) free = starts-cutting l block free
starts-scanned_as l at (ScanNext.Nothing seen) free = starts-in_vain l seen l.ask.tries free

pub starts-cut_as : (l : Local) (at : CutAt) (next : CutNext)
    → NoOrphans l.call.stage → IsStarted l (cut_as l (At.Cut at) next)
starts-cut_as l at (CutNext.Goes next) free = (free, refl)
starts-cut_as l at (CutNext.Waits bin) free = (free, refl)
starts-cut_as l at CutNext.Done free = starts-asked l free

pub starts-whole_as : (l : Local) (at : BinAt) (next : BinNext)
    → NoOrphans l.call.stage → IsStarted l (whole_as l at next)
starts-whole_as l at (BinNext.Goes next) free = (free, refl)
starts-whole_as l at BinNext.Waits free = (free, refl)
starts-whole_as l at BinNext.Done free = (free, refl)

pub starts-drained_as : (l : Local) (at : DrainAt) (next : DrainNext)
    → NoOrphans l.call.stage → IsStarted l (drained_as l (At.Drain at) next)
starts-drained_as l at (DrainNext.Goes next) free = (free, refl)
starts-drained_as l at (DrainNext.Waits bin) free = (free, refl)
starts-drained_as l at (DrainNext.Gives block rest) free = (free, refl)
starts-drained_as l at DrainNext.Drained free = (free, refl)

pub starts-put_as : (l : Local) (at : PutAt) (next : PutNext)
    → NoOrphans l.call.stage → IsStarted l (put_as l at next)
starts-put_as l at (PutNext.Goes next) free = (free, refl)
starts-put_as l at (PutNext.Waits bin) free = (free, refl)
starts-put_as l at PutNext.Done free = starts-put_done l free
starts-put_as l at (PutNext.Gives block) free = (free, refl)

pub starts-office_as : (l : Local) (job : OfficeFor) (at : OfficeAt) (next : OfficeNext)
    → NoOrphans l.call.stage → IsStarted l (office_as l job at next)
starts-office_as l job at (OfficeNext.Goes next) free = (free, refl)
starts-office_as l job at OfficeNext.Waits free = (free, refl)
starts-office_as l job at (OfficeNext.Left end) free = starts-office_left l job end free

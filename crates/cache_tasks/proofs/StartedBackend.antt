-- Where a call asks the backend, or puts a block, a job may begin.
use Rattle.std.proofs.Common.{◌≡◌, Bool, cond, eqb, false, refl, subst, sym, true, ℕ}
use Rattle.std.specs.Prelude.{None, Option, Some, ltb}
use Rattle.backend_bins.specs.Blocks.{fits, piece_of}
use Rattle.backend_bins.specs.Cut.{at_back, at_last, at_rests, back_of, cut_begins, front_of}
use Rattle.backend_bins.specs.declared.blocks.Block.{Block}
use Rattle.backend_bins.specs.declared.cut.CutCall.{CutCall}
use Rattle.backend_bins.specs.declared.cut.CutNext.{CutNext}
use Rattle.pool_types.specs.declared.values.NullCause.{NullCause}
use Rattle.region_steps.specs.declared.office.OfficeEnd.{OfficeEnd}
use Rattle.step_local.specs.Backend.{asked, asked_as, cause_of, cut_as, cut_call, cutting}
use Rattle.step_local.specs.Backend.{drained_on, in_vain, no_piece, nothing_as, obtained}
use Rattle.step_local.specs.Backend.{obtained_as, office_left, put_done, put_done_as, queue_as}
use Rattle.step_local.specs.declared.frames.At.{At}
use Rattle.step_local.specs.declared.frames.Local.{Local}
use Rattle.step_local.specs.declared.frames.OfficeFor.{OfficeFor}
use Rattle.step_local.specs.declared.frames.PutFor.{PutFor}
use Rattle.step_local.specs.declared.frames.Served.{Served}
use Rattle.step_local.specs.declared.frames.Tries.{Tries}
use Rattle.backend_bins.specs.declared.bin.BinAt.{BinAt}
use Rattle.backend_bins.specs.declared.bin.BinNext.{BinNext}
use Rattle.backend_bins.specs.declared.cut.CutAt.{CutAt}
use Rattle.backend_bins.specs.declared.scan.ScanAt.{ScanAt}
use Rattle.backend_bins.specs.declared.scan.ScanNext.{ScanNext}
use Rattle.coalescer.specs.declared.drain.DrainAt.{DrainAt}
use Rattle.coalescer.specs.declared.drain.DrainNext.{DrainNext}
use Rattle.coalescer.specs.declared.put.PutAt.{PutAt}
use Rattle.coalescer.specs.declared.put.PutNext.{PutNext}
use Rattle.region_steps.specs.declared.office.OfficeAt.{OfficeAt}
use Rattle.region_steps.specs.declared.office.OfficeNext.{OfficeNext}
use Rattle.step_local.specs.Backend.{drained_as, office_as, put_as, scanned_as, whole_as}
use Rattle.cache_tasks.specs.Cache.{IsLarge}
use Rattle.cache_tasks.proofs.StartedLarge.{starts-emptying, starts-releasing, starts-ticked}
use Rattle.cache_tasks.proofs.StartedSmall.{IsStarted, starts-leaving, starts-surplus_left, either, same}

pub starts-asked_as : (l : Local) (piece : Block) (served : Served) → IsStarted l (asked_as l piece served)
starts-asked_as l piece (Served.Small class) = (tt, same l.released)
starts-asked_as l piece (Served.Large granules alignment) = (tt, same l.released)

pub starts-asked : (l : Local) → IsStarted l (asked l)
starts-asked l = starts-asked_as l (piece_of l.ask.want l.ask.block) l.call.served

pub starts-nothing_as : (l : Local) (cause : NullCause) (served : Served) → l.call.served ≡ served
    → IsStarted l (nothing_as l cause served)
starts-nothing_as l cause (Served.Small class) is = (tt, same l.released)
starts-nothing_as l cause (Served.Large granules alignment) is =
    ((refl, subst IsLarge (sym is) tt), same l.released)

pub starts-in_vain : (l : Local) (seen : ℕ) (tries : Tries) → IsStarted l (in_vain l seen tries)
starts-in_vain l seen Tries.First = (tt, same l.released)
starts-in_vain l seen Tries.Queue = (tt, same l.released)
starts-in_vain l seen Tries.Soft = (tt, same l.released)
starts-in_vain l seen Tries.Hard = starts-nothing_as l (cause_of l.ask.want seen l.ask.refused) l.call.served refl

-- a cut that begins waits for nothing
either_cut : (l : Local) (at : At) (b : Bool) (x y : CutNext) → IsStarted l (cut_as l at x)
    → IsStarted l (cut_as l at y) → IsStarted l (cut_as l at (cond b x y))
either_cut l at true x y one other = one
either_cut l at false x y one other = other

pub starts-last : (l : Local) (at : At) (c : CutCall) → IsStarted l (cut_as l at (at_last c))
starts-last l at c = either_cut l at (ltb 0 (back_of c).granules) _ _ (tt, same l.released) (starts-asked l)

pub starts-rests : (l : Local) (at : At) (c : CutCall) → IsStarted l (cut_as l at (at_rests c))
starts-rests l at c = either_cut l at (ltb 0 (front_of c).granules) _ _ (tt, same l.released) (starts-last l at c)

pub starts-back : (l : Local) (at : At) (c : CutCall) → IsStarted l (cut_as l at (at_back c))
starts-back l at c = either_cut l at (ltb 0 (back_of c).granules) _ _ (tt, same l.released) (starts-rests l at c)

pub starts-begins : (l : Local) (at : At) (c : CutCall) → IsStarted l (cut_as l at (cut_begins c))
starts-begins l at c = either_cut l at (ltb 0 (front_of c).granules) _ _ (tt, same l.released) (starts-back l at c)

pub starts-cutting : (l : Local) (block : Block) → IsStarted l (cutting l block)
starts-cutting l block =
    let l' : Local = record l { ask = record l.ask { block = block } } in starts-begins l' l'.at (cut_call l')

pub starts-queue_as : (l : Local) (one : Option ℕ) → IsStarted l (queue_as l one)
starts-queue_as l None = (tt, same l.released)
starts-queue_as l (Some block) = (tt, same l.released)

pub starts-no_piece : (l : Local) (block : Block) → IsStarted l (no_piece l block)
starts-no_piece l block = either l (eqb block.granules 0) _ _ (refl, same l.released) (tt, same l.released)

pub starts-obtained : (l : Local) (block : Block) → IsStarted l (obtained l block)
starts-obtained l block = either l (fits l.ask.want block) _ _ (starts-cutting l block) (starts-no_piece l block)

pub starts-obtained_as : (l : Local) (end : OfficeEnd) → IsStarted l (obtained_as l end)
starts-obtained_as l (OfficeEnd.Obtained one) = starts-obtained l
    (record { first = one.first; granules = one.granules })
starts-obtained_as l (OfficeEnd.Refused error) = (refl, same l.released)
starts-obtained_as l OfficeEnd.Given = (refl, same l.released)

pub starts-put_done_as : (l : Local) (why : PutFor) → IsStarted l (put_done_as l why)
starts-put_done_as l PutFor.Surplus = starts-surplus_left l
starts-put_done_as l PutFor.Released = starts-ticked l
starts-put_done_as l PutFor.Swept = starts-releasing l
starts-put_done_as l PutFor.Emptied = starts-emptying l
starts-put_done_as l PutFor.Left = starts-leaving l

pub starts-put_done : (l : Local) → IsStarted l (put_done l)
starts-put_done l = starts-put_done_as l l.put

pub starts-drained_on : (l : Local) (rest : Option ℕ) → IsStarted l (drained_on l rest)
starts-drained_on l (Some block) = (tt, same l.released)
starts-drained_on l None = (tt, same l.released)

pub starts-office_left : (l : Local) (job : OfficeFor) (end : OfficeEnd) → IsStarted l (office_left l job end)
starts-office_left l OfficeFor.Ask end = starts-obtained_as l end
starts-office_left l (OfficeFor.Put first) end = starts-put_done l
starts-office_left l (OfficeFor.Drain first rest) end = starts-drained_on l rest

-- a job of the backend goes on, waits, or is done
pub starts-scanned_as : (l : Local) (at : ScanAt) (next : ScanNext) → IsStarted l (scanned_as l at next)
starts-scanned_as l at (ScanNext.Goes next) = (tt, same l.released)
starts-scanned_as l at ScanNext.WaitsLock = (tt, same l.released)
starts-scanned_as l at (ScanNext.WaitsHalf bin again) = (tt, same l.released)
starts-scanned_as l at (ScanNext.Took block) = starts-cutting l block
starts-scanned_as l at (ScanNext.Nothing seen) = starts-in_vain l seen l.ask.tries

pub starts-cut_as : (l : Local) (at : CutAt) (next : CutNext) → IsStarted l (cut_as l (At.Cut at) next)
starts-cut_as l at (CutNext.Goes next) = (tt, same l.released)
starts-cut_as l at (CutNext.Waits bin) = (tt, same l.released)
starts-cut_as l at CutNext.Done = starts-asked l

pub starts-whole_as : (l : Local) (at : BinAt) (next : BinNext) → IsStarted l (whole_as l at next)
starts-whole_as l at (BinNext.Goes next) = (tt, same l.released)
starts-whole_as l at BinNext.Waits = (tt, same l.released)
starts-whole_as l at BinNext.Done = (refl, same l.released)

pub starts-drained_as : (l : Local) (at : DrainAt) (next : DrainNext) → IsStarted l (drained_as l (At.Drain at) next)
starts-drained_as l at (DrainNext.Goes next) = (tt, same l.released)
starts-drained_as l at (DrainNext.Waits bin) = (tt, same l.released)
starts-drained_as l at (DrainNext.Gives block rest) = (tt, same l.released)
starts-drained_as l at DrainNext.Drained = (tt, same l.released)

pub starts-put_as : (l : Local) (at : PutAt) (next : PutNext) → IsStarted l (put_as l at next)
starts-put_as l at (PutNext.Goes next) = (tt, same l.released)
starts-put_as l at (PutNext.Waits bin) = (tt, same l.released)
starts-put_as l at PutNext.Done = starts-put_done l
starts-put_as l at (PutNext.Gives block) = (tt, same l.released)

pub starts-office_as : (l : Local) (job : OfficeFor) (at : OfficeAt) (next : OfficeNext)
    → IsStarted l (office_as l job at next)
starts-office_as l job at (OfficeNext.Goes next) = (tt, same l.released)
starts-office_as l job at OfficeNext.Waits = (tt, same l.released)
starts-office_as l job at (OfficeNext.Left end) = starts-office_left l job end

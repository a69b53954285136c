-- A call that asks the backend, or puts a block, changes no slab by that.
use Rattle.std.proofs.Common.{Bool, cond, eqb, false, refl, true, ℕ}
use Rattle.std.specs.Prelude.{None, Option, Some, ltb}
use Rattle.backend_bins.specs.Blocks.{fits, piece_of}
use Rattle.backend_bins.specs.Cut.{at_back, at_last, at_rests, back_of, cut_begins, front_of}
use Rattle.backend_bins.specs.declared.blocks.Block.{Block}
use Rattle.backend_bins.specs.declared.cut.CutCall.{CutCall}
use Rattle.backend_bins.specs.declared.cut.CutNext.{CutNext}
use Rattle.pool_types.specs.declared.values.NullCause.{NullCause}
use Rattle.region_steps.specs.declared.office.OfficeEnd.{OfficeEnd}
use Rattle.step_local.specs.Backend.{asked, asked_as, cause_of, cut_as, cut_call, cutting}
use Rattle.step_local.specs.Backend.{drained_on, in_vain, no_piece, nothing_as, obtained}
use Rattle.step_local.specs.Backend.{obtained_as, office_left, put_done, put_done_as, queue_as}
use Rattle.step_local.specs.declared.frames.At.{At}
use Rattle.step_local.specs.declared.frames.Local.{Local}
use Rattle.step_local.specs.declared.frames.OfficeFor.{OfficeFor}
use Rattle.step_local.specs.declared.frames.PutFor.{PutFor}
use Rattle.step_local.specs.declared.frames.Served.{Served}
use Rattle.step_local.specs.declared.frames.Tries.{Tries}
use Rattle.backend_bins.specs.declared.bin.BinAt.{BinAt}
use Rattle.backend_bins.specs.declared.bin.BinNext.{BinNext}
use Rattle.backend_bins.specs.declared.cut.CutAt.{CutAt}
use Rattle.backend_bins.specs.declared.scan.ScanAt.{ScanAt}
use Rattle.backend_bins.specs.declared.scan.ScanNext.{ScanNext}
use Rattle.coalescer.specs.declared.drain.DrainAt.{DrainAt}
use Rattle.coalescer.specs.declared.drain.DrainNext.{DrainNext}
use Rattle.coalescer.specs.declared.put.PutAt.{PutAt}
use Rattle.coalescer.specs.declared.put.PutNext.{PutNext}
use Rattle.region_steps.specs.declared.office.OfficeAt.{OfficeAt}
use Rattle.region_steps.specs.declared.office.OfficeNext.{OfficeNext}
use Rattle.step_local.specs.Backend.{drained_as, office_as, put_as, scanned_as, whole_as}
use Rattle.heap_tasks.proofs.KeptLarge.{keeps-emptying, keeps-releasing, keeps-ticked}
use Rattle.heap_tasks.proofs.Kept.{Keeps, either}
use Rattle.heap_tasks.proofs.KeptSmall.{keeps-leaving, keeps-surplus_left}

pub keeps-asked_as : (l : Local) (piece : Block) (served : Served) → Keeps l (asked_as l piece served)
keeps-asked_as l piece (Served.Small class) = (refl, refl, refl)
keeps-asked_as l piece (Served.Large granules alignment) = (refl, refl, refl)

pub keeps-asked : (l : Local) → Keeps l (asked l)
keeps-asked l = keeps-asked_as l (piece_of l.ask.want l.ask.block) l.call.served

pub keeps-nothing_as : (l : Local) (cause : NullCause) (served : Served) → Keeps l (nothing_as l cause served)
keeps-nothing_as l cause (Served.Small class) = (refl, refl, refl)
keeps-nothing_as l cause (Served.Large granules alignment) = (refl, refl, refl)

pub keeps-in_vain : (l : Local) (seen : ℕ) (tries : Tries) → Keeps l (in_vain l seen tries)
keeps-in_vain l seen Tries.First = (refl, refl, refl)
keeps-in_vain l seen Tries.Queue = (refl, refl, refl)
keeps-in_vain l seen Tries.Soft = (refl, refl, refl)
keeps-in_vain l seen Tries.Hard = keeps-nothing_as l (cause_of l.ask.want seen l.ask.refused) l.call.served

-- a cut that begins waits for nothing
either_cut : (l : Local) (at : At) (b : Bool) (x y : CutNext) → Keeps l (cut_as l at x) → Keeps l (cut_as l at y)
    → Keeps l (cut_as l at (cond b x y))
either_cut l at true x y one other = one
either_cut l at false x y one other = other

pub keeps-last : (l : Local) (at : At) (c : CutCall) → Keeps l (cut_as l at (at_last c))
keeps-last l at c = either_cut l at (ltb 0 (back_of c).granules) _ _ (refl, refl, refl) (keeps-asked l)

pub keeps-rests : (l : Local) (at : At) (c : CutCall) → Keeps l (cut_as l at (at_rests c))
keeps-rests l at c = either_cut l at (ltb 0 (front_of c).granules) _ _ (refl, refl, refl) (keeps-last l at c)

pub keeps-back : (l : Local) (at : At) (c : CutCall) → Keeps l (cut_as l at (at_back c))
keeps-back l at c = either_cut l at (ltb 0 (back_of c).granules) _ _ (refl, refl, refl) (keeps-rests l at c)

pub keeps-begins : (l : Local) (at : At) (c : CutCall) → Keeps l (cut_as l at (cut_begins c))
keeps-begins l at c = either_cut l at (ltb 0 (front_of c).granules) _ _ (refl, refl, refl) (keeps-back l at c)

pub keeps-cutting : (l : Local) (block : Block) → Keeps l (cutting l block)
keeps-cutting l block =
    let l' : Local = record l { ask = record l.ask { block = block } } in keeps-begins l' l'.at (cut_call l')

pub keeps-queue_as : (l : Local) (one : Option ℕ) → Keeps l (queue_as l one)
keeps-queue_as l None = (refl, refl, refl)
keeps-queue_as l (Some block) = (refl, refl, refl)

pub keeps-no_piece : (l : Local) (block : Block) → Keeps l (no_piece l block)
keeps-no_piece l block = either l (eqb block.granules 0) _ _ (refl, refl, refl) (refl, refl, refl)

pub keeps-obtained : (l : Local) (block : Block) → Keeps l (obtained l block)
keeps-obtained l block = either l (fits l.ask.want block) _ _ (keeps-cutting l block) (keeps-no_piece l block)

pub keeps-obtained_as : (l : Local) (end : OfficeEnd) → Keeps l (obtained_as l end)
keeps-obtained_as l (OfficeEnd.Obtained one) = keeps-obtained l
    (record { first = one.first; granules = one.granules })
keeps-obtained_as l (OfficeEnd.Refused error) = (refl, refl, refl)
keeps-obtained_as l OfficeEnd.Given = (refl, refl, refl)

pub keeps-put_done_as : (l : Local) (why : PutFor) → Keeps l (put_done_as l why)
keeps-put_done_as l PutFor.Surplus = keeps-surplus_left l
keeps-put_done_as l PutFor.Released = keeps-ticked l
keeps-put_done_as l PutFor.Swept = keeps-releasing l
keeps-put_done_as l PutFor.Emptied = keeps-emptying l
keeps-put_done_as l PutFor.Left = keeps-leaving l

pub keeps-put_done : (l : Local) → Keeps l (put_done l)
keeps-put_done l = keeps-put_done_as l l.put

pub keeps-drained_on : (l : Local) (rest : Option ℕ) → Keeps l (drained_on l rest)
keeps-drained_on l (Some block) = (refl, refl, refl)
keeps-drained_on l None = (refl, refl, refl)

pub keeps-office_left : (l : Local) (job : OfficeFor) (end : OfficeEnd) → Keeps l (office_left l job end)
keeps-office_left l OfficeFor.Ask end = keeps-obtained_as l end
keeps-office_left l (OfficeFor.Put first) end = keeps-put_done l
keeps-office_left l (OfficeFor.Drain first rest) end = keeps-drained_on l rest

-- a job of the backend goes on, waits, or is done
pub keeps-scanned_as : (l : Local) (at : ScanAt) (next : ScanNext) → Keeps l (scanned_as l at next)
keeps-scanned_as l at (ScanNext.Goes next) = (refl, refl, refl)
keeps-scanned_as l at ScanNext.WaitsLock = (refl, refl, refl)
keeps-scanned_as l at (ScanNext.WaitsHalf bin again) = (refl, refl, refl)
keeps-scanned_as l at (ScanNext.Took block) = keeps-cutting l block
keeps-scanned_as l at (ScanNext.Nothing seen) = keeps-in_vain l seen l.ask.tries

pub keeps-cut_as : (l : Local) (at : CutAt) (next : CutNext) → Keeps l (cut_as l (At.Cut at) next)
keeps-cut_as l at (CutNext.Goes next) = (refl, refl, refl)
keeps-cut_as l at (CutNext.Waits bin) = (refl, refl, refl)
keeps-cut_as l at CutNext.Done = keeps-asked l

pub keeps-whole_as : (l : Local) (at : BinAt) (next : BinNext) → Keeps l (whole_as l at next)
keeps-whole_as l at (BinNext.Goes next) = (refl, refl, refl)
keeps-whole_as l at BinNext.Waits = (refl, refl, refl)
keeps-whole_as l at BinNext.Done = (refl, refl, refl)

pub keeps-drained_as : (l : Local) (at : DrainAt) (next : DrainNext) → Keeps l (drained_as l (At.Drain at) next)
keeps-drained_as l at (DrainNext.Goes next) = (refl, refl, refl)
keeps-drained_as l at (DrainNext.Waits bin) = (refl, refl, refl)
keeps-drained_as l at (DrainNext.Gives block rest) = (refl, refl, refl)
keeps-drained_as l at DrainNext.Drained = (refl, refl, refl)

pub keeps-put_as : (l : Local) (at : PutAt) (next : PutNext) → Keeps l (put_as l at next)
keeps-put_as l at (PutNext.Goes next) = (refl, refl, refl)
keeps-put_as l at (PutNext.Waits bin) = (refl, refl, refl)
keeps-put_as l at PutNext.Done = keeps-put_done l
keeps-put_as l at (PutNext.Gives block) = (refl, refl, refl)

pub keeps-office_as : (l : Local) (job : OfficeFor) (at : OfficeAt) (next : OfficeNext)
    → Keeps l (office_as l job at next)
keeps-office_as l job at (OfficeNext.Goes next) = (refl, refl, refl)
keeps-office_as l job at OfficeNext.Waits = (refl, refl, refl)
keeps-office_as l job at (OfficeNext.Left end) = keeps-office_left l job end

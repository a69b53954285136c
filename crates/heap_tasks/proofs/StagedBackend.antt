-- A call asks the backend, or puts a block, at its stage.
use Rattle.std.proofs.Common.{Bool, cond, eqb, false, true, ℕ}
use Rattle.std.specs.Prelude.{None, Option, Some, ltb}
use Rattle.backend_bins.specs.Blocks.{fits, piece_of}
use Rattle.backend_bins.specs.Cut.{at_back, at_last, at_rests, back_of, cut_begins, front_of}
use Rattle.backend_bins.specs.declared.blocks.Block.{Block}
use Rattle.backend_bins.specs.declared.cut.CutCall.{CutCall}
use Rattle.backend_bins.specs.declared.cut.CutNext.{CutNext}
use Rattle.pool_types.specs.declared.values.NullCause.{NullCause}
use Rattle.region_steps.specs.declared.office.OfficeEnd.{OfficeEnd}
use Rattle.step_local.specs.Backend.{asked, asked_as, cause_of, cut_as, cut_call, cutting}
use Rattle.step_local.specs.Backend.{drained_on, in_vain, no_piece, nothing_as, obtained}
use Rattle.step_local.specs.Backend.{obtained_as, office_left, put_done, put_done_as, queue_as}
use Rattle.step_local.specs.declared.frames.At.{At}
use Rattle.step_local.specs.declared.frames.Local.{Local}
use Rattle.step_local.specs.declared.frames.OfficeFor.{OfficeFor}
use Rattle.step_local.specs.declared.frames.PutFor.{PutFor}
use Rattle.step_local.specs.declared.frames.Served.{Served}
use Rattle.step_local.specs.declared.frames.Tries.{Tries}
use Rattle.backend_bins.specs.declared.bin.BinAt.{BinAt}
use Rattle.backend_bins.specs.declared.bin.BinNext.{BinNext}
use Rattle.backend_bins.specs.declared.cut.CutAt.{CutAt}
use Rattle.backend_bins.specs.declared.scan.ScanAt.{ScanAt}
use Rattle.backend_bins.specs.declared.scan.ScanNext.{ScanNext}
use Rattle.coalescer.specs.declared.drain.DrainAt.{DrainAt}
use Rattle.coalescer.specs.declared.drain.DrainNext.{DrainNext}
use Rattle.coalescer.specs.declared.put.PutAt.{PutAt}
use Rattle.coalescer.specs.declared.put.PutNext.{PutNext}
use Rattle.region_steps.specs.declared.office.OfficeAt.{OfficeAt}
use Rattle.region_steps.specs.declared.office.OfficeNext.{OfficeNext}
use Rattle.step_local.specs.Backend.{drained_as, office_as, put_as, scanned_as, whole_as}
use Rattle.heap_tasks.proofs.StagedLarge.{goes-emptying, goes-releasing, goes-ticked}
use Rattle.heap_tasks.specs.Notes.{IsTail, notes_of}
use Rattle.heap_tasks.specs.Stages.{IsGetting, MayPut, OfficeStage}
use Rattle.heap_tasks.proofs.Staged.{Goes, either, ending_ticks, none_left}
use Rattle.heap_tasks.proofs.StagedSmall.{goes-leaving, goes-surplus_left}

pub goes-asked_as : (l : Local) (piece : Block) (served : Served) → IsGetting l.call.stage
    → Goes l (asked_as l piece served)
goes-asked_as l piece (Served.Small class) is = (is, IsTail.all)
goes-asked_as l piece (Served.Large granules alignment) is = (is, IsTail.all)

pub goes-asked : (l : Local) → IsGetting l.call.stage → Goes l (asked l)
goes-asked l is = goes-asked_as l (piece_of l.ask.want l.ask.block) l.call.served is

pub goes-nothing_as : (l : Local) (cause : NullCause) (served : Served) → IsGetting l.call.stage
    → Goes l (nothing_as l cause served)
goes-nothing_as l cause (Served.Small class) is = (tt, none_left (notes_of l))
goes-nothing_as l cause (Served.Large granules alignment) is = (is, IsTail.all)

pub goes-in_vain : (l : Local) (seen : ℕ) (tries : Tries) → IsGetting l.call.stage → Goes l (in_vain l seen tries)
goes-in_vain l seen Tries.First is = (is, IsTail.all)
goes-in_vain l seen Tries.Queue is = (is, IsTail.all)
goes-in_vain l seen Tries.Soft is = (is, IsTail.all)
goes-in_vain l seen Tries.Hard is = goes-nothing_as l (cause_of l.ask.want seen l.ask.refused) l.call.served is

-- a cut that begins waits for nothing
either_cut : (l : Local) (at : At) (b : Bool) (x y : CutNext) → Goes l (cut_as l at x) → Goes l (cut_as l at y)
    → Goes l (cut_as l at (cond b x y))
either_cut l at true x y one other = one
either_cut l at false x y one other = other

pub goes-last : (l : Local) (at : At) (c : CutCall) → IsGetting l.call.stage → Goes l (cut_as l at (at_last c))
goes-last l at c is = either_cut l at (ltb 0 (back_of c).granules) _ _ (is, IsTail.all) (goes-asked l is)

pub goes-rests : (l : Local) (at : At) (c : CutCall) → IsGetting l.call.stage → Goes l (cut_as l at (at_rests c))
goes-rests l at c is = either_cut l at (ltb 0 (front_of c).granules) _ _ (is, IsTail.all) (goes-last l at c is)

pub goes-back : (l : Local) (at : At) (c : CutCall) → IsGetting l.call.stage → Goes l (cut_as l at (at_back c))
goes-back l at c is = either_cut l at (ltb 0 (back_of c).granules) _ _ (is, IsTail.all) (goes-rests l at c is)

pub goes-begins : (l : Local) (at : At) (c : CutCall) → IsGetting l.call.stage → Goes l (cut_as l at (cut_begins c))
goes-begins l at c is = either_cut l at (ltb 0 (front_of c).granules) _ _ (is, IsTail.all) (goes-back l at c is)

pub goes-cutting : (l : Local) (block : Block) → IsGetting l.call.stage → Goes l (cutting l block)
goes-cutting l block is =
    let l' : Local = record l { ask = record l.ask { block = block } } in goes-begins l' l'.at (cut_call l') is

pub goes-queue_as : (l : Local) (one : Option ℕ) → IsGetting l.call.stage → Goes l (queue_as l one)
goes-queue_as l None is = (is, IsTail.all)
goes-queue_as l (Some block) is = (is, IsTail.all)

pub goes-no_piece : (l : Local) (block : Block) → IsGetting l.call.stage → Goes l (no_piece l block)
goes-no_piece l block is = either l (eqb block.granules 0) _ _ (is, IsTail.all) (is, IsTail.all)

pub goes-obtained : (l : Local) (block : Block) → IsGetting l.call.stage → Goes l (obtained l block)
goes-obtained l block is = either l (fits l.ask.want block) _ _ (goes-cutting l block is) (goes-no_piece l block is)

pub goes-obtained_as : (l : Local) (end : OfficeEnd) → IsGetting l.call.stage → Goes l (obtained_as l end)
goes-obtained_as l (OfficeEnd.Obtained one) is =
    goes-obtained l (record { first = one.first; granules = one.granules }) is
goes-obtained_as l (OfficeEnd.Refused error) is = (is, IsTail.all)
goes-obtained_as l OfficeEnd.Given is = (is, IsTail.all)

pub goes-put_done_as : (l : Local) (why : PutFor) → MayPut why l.sweep.cleanup l.call.stage
    → Goes l (put_done_as l why)
goes-put_done_as l PutFor.Surplus is = goes-surplus_left l is
goes-put_done_as l PutFor.Released is = goes-ticked l (ending_ticks l.call.stage is)
goes-put_done_as l PutFor.Swept is = goes-releasing l is
goes-put_done_as l PutFor.Emptied is = goes-emptying l is
goes-put_done_as l PutFor.Left is = goes-leaving l is

pub goes-put_done : (l : Local) → MayPut l.put l.sweep.cleanup l.call.stage → Goes l (put_done l)
goes-put_done l is = goes-put_done_as l l.put is

pub goes-drained_on : (l : Local) (rest : Option ℕ) → IsGetting l.call.stage → Goes l (drained_on l rest)
goes-drained_on l (Some block) is = (is, IsTail.all)
goes-drained_on l None is = (is, IsTail.all)

pub goes-office_left : (l : Local) (job : OfficeFor) (end : OfficeEnd)
    → OfficeStage job l.put l.sweep.cleanup l.call.stage → Goes l (office_left l job end)
goes-office_left l OfficeFor.Ask end is = goes-obtained_as l end is
goes-office_left l (OfficeFor.Put first) end is = goes-put_done l is
goes-office_left l (OfficeFor.Drain first rest) end is = goes-drained_on l rest is

-- a job of the backend goes on, waits, or is done
pub goes-scanned_as : (l : Local) (at : ScanAt) (next : ScanNext) → IsGetting l.call.stage
    → Goes l (scanned_as l at next)
goes-scanned_as l at (ScanNext.Goes next) is = (is, IsTail.all)
goes-scanned_as l at ScanNext.WaitsLock is = (is, IsTail.all)
goes-scanned_as l at (ScanNext.WaitsHalf bin again) is = (is, IsTail.all)
goes-scanned_as l at (ScanNext.Took block) is = goes-cutting l block is
goes-scanned_as l at (ScanNext.Nothing seen) is = goes-in_vain l seen l.ask.tries is

pub goes-cut_as : (l : Local) (at : CutAt) (next : CutNext) → IsGetting l.call.stage
    → Goes l (cut_as l (At.Cut at) next)
goes-cut_as l at (CutNext.Goes next) is = (is, IsTail.all)
goes-cut_as l at (CutNext.Waits bin) is = (is, IsTail.all)
goes-cut_as l at CutNext.Done is = goes-asked l is

pub goes-whole_as : (l : Local) (at : BinAt) (next : BinNext) → IsGetting l.call.stage → Goes l (whole_as l at next)
goes-whole_as l at (BinNext.Goes next) is = (is, IsTail.all)
goes-whole_as l at BinNext.Waits is = (is, IsTail.all)
goes-whole_as l at BinNext.Done is = (is, IsTail.all)

pub goes-drained_as : (l : Local) (at : DrainAt) (next : DrainNext) → IsGetting l.call.stage
    → Goes l (drained_as l (At.Drain at) next)
goes-drained_as l at (DrainNext.Goes next) is = (is, IsTail.all)
goes-drained_as l at (DrainNext.Waits bin) is = (is, IsTail.all)
goes-drained_as l at (DrainNext.Gives block rest) is = (is, IsTail.all)
goes-drained_as l at DrainNext.Drained is = (is, IsTail.all)

pub goes-put_as : (l : Local) (at : PutAt) (next : PutNext) → MayPut l.put l.sweep.cleanup l.call.stage
    → Goes l (put_as l at next)
goes-put_as l at (PutNext.Goes next) is = (is, IsTail.all)
goes-put_as l at (PutNext.Waits bin) is = (is, IsTail.all)
goes-put_as l at PutNext.Done is = goes-put_done l is
goes-put_as l at (PutNext.Gives block) is = (is, IsTail.all)

pub goes-office_as : (l : Local) (job : OfficeFor) (at : OfficeAt) (next : OfficeNext)
    → OfficeStage job l.put l.sweep.cleanup l.call.stage → Goes l (office_as l job at next)
goes-office_as l job at (OfficeNext.Goes next) is = (is, IsTail.all)
goes-office_as l job at OfficeNext.Waits is = (is, IsTail.all)
goes-office_as l job at (OfficeNext.Left end) is = goes-office_left l job end is

-- Where a call asks the backend, or puts a block, its seat has no lock, but for the jobs that take one.
use Rattle.std.proofs.Common.{Bool, cond, eqb, false, refl, true, ℕ}
use Rattle.std.specs.Prelude.{None, Option, Some, ltb}
use Rattle.backend_bins.specs.Blocks.{fits, piece_of}
use Rattle.backend_bins.specs.Cut.{at_back, at_last, at_rests, back_of, cut_begins, front_of}
use Rattle.backend_bins.specs.declared.blocks.Block.{Block}
use Rattle.backend_bins.specs.declared.cut.CutCall.{CutCall}
use Rattle.backend_bins.specs.declared.cut.CutNext.{CutNext}
use Rattle.pool_types.specs.declared.values.NullCause.{NullCause}
use Rattle.region_steps.specs.declared.office.OfficeEnd.{OfficeEnd}
use Rattle.step_local.specs.Backend.{asked, asked_as, cause_of, cut_as, cut_call, cutting}
use Rattle.step_local.specs.Backend.{drained_on, in_vain, no_piece, nothing_as, obtained}
use Rattle.step_local.specs.Backend.{obtained_as, office_left, put_done, put_done_as, queue_as}
use Rattle.step_local.specs.declared.frames.At.{At}
use Rattle.step_local.specs.declared.frames.Local.{Local}
use Rattle.step_local.specs.declared.frames.OfficeFor.{OfficeFor}
use Rattle.step_local.specs.declared.frames.PutFor.{PutFor}
use Rattle.step_local.specs.declared.frames.Served.{Served}
use Rattle.step_local.specs.declared.frames.Tries.{Tries}
use Rattle.step_locks.proofs.FreeLarge.{free-emptying, free-releasing, free-ticked}
use Rattle.step_locks.proofs.FreeSmall.{IsFree, free-leaving, free-surplus_left, either}

pub free-asked_as : (l : Local) (piece : Block) (served : Served) → IsFree (asked_as l piece served)
free-asked_as l piece (Served.Small class) = refl
free-asked_as l piece (Served.Large granules alignment) = refl

pub free-asked : (l : Local) → IsFree (asked l)
free-asked l = free-asked_as l (piece_of l.ask.want l.ask.block) l.call.served

pub free-nothing_as : (l : Local) (cause : NullCause) (served : Served) → IsFree (nothing_as l cause served)
free-nothing_as l cause (Served.Small class) = refl
free-nothing_as l cause (Served.Large granules alignment) = refl

pub free-in_vain : (l : Local) (seen : ℕ) (tries : Tries) → IsFree (in_vain l seen tries)
free-in_vain l seen Tries.First = refl
free-in_vain l seen Tries.Queue = refl
free-in_vain l seen Tries.Soft = refl
free-in_vain l seen Tries.Hard = free-nothing_as l (cause_of l.ask.want seen l.ask.refused) l.call.served

-- a cut that begins waits for nothing
either_cut : (l : Local) (at : At) (b : Bool) (x y : CutNext) → IsFree (cut_as l at x) → IsFree (cut_as l at y)
    → IsFree (cut_as l at (cond b x y))
either_cut l at true x y one other = one
either_cut l at false x y one other = other

pub free-last : (l : Local) (at : At) (c : CutCall) → IsFree (cut_as l at (at_last c))
free-last l at c = either_cut l at (ltb 0 (back_of c).granules) _ _ refl (free-asked l)

pub free-rests : (l : Local) (at : At) (c : CutCall) → IsFree (cut_as l at (at_rests c))
free-rests l at c = either_cut l at (ltb 0 (front_of c).granules) _ _ refl (free-last l at c)

pub free-back : (l : Local) (at : At) (c : CutCall) → IsFree (cut_as l at (at_back c))
free-back l at c = either_cut l at (ltb 0 (back_of c).granules) _ _ refl (free-rests l at c)

pub free-begins : (l : Local) (at : At) (c : CutCall) → IsFree (cut_as l at (cut_begins c))
free-begins l at c = either_cut l at (ltb 0 (front_of c).granules) _ _ refl (free-back l at c)

pub free-cutting : (l : Local) (block : Block) → IsFree (cutting l block)
free-cutting l block =
    let l' : Local = record l { ask = record l.ask { block = block } } in free-begins l' l'.at (cut_call l')

pub free-queue_as : (l : Local) (one : Option ℕ) → IsFree (queue_as l one)
free-queue_as l None = refl
free-queue_as l (Some block) = refl

pub free-no_piece : (l : Local) (block : Block) → IsFree (no_piece l block)
free-no_piece l block = either (eqb block.granules 0) _ _ refl refl

pub free-obtained : (l : Local) (block : Block) → IsFree (obtained l block)
free-obtained l block = either (fits l.ask.want block) _ _ (free-cutting l block) (free-no_piece l block)

pub free-obtained_as : (l : Local) (end : OfficeEnd) → IsFree (obtained_as l end)
free-obtained_as l (OfficeEnd.Obtained one) = free-obtained l
    (record { first = one.first; granules = one.granules })
free-obtained_as l (OfficeEnd.Refused error) = refl
free-obtained_as l OfficeEnd.Given = refl

pub free-put_done_as : (l : Local) (why : PutFor) → IsFree (put_done_as l why)
free-put_done_as l PutFor.Surplus = free-surplus_left l
free-put_done_as l PutFor.Released = free-ticked l
free-put_done_as l PutFor.Swept = free-releasing l
free-put_done_as l PutFor.Emptied = free-emptying l
free-put_done_as l PutFor.Left = free-leaving l

pub free-put_done : (l : Local) → IsFree (put_done l)
free-put_done l = free-put_done_as l l.put

pub free-drained_on : (l : Local) (rest : Option ℕ) → IsFree (drained_on l rest)
free-drained_on l (Some block) = refl
free-drained_on l None = refl

pub free-office_left : (l : Local) (job : OfficeFor) (end : OfficeEnd) → IsFree (office_left l job end)
free-office_left l OfficeFor.Ask end = free-obtained_as l end
free-office_left l (OfficeFor.Put first) end = free-put_done l
free-office_left l (OfficeFor.Drain first rest) end = free-drained_on l rest

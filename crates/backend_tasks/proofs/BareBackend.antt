-- Where a call asks the backend, or puts a block, nothing is under way.
use Rattle.std.proofs.Common.{Bool, cond, eqb, false, true, ℕ}
use Rattle.std.specs.Prelude.{None, Option, Some, ltb}
use Rattle.backend_bins.specs.Blocks.{fits, piece_of}
use Rattle.backend_bins.specs.Cut.{at_back, at_last, at_rests, back_of, cut_begins, front_of}
use Rattle.backend_bins.specs.declared.blocks.Block.{Block}
use Rattle.backend_bins.specs.declared.cut.CutCall.{CutCall}
use Rattle.backend_bins.specs.declared.cut.CutNext.{CutNext}
use Rattle.pool_types.specs.declared.values.NullCause.{NullCause}
use Rattle.region_steps.specs.declared.office.OfficeEnd.{OfficeEnd}
use Rattle.step_local.specs.Backend.{asked, asked_as, cause_of, cut_as, cut_call, cutting}
use Rattle.step_local.specs.Backend.{in_vain, no_piece, nothing_as, obtained}
use Rattle.step_local.specs.Backend.{obtained_as, put_done, put_done_as, queue_as}
use Rattle.step_local.specs.declared.frames.At.{At}
use Rattle.step_local.specs.declared.frames.Local.{Local}
use Rattle.step_local.specs.declared.frames.PutFor.{PutFor}
use Rattle.step_local.specs.declared.frames.Served.{Served}
use Rattle.step_local.specs.declared.frames.Tries.{Tries}
use Rattle.backend_tasks.proofs.BareLarge.{bare-emptying, bare-releasing, bare-ticked}
use Rattle.backend_tasks.proofs.BareSmall.{IsBare, bare-leaving, bare-surplus_left, either}

pub bare-asked_as : (l : Local) (piece : Block) (served : Served) → IsBare (asked_as l piece served)
bare-asked_as l piece (Served.Small class) = tt
bare-asked_as l piece (Served.Large granules alignment) = tt

pub bare-asked : (l : Local) → IsBare (asked l)
bare-asked l = bare-asked_as l (piece_of l.ask.want l.ask.block) l.call.served

pub bare-nothing_as : (l : Local) (cause : NullCause) (served : Served) → IsBare (nothing_as l cause served)
bare-nothing_as l cause (Served.Small class) = tt
bare-nothing_as l cause (Served.Large granules alignment) = tt

pub bare-in_vain : (l : Local) (seen : ℕ) (tries : Tries) → IsBare (in_vain l seen tries)
bare-in_vain l seen Tries.First = tt
bare-in_vain l seen Tries.Queue = tt
bare-in_vain l seen Tries.Soft = tt
bare-in_vain l seen Tries.Hard = bare-nothing_as l (cause_of l.ask.want seen l.ask.refused) l.call.served

-- a cut that begins waits for nothing
either_cut : (l : Local) (at : At) (b : Bool) (x y : CutNext) → IsBare (cut_as l at x) → IsBare (cut_as l at y)
    → IsBare (cut_as l at (cond b x y))
either_cut l at true x y one other = one
either_cut l at false x y one other = other

pub bare-last : (l : Local) (at : At) (c : CutCall) → IsBare (cut_as l at (at_last c))
bare-last l at c = either_cut l at (ltb 0 (back_of c).granules) _ _ tt (bare-asked l)

pub bare-rests : (l : Local) (at : At) (c : CutCall) → IsBare (cut_as l at (at_rests c))
bare-rests l at c = either_cut l at (ltb 0 (front_of c).granules) _ _ tt (bare-last l at c)

pub bare-back : (l : Local) (at : At) (c : CutCall) → IsBare (cut_as l at (at_back c))
bare-back l at c = either_cut l at (ltb 0 (back_of c).granules) _ _ tt (bare-rests l at c)

pub bare-begins : (l : Local) (at : At) (c : CutCall) → IsBare (cut_as l at (cut_begins c))
bare-begins l at c = either_cut l at (ltb 0 (front_of c).granules) _ _ tt (bare-back l at c)

pub bare-cutting : (l : Local) (block : Block) → IsBare (cutting l block)
bare-cutting l block =
    let l' : Local = record l { ask = record l.ask { block = block } } in bare-begins l' l'.at (cut_call l')

pub bare-queue_as : (l : Local) (one : Option ℕ) → IsBare (queue_as l one)
bare-queue_as l None = tt
bare-queue_as l (Some block) = tt

pub bare-no_piece : (l : Local) (block : Block) → IsBare (no_piece l block)
bare-no_piece l block = either (eqb block.granules 0) _ _ tt tt

pub bare-obtained : (l : Local) (block : Block) → IsBare (obtained l block)
bare-obtained l block = either (fits l.ask.want block) _ _ (bare-cutting l block) (bare-no_piece l block)

pub bare-obtained_as : (l : Local) (end : OfficeEnd) → IsBare (obtained_as l end)
bare-obtained_as l (OfficeEnd.Obtained one) = bare-obtained l
    (record { first = one.first; granules = one.granules })
bare-obtained_as l (OfficeEnd.Refused error) = tt
bare-obtained_as l OfficeEnd.Given = tt

pub bare-put_done_as : (l : Local) (why : PutFor) → IsBare (put_done_as l why)
bare-put_done_as l PutFor.Surplus = bare-surplus_left l
bare-put_done_as l PutFor.Released = bare-ticked l
bare-put_done_as l PutFor.Swept = bare-releasing l
bare-put_done_as l PutFor.Emptied = bare-emptying l
bare-put_done_as l PutFor.Left = bare-leaving l

pub bare-put_done : (l : Local) → IsBare (put_done l)
bare-put_done l = bare-put_done_as l l.put

-- Where a call asks the backend, or puts a block.
use Rattle.std.proofs.Common.{◌≡◌, Bool, cond, eqb, false, true, refl, ℕ}
use Rattle.std.specs.Prelude.{None, Option, Some, ltb, ⊤}
use Rattle.backend_bins.specs.Blocks.{fits, piece_of}
use Rattle.backend_bins.specs.Cut.{at_back, at_last, at_rests, back_of, cut_begins, front_of}
use Rattle.backend_bins.specs.declared.blocks.Block.{Block}
use Rattle.backend_bins.specs.declared.cut.CutCall.{CutCall}
use Rattle.backend_bins.specs.declared.cut.CutNext.{CutNext}
use Rattle.pool_types.specs.declared.values.NullCause.{NullCause}
use Rattle.region_steps.specs.declared.office.OfficeEnd.{OfficeEnd}
use Rattle.step_local.specs.Backend.{asked, asked_as, cause_of, cut_as, cut_call, cutting}
use Rattle.step_local.specs.Backend.{drained_on, in_vain, no_piece, nothing_as, obtained}
use Rattle.step_local.specs.Backend.{obtained_as, office_left, put_done, put_done_as, queue_as}
use Rattle.step_local.specs.declared.frames.At.{At}
use Rattle.step_local.specs.declared.frames.Local.{Local}
use Rattle.step_local.specs.declared.frames.OfficeFor.{OfficeFor}
use Rattle.step_local.specs.declared.frames.PutFor.{PutFor}
use Rattle.step_local.specs.declared.frames.Served.{Served}
use Rattle.step_local.specs.declared.frames.Tries.{Tries}
use Rattle.backend_bins.specs.declared.bin.BinAt.{BinAt}
use Rattle.backend_bins.specs.declared.bin.BinNext.{BinNext}
use Rattle.backend_bins.specs.declared.cut.CutAt.{CutAt}
use Rattle.backend_bins.specs.declared.scan.ScanAt.{ScanAt}
use Rattle.backend_bins.specs.declared.scan.ScanNext.{ScanNext}
use Rattle.coalescer.specs.declared.drain.DrainAt.{DrainAt}
use Rattle.coalescer.specs.declared.drain.DrainNext.{DrainNext}
use Rattle.coalescer.specs.declared.put.PutAt.{PutAt}
use Rattle.coalescer.specs.declared.put.PutNext.{PutNext}
use Rattle.region_steps.specs.declared.office.OfficeAt.{OfficeAt}
use Rattle.region_steps.specs.declared.office.OfficeNext.{OfficeNext}
use Rattle.step_local.specs.Backend.{drained_as, office_as, put_as, scanned_as, whole_as}
use Rattle.slab_places.proofs.Pieces.{piece_even}
use Rattle.slab_places.proofs.PlacedLarge.{placed-emptying, placed-releasing, placed-ticked}
use Rattle.slab_places.proofs.PlacedSmall.{IsPlaced, placed-leaving, placed-surplus_left, either}

-- a slab is wanted where one is served
abbrev pub WantsSlab : Local → Type 0
WantsSlab l = (class : ℕ) → l.call.served ≡ Served.Small class → l.ask.want.slab ≡ true

placed-asked_as : (l : Local) (block : Block) (served : Served)
    → ((class : ℕ) → served ≡ Served.Small class → l.ask.want.slab ≡ true)
    → IsPlaced (asked_as l (piece_of l.ask.want block) served)
placed-asked_as l block (Served.Small class) wants = λ low. piece_even l.ask.want block (wants class refl) low
placed-asked_as l block (Served.Large granules alignment) wants = λ low. tt

pub placed-asked : (l : Local) → WantsSlab l → IsPlaced (asked l)
placed-asked l wants = placed-asked_as l l.ask.block l.call.served wants

pub placed-nothing_as : (l : Local) (cause : NullCause) (served : Served) → IsPlaced (nothing_as l cause served)
placed-nothing_as l cause (Served.Small class) = λ low. tt
placed-nothing_as l cause (Served.Large granules alignment) = λ low. tt

pub placed-in_vain : (l : Local) (seen : ℕ) (tries : Tries) → IsPlaced (in_vain l seen tries)
placed-in_vain l seen Tries.First = λ low. tt
placed-in_vain l seen Tries.Queue = λ low. tt
placed-in_vain l seen Tries.Soft = λ low. tt
placed-in_vain l seen Tries.Hard = placed-nothing_as l (cause_of l.ask.want seen l.ask.refused) l.call.served

-- a cut that begins waits for nothing
either_cut : (l : Local) (at : At) (b : Bool) (x y : CutNext) → IsPlaced (cut_as l at x) → IsPlaced (cut_as l at y)
    → IsPlaced (cut_as l at (cond b x y))
either_cut l at true x y one other = one
either_cut l at false x y one other = other

placed-last : (l : Local) (at : At) (c : CutCall) → WantsSlab l → IsPlaced (cut_as l at (at_last c))
placed-last l at c wants = either_cut l at (ltb 0 (back_of c).granules) _ _ (λ low. tt) (placed-asked l wants)

placed-rests : (l : Local) (at : At) (c : CutCall) → WantsSlab l → IsPlaced (cut_as l at (at_rests c))
placed-rests l at c wants = either_cut l at (ltb 0 (front_of c).granules) _ _ (λ low. tt) (placed-last l at c wants)

placed-back : (l : Local) (at : At) (c : CutCall) → WantsSlab l → IsPlaced (cut_as l at (at_back c))
placed-back l at c wants = either_cut l at (ltb 0 (back_of c).granules) _ _ (λ low. tt) (placed-rests l at c wants)

placed-begins : (l : Local) (at : At) (c : CutCall) → WantsSlab l → IsPlaced (cut_as l at (cut_begins c))
placed-begins l at c wants = either_cut l at (ltb 0 (front_of c).granules) _ _ (λ low. tt) (placed-back l at c wants)

pub placed-cutting : (l : Local) (block : Block) → WantsSlab l → IsPlaced (cutting l block)
placed-cutting l block wants =
    let l' : Local = record l { ask = record l.ask { block = block } } in
    placed-begins l' l'.at (cut_call l') wants

pub placed-queue_as : (l : Local) (one : Option ℕ) → IsPlaced (queue_as l one)
placed-queue_as l None = λ low. tt
placed-queue_as l (Some block) = λ low. tt

pub placed-no_piece : (l : Local) (block : Block) → IsPlaced (no_piece l block)
placed-no_piece l block = either (eqb block.granules 0) _ _ (λ low. tt) (λ low. tt)

placed-obtained : (l : Local) (block : Block) → WantsSlab l → IsPlaced (obtained l block)
placed-obtained l block wants =
    either (fits l.ask.want block) _ _ (placed-cutting l block wants) (placed-no_piece l block)

placed-obtained_as : (l : Local) (end : OfficeEnd) → WantsSlab l → IsPlaced (obtained_as l end)
placed-obtained_as l (OfficeEnd.Obtained one) wants =
    placed-obtained l (record { first = one.first; granules = one.granules }) wants
placed-obtained_as l (OfficeEnd.Refused error) wants = λ low. tt
placed-obtained_as l OfficeEnd.Given wants = λ low. tt

pub placed-put_done_as : (l : Local) (why : PutFor) → IsPlaced (put_done_as l why)
placed-put_done_as l PutFor.Surplus = placed-surplus_left l
placed-put_done_as l PutFor.Released = placed-ticked l
placed-put_done_as l PutFor.Swept = placed-releasing l
placed-put_done_as l PutFor.Emptied = placed-emptying l
placed-put_done_as l PutFor.Left = placed-leaving l

pub placed-put_done : (l : Local) → IsPlaced (put_done l)
placed-put_done l = placed-put_done_as l l.put

pub placed-drained_on : (l : Local) (rest : Option ℕ) → IsPlaced (drained_on l rest)
placed-drained_on l (Some block) = λ low. tt
placed-drained_on l None = λ low. tt

-- what the office was asked for
abbrev pub AsksSlab : Local → OfficeFor → Type 0
AsksSlab l OfficeFor.Ask = WantsSlab l
AsksSlab l (OfficeFor.Put first) = ⊤
AsksSlab l (OfficeFor.Drain first rest) = ⊤

placed-office_left : (l : Local) (job : OfficeFor) (end : OfficeEnd) → AsksSlab l job
    → IsPlaced (office_left l job end)
placed-office_left l OfficeFor.Ask end wants = placed-obtained_as l end wants
placed-office_left l (OfficeFor.Put first) end wants = placed-put_done l
placed-office_left l (OfficeFor.Drain first rest) end wants = placed-drained_on l rest

-- a job of the backend goes on, waits, or is done
pub placed-scanned_as : (l : Local) (at : ScanAt) (next : ScanNext) → WantsSlab l → IsPlaced (scanned_as l at next)
placed-scanned_as l at (ScanNext.Goes next) wants = λ low. tt
placed-scanned_as l at ScanNext.WaitsLock wants = λ low. tt
placed-scanned_as l at (ScanNext.WaitsHalf bin again) wants = λ low. tt
placed-scanned_as l at (ScanNext.Took block) wants = placed-cutting l block wants
placed-scanned_as l at (ScanNext.Nothing seen) wants = placed-in_vain l seen l.ask.tries

pub placed-cut_as : (l : Local) (at : CutAt) (next : CutNext) → WantsSlab l → IsPlaced (cut_as l (At.Cut at) next)
placed-cut_as l at (CutNext.Goes next) wants = λ low. tt
placed-cut_as l at (CutNext.Waits bin) wants = λ low. tt
placed-cut_as l at CutNext.Done wants = placed-asked l wants

pub placed-whole_as : (l : Local) (at : BinAt) (next : BinNext) → IsPlaced (whole_as l at next)
placed-whole_as l at (BinNext.Goes next) = λ low. tt
placed-whole_as l at BinNext.Waits = λ low. tt
placed-whole_as l at BinNext.Done = λ low. tt

pub placed-drained_as : (l : Local) (at : DrainAt) (next : DrainNext) → IsPlaced (drained_as l (At.Drain at) next)
placed-drained_as l at (DrainNext.Goes next) = λ low. tt
placed-drained_as l at (DrainNext.Waits bin) = λ low. tt
placed-drained_as l at (DrainNext.Gives block rest) = λ low. tt
placed-drained_as l at DrainNext.Drained = λ low. tt

pub placed-put_as : (l : Local) (at : PutAt) (next : PutNext) → IsPlaced (put_as l at next)
placed-put_as l at (PutNext.Goes next) = λ low. tt
placed-put_as l at (PutNext.Waits bin) = λ low. tt
placed-put_as l at PutNext.Done = placed-put_done l
placed-put_as l at (PutNext.Gives block) = λ low. tt

pub placed-office_as : (l : Local) (job : OfficeFor) (at : OfficeAt) (next : OfficeNext) → AsksSlab l job
    → IsPlaced (office_as l job at next)
placed-office_as l job at (OfficeNext.Goes next) wants = λ low. tt
placed-office_as l job at OfficeNext.Waits wants = λ low. tt
placed-office_as l job at (OfficeNext.Left end) wants = placed-office_left l job end wants

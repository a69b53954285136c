-- Where a call asks the backend, or puts a block: what it owes stays.
use Rattle.std.proofs.Common.{Bool, cond, eqb, false, refl, true, ℕ, ◌≡◌}
use Rattle.std.specs.Prelude.{None, Option, Some, ltb}
use Rattle.backend_bins.specs.Bin.{bin_learn}
use Rattle.backend_bins.specs.Blocks.{fits as block_fits, piece_of}
use Rattle.backend_bins.specs.Cut.{at_back, at_last, at_rests, back_of, cut_begins, cut_learn, front_of}
use Rattle.backend_bins.specs.Scan.{scan_learn}
use Rattle.backend_bins.specs.declared.bin.BinAt.{BinAt}
use Rattle.backend_bins.specs.declared.bin.BinNext.{BinNext}
use Rattle.backend_bins.specs.declared.blocks.Block.{Block}
use Rattle.backend_bins.specs.declared.blocks.Want.{Want}
use Rattle.backend_bins.specs.declared.cut.CutAt.{CutAt}
use Rattle.backend_bins.specs.declared.cut.CutCall.{CutCall}
use Rattle.backend_bins.specs.declared.cut.CutNext.{CutNext}
use Rattle.backend_bins.specs.declared.scan.ScanAt.{ScanAt}
use Rattle.backend_bins.specs.declared.scan.ScanNext.{ScanNext}
use Rattle.coalescer.specs.Drain.{drain_learn}
use Rattle.coalescer.specs.Put.{put_learn}
use Rattle.coalescer.specs.declared.drain.DrainAt.{DrainAt}
use Rattle.coalescer.specs.declared.drain.DrainNext.{DrainNext}
use Rattle.coalescer.specs.declared.put.PutAt.{PutAt}
use Rattle.coalescer.specs.declared.put.PutNext.{PutNext}
use Rattle.large_cache.specs.declared.sweep.Cleanup.{Cleanup}
use Rattle.pool_types.specs.declared.values.NullCause.{NullCause}
use Rattle.regions.specs.declared.errors.ObtainError.{ObtainError}
use Rattle.region_steps.specs.declared.office.OfficeEnd.{OfficeEnd}
use Rattle.step_local.specs.Backend.{asked, asked_as, cause_by, cause_of, cut_as, cut_call, cut_learn_of, cutting}
use Rattle.step_local.specs.Backend.{drain_call, drain_learn_of, drained_as, drained_on, in_vain, no_piece}
use Rattle.step_local.specs.Backend.{nothing_as, obtained, obtained_as, office_left, put_as, put_done, put_done_as}
use Rattle.step_local.specs.Backend.{put_learn_of, queue_as, scan_learn_of, scanned_as, softened, whole_as, whole_call}
use Rattle.step_local.specs.Backend.{whole_learn_of}
use Rattle.step_local.specs.Leaving.{put_call, scan_call}
use Rattle.step_local.specs.declared.frames.At.{At}
use Rattle.step_local.specs.declared.frames.Local.{Local}
use Rattle.step_local.specs.declared.frames.OfficeFor.{OfficeFor}
use Rattle.step_local.specs.declared.frames.PutFor.{PutFor}
use Rattle.step_local.specs.declared.frames.Served.{Served}
use Rattle.step_local.specs.declared.frames.Stage.{Stage}
use Rattle.step_local.specs.declared.frames.Tries.{Tries}
use Rattle.path_laws.proofs.Fits.{Faces, Rests, either, fits_office, fits_undo, is_getting, is_other_null, is_putting}
use Rattle.path_laws.proofs.Fits.{is_sweeping, on}
use Rattle.path_laws.proofs.Large.{rests-emptying, rests-releasing, rests-ticked, sweeping_to_get, working_to_end}
use Rattle.path_laws.proofs.Paying.{nothing_got, null_pays}
use Rattle.path_laws.proofs.Small.{rests-leaving, rests-surplus_left}

rests-asked_as : (l : Local) (e : is_getting l.call.stage ≡ true) (piece : Block) (served : Served)
    → Rests l (asked_as l piece served)
rests-asked_as l e piece (Served.Small class) = on l (is_getting l.call.stage) e
rests-asked_as l e piece (Served.Large granules alignment) = on l (is_getting l.call.stage) e

rests-asked : (l : Local) (e : is_getting l.call.stage ≡ true) → Rests l (asked l)
rests-asked l e = rests-asked_as l e (piece_of l.ask.want l.ask.block) l.call.served

-- no null of the backend frees an object
other_cause_by : (want : Want) (seen : ℕ) (error : ObtainError) → is_other_null (cause_by want seen error) ≡ true
other_cause_by want seen ObtainError.HasRegion = refl
other_cause_by want seen (ObtainError.RegionsFull out next) = refl
other_cause_by want seen (ObtainError.SpanFull asked greatest) = refl
other_cause_by want seen ObtainError.RawFailed = refl

other_cause : (want : Want) (seen : ℕ) (refused : Option ObtainError)
    → is_other_null (cause_of want seen refused) ≡ true
other_cause want seen (Some error) = other_cause_by want seen error
other_cause want seen None = refl

undo_to_get : (s : Stage) (cause : NullCause) → is_getting s ≡ true → is_other_null cause ≡ true
    → fits_undo s cause ≡ true
undo_to_get Stage.Getting cause e other = other
undo_to_get _ cause e other = absurd (cc)

rests-nothing_as : (l : Local) (e : is_getting l.call.stage ≡ true) (cause : NullCause) (served : Served)
    → is_other_null cause ≡ true → Rests l (nothing_as l cause served)
rests-nothing_as l e cause (Served.Small class) other = null_pays cause l.key l.call.request _ _ other
    (nothing_got l.call.stage l.call.old l.call.new e)
rests-nothing_as l e cause (Served.Large granules alignment) other =
    on l (fits_undo l.call.stage cause) (undo_to_get l.call.stage cause e other)

rests-in_vain : (l : Local) (e : is_getting l.call.stage ≡ true) (seen : ℕ) (tries : Tries)
    → Rests l (in_vain l seen tries)
rests-in_vain l e seen Tries.First = on l (is_getting l.call.stage) e
rests-in_vain l e seen Tries.Queue = on l (is_getting l.call.stage) e
rests-in_vain l e seen Tries.Soft = on l (is_sweeping l.call.stage l.call.request Cleanup.Hard)
    (sweeping_to_get l.call.stage l.call.request Cleanup.Hard e)
rests-in_vain l e seen Tries.Hard = rests-nothing_as l e (cause_of l.ask.want seen l.ask.refused) l.call.served
    (other_cause l.ask.want seen l.ask.refused)

rests-softened : (l : Local) (e : is_getting l.call.stage ≡ true) → Rests l (softened l)
rests-softened l e = on l (is_sweeping l.call.stage l.call.request Cleanup.Soft)
    (sweeping_to_get l.call.stage l.call.request Cleanup.Soft e)

-- the piece is cut: no other place is waited at
rests-cut_as : (l : Local) (e : is_getting l.call.stage ≡ true) (at : CutAt) (next : CutNext)
    → Rests l (cut_as l (At.Cut at) next)
rests-cut_as l e at (CutNext.Goes on_) = on l (is_getting l.call.stage) e
rests-cut_as l e at (CutNext.Waits bin) = on l (is_getting l.call.stage) e
rests-cut_as l e at CutNext.Done = rests-asked l e

pub rests-cut_learn_of : (l : Local) (e : is_getting l.call.stage ≡ true) (at : CutAt) (f : ℕ)
    → Rests l (cut_learn_of l at f)
rests-cut_learn_of l e at f = rests-cut_as l e at (cut_learn (cut_call l) at f)

-- a cut that begins waits for nothing
either_cut : (l : Local) (at : At) (b : Bool) (x y : CutNext) → Rests l (cut_as l at x) → Rests l (cut_as l at y)
    → Rests l (cut_as l at (cond b x y))
either_cut l at true x y one other = one
either_cut l at false x y one other = other

rests-last : (l : Local) (e : is_getting l.call.stage ≡ true) (at : At) (c : CutCall)
    → Rests l (cut_as l at (at_last c))
rests-last l e at c = either_cut l at (ltb 0 (back_of c).granules) _ _ (on l (is_getting l.call.stage) e)
    (rests-asked l e)

rests-rests : (l : Local) (e : is_getting l.call.stage ≡ true) (at : At) (c : CutCall)
    → Rests l (cut_as l at (at_rests c))
rests-rests l e at c = either_cut l at (ltb 0 (front_of c).granules) _ _ (on l (is_getting l.call.stage) e)
    (rests-last l e at c)

rests-back : (l : Local) (e : is_getting l.call.stage ≡ true) (at : At) (c : CutCall)
    → Rests l (cut_as l at (at_back c))
rests-back l e at c = either_cut l at (ltb 0 (back_of c).granules) _ _ (on l (is_getting l.call.stage) e)
    (rests-rests l e at c)

rests-begins : (l : Local) (e : is_getting l.call.stage ≡ true) (at : At) (c : CutCall)
    → Rests l (cut_as l at (cut_begins c))
rests-begins l e at c = either_cut l at (ltb 0 (front_of c).granules) _ _ (on l (is_getting l.call.stage) e)
    (rests-back l e at c)

rests-cutting : (l : Local) (e : is_getting l.call.stage ≡ true) (block : Block) → Rests l (cutting l block)
rests-cutting l e block =
    let l' : Local = record l { ask = record l.ask { block = block } } in rests-begins l' e l'.at (cut_call l')

-- the bins are scanned
rests-scanned_as : (l : Local) (e : is_getting l.call.stage ≡ true) (at : ScanAt) (next : ScanNext)
    → Rests l (scanned_as l at next)
rests-scanned_as l e at (ScanNext.Goes next) = on l (is_getting l.call.stage) e
rests-scanned_as l e at ScanNext.WaitsLock = on l (is_getting l.call.stage) e
rests-scanned_as l e at (ScanNext.WaitsHalf bin again) = on l (is_getting l.call.stage) e
rests-scanned_as l e at (ScanNext.Took block) = rests-cutting l e block
rests-scanned_as l e at (ScanNext.Nothing seen) = rests-in_vain l e seen l.ask.tries

pub rests-scan_learn_of : (l : Local) (e : is_getting l.call.stage ≡ true) (at : ScanAt) (f : ℕ)
    → Rests l (scan_learn_of l at f)
rests-scan_learn_of l e at f = rests-scanned_as l e at (scan_learn (scan_call l) at f)

pub rests-queue_as : (l : Local) (e : is_getting l.call.stage ≡ true) (one : Option ℕ) → Rests l (queue_as l one)
rests-queue_as l e None = on l (is_getting l.call.stage) e
rests-queue_as l e (Some block) = on l (is_getting l.call.stage) e

rests-whole_as : (l : Local) (e : is_getting l.call.stage ≡ true) (at : BinAt) (next : BinNext)
    → Rests l (whole_as l at next)
rests-whole_as l e at (BinNext.Goes next) = on l (is_getting l.call.stage) e
rests-whole_as l e at BinNext.Waits = on l (is_getting l.call.stage) e
rests-whole_as l e at BinNext.Done = rests-softened l e

pub rests-whole_learn_of : (l : Local) (e : is_getting l.call.stage ≡ true) (at : BinAt) (f : ℕ)
    → Rests l (whole_learn_of l at f)
rests-whole_learn_of l e at f = rests-whole_as l e at (bin_learn (whole_call l) at f)

-- a region came, or none
rests-no_piece : (l : Local) (e : is_getting l.call.stage ≡ true) (block : Block) → Rests l (no_piece l block)
rests-no_piece l e block = either l (eqb block.granules 0) _ _ (rests-softened l e) (on l (is_getting l.call.stage) e)

rests-obtained : (l : Local) (e : is_getting l.call.stage ≡ true) (block : Block) → Rests l (obtained l block)
rests-obtained l e block =
    either l (block_fits l.ask.want block) _ _ (rests-cutting l e block) (rests-no_piece l e block)

rests-obtained_as : (l : Local) (e : is_getting l.call.stage ≡ true) (end : OfficeEnd) → Rests l (obtained_as l end)
rests-obtained_as l e (OfficeEnd.Obtained one) =
    rests-obtained l e (record { first = one.first; granules = one.granules })
rests-obtained_as l e (OfficeEnd.Refused error) =
    rests-softened (record l { ask = record l.ask { refused = Some error } }) e
rests-obtained_as l e OfficeEnd.Given = rests-softened l e

-- a block is put
abbrev pub Puts : Local → PutFor → Type 0
Puts l why = is_putting l.call.stage l.call.request l.sweep.cleanup why ≡ true

rests-put_done_as : (l : Local) (f : Faces l) (why : PutFor) → Puts l why → Rests l (put_done_as l why)
rests-put_done_as l f PutFor.Surplus e = rests-surplus_left l e f
rests-put_done_as l f PutFor.Released e =
    rests-ticked l f (working_to_end l.call.stage l.call.request e)
rests-put_done_as l f PutFor.Swept e = rests-releasing l f e
rests-put_done_as l f PutFor.Emptied e = rests-emptying l f e
rests-put_done_as l f PutFor.Left e = rests-leaving l e

rests-put_done : (l : Local) (f : Faces l) (e : Puts l l.put) → Rests l (put_done l)
rests-put_done l f e = rests-put_done_as l f l.put e

rests-put_as : (l : Local) (f : Faces l) (e : Puts l l.put) (at : PutAt) (next : PutNext) → Rests l (put_as l at next)
rests-put_as l f e at (PutNext.Goes next) =
    on l (is_putting l.call.stage l.call.request l.sweep.cleanup l.put) e
rests-put_as l f e at (PutNext.Waits bin) =
    on l (is_putting l.call.stage l.call.request l.sweep.cleanup l.put) e
rests-put_as l f e at PutNext.Done = rests-put_done l f e
rests-put_as l f e at (PutNext.Gives block) =
    on l (is_putting l.call.stage l.call.request l.sweep.cleanup l.put) e

pub rests-put_learn_of : (l : Local) (f : Faces l) (e : Puts l l.put) (at : PutAt) (found : ℕ)
    → Rests l (put_learn_of l at found)
rests-put_learn_of l f e at found = rests-put_as l f e at (put_learn (put_call l) at found)

-- the queue is emptied
rests-drained_as : (l : Local) (e : is_getting l.call.stage ≡ true) (at : DrainAt) (next : DrainNext)
    → Rests l (drained_as l (At.Drain at) next)
rests-drained_as l e at (DrainNext.Goes on_) = on l (is_getting l.call.stage) e
rests-drained_as l e at (DrainNext.Waits bin) = on l (is_getting l.call.stage) e
rests-drained_as l e at (DrainNext.Gives block rest) = on l (is_getting l.call.stage) e
rests-drained_as l e at DrainNext.Drained = on l (is_getting l.call.stage) e

pub rests-drain_learn_of : (l : Local) (e : is_getting l.call.stage ≡ true) (at : DrainAt) (f : ℕ)
    → Rests l (drain_learn_of l at f)
rests-drain_learn_of l e at f = rests-drained_as l e at (drain_learn (drain_call l) at f)

rests-drained_on : (l : Local) (e : is_getting l.call.stage ≡ true) (rest : Option ℕ) → Rests l (drained_on l rest)
rests-drained_on l e (Some block) = on l (is_getting l.call.stage) e
rests-drained_on l e None = on l (is_getting l.call.stage) e

pub rests-office_left : (l : Local) (f : Faces l) (job : OfficeFor) (end : OfficeEnd)
    → fits_office l.call.stage l.call.request l.sweep.cleanup l.put job ≡ true → Rests l (office_left l job end)
rests-office_left l f OfficeFor.Ask end e = rests-obtained_as l e end
rests-office_left l f (OfficeFor.Put first) end e = rests-put_done l f e
rests-office_left l f (OfficeFor.Drain first rest) end e = rests-drained_on l e rest

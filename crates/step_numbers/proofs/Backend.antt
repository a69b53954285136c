-- Where a call asks the backend, or puts a block: it comes to grant only where a number is left.
use Rattle.std.proofs.Common.{Bool, cond, eqb, false, refl, true, ℕ, ◌≡◌}
use Rattle.std.specs.Prelude.{None, Option, Some, ltb}
use Rattle.backend_bins.specs.Bin.{bin_learn}
use Rattle.backend_bins.specs.Blocks.{fits, piece_of}
use Rattle.backend_bins.specs.Cut.{at_back, at_last, at_rests, back_of, cut_begins, cut_learn, front_of}
use Rattle.backend_bins.specs.Scan.{scan_learn}
use Rattle.backend_bins.specs.declared.bin.BinAt.{BinAt}
use Rattle.backend_bins.specs.declared.bin.BinNext.{BinNext}
use Rattle.backend_bins.specs.declared.blocks.Block.{Block}
use Rattle.backend_bins.specs.declared.cut.CutAt.{CutAt}
use Rattle.backend_bins.specs.declared.cut.CutCall.{CutCall}
use Rattle.backend_bins.specs.declared.cut.CutNext.{CutNext}
use Rattle.backend_bins.specs.declared.scan.ScanAt.{ScanAt}
use Rattle.backend_bins.specs.declared.scan.ScanNext.{ScanNext}
use Rattle.coalescer.specs.Drain.{drain_learn}
use Rattle.coalescer.specs.Put.{put_learn}
use Rattle.coalescer.specs.declared.drain.DrainAt.{DrainAt}
use Rattle.coalescer.specs.declared.drain.DrainNext.{DrainNext}
use Rattle.coalescer.specs.declared.put.PutAt.{PutAt}
use Rattle.coalescer.specs.declared.put.PutNext.{PutNext}
use Rattle.pool_types.specs.declared.values.NullCause.{NullCause}
use Rattle.pool_words.specs.declared.actions.Seen.{Seen}
use Rattle.region_steps.specs.Office.{office_learn}
use Rattle.region_steps.specs.declared.office.OfficeAt.{OfficeAt}
use Rattle.region_steps.specs.declared.office.OfficeEnd.{OfficeEnd}
use Rattle.region_steps.specs.declared.office.OfficeNext.{OfficeNext}
use Rattle.step_local.specs.Backend.{asked, asked_as, cause_of, cut_as, cut_call, cut_learn_of, cutting, drain_call}
use Rattle.step_local.specs.Backend.{drain_learn_of, drained_as, drained_on, in_vain, no_piece, nothing_as, obtained}
use Rattle.step_local.specs.Backend.{obtained_as, office_as, office_call, office_learn_of, office_left, put_as}
use Rattle.step_local.specs.Backend.{put_done}
use Rattle.step_local.specs.Backend.{put_done_as, put_learn_of, queue_as}
use Rattle.step_local.specs.Backend.{scan_learn_of, scanned_as, whole_as, whole_call, whole_learn_of}
use Rattle.step_local.specs.Leaving.{put_call, scan_call}
use Rattle.step_local.specs.declared.frames.At.{At}
use Rattle.step_local.specs.declared.frames.Local.{Local}
use Rattle.step_local.specs.declared.frames.OfficeFor.{OfficeFor}
use Rattle.step_local.specs.declared.frames.PutFor.{PutFor}
use Rattle.step_local.specs.declared.frames.Served.{Served}
use Rattle.step_local.specs.declared.frames.Tries.{Tries}
use Rattle.step_numbers.specs.Positions.{may_grant_office, may_grant_put, CanGrant, FitsAt}
use Rattle.step_numbers.proofs.Kept.{Fits, either}
use Rattle.step_numbers.proofs.Large.{fits-emptying, fits-releasing, fits-ticked}
use Rattle.step_numbers.proofs.Small.{fits-leaving, fits-surplus_left}

fits-asked_as : (l : Local) (piece : Block) (served : Served) → CanGrant l → Fits l.last (asked_as l piece served)
fits-asked_as l piece (Served.Small class) can = (refl, λ _. can)
fits-asked_as l piece (Served.Large granules alignment) can = (refl, λ _. can)

fits-asked : (l : Local) → CanGrant l → Fits l.last (asked l)
fits-asked l can = fits-asked_as l (piece_of l.ask.want l.ask.block) l.call.served can

fits-nothing_as : (l : Local) (cause : NullCause) (served : Served) → CanGrant l
    → Fits l.last (nothing_as l cause served)
fits-nothing_as l cause (Served.Small class) can = (refl, tt)
fits-nothing_as l cause (Served.Large granules alignment) can = (refl, λ _. can)

fits-in_vain : (l : Local) (seen : ℕ) (tries : Tries) → CanGrant l → Fits l.last (in_vain l seen tries)
fits-in_vain l seen Tries.First can = (refl, λ _. can)
fits-in_vain l seen Tries.Queue can = (refl, λ _. can)
fits-in_vain l seen Tries.Soft can = (refl, λ _. can)
fits-in_vain l seen Tries.Hard can =
    fits-nothing_as l (cause_of l.ask.want seen l.ask.refused) l.call.served can

fits-cut_as : (l : Local) (at : At) (next : CutNext) → FitsAt l at → CanGrant l → Fits l.last (cut_as l at next)
fits-cut_as l at (CutNext.Goes on) still can = (refl, λ _. can)
fits-cut_as l at (CutNext.Waits bin) still can = (refl, still)
fits-cut_as l at CutNext.Done still can = fits-asked l can

-- a cut that begins waits for nothing
either_cut : (l : Local) (at : At) (b : Bool) (x y : CutNext) → Fits l.last (cut_as l at x)
    → Fits l.last (cut_as l at y) → Fits l.last (cut_as l at (cond b x y))
either_cut l at true x y one other = one
either_cut l at false x y one other = other

fits-last : (l : Local) (at : At) (c : CutCall) → CanGrant l → Fits l.last (cut_as l at (at_last c))
fits-last l at c can = either_cut l at (ltb 0 (back_of c).granules) _ _ (refl, λ _. can) (fits-asked l can)

fits-rests : (l : Local) (at : At) (c : CutCall) → CanGrant l → Fits l.last (cut_as l at (at_rests c))
fits-rests l at c can = either_cut l at (ltb 0 (front_of c).granules) _ _ (refl, λ _. can) (fits-last l at c can)

fits-back : (l : Local) (at : At) (c : CutCall) → CanGrant l → Fits l.last (cut_as l at (at_back c))
fits-back l at c can = either_cut l at (ltb 0 (back_of c).granules) _ _ (refl, λ _. can) (fits-rests l at c can)

fits-begins : (l : Local) (at : At) (c : CutCall) → CanGrant l → Fits l.last (cut_as l at (cut_begins c))
fits-begins l at c can = either_cut l at (ltb 0 (front_of c).granules) _ _ (refl, λ _. can) (fits-back l at c can)

fits-cutting : (l : Local) (block : Block) → CanGrant l → Fits l.last (cutting l block)
fits-cutting l block can =
    let l' : Local = record l { ask = record l.ask { block = block } } in fits-begins l' l'.at (cut_call l') can

pub fits-cut_learn_of : (l : Local) (at : CutAt) (f : ℕ) → CanGrant l → Fits l.last (cut_learn_of l at f)
fits-cut_learn_of l at f can = fits-cut_as l (At.Cut at) (cut_learn (cut_call l) at f) (λ _. can) can

fits-scanned_as : (l : Local) (at : ScanAt) (next : ScanNext) → CanGrant l → Fits l.last (scanned_as l at next)
fits-scanned_as l at (ScanNext.Goes next) can = (refl, λ _. can)
fits-scanned_as l at ScanNext.WaitsLock can = (refl, λ _. can)
fits-scanned_as l at (ScanNext.WaitsHalf bin again) can = (refl, λ _. can)
fits-scanned_as l at (ScanNext.Took block) can = fits-cutting l block can
fits-scanned_as l at (ScanNext.Nothing seen) can = fits-in_vain l seen l.ask.tries can

pub fits-scan_learn_of : (l : Local) (at : ScanAt) (f : ℕ) → CanGrant l → Fits l.last (scan_learn_of l at f)
fits-scan_learn_of l at f can = fits-scanned_as l at (scan_learn (scan_call l) at f) can

pub fits-queue_as : (l : Local) (one : Option ℕ) → CanGrant l → Fits l.last (queue_as l one)
fits-queue_as l None can = (refl, λ _. can)
fits-queue_as l (Some block) can = (refl, λ _. can)

fits-whole_as : (l : Local) (at : BinAt) (next : BinNext) → CanGrant l → Fits l.last (whole_as l at next)
fits-whole_as l at (BinNext.Goes next) can = (refl, λ _. can)
fits-whole_as l at BinNext.Waits can = (refl, λ _. can)
fits-whole_as l at BinNext.Done can = (refl, λ _. can)

pub fits-whole_learn_of : (l : Local) (at : BinAt) (f : ℕ) → CanGrant l → Fits l.last (whole_learn_of l at f)
fits-whole_learn_of l at f can = fits-whole_as l at (bin_learn (whole_call l) at f) can

fits-no_piece : (l : Local) (block : Block) → CanGrant l → Fits l.last (no_piece l block)
fits-no_piece l block can = either (eqb block.granules 0) _ _ (refl, λ _. can) (refl, λ _. can)

fits-obtained : (l : Local) (block : Block) → CanGrant l → Fits l.last (obtained l block)
fits-obtained l block can =
    either (fits l.ask.want block) _ _ (fits-cutting l block can) (fits-no_piece l block can)

fits-obtained_as : (l : Local) (end : OfficeEnd) → CanGrant l → Fits l.last (obtained_as l end)
fits-obtained_as l (OfficeEnd.Obtained one) can =
    fits-obtained l (record { first = one.first; granules = one.granules }) can
fits-obtained_as l (OfficeEnd.Refused error) can = (refl, λ _. can)
fits-obtained_as l OfficeEnd.Given can = (refl, λ _. can)

abbrev PutFits : Local → PutFor → Type 0
PutFits l why = may_grant_put l why ≡ true → CanGrant l

fits-put_done_as : (l : Local) (why : PutFor) → PutFits l why → Fits l.last (put_done_as l why)
fits-put_done_as l PutFor.Surplus put = fits-surplus_left l put
fits-put_done_as l PutFor.Released put = fits-ticked l put
fits-put_done_as l PutFor.Swept put = fits-releasing l put
fits-put_done_as l PutFor.Emptied put = fits-emptying l (put refl)
fits-put_done_as l PutFor.Left put = fits-leaving l put

fits-put_done : (l : Local) → PutFits l l.put → Fits l.last (put_done l)
fits-put_done l put = fits-put_done_as l l.put put

fits-put_as : (l : Local) (at : PutAt) (next : PutNext) → PutFits l l.put → Fits l.last (put_as l at next)
fits-put_as l at (PutNext.Goes next) put = (refl, put)
fits-put_as l at (PutNext.Waits bin) put = (refl, put)
fits-put_as l at PutNext.Done put = fits-put_done l put
fits-put_as l at (PutNext.Gives block) put = (refl, put)

pub fits-put_learn_of : (l : Local) (at : PutAt) (f : ℕ) → PutFits l l.put → Fits l.last (put_learn_of l at f)
fits-put_learn_of l at f put = fits-put_as l at (put_learn (put_call l) at f) put

fits-drained_as : (l : Local) (at : At) (next : DrainNext) → FitsAt l at → CanGrant l
    → Fits l.last (drained_as l at next)
fits-drained_as l at (DrainNext.Goes on) still can = (refl, λ _. can)
fits-drained_as l at (DrainNext.Waits bin) still can = (refl, still)
fits-drained_as l at (DrainNext.Gives block rest) still can = (refl, λ _. can)
fits-drained_as l at DrainNext.Drained still can = (refl, λ _. can)

pub fits-drain_learn_of : (l : Local) (at : DrainAt) (f : ℕ) → CanGrant l → Fits l.last (drain_learn_of l at f)
fits-drain_learn_of l at f can =
    fits-drained_as l (At.Drain at) (drain_learn (drain_call l) at f) (λ _. can) can

fits-drained_on : (l : Local) (rest : Option ℕ) → CanGrant l → Fits l.last (drained_on l rest)
fits-drained_on l (Some block) can = (refl, λ _. can)
fits-drained_on l None can = (refl, λ _. can)

abbrev OfficeFits : Local → OfficeFor → Type 0
OfficeFits l job = may_grant_office l job ≡ true → CanGrant l

fits-office_left : (l : Local) (job : OfficeFor) (end : OfficeEnd) → OfficeFits l job
    → Fits l.last (office_left l job end)
fits-office_left l OfficeFor.Ask end can = fits-obtained_as l end (can refl)
fits-office_left l (OfficeFor.Put first) end can = fits-put_done l can
fits-office_left l (OfficeFor.Drain first rest) end can = fits-drained_on l rest (can refl)

fits-office_as : (l : Local) (job : OfficeFor) (at : OfficeAt) (next : OfficeNext) → OfficeFits l job
    → Fits l.last (office_as l job at next)
fits-office_as l OfficeFor.Ask at (OfficeNext.Goes next) can = (refl, can)
fits-office_as l OfficeFor.Ask at OfficeNext.Waits can = (refl, can)
fits-office_as l (OfficeFor.Put first) at (OfficeNext.Goes next) can = (refl, can)
fits-office_as l (OfficeFor.Put first) at OfficeNext.Waits can = (refl, can)
fits-office_as l (OfficeFor.Drain first rest) at (OfficeNext.Goes next) can = (refl, can)
fits-office_as l (OfficeFor.Drain first rest) at OfficeNext.Waits can = (refl, can)
fits-office_as l job at (OfficeNext.Left end) can = fits-office_left l job end can

pub fits-office_learn_of : (l : Local) (job : OfficeFor) (at : OfficeAt) (s : Seen) → OfficeFits l job
    → Fits l.last (office_learn_of l job at s)
fits-office_learn_of l job at s can = fits-office_as l job at (office_learn (office_call l job) at s) can

-- What is in hand where a call asks the backend, puts a block, or is at the office.
use Rattle.std.proofs.Common.{◌≡◌, ◌+◌, ◌<◌, ℕ, Bool, true, false, cond, List, [], ◌∷◌, ◌++◌, eqb, leb, refl, sym}
use Rattle.std.proofs.Common.{ap, arith}
use Rattle.std.specs.Prelude.{None, Option, Some}
use Rattle.std.proofs.lemmas.Bool.Decides.{nat_tests}
use Rattle.std.proofs.lemmas.List.{append-nil}
use Rattle.pool_types.specs.Sums.{capped}
use Rattle.pool_types.specs.declared.values.NullCause.{NullCause}
use Rattle.guards.specs.declared.win.Taking.{Taking}
use Rattle.word_codes.specs.QueueLinks.{queue_link_of}
use Rattle.word_codes.specs.Links.{link_of}
use Rattle.backend_bins.specs.Bin.{bin_learn}
use Rattle.backend_bins.specs.Blocks.{block, first_skipped, fits}
use Rattle.backend_bins.specs.declared.bin.BinAt.{BinAt}
use Rattle.backend_bins.specs.declared.bin.BinNext.{BinNext}
use Rattle.backend_bins.specs.declared.blocks.Block.{Block}
use Rattle.backend_bins.specs.declared.scan.ScanAt.{ScanAt}
use Rattle.backend_bins.specs.declared.scan.ScanNext.{ScanNext}
use Rattle.backend_bins.specs.Scan.{scan_learn}
use Rattle.coalescer.specs.Drain.{goes_on, put_call as drained_put, put_goes}
use Rattle.coalescer.specs.Put.{put_learn}
use Rattle.coalescer.specs.declared.drain.DrainAt.{DrainAt}
use Rattle.coalescer.specs.declared.put.PutAt.{PutAt}
use Rattle.coalescer.specs.declared.put.PutNext.{PutNext}
use Rattle.region_steps.specs.declared.office.OfficeEnd.{OfficeEnd}
use Rattle.step_local.specs.Backend.{cause_of, cutting, drain_call, drain_learn_of, drained_as, in_vain, no_piece}
use Rattle.step_local.specs.Backend.{nothing_as, obtained, obtained_as}
use Rattle.step_local.specs.Large.{releasing}
use Rattle.step_local.specs.Backend.{put_as, put_done, put_done_as, put_learn_of, queue_as, scan_learn_of}
use Rattle.step_local.specs.Backend.{scanned_as, softened}
use Rattle.step_local.specs.Backend.{whole_as, whole_call, whole_learn_of}
use Rattle.step_local.specs.Answers.{gone}
use Rattle.step_local.specs.Leaving.{put_call, scan_call}
use Rattle.step_local.specs.declared.frames.At.{At}
use Rattle.step_local.specs.declared.frames.Local.{Local}
use Rattle.step_local.specs.declared.frames.PutFor.{PutFor}
use Rattle.step_local.specs.declared.frames.Served.{Served}
use Rattle.step_local.specs.declared.frames.Tries.{Tries}
use Rattle.hand_blocks.specs.Changes.{Change, HandsLead, bin_changes, drain_changes}
use Rattle.hand_blocks.specs.Changes.{put_changes, scan_changes}
use Rattle.hand_blocks.specs.Fits.{AllLie, AskFits, DrainFits, DrainWinsFit, JoinFits}
use Rattle.hand_blocks.specs.Fits.{Lies, PutForFits, ScanFits, WinsFit}
use Rattle.hand_blocks.specs.Hands.{AllHands, Hand, beside_put, bin_hands, drain_hands, end_hands, hand}
use Rattle.hand_blocks.specs.Hands.{put_hands, released_hands, returning, scan_hands, swept_hands, using}
use Rattle.hand_blocks.proofs.Cuts.{asks_some, lands-cutting}
use Rattle.hand_blocks.proofs.Lands.{LandsOn, TurnedOn, lands_as, stays, turns}
use Rattle.hand_blocks.proofs.Large.{lands-emptying, lands-releasing, lands-ticked_on}
use Rattle.hand_blocks.proofs.Lists.{comes, leads_behind, rest_of_all}
use Rattle.hand_blocks.proofs.Puts.{PutTurned, bin_insert, bin_next_hands, put_turn}
use Rattle.hand_blocks.proofs.Scans.{ScanTurned, scan_turn}
use Rattle.hand_blocks.proofs.Small.{lands-leaving, lands-scanning, lands-surplus_left}

lands-nothing_as : (l : Local) (cause : NullCause) (served : Served) → LandsOn (nothing_as l cause served) []
lands-nothing_as l cause (Served.Small class) = record { has = refl; fits = tt }
lands-nothing_as l cause (Served.Large granules alignment) = record { has = refl; fits = tt }

lands-in_vain : (l : Local) (seen : ℕ) (tries : Tries) → AskFits l → LandsOn (in_vain l seen tries) []
lands-in_vain l seen Tries.First asks = record { has = refl; fits = asks }
lands-in_vain l seen Tries.Queue asks = record { has = refl; fits = (asks, tt) }
lands-in_vain l seen Tries.Soft asks = record { has = refl; fits = asks }
lands-in_vain l seen Tries.Hard asks = lands-nothing_as l (cause_of l.ask.want seen l.ask.refused) l.call.served

pub lands-softened : (l : Local) → AskFits l → LandsOn (softened l) []
lands-softened l asks = record { has = refl; fits = asks }

pub lands-queue_as : (l : Local) (one : Option ℕ) → AskFits l → LandsOn (queue_as l one) []
lands-queue_as l None asks = record { has = refl; fits = (asks, tt) }
lands-queue_as l (Some first) asks = record { has = refl; fits = (asks, tt) }

-- a scan that took a block cuts it
scan_as : (l : Local) (at : ScanAt) (changes : List Change) (before : List Hand) (next : ScanNext) → AskFits l
    → ScanFits l.ask.want at.step → ScanTurned l.ask.want at changes before next
    → TurnedOn changes before (scanned_as l at next)
scan_as l at changes before (ScanNext.Goes next) asks here is = record { fits = (asks, is.fits); leads = is.leads }
scan_as l at changes before ScanNext.WaitsLock asks here is = record { fits = (asks, here); leads = is.leads }
scan_as l at changes before (ScanNext.WaitsHalf bin again) asks here is =
    record { fits = (asks, is.fits); leads = is.leads }
scan_as l at changes before (ScanNext.Took b) asks here is =
    turns changes before (using b ∷ []) (cutting l b).0 is.leads (lands-cutting l b asks is.fits.0 is.fits.1)
scan_as l at changes before (ScanNext.Nothing seen) asks here is =
    turns changes before [] (in_vain l seen l.ask.tries).0 is.leads (lands-in_vain l seen l.ask.tries asks)

pub scan_turned : (l : Local) (at : ScanAt) (found : ℕ) → AskFits l → ScanFits l.ask.want at.step
    → AllLie (scan_hands at) → TurnedOn (scan_changes at.step found) (scan_hands at) (scan_learn_of l at found)
scan_turned l at found asks here lie = scan_as l at (scan_changes at.step found) (scan_hands at)
    (scan_learn (scan_call l) at found) asks here (scan_turn (scan_call l) at found here lie)

-- a region without a piece that fits goes into its bin
whole_turn : (l : Local) (at : BinAt) (next : BinNext) → AskFits l
    → HandsLead (bin_changes (using l.ask.block) at) (bin_hands (using l.ask.block) at)
    (bin_next_hands (using l.ask.block) at next)
    → TurnedOn (bin_changes (using l.ask.block) at) (bin_hands (using l.ask.block) at) (whole_as l at next)
whole_turn l at (BinNext.Goes to) asks leads = record { fits = asks; leads = leads }
whole_turn l at BinNext.Waits asks leads = record { fits = asks; leads = leads }
whole_turn l at BinNext.Done asks leads = turns (bin_changes (using l.ask.block) at)
    (bin_hands (using l.ask.block) at)
    [] (softened l).0 leads (lands-softened l asks)

pub whole_turned : (l : Local) (at : BinAt) (found : ℕ) → AskFits l
    → TurnedOn (bin_changes (using l.ask.block) at) (bin_hands (using l.ask.block) at) (whole_learn_of l at found)
whole_turned l at found asks = whole_turn l at (bin_learn (whole_call l) at found) asks
    (bin_insert (whole_call l) (using l.ask.block) at found refl)

-- a region that came is cut, or goes into its bin; one without a granule is nothing
none_fits : (w b : ℕ) (n : ℕ) → 0 < w → leb (capped (b + w)) n ≡ true → eqb n 0 ≡ true → ⊥
none_fits w b n some fits none = grind (arith, nat_tests)

lands-no_piece : (l : Local) (b : Block) → AskFits l
    → LandsOn (no_piece l b) (cond (eqb b.granules 0) [] (using b ∷ []))
lands-no_piece l b asks = by (eqb b.granules 0)
  where
    by : (test : Bool) → LandsOn (cond test (softened l)
        (gone (record l { ask = record l.ask { block = b } }) (At.Whole BinAt.Lock))) (cond test [] (using b ∷ []))
    by true = lands-softened l asks
    by false = record { has = refl; fits = asks }

lands-obtained : (l : Local) (b : Block) → AskFits l → AllLie (cond (eqb b.granules 0) [] (using b ∷ []))
    → LandsOn (obtained l b) (cond (eqb b.granules 0) [] (using b ∷ []))
lands-obtained l b asks lie = by (fits l.ask.want b) refl
  where
    cuts : (none : Bool) → eqb b.granules 0 ≡ none → fits l.ask.want b ≡ true → AllLie (cond none [] (using b ∷ []))
        → LandsOn (cutting l b) (cond none [] (using b ∷ []))
    cuts true is has lie = absurd (none_fits l.ask.want.granules (first_skipped l.ask.want b.first) b.granules
        (asks_some l asks) has is)
    cuts false is has lie = lands-cutting l b asks has lie.0.1

    by : (test : Bool) → fits l.ask.want b ≡ test
        → LandsOn (cond test (cutting l b) (no_piece l b)) (cond (eqb b.granules 0) [] (using b ∷ []))
    by true is = cuts (eqb b.granules 0) refl is lie
    by false is = lands-no_piece l b asks

pub lands-obtained_as : (l : Local) (end : OfficeEnd) → AskFits l → AllLie (end_hands end)
    → LandsOn (obtained_as l end) (end_hands end)
lands-obtained_as l (OfficeEnd.Obtained one) asks lie = lands-obtained l (block one.first one.granules) asks lie
lands-obtained_as l (OfficeEnd.Refused error) asks lie =
    lands-softened (record l { ask = record l.ask { refused = Some error } }) asks
lands-obtained_as l OfficeEnd.Given asks lie = lands-softened l asks

-- a block was put, or its region given back: what is beside it stays
lands-put_done_as : (l : Local) (why : PutFor) → PutForFits l why → LandsOn (put_done_as l why) (beside_put l why [])
lands-put_done_as l PutFor.Surplus fits = lands-surplus_left l
lands-put_done_as l PutFor.Released fits = lands-ticked_on l fits
lands-put_done_as l PutFor.Swept fits = lands_as (releasing l).0
    (swept_hands l ++ released_hands l.sweep.granules l.released.items) (beside_put l PutFor.Swept [])
    (ap (λ hands. swept_hands l ++ hands) (sym (append-nil (released_hands l.sweep.granules l.released.items))))
    (lands-releasing l fits)
lands-put_done_as l PutFor.Emptied fits = lands-emptying l fits
lands-put_done_as l PutFor.Left fits = lands-leaving l fits

pub lands-put_done : (l : Local) → PutForFits l l.put → LandsOn (put_done l) (beside_put l l.put [])
lands-put_done l fits = lands-put_done_as l l.put fits

pub leads_beside : (l : Local) (why : PutFor) (changes : List Change) (before after : List Hand)
    → HandsLead changes before after
    → HandsLead changes (beside_put l why before) (beside_put l why after)
leads_beside l PutFor.Swept changes before after leads = leads_behind (swept_hands l) changes
    (released_hands l.sweep.granules l.released.items ++ before)
    (released_hands l.sweep.granules l.released.items ++ after)
    (leads_behind (released_hands l.sweep.granules l.released.items) changes before after leads)
leads_beside l PutFor.Surplus changes before after leads = leads
leads_beside l PutFor.Released changes before after leads = leads
leads_beside l PutFor.Emptied changes before after leads = leads
leads_beside l PutFor.Left changes before after leads = leads

put_as_turn : (l : Local) (at : PutAt) (changes : List Change) (before : List Hand) (next : PutNext)
    → PutForFits l l.put → JoinFits at at.step → PutTurned changes before at next
    → TurnedOn changes (beside_put l l.put before) (put_as l at next)
put_as_turn l at changes before (PutNext.Goes to) fits join is = record {
  fits = (fits, is.fits);
  leads = leads_beside l l.put changes before (put_hands to) is.leads;
}
put_as_turn l at changes before (PutNext.Waits bin) fits join is = record {
  fits = (fits, join);
  leads = leads_beside l l.put changes before (put_hands at) is.leads;
}
put_as_turn l at changes before PutNext.Done fits join is = turns changes (beside_put l l.put before)
    (beside_put l l.put []) (put_done l).0 (leads_beside l l.put changes before [] is.leads) (lands-put_done l fits)
put_as_turn l at changes before (PutNext.Gives b) fits join is = record {
  fits = (fits, tt);
  leads = leads_beside l l.put changes before (returning b.first ∷ []) is.leads;
}

-- a fact of all that is in hand is one of what a put has
pub all_beside : (IsSuch : Hand → Type 0) (l : Local) (why : PutFor) (hands : List Hand)
    → AllHands IsSuch (beside_put l why hands) → AllHands IsSuch hands
all_beside IsSuch l PutFor.Swept hands is =
    rest_of_all IsSuch (released_hands l.sweep.granules l.released.items) hands
    (rest_of_all IsSuch (swept_hands l) (released_hands l.sweep.granules l.released.items ++ hands) is)
all_beside IsSuch l PutFor.Surplus hands is = is
all_beside IsSuch l PutFor.Released hands is = is
all_beside IsSuch l PutFor.Emptied hands is = is
all_beside IsSuch l PutFor.Left hands is = is

pub put_turned : (l : Local) (at : PutAt) (found : ℕ) → PutForFits l l.put → JoinFits at at.step → WinsFit at at.step
    → AllLie (beside_put l l.put (put_hands at))
    → TurnedOn (put_changes (put_call l) at found) (beside_put l l.put (put_hands at)) (put_learn_of l at found)
put_turned l at found fits join wins lie = put_as_turn l at (put_changes (put_call l) at found) (put_hands at)
    (put_learn (put_call l) at found) fits join
    (put_turn (put_call l) at found join wins (all_beside Lies l l.put (put_hands at) lie))

-- a drain reads the queue's blocks, one by one
pub lands-drained_on : (l : Local) (at : At) (rest : Option ℕ) → AskFits l
    → LandsOn (drained_as l at (goes_on rest)) []
lands-drained_on l at (Some first) asks = record { has = refl; fits = (asks, tt) }
lands-drained_on l at None asks = lands-scanning l asks

drain_put_turn : (l : Local) (rest : Option ℕ) (at : PutAt) (changes : List Change) (before : List Hand)
    (next : PutNext)
    → AskFits l → JoinFits at at.step → PutTurned changes before at next
    → TurnedOn changes before (drained_as l (At.Drain (DrainAt.Put rest at)) (put_goes rest next))
drain_put_turn l rest at changes before (PutNext.Goes to) asks join is =
    record { fits = (asks, is.fits); leads = is.leads }
drain_put_turn l rest at changes before (PutNext.Waits bin) asks join is =
    record { fits = (asks, join); leads = is.leads }
drain_put_turn l rest at changes before PutNext.Done asks join is = turns changes before []
    (drained_as l (At.Drain (DrainAt.Put rest at)) (goes_on rest)).0 is.leads
    (lands-drained_on l (At.Drain (DrainAt.Put rest at)) rest asks)
drain_put_turn l rest at changes before (PutNext.Gives b) asks join is =
    record { fits = (asks, tt); leads = is.leads }

pub drain_turned : (l : Local) (at : DrainAt) (found : ℕ) → AskFits l → DrainFits at → DrainWinsFit at
    → AllLie (drain_hands at)
    → TurnedOn (drain_changes (drain_call l) at found) (drain_hands at) (drain_learn_of l at found)
drain_turned l DrainAt.Swap found asks fits wins lie =
    stays [] (drained_as l (At.Drain DrainAt.Swap) (goes_on (link_of found))).0
    (lands-drained_on l (At.Drain DrainAt.Swap) (link_of found) asks)
drain_turned l (DrainAt.Link first) found asks fits wins lie = record {
  fits = (asks, tt);
  leads = comes (hand first (queue_link_of found).granules Taking.ToJoin);
}
drain_turned l (DrainAt.Put rest at) found asks fits wins lie = drain_put_turn l rest at
    (put_changes (drained_put (drain_call l)) at found) (put_hands at)
    (put_learn (drained_put (drain_call l)) at found)
    asks fits (put_turn (drained_put (drain_call l)) at found fits wins lie)

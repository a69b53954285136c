-- What a turn wins next is one block.
use Rattle.std.proofs.Common.{◌≡◌, ℕ, List, refl, sym, subst}
use Rattle.pool_words.specs.declared.words.Key.{Key}
use Rattle.backend_bins.specs.declared.bin.BinAt.{BinAt}
use Rattle.backend_bins.specs.declared.bin.BinNext.{BinNext}
use Rattle.backend_bins.specs.declared.blocks.Block.{Block}
use Rattle.backend_bins.specs.declared.cut.CutAt.{CutAt}
use Rattle.backend_bins.specs.declared.cut.CutCall.{CutCall}
use Rattle.backend_bins.specs.declared.cut.CutNext.{CutNext}
use Rattle.backend_bins.specs.declared.scan.ScanAt.{ScanAt}
use Rattle.backend_bins.specs.declared.scan.ScanNext.{ScanNext}
use Rattle.backend_bins.specs.declared.scan.ScanStep.{ScanStep}
use Rattle.backend_bins.specs.Bin.{bin_learn}
use Rattle.backend_bins.specs.Cut.{cut_learn}
use Rattle.backend_bins.specs.Scan.{scan_course, scan_learn}
use Rattle.coalescer.specs.declared.drain.DrainNext.{DrainNext}
use Rattle.coalescer.specs.declared.put.PutAt.{PutAt}
use Rattle.coalescer.specs.declared.put.PutNext.{PutNext}
use Rattle.coalescer.specs.Drain.{drain_course, drain_learn, goes_on}
use Rattle.coalescer.specs.Put.{put_course, put_learn}
use Rattle.region_steps.specs.declared.office.OfficeAt.{OfficeAt}
use Rattle.region_steps.specs.declared.office.OfficeEnd.{OfficeEnd}
use Rattle.region_steps.specs.declared.office.OfficeNext.{OfficeNext}
use Rattle.region_steps.specs.Office.{office_learn}
use Rattle.word_laws.specs.Memory.{found}
use Rattle.guard_laws.specs.Blocks.{TaskFits}
use Rattle.backend_tasks.specs.Bins.{bin_task_of}
use Rattle.backend_tasks.specs.Guards.{bin_guard, cut_guard, guard_task_at, guard_task_of, put_guard, scan_guard}
use Rattle.backend_tasks.proofs.CallerLemmas.{bare-asked, bare-cutting, bare-in_vain, bare-obtained_as, bare-put_done}
use Rattle.backend_tasks.proofs.CallerLemmas.{other_turn}
use Rattle.step_local.specs.declared.frames.At.{At}
use Rattle.step_local.specs.declared.frames.Local.{Local}
use Rattle.step_local.specs.declared.frames.OfficeFor.{OfficeFor}
use Rattle.step_local.specs.declared.frames.Stage.{Stage}
use Rattle.step_local.specs.Backend.{asked, cut_as, cut_call, cutting, drain_call, drained_as, in_vain, obtained_as}
use Rattle.step_local.specs.Backend.{office_as, office_call, office_left, put_as, put_done, scanned_as}
use Rattle.step_local.specs.Backend.{whole_as, whole_call}
use Rattle.step_local.specs.Course.{course_at}
use Rattle.step_local.specs.Learn.{learn_at}
use Rattle.step_local.specs.Leaving.{put_call, scan_call}
use Rattle.step_runs.specs.Entries.{seen_by}
use Rattle.heap_tasks.specs.Stages.{IsResetting, StageFits, StageFitsAt}
use Rattle.pool_laws.specs.Wholes.{Whole, WholeGood}
use Rattle.seat_ties.specs.Says.{WordsSay}
use Rattle.seat_ties.specs.Laws.{LooksAt}
use Rattle.seat_ties.specs.Ties.{SeatTied}
use Rattle.seat_ties.specs.Turns.{IsNoReset, NoReset, next_in}
use Rattle.seat_ties.proofs.CallerLemmas.{bare_says_nothing, scans_say_on}
use Rattle.turn_suits.proofs.PutWins.{DrainFits, drain_next_fits, goes_on_fits, put_next_fits, told}
use Rattle.turn_suits.proofs.PutWins as puts
use Rattle.turn_suits.proofs.ScanWins.{NextSays, scan_next_fits}
use Rattle.turn_suits.proofs.ScanWins as scans

-- what the next position wins
abbrev pub WinsNext : Local → Type 0
WinsNext l = TaskFits (guard_task_of l)

bin_fits : (b : Block) (at : BinAt) → TaskFits (bin_guard b at)
bin_fits b BinAt.Left = tt
bin_fits b _ = tt

cut_at_fits : (c : CutCall) (at : CutAt) → TaskFits (cut_guard c at)
cut_at_fits c (CutAt.Front at) = bin_fits _ at
cut_at_fits c (CutAt.Back at) = bin_fits _ at
cut_at_fits c _ = tt

cut_fits : (w : Whole) (l : Local) (at : CutAt) (next : CutNext) → WinsNext (cut_as l (At.Cut at) next).0
cut_fits w l at (CutNext.Goes next) = cut_at_fits (cut_call l) next
cut_fits w l at (CutNext.Waits bin) = cut_at_fits (cut_call l) at
cut_fits w l at CutNext.Done = (bare_says_nothing w l.seat (asked l).0 (bare-asked l)).wins

whole_fits : (l : Local) (at : BinAt) (next : BinNext) → WinsNext (whole_as l at next).0
whole_fits l at (BinNext.Goes next) = bin_fits l.ask.block next
whole_fits l at BinNext.Waits = bin_fits l.ask.block at
whole_fits l at BinNext.Done = tt

put_fits : (w : Whole) (l : Local) (at : PutAt) (next : PutNext) → TaskFits (put_guard at at.step)
    → puts.NextFits next → WinsNext (put_as l at next).0
put_fits w l at (PutNext.Goes next) now fits = fits
put_fits w l at (PutNext.Waits bin) now fits = now
put_fits w l at PutNext.Done now fits = (bare_says_nothing w l.seat (put_done l).0 (bare-put_done l)).wins
put_fits w l at (PutNext.Gives b) now fits = tt

drain_fits : (l : Local) (at : At) (next : DrainNext) → WinsNext (record l { at = at }) → DrainFits next
    → WinsNext (drained_as l at next).0
drain_fits l at (DrainNext.Goes next) now fits = fits
drain_fits l at (DrainNext.Waits bin) now fits = now
drain_fits l at (DrainNext.Gives b rest) now fits = tt
drain_fits l at DrainNext.Drained now fits = tt

office_left_fits : (w : Whole) (l : Local) (job : OfficeFor) (end : OfficeEnd) → TaskFits (guard_task_of l)
    → WinsNext (office_left l job end).0
office_left_fits w l OfficeFor.Ask end now =
    (bare_says_nothing w l.seat (obtained_as l end).0 (bare-obtained_as l end)).wins
office_left_fits w l (OfficeFor.Put first) end now =
    (bare_says_nothing w l.seat (put_done l).0 (bare-put_done l)).wins
office_left_fits w l (OfficeFor.Drain first rest) end now = drain_fits l l.at (goes_on rest) now (goes_on_fits rest)

office_fits : (w : Whole) (l : Local) (job : OfficeFor) (at : OfficeAt) (next : OfficeNext)
    → TaskFits (guard_task_of l) → WinsNext (office_as l job at next).0
office_fits w l job at (OfficeNext.Goes next) now = tt
office_fits w l job at OfficeNext.Waits now = tt
office_fits w l job at (OfficeNext.Left end) now = office_left_fits w l job end now

scan_says : (w : Whole) (l : Local) (s : ScanAt) (next : ScanNext) → WordsSay w l.seat (scanned_as l s next).0
    → NextSays w.items next
scan_says w l s (ScanNext.Goes next) says = says
scan_says w l s _ says = tt

scan_fits : (w : Whole) (l : Local) (s : ScanAt) (next : ScanNext) → scans.NextFits (TaskFits (scan_guard s.step)) next
    → WinsNext (scanned_as l s next).0
scan_fits w l s (ScanNext.Goes next) fits = fits
scan_fits w l s ScanNext.WaitsLock fits = fits
scan_fits w l s (ScanNext.WaitsHalf bin again) fits = fits
scan_fits w l s (ScanNext.Took b) fits = (bare_says_nothing w l.seat (cutting l b).0 (bare-cutting l b)).wins
scan_fits w l s (ScanNext.Nothing seen) fits =
    (bare_says_nothing w l.seat (in_vain l seen l.ask.tries).0 (bare-in_vain l seen l.ask.tries)).wins

same_lists : (items : ℕ → List ℕ) (step : ScanStep) → LooksAt items items step
same_lists items (ScanStep.Out b at) = tt
same_lists items _ = refl

no_reset : (stage : Stage) → NoReset stage → IsResetting stage → ⊥
no_reset (Stage.Resetting stage) none is = none
no_reset _ none is = is

-- what the next position says where a scan goes on
says_next : (k : Key) (w : Whole) (l : Local) (s : ScanAt) → WholeGood k w → w.bins l.seat ≡ bin_task_of l
    → l.at ≡ At.Scan s → WordsSay w l.seat l
    → WordsSay w l.seat (scanned_as l s (scan_learn (scan_call l) s (told w (scan_course (scan_call l) s)))).0
says_next k w l s good bins is words = subst (λ at. WordsSay w l.seat
    (learn_at l at (seen_by (course_at l at) (found w.pool.mem (course_at l at)))).0) is
    (scans_say_on k w w l s good bins is words (same_lists w.items s.step))

-- the turn of a seat that is tied
module _ (k : Key) (w : Whole) (l : Local) (good : WholeGood k w) (bins : w.bins l.seat ≡ bin_task_of l)
    (words : WordsSay w l.seat l) (none : NoReset l.call.stage) (stage : StageFits l) where
  wins_at : (at : At) → l.at ≡ at → TaskFits (guard_task_at l at)
      → WinsNext (learn_at l at (seen_by (course_at l at) (found w.pool.mem (course_at l at)))).0
  wins_at At.Idle is now = subst (λ at. TaskFits (guard_task_at l at)) (sym is) tt
  wins_at (At.Scan at) is now = scan_fits w l at (scan_learn (scan_call l) at (told w (scan_course (scan_call l) at)))
      (scan_next_fits k w (scan_call l) at at.step good now (scan_says w l at
      (scan_learn (scan_call l) at (told w (scan_course (scan_call l) at)))
      (says_next k w l at good bins is words)))
  wins_at (At.Cut at) is now = cut_fits w l at (cut_learn (cut_call l) at (told w (course_at l (At.Cut at))))
  wins_at (At.Whole at) is now = whole_fits l at (bin_learn (whole_call l) at (told w (course_at l (At.Whole at))))
  wins_at (At.Drain at) is now =
      drain_fits l (At.Drain at) (drain_learn (drain_call l) at (told w (drain_course (drain_call l) at))) now
      (drain_next_fits k w (drain_call l) at good now)
  wins_at (At.Put at) is now = put_fits w l at (put_learn (put_call l) at (told w (put_course (put_call l) at))) now
      (put_next_fits k w (put_call l) at at.step good now)
  wins_at (At.Office job at) is now = office_fits w l job at
      (office_learn (office_call l job) at (seen_by (course_at l (At.Office job at))
      (found w.pool.mem (course_at l (At.Office job at))))) (subst (λ at. TaskFits (guard_task_at l at)) (sym is) now)
  wins_at (At.Reset at) is now = absurd (no_reset l.call.stage none
      (subst (λ at. StageFitsAt at l.put l.sweep.cleanup l.call.stage) is stage))
  wins_at at is now = let s = seen_by (course_at l at) (found w.pool.mem (course_at l at)) in
      (bare_says_nothing w l.seat (learn_at l at s).0 (other_turn l at s refl)).wins

pub wins_next : (k : Key) (w : Whole) (l : Local) → WholeGood k w → SeatTied k w l.seat l → IsNoReset l
    → WinsNext (next_in w l)
wins_next k w l good tied none = wins_at k w l good tied.tasks.bins tied.words none tied.says.stage l.at refl
    (subst TaskFits tied.tasks.guards (good.free.pool.guards.calls l.seat))

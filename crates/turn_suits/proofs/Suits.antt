-- All that a turn rests on is so of a seat that is tied.
use Rattle.std.proofs.Common.{refl, subst}
use Rattle.pool_words.specs.Words.{sizes}
use Rattle.pool_words.specs.declared.words.Key.{Key}
use Rattle.word_codes.specs.Guards.{guard_of}
use Rattle.backend_bins.specs.declared.scan.ScanAt.{ScanAt}
use Rattle.backend_bins.specs.declared.scan.ScanStep.{ScanStep}
use Rattle.guard_laws.specs.Blocks.{TaskFits}
use Rattle.backend_tasks.specs.Fits.{FindsAt, ScanFinds}
use Rattle.cache_tasks.proofs.CallerLemmas.{good_sweeps_have_room}
use Rattle.step_local.specs.declared.frames.At.{At}
use Rattle.step_local.specs.declared.frames.Local.{Local}
use Rattle.step_local.specs.Course.{course, course_at}
use Rattle.step_local.specs.Leaving.{scan_call}
use Rattle.pool_laws.specs.Wholes.{Whole, WholeGood}
use Rattle.seat_ties.specs.Says.{SaysAt, ScanSays}
use Rattle.seat_ties.specs.Turns.{found_in}
use Rattle.seat_hands.proofs.CallerLemmas.{hands_lie}
use Rattle.hand_blocks.specs.Hands.{hands_of}
use Rattle.turn_suits.specs.Laws.{TurnsSuit}
use Rattle.backend_bins.specs.Scan as scans
use Rattle.turn_suits.proofs.Lengths.{length_fits}
use Rattle.turn_suits.proofs.PutWins.{told}
use Rattle.turn_suits.proofs.Seen.{seen_at}
use Rattle.turn_suits.proofs.Slabs.{new_at}
use Rattle.turn_suits.proofs.Wins.{wins_next}

scan_finds : (k : Key) (w : Whole) (l : Local) (s : ScanAt) (step : ScanStep) → WholeGood k w
    → ScanSays w.items s.bin step → ScanFinds s step (told w (scans.step_course (scan_call l) s step))
scan_finds k w l s (ScanStep.Length first) good says =
    length_fits k w s.bin first (guard_of (w.pool.mem sizes first)) good says refl
scan_finds k w l s _ good says = tt

finds_at : (k : Key) (w : Whole) (l : Local) (at : At) → WholeGood k w → SaysAt w l.seat l at
    → FindsAt at (told w (course_at l at))
finds_at k w l (At.Scan at) good says = scan_finds k w l at at.step good says
finds_at k w l _ good says = tt

pub turns_suit : TurnsSuit
turns_suit k w l good tied none word = record {
  new = new_at k w l l.at good tied.heap.kept tied.hands.lie;
  step = record {
    lie = hands_lie w.pool.blocks.place k.span l.seat (hands_of l) guards.parts.whole guards.small guards.parts.within
        tied.hands.lie;
    seen = seen_at l l.at (course l) (found_in w l) (subst TaskFits tied.tasks.guards (guards.calls l.seat));
  };
  finds = finds_at k w l l.at good tied.words;
  room = good_sweeps_have_room k w.shelves w.pool.mem w.jobs l.seat l good.shelf.cache tied.tasks.jobs
      tied.says.released;
  wins = wins_next k w l good tied none;
}
  where
    open good.free.pool use {guards}

-- Where a region's granules go into their bin, each turn is a step of the whole.
use Rattle.std.proofs.Common.{◌≡◌, ℕ, [], true, refl}
use Rattle.pool_words.specs.declared.words.Key.{Key}
use Rattle.guards.specs.declared.win.Taking.{Taking}
use Rattle.backend_bins.specs.declared.bin.BinAt.{BinAt}
use Rattle.backend_bins.specs.declared.bin.BinNext.{BinNext}
use Rattle.backend_bins.specs.Bin.{bin_learn}
use Rattle.pool_words.specs.Actions.{word_seen}
use Rattle.step_local.specs.declared.frames.At.{At}
use Rattle.step_local.specs.declared.frames.Local.{Local}
use Rattle.step_local.specs.Backend.{whole_as, whole_call}
use Rattle.step_local.specs.Course.{course}
use Rattle.step_runs.specs.Places.{has_word}
use Rattle.hand_blocks.specs.Hands.{using}
use Rattle.pool_laws.specs.Wholes.{Whole, WholeGood}
use Rattle.seat_ties.specs.Left.{Suits}
use Rattle.seat_ties.specs.Says.{WordsSay}
use Rattle.seat_ties.specs.Ties.{SeatTied}
use Rattle.seat_ties.specs.Turns.{StepLeaves, found_in, seen_in}
use Rattle.backend_moves.specs.Laws.{WholesAreTurned}
use Rattle.backend_moves.specs.Positions.{IsWholeAt}
use Rattle.backend_moves.proofs.BinJobs.{BinMoved, bin_moves, has_last}
use Rattle.backend_moves.proofs.Finish.{leaves_by, others_stay}
use Rattle.backend_moves.proofs.Looks.{idle_away, is_free}

whole_says : (w : Whole) (seat : ℕ) (l : Local) (at : BinAt) (next : BinNext)
    → WordsSay w seat (whole_as l at next).0
whole_says w seat l at (BinNext.Goes next) = tt
whole_says w seat l at BinNext.Waits = tt
whole_says w seat l at BinNext.Done = tt

whole_turned : (k : Key) (w : Whole) (l : Local) (at : At) → IsWholeAt at → WholeGood k w
    → SeatTied k w l.seat (record l { at = at }) → has_word (course (record l { at = at })) ≡ true
    → Suits k (record l { at = at }) (seen_in w (record l { at = at })) → StepLeaves k w (record l { at = at })
whole_turned k w l (At.Whole at) is good tied word suits =
    let here : Local = record l { at = At.Whole at } in
    let moved : BinMoved k w (whole_call here) Taking.ForUse at =
    bin_moves k w (whole_call here) Taking.ForUse at good
    (is_free w l.seat tied.tasks.jobs (idle_away (w.queue l.seat) tied.tasks.queue)) tied.tasks.guards tied.tasks.bins
    (has_last w.pool.blocks.place (w.drained l.seat) l.seat (using l.ask.block) at [] tied.hands) in
    leaves_by k w here tied word suits (others_stay l (At.Whole at) (found_in w here) tt) refl moved
    (whole_says moved.later l.seat here at
    (bin_learn (whole_call here) at (word_seen (seen_in w here))))
whole_turned k w l _ is good tied word suits = absurd is

pub wholes_are_turned : WholesAreTurned
wholes_are_turned k w l good tied reset word suits is = whole_turned k w l l.at is good tied word suits

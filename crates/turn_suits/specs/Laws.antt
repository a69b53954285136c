-- What a good whole says to a seat just before its step.
use Rattle.std.specs.Prelude.{◌≡◌, true}
use Rattle.pool_words.specs.declared.words.Key.{Key}
use Rattle.step_local.specs.declared.frames.Local.{Local}
use Rattle.step_local.specs.Course.{course}
use Rattle.step_runs.specs.Places.{has_word}
use Rattle.pool_laws.specs.Wholes.{Whole, WholeGood}
use Rattle.seat_ties.specs.Left.{Suits}
use Rattle.seat_ties.specs.Ties.{SeatTied}
use Rattle.seat_ties.specs.Turns.{IsNoReset, seen_in}

-- all that a turn rests on
abbrev pub TurnsSuit : Type 0
TurnsSuit = (k : Key) (w : Whole) (l : Local) → WholeGood k w → SeatTied k w l.seat l → IsNoReset l
    → has_word (course l) ≡ true → Suits k l (seen_in w l)

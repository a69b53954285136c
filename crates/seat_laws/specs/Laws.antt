-- The laws of seats that do nothing while others take their steps.
use Rattle.std.specs.Prelude.{◌≢◌, ℕ}
use Rattle.pool_words.specs.declared.words.Key.{Key}
use Rattle.step_local.specs.declared.frames.Local.{Local}
use Rattle.pool_laws.specs.Wholes.{Whole, WholeGood}
use Rattle.pool_laws.specs.Steps.{WholeStep}
use Rattle.seat_ties.specs.Ties.{SeatTied}
use Rattle.seat_laws.specs.Stays.{SeatStays}

-- a seat of which nothing changes stays tied to its local
abbrev pub SeatsLeftAloneAreTied : Type 0
SeatsLeftAloneAreTied = (k : Key) (w later : Whole) (t : ℕ) (l : Local) → WholeGood k w → SeatStays w later t
    → SeatTied k w t l → SeatTied k later t l

-- nothing of a seat changes by a step of any other
abbrev pub OthersStepsLeaveSeats : Type 0
OthersStepsLeaveSeats = (k : Key) (seat t : ℕ) (w later : Whole) → WholeGood k w → WholeStep k seat w later → seat ≢ t
    → SeatStays w later t

-- so it is through a step of any other seat
abbrev pub StepsLeaveOthers : Type 0
StepsLeaveOthers = (k : Key) (seat t : ℕ) (w later : Whole) (l : Local) → WholeGood k w → WholeStep k seat w later
    → seat ≢ t → SeatTied k w t l → SeatTied k later t l

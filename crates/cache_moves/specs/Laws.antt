-- The laws of turns at the cache of large blocks.
use Rattle.guards.specs.declared.win.Taking.{Taking}
use Rattle.pool_words.specs.declared.words.Key.{Key}
use Rattle.step_local.specs.declared.frames.Local.{Local}
use Rattle.pool_laws.specs.Steps.{WholeStep}
use Rattle.pool_laws.specs.Wholes.{Whole}
use Rattle.cache_moves.specs.Moved.{IsWholeTurn, KeepsTasks, StartFitsWhole, TickFits, TurnFits}
use Rattle.cache_moves.specs.Moved.{whole_started, whole_ticked, whole_turned}

abbrev pub TurnsAreWholeSteps : Type 0
TurnsAreWholeSteps = (k : Key) (taking : Taking) (l : Local) (w : Whole) → TurnFits l w → IsWholeTurn k taking l w

-- a turn leaves what all seats are about to do elsewhere as it is
abbrev pub TurnsLeaveOtherTasks : Type 0
TurnsLeaveOtherTasks = (k : Key) (taking : Taking) (l : Local) (w : Whole) → KeepsTasks w (whole_turned k taking l w)

abbrev pub StartsAreWholeSteps : Type 0
StartsAreWholeSteps =
    (k : Key) (l : Local) (w : Whole) → StartFitsWhole l w → WholeStep k l.seat w (whole_started l w)

abbrev pub TicksAreWholeSteps : Type 0
TicksAreWholeSteps = (k : Key) (l : Local) (w : Whole) → TickFits l w → WholeStep k l.seat w (whole_ticked k l w)

-- Runs of a seat one after the other.
use Rattle.seat_ties.specs.Laws.{RunsGoOn}
use Rattle.seat_ties.specs.Turns.{stays, steps_on}

pub runs_go_on : RunsGoOn
runs_go_on k seat w between later run stays = run
runs_go_on k seat w between later run (steps_on {before = before} more step) =
    steps_on (runs_go_on k seat w between before run more) step

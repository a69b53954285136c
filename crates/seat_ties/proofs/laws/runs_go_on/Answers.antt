use Rattle.seat_ties.proofs.Runs.{runs_go_on}
use Rattle.seat_ties.proofs.laws.runs_go_on.Goals as goal

pub returns : goal.returns
returns c = runs_go_on

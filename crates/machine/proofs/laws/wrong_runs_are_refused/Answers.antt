use Rattle.machine.proofs.Refused.{wrong_runs_are_refused}
use Rattle.machine.proofs.laws.wrong_runs_are_refused.Goals as goal

pub returns : goal.returns
returns c = wrong_runs_are_refused

use Rattle.run_laws.proofs.Traces.{runs_are_one}
use Rattle.run_laws.proofs.laws.runs_are_one.Goals as goal

pub returns : goal.returns
returns c = runs_are_one

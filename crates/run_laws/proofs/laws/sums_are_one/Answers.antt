use Rattle.run_laws.proofs.Traces.{sums_are_one}
use Rattle.run_laws.proofs.laws.sums_are_one.Goals as goal

pub returns : goal.returns
returns c = sums_are_one

use Rattle.guard_laws.proofs.Neighbours.{runs_keep_neighbours}
use Rattle.guard_laws.proofs.laws.runs_keep_neighbours.Goals as goal

pub returns : goal.returns
returns c = runs_keep_neighbours

use Rattle.guard_laws.proofs.Neighbours.{steps_keep_neighbours}
use Rattle.guard_laws.proofs.laws.steps_keep_neighbours.Goals as goal

pub returns : goal.returns
returns c = steps_keep_neighbours

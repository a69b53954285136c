use Rattle.shelf_laws.proofs.Keeps.{steps_keep_shelf}
use Rattle.shelf_laws.proofs.laws.steps_keep_shelf.Goals as goal

pub returns : goal.returns
returns c = steps_keep_shelf

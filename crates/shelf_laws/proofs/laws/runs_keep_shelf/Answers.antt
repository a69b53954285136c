use Rattle.shelf_laws.proofs.Keeps.{runs_keep_shelf}
use Rattle.shelf_laws.proofs.laws.runs_keep_shelf.Goals as goal

pub returns : goal.returns
returns c = runs_keep_shelf

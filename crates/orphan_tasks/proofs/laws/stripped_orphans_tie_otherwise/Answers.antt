use Rattle.orphan_tasks.proofs.Ties.{stripped_orphans_tie_otherwise}
use Rattle.orphan_tasks.proofs.laws.stripped_orphans_tie_otherwise.Goals as goal

pub returns : goal.returns
returns c = stripped_orphans_tie_otherwise

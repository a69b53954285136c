use Rattle.orphan_laws.proofs.Keeps.{steps_keep_orphans}
use Rattle.orphan_laws.proofs.laws.steps_keep_orphans.Goals as goal

pub returns : goal.returns
returns c = steps_keep_orphans

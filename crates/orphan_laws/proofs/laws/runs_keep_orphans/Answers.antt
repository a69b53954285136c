use Rattle.orphan_laws.proofs.Keeps.{runs_keep_orphans}
use Rattle.orphan_laws.proofs.laws.runs_keep_orphans.Goals as goal

pub returns : goal.returns
returns c = runs_keep_orphans

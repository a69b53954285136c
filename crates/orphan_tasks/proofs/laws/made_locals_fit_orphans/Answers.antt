use Rattle.orphan_tasks.proofs.Begun.{made_locals_fit_orphans}
use Rattle.orphan_tasks.proofs.laws.made_locals_fit_orphans.Goals as goal

pub returns : goal.returns
returns c = made_locals_fit_orphans

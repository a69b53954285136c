use Rattle.orphan_tasks.proofs.Ties.{tasks_tie}
use Rattle.orphan_tasks.proofs.laws.tasks_tie.Goals as goal

pub returns : goal.returns
returns c = tasks_tie

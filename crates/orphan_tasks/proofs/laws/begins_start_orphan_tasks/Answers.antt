use Rattle.orphan_tasks.proofs.Begun.{begins_start_orphan_tasks}
use Rattle.orphan_tasks.proofs.laws.begins_start_orphan_tasks.Goals as goal

pub returns : goal.returns
returns c = begins_start_orphan_tasks

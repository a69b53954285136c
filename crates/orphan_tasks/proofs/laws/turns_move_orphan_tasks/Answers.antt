use Rattle.orphan_tasks.proofs.Turns.{turns_move_orphan_tasks}
use Rattle.orphan_tasks.proofs.laws.turns_move_orphan_tasks.Goals as goal

pub returns : goal.returns
returns c = turns_move_orphan_tasks

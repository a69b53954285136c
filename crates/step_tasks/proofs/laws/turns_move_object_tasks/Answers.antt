use Rattle.step_tasks.proofs.ObjectTurns.{turns_move_object_tasks}
use Rattle.step_tasks.proofs.laws.turns_move_object_tasks.Goals as goal

pub returns : goal.returns
returns c = turns_move_object_tasks

use Rattle.step_tasks.proofs.Begun.{begins_start_object_tasks}
use Rattle.step_tasks.proofs.laws.begins_start_object_tasks.Goals as goal

pub returns : goal.returns
returns c = begins_start_object_tasks

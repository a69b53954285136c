use Rattle.backend_tasks.proofs.FitTurns.{tasks_are_of_one_position}
use Rattle.backend_tasks.proofs.laws.tasks_are_of_one_position.Goals as goal

pub returns : goal.returns
returns c = tasks_are_of_one_position

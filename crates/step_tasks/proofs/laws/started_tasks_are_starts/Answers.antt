use Rattle.step_tasks.proofs.ObjectTurns.{started_tasks_are_starts}
use Rattle.step_tasks.proofs.laws.started_tasks_are_starts.Goals as goal

pub returns : goal.returns
returns c = started_tasks_are_starts

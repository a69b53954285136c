use Rattle.backend_tasks.proofs.Begun.{begins_start_backend_tasks}
use Rattle.backend_tasks.proofs.laws.begins_start_backend_tasks.Goals as goal

pub returns : goal.returns
returns c = begins_start_backend_tasks

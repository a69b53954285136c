use Rattle.backend_tasks.proofs.Turns.{turns_move_bin_tasks}
use Rattle.backend_tasks.proofs.laws.turns_move_bin_tasks.Goals as goal

pub returns : goal.returns
returns c = turns_move_bin_tasks

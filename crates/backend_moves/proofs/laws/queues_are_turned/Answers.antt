use Rattle.backend_moves.proofs.Queues.{queues_are_turned}
use Rattle.backend_moves.proofs.laws.queues_are_turned.Goals as goal

pub returns : goal.returns
returns c = queues_are_turned

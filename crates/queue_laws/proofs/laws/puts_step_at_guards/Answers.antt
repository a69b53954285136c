use Rattle.queue_laws.proofs.PutSteps.{puts_step_at_guards}
use Rattle.queue_laws.proofs.laws.puts_step_at_guards.Goals as goal

pub returns : goal.returns
returns c = puts_step_at_guards

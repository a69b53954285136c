use Rattle.machine.proofs.Steps.{totals_follow_steps}
use Rattle.machine.proofs.laws.totals_follow_steps.Goals as goal

pub returns : goal.returns
returns c = totals_follow_steps

use Rattle.step_runs.proofs.Onward.{steps_go_onward}
use Rattle.step_runs.proofs.laws.steps_go_onward.Goals as goal

pub returns : goal.returns
returns c = steps_go_onward

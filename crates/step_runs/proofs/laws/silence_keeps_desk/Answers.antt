use Rattle.step_runs.proofs.Ordered.{silence_keeps_desk}
use Rattle.step_runs.proofs.laws.silence_keeps_desk.Goals as goal

pub returns : goal.returns
returns g c policy limits l desk now after silent has = silence_keeps_desk silent has

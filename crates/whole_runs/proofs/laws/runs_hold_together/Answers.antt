use Rattle.whole_runs.proofs.Runs.{runs_hold_together}
use Rattle.whole_runs.proofs.laws.runs_hold_together.Goals as goal

pub returns : goal.returns
returns g c policy limits raw words home entries =
    runs_hold_together _ _ _ _ c.fresh_wholes_are_good.ensures policy limits raw words home entries

use Rattle.whole_runs.proofs.Runs.{runs_are_good}
use Rattle.whole_runs.proofs.laws.runs_are_good.Goals as goal

pub returns : goal.returns
returns g c policy limits raw words home entries =
    runs_are_good _ _ _ _ c.fresh_wholes_are_good.ensures policy limits raw words home entries

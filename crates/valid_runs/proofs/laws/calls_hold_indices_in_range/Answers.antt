use Rattle.valid_runs.proofs.Runs.{calls_hold_indices_in_range}
use Rattle.valid_runs.proofs.laws.calls_hold_indices_in_range.Goals as goal

pub returns : goal.returns
returns g c policy limits raw words home entries =
    calls_hold_indices_in_range _ _ _ _ c.fresh_wholes_are_good.ensures policy limits raw words home entries

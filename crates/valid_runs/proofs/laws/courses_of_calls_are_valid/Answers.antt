use Rattle.valid_runs.proofs.Runs.{courses_of_calls_are_valid}
use Rattle.valid_runs.proofs.laws.courses_of_calls_are_valid.Goals as goal

pub returns : goal.returns
returns g c policy limits raw words home entries =
    courses_of_calls_are_valid _ _ _ _ c.fresh_wholes_are_good.ensures policy limits raw words home entries

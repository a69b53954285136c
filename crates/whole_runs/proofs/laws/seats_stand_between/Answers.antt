use Rattle.whole_runs.proofs.Runs.{seats_stand_between}
use Rattle.whole_runs.proofs.laws.seats_stand_between.Goals as goal

pub returns : goal.returns
returns g c policy limits raw words home entries =
    seats_stand_between _ _ _ _ c.fresh_wholes_are_good.ensures policy limits raw words home entries

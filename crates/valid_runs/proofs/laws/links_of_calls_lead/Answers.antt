use Rattle.valid_runs.proofs.Runs.{links_of_calls_lead}
use Rattle.valid_runs.proofs.laws.links_of_calls_lead.Goals as goal

pub returns : goal.returns
returns g c policy limits raw words home entries =
    links_of_calls_lead _ _ _ _ c.fresh_wholes_are_good.ensures policy limits raw words home entries

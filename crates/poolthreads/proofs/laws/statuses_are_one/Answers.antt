use Rattle.poolthreads.proofs.WantedLemmas.{statuses_are_one}
use Rattle.poolthreads.proofs.laws.statuses_are_one.Goals as goal

pub returns : goal.returns
returns c = statuses_are_one

use Rattle.lock_laws.proofs.Runs.{other_lists_stand}
use Rattle.lock_laws.proofs.laws.other_lists_stand.Goals as goal

pub returns : goal.returns
returns c = other_lists_stand

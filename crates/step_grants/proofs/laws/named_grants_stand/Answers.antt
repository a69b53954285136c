use Rattle.step_grants.proofs.Named.{named_grants_stand}
use Rattle.step_grants.proofs.laws.named_grants_stand.Goals as goal

pub returns : goal.returns
returns c = named_grants_stand

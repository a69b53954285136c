use Rattle.chain_laws.proofs.Pushes.{other_pushes_stand}
use Rattle.chain_laws.proofs.laws.other_pushes_stand.Goals as goal

pub returns : goal.returns
returns c = other_pushes_stand

use Rattle.chain_laws.proofs.Examples.{stale_pushes_are_wrong}
use Rattle.chain_laws.proofs.laws.stale_pushes_are_wrong.Goals as goal

pub returns : goal.returns
returns c = stale_pushes_are_wrong

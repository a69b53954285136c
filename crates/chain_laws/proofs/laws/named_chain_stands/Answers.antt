use Rattle.chain_laws.proofs.Examples.{named_chain_stands}
use Rattle.chain_laws.proofs.laws.named_chain_stands.Goals as goal

pub returns : goal.returns
returns c = named_chain_stands

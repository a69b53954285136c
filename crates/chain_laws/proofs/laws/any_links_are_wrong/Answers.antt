use Rattle.chain_laws.proofs.Examples.{any_links_are_wrong}
use Rattle.chain_laws.proofs.laws.any_links_are_wrong.Goals as goal

pub returns : goal.returns
returns c = any_links_are_wrong

use Rattle.chain_laws.proofs.Tallies.{lists_below_are_short}
use Rattle.chain_laws.proofs.laws.lists_below_are_short.Goals as goal

pub returns : goal.returns
returns c = lists_below_are_short

use Rattle.chain_laws.proofs.Examples.{takings_by_load_are_wrong}
use Rattle.chain_laws.proofs.laws.takings_by_load_are_wrong.Goals as goal

pub returns : goal.returns
returns c = takings_by_load_are_wrong

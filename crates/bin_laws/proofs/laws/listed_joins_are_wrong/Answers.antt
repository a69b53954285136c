use Rattle.bin_laws.proofs.Examples.{listed_joins_are_wrong}
use Rattle.bin_laws.proofs.laws.listed_joins_are_wrong.Goals as goal

pub returns : goal.returns
returns c = listed_joins_are_wrong

use Rattle.free_laws.proofs.Places.{blocks_are_one_thing}
use Rattle.free_laws.proofs.laws.blocks_are_one_thing.Goals as goal

pub returns : goal.returns
returns c = blocks_are_one_thing

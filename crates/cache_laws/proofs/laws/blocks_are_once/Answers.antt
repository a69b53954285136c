use Rattle.cache_laws.proofs.Keeps.{blocks_are_once}
use Rattle.cache_laws.proofs.laws.blocks_are_once.Goals as goal

pub returns : goal.returns
returns c = blocks_are_once

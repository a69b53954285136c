use Rattle.cache_moves.proofs.Moved.{starts_are_whole_steps}
use Rattle.cache_moves.proofs.laws.starts_are_whole_steps.Goals as goal

pub returns : goal.returns
returns c = starts_are_whole_steps

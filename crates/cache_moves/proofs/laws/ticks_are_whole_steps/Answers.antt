use Rattle.cache_moves.proofs.Moved.{ticks_are_whole_steps}
use Rattle.cache_moves.proofs.laws.ticks_are_whole_steps.Goals as goal

pub returns : goal.returns
returns c = ticks_are_whole_steps

use Rattle.cache_moves.proofs.Moved.{turns_are_whole_steps}
use Rattle.cache_moves.proofs.laws.turns_are_whole_steps.Goals as goal

pub returns : goal.returns
returns c = turns_are_whole_steps

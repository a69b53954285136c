use Rattle.slab_moves.proofs.Moved.{slab_turns_are_steps}
use Rattle.slab_moves.proofs.laws.slab_turns_are_steps.Goals as goal

pub returns : goal.returns
returns c = slab_turns_are_steps

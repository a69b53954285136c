use Rattle.shelf_moves.proofs.Moved.{shelf_turns_are_steps}
use Rattle.shelf_moves.proofs.laws.shelf_turns_are_steps.Goals as goal

pub returns : goal.returns
returns c = shelf_turns_are_steps

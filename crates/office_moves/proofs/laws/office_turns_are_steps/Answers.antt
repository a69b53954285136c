use Rattle.office_moves.proofs.Turns.{office_turns_are_steps}
use Rattle.office_moves.proofs.laws.office_turns_are_steps.Goals as goal

pub returns : goal.returns
returns c = office_turns_are_steps

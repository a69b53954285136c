use Rattle.office_moves.proofs.Told.{office_turns_are_told}
use Rattle.office_moves.proofs.laws.office_turns_are_told.Goals as goal

pub returns : goal.returns
returns c = office_turns_are_told

use Rattle.step_numbers.proofs.Turns.{turns_keep_numbers}
use Rattle.step_numbers.proofs.laws.turns_keep_numbers.Goals as goal

pub returns : goal.returns
returns c = turns_keep_numbers

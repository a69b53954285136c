use Rattle.step_ranges.proofs.Examples.{next_indices_are_out}
use Rattle.step_ranges.proofs.laws.next_indices_are_out.Goals as goal

pub returns : goal.returns
returns c = next_indices_are_out

use Rattle.orphan_tasks.proofs.Steps.{orphan_steps_are_the_rows}
use Rattle.orphan_tasks.proofs.laws.orphan_steps_are_the_rows.Goals as goal

pub returns : goal.returns
returns c = orphan_steps_are_the_rows

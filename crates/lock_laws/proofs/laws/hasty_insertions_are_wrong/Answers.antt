use Rattle.lock_laws.proofs.Examples.{hasty_insertions_are_wrong}
use Rattle.lock_laws.proofs.laws.hasty_insertions_are_wrong.Goals as goal

pub returns : goal.returns
returns c = hasty_insertions_are_wrong

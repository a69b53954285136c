use Rattle.lock_laws.proofs.Examples.{forgetful_removals_are_wrong}
use Rattle.lock_laws.proofs.laws.forgetful_removals_are_wrong.Goals as goal

pub returns : goal.returns
returns c = forgetful_removals_are_wrong

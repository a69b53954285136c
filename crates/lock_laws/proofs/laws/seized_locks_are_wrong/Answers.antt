use Rattle.lock_laws.proofs.Examples.{seized_locks_are_wrong}
use Rattle.lock_laws.proofs.laws.seized_locks_are_wrong.Goals as goal

pub returns : goal.returns
returns c = seized_locks_are_wrong

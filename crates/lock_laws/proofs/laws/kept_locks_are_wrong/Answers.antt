use Rattle.lock_laws.proofs.Examples.{kept_locks_are_wrong}
use Rattle.lock_laws.proofs.laws.kept_locks_are_wrong.Goals as goal

pub returns : goal.returns
returns c = kept_locks_are_wrong

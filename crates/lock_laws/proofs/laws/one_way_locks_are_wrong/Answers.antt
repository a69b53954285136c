use Rattle.lock_laws.proofs.Examples.{one_way_locks_are_wrong}
use Rattle.lock_laws.proofs.laws.one_way_locks_are_wrong.Goals as goal

pub returns : goal.returns
returns c = one_way_locks_are_wrong

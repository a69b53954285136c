use Rattle.lock_laws.proofs.Examples.{fresh_locks_are_free}
use Rattle.lock_laws.proofs.laws.fresh_locks_are_free.Goals as goal

pub returns : goal.returns
returns c = fresh_locks_are_free

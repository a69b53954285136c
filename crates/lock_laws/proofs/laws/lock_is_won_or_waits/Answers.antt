use Rattle.lock_laws.proofs.Locks.{lock_is_won_or_waits}
use Rattle.lock_laws.proofs.laws.lock_is_won_or_waits.Goals as goal

pub returns : goal.returns
returns c = lock_is_won_or_waits

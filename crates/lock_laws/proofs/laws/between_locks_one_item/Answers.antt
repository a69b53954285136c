use Rattle.lock_laws.proofs.Runs.{between_locks_one_item}
use Rattle.lock_laws.proofs.laws.between_locks_one_item.Goals as goal

pub returns : goal.returns
returns c = between_locks_one_item

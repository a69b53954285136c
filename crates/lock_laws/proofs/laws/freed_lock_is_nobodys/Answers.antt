use Rattle.lock_laws.proofs.Locks.{freed_lock_is_nobodys}
use Rattle.lock_laws.proofs.laws.freed_lock_is_nobodys.Goals as goal

pub returns : goal.returns
returns c = freed_lock_is_nobodys

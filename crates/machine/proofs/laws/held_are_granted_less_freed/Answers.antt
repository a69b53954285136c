use Rattle.machine.proofs.LedgerRuns.{held_are_granted_less_freed}
use Rattle.machine.proofs.laws.held_are_granted_less_freed.Goals as goal

pub returns : goal.returns
returns c = held_are_granted_less_freed

use Rattle.machine.proofs.GotRuns.{held_are_got_less_freed}
use Rattle.machine.proofs.laws.held_are_got_less_freed.Goals as goal

pub returns : goal.returns
returns c = held_are_got_less_freed

use Rattle.quiet_laws.proofs.Turns.{resets_go_on}
use Rattle.quiet_laws.proofs.laws.resets_go_on.Goals as goal

pub returns : goal.returns
returns c = resets_go_on

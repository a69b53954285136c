use Rattle.guard_laws.proofs.Tells.{guards_are_won_by_one}
use Rattle.guard_laws.proofs.laws.guards_are_won_by_one.Goals as goal

pub returns : goal.returns
returns c = guards_are_won_by_one

use Rattle.guard_laws.proofs.Examples.{named_guards_stand}
use Rattle.guard_laws.proofs.laws.named_guards_stand.Goals as goal

pub returns : goal.returns
returns c = named_guards_stand

use Rattle.guard_laws.proofs.Examples.{one_guard_is_too_few}
use Rattle.guard_laws.proofs.laws.one_guard_is_too_few.Goals as goal

pub returns : goal.returns
returns c = one_guard_is_too_few

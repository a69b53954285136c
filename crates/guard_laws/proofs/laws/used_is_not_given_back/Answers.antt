use Rattle.guard_laws.proofs.Examples.{used_is_not_given_back}
use Rattle.guard_laws.proofs.laws.used_is_not_given_back.Goals as goal

pub returns : goal.returns
returns c = used_is_not_given_back

use Rattle.path_laws.proofs.Examples.{named_calls_pay}
use Rattle.path_laws.proofs.laws.named_calls_pay.Goals as goal

pub returns : goal.returns
returns c = named_calls_pay

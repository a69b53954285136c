use Rattle.paid_calls.proofs.Lines.{calls_pay}
use Rattle.paid_calls.proofs.laws.calls_pay.Goals as goal

pub returns : goal.returns
returns g c = calls_pay g.R.Raw.out

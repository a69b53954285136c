use Rattle.paid_calls.proofs.Lines.{lines_pay}
use Rattle.paid_calls.proofs.laws.lines_pay.Goals as goal

pub returns : goal.returns
returns g c = lines_pay g.R.Raw.out

use Rattle.leak_laws.proofs.Leaks.{leaks_were_granted}
use Rattle.leak_laws.proofs.laws.leaks_were_granted.Goals as goal

pub returns : goal.returns
returns g c = leaks_were_granted g.R.Raw.out g.R.Raw.faults g.R.Raw.got g.R.Raw.passed

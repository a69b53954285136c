use Rattle.quiet_laws.proofs.Homes.{lies_at_home}
use Rattle.quiet_laws.proofs.laws.office_lies_at_home.Goals as goal

pub returns : goal.returns
returns g c policy limits raw words home entries run none = lies_at_home run none

use Rattle.quiet_laws.proofs.Homes.{leaves_away}
use Rattle.quiet_laws.proofs.laws.silence_leaves_away.Goals as goal

pub returns : goal.returns
returns g c policy limits l desk now after silent is = leaves_away silent is

use Rattle.pool_laws.proofs.Moved.{wholes_hold_together}
use Rattle.pool_laws.proofs.laws.wholes_hold_together.Goals as goal

pub returns : goal.returns
returns c = wholes_hold_together c.fresh_wholes_are_good.ensures

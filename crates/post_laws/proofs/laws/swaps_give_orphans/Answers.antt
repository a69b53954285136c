use Rattle.post_laws.proofs.Premises.{swaps_give_orphans}
use Rattle.post_laws.proofs.laws.swaps_give_orphans.Goals as goal

pub returns : goal.returns
returns c = swaps_give_orphans

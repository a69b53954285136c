use Rattle.chain_laws.proofs.Pushes.{lost_push_changes_nothing}
use Rattle.chain_laws.proofs.laws.lost_push_changes_nothing.Goals as goal

pub returns : goal.returns
returns c = lost_push_changes_nothing

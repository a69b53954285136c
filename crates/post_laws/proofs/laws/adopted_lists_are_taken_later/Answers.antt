use Rattle.post_laws.proofs.Premises.{adopted_lists_are_taken_later}
use Rattle.post_laws.proofs.laws.adopted_lists_are_taken_later.Goals as goal

pub returns : goal.returns
returns c = adopted_lists_are_taken_later

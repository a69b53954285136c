use Rattle.plain_lists.proofs.Reaching.{reached_are_good}
use Rattle.plain_lists.proofs.laws.reached_lists_are_good.Goals as goal

pub returns : goal.returns
returns c = reached_are_good

use Rattle.plain_lists.proofs.Reaching.{calls_keep_good}
use Rattle.plain_lists.proofs.laws.calls_keep_lists_good.Goals as goal

pub returns : goal.returns
returns c = calls_keep_good

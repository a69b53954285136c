use Rattle.plain_lists.proofs.Reaching.{calls_part_each}
use Rattle.plain_lists.proofs.laws.calls_part_each_granule.Goals as goal

pub returns : goal.returns
returns c = calls_part_each

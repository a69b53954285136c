use Rattle.hand_blocks.proofs.Counts.{changes_count_blocks}
use Rattle.hand_blocks.proofs.laws.changes_count_blocks.Goals as goal

pub returns : goal.returns
returns c = changes_count_blocks

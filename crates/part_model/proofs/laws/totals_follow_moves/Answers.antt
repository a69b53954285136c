use Rattle.part_model.proofs.MoveCounts.{totals_follow_moves}
use Rattle.part_model.proofs.laws.totals_follow_moves.Goals as goal

pub returns : goal.returns
returns c = totals_follow_moves

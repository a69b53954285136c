use Rattle.part_model.proofs.MoveCounts.{regions_follow_moves}
use Rattle.part_model.proofs.laws.regions_follow_moves.Goals as goal

pub returns : goal.returns
returns c = regions_follow_moves

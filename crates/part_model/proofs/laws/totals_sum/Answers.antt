use Rattle.part_model.proofs.MoveCounts.{totals_sum}
use Rattle.part_model.proofs.laws.totals_sum.Goals as goal

pub returns : goal.returns
returns c = totals_sum

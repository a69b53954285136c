use Rattle.step_parts.proofs.Following.{totals_follow_parts}
use Rattle.step_parts.proofs.laws.totals_follow_parts.Goals as goal

pub returns : goal.returns
returns c = totals_follow_parts

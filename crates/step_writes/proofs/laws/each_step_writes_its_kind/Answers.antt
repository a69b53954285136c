use Rattle.step_writes.proofs.Positions.{each_step_writes_its_kind}
use Rattle.step_writes.proofs.laws.each_step_writes_its_kind.Goals as goal

pub returns : goal.returns
returns c = each_step_writes_its_kind

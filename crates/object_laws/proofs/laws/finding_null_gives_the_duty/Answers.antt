use Rattle.object_laws.proofs.Heads.{finding_null_gives_the_duty}
use Rattle.object_laws.proofs.laws.finding_null_gives_the_duty.Goals as goal

pub returns : goal.returns
returns c = finding_null_gives_the_duty

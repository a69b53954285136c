use Rattle.post_laws.proofs.Premises.{finding_null_gives_one_duty}
use Rattle.post_laws.proofs.laws.finding_null_gives_one_duty.Goals as goal

pub returns : goal.returns
returns c = finding_null_gives_one_duty

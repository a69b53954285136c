use Rattle.office_laws.proofs.Keeps.{steps_keep_office}
use Rattle.office_laws.proofs.laws.steps_keep_office.Goals as goal

pub returns : goal.returns
returns c = steps_keep_office

use Rattle.office_laws.proofs.Keeps.{runs_keep_office}
use Rattle.office_laws.proofs.laws.runs_keep_office.Goals as goal

pub returns : goal.returns
returns c = runs_keep_office

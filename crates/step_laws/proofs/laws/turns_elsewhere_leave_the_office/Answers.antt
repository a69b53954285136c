use Rattle.step_laws.proofs.Elsewhere.{turns_elsewhere_leave_the_office}
use Rattle.step_laws.proofs.laws.turns_elsewhere_leave_the_office.Goals as goal

pub returns : goal.returns
returns c = turns_elsewhere_leave_the_office

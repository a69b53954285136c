use Rattle.office_laws.proofs.Examples.{named_office_stands}
use Rattle.office_laws.proofs.laws.named_office_stands.Goals as goal

pub returns : goal.returns
returns c = named_office_stands

use Rattle.office_laws.proofs.Obtained.{obtained_regions_are_fresh}
use Rattle.office_laws.proofs.laws.obtained_regions_are_fresh.Goals as goal

pub returns : goal.returns
returns c = obtained_regions_are_fresh

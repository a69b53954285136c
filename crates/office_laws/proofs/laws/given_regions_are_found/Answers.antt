use Rattle.office_laws.proofs.Examples.{given_regions_are_found}
use Rattle.office_laws.proofs.laws.given_regions_are_found.Goals as goal

pub returns : goal.returns
returns c = given_regions_are_found

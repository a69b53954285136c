use Rattle.office_laws.proofs.Examples.{wallless_regions_are_wrong}
use Rattle.office_laws.proofs.laws.wallless_regions_are_wrong.Goals as goal

pub returns : goal.returns
returns c = wallless_regions_are_wrong

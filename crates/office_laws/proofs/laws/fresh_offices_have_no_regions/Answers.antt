use Rattle.office_laws.proofs.Examples.{fresh_offices_have_no_regions}
use Rattle.office_laws.proofs.laws.fresh_offices_have_no_regions.Goals as goal

pub returns : goal.returns
returns c = fresh_offices_have_no_regions

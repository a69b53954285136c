use Rattle.office_laws.proofs.Examples.{only_the_office_changes_regions}
use Rattle.office_laws.proofs.laws.only_the_office_changes_regions.Goals as goal

pub returns : goal.returns
returns c = only_the_office_changes_regions

use Rattle.office_laws.proofs.Homes.{loaded_regions_stay}
use Rattle.office_laws.proofs.laws.loaded_regions_stay.Goals as goal

pub returns : goal.returns
returns c = loaded_regions_stay

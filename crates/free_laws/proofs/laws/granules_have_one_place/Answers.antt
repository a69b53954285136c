use Rattle.free_laws.proofs.Places.{granules_have_one_place}
use Rattle.free_laws.proofs.laws.granules_have_one_place.Goals as goal

pub returns : goal.returns
returns c = granules_have_one_place

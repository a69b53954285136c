use Rattle.post_laws.proofs.Lists.{given_back_is_not_lost}
use Rattle.post_laws.proofs.laws.given_back_is_not_lost.Goals as goal

pub returns : goal.returns
returns c = given_back_is_not_lost

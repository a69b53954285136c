use Rattle.cache_laws.proofs.Examples.{forgetful_gets_are_wrong}
use Rattle.cache_laws.proofs.laws.forgetful_gets_are_wrong.Goals as goal

pub returns : goal.returns
returns c = forgetful_gets_are_wrong

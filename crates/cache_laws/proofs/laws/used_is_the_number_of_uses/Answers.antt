use Rattle.cache_laws.proofs.Uses.{used_is_the_number_of_uses}
use Rattle.cache_laws.proofs.laws.used_is_the_number_of_uses.Goals as goal

pub returns : goal.returns
returns c = used_is_the_number_of_uses

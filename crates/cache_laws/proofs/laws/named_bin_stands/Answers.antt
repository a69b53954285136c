use Rattle.cache_laws.proofs.Examples.{named_bin_stands}
use Rattle.cache_laws.proofs.laws.named_bin_stands.Goals as goal

pub returns : goal.returns
returns c = named_bin_stands

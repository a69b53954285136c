use Rattle.cache_laws.proofs.Examples.{fresh_bins_are_empty}
use Rattle.cache_laws.proofs.laws.fresh_bins_are_empty.Goals as goal

pub returns : goal.returns
returns c = fresh_bins_are_empty

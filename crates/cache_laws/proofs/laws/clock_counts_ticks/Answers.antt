use Rattle.cache_laws.proofs.Clock.{clock_counts_ticks}
use Rattle.cache_laws.proofs.laws.clock_counts_ticks.Goals as goal

pub returns : goal.returns
returns c = clock_counts_ticks

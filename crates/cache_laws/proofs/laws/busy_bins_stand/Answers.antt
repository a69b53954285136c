use Rattle.cache_laws.proofs.Busy.{busy_bins_stand}
use Rattle.cache_laws.proofs.laws.busy_bins_stand.Goals as goal

pub returns : goal.returns
returns c = busy_bins_stand

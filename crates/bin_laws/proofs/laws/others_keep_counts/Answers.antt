use Rattle.bin_laws.proofs.Counts.{others_keep_counts}
use Rattle.bin_laws.proofs.laws.others_keep_counts.Goals as goal

pub returns : goal.returns
returns c = others_keep_counts

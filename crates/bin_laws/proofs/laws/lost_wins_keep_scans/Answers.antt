use Rattle.bin_laws.proofs.Scans.{lost_wins_keep_scans}
use Rattle.bin_laws.proofs.laws.lost_wins_keep_scans.Goals as goal

pub returns : goal.returns
returns c = lost_wins_keep_scans

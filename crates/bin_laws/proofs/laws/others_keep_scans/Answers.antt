use Rattle.bin_laws.proofs.Scans.{others_keep_scans}
use Rattle.bin_laws.proofs.laws.others_keep_scans.Goals as goal

pub returns : goal.returns
returns c = others_keep_scans

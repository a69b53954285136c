use Rattle.bin_laws.proofs.Scans.{looks_keep_scans}
use Rattle.bin_laws.proofs.laws.looks_keep_scans.Goals as goal

pub returns : goal.returns
returns c = looks_keep_scans

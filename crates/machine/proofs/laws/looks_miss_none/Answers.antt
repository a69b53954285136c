use Rattle.machine.proofs.Scans.{looks_miss_none}
use Rattle.machine.proofs.laws.looks_miss_none.Goals as goal

pub returns : goal.returns
returns c = looks_miss_none

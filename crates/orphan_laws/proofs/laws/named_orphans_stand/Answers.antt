use Rattle.orphan_laws.proofs.Examples.{named_orphans_stand}
use Rattle.orphan_laws.proofs.laws.named_orphans_stand.Goals as goal

pub returns : goal.returns
returns c = named_orphans_stand

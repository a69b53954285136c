use Rattle.orphan_tasks.proofs.Moves.{started_orphans_are_starts}
use Rattle.orphan_tasks.proofs.laws.started_orphans_are_starts.Goals as goal

pub returns : goal.returns
returns c = started_orphans_are_starts

use Rattle.orphan_tasks.proofs.Heaps.{turns_move_orphan_heaps}
use Rattle.orphan_tasks.proofs.laws.turns_move_orphan_heaps.Goals as goal

pub returns : goal.returns
returns c = turns_move_orphan_heaps

use Rattle.heap_tasks.proofs.NoteTurns.{turns_move_notes}
use Rattle.heap_tasks.proofs.laws.turns_move_notes.Goals as goal

pub returns : goal.returns
returns c = turns_move_notes

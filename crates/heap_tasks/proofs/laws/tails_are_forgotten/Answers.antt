use Rattle.heap_tasks.proofs.NoteRows.{tails_are_forgotten}
use Rattle.heap_tasks.proofs.laws.tails_are_forgotten.Goals as goal

pub returns : goal.returns
returns c = tails_are_forgotten

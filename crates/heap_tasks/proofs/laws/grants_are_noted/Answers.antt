use Rattle.heap_tasks.proofs.NoteRows.{grants_are_noted}
use Rattle.heap_tasks.proofs.laws.grants_are_noted.Goals as goal

pub returns : goal.returns
returns c = grants_are_noted

use Rattle.heap_tasks.proofs.NoteRows.{grants_are_numbered}
use Rattle.heap_tasks.proofs.laws.grants_are_numbered.Goals as goal

pub returns : goal.returns
returns c = grants_are_numbered

use Rattle.heap_tasks.proofs.NoteBegun.{begins_keep_stages}
use Rattle.heap_tasks.proofs.laws.begins_keep_stages.Goals as goal

pub returns : goal.returns
returns c = begins_keep_stages

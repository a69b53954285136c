use Rattle.heap_tasks.proofs.NoteBegun.{fresh_stages_fit}
use Rattle.heap_tasks.proofs.laws.fresh_stages_fit.Goals as goal

pub returns : goal.returns
returns c = fresh_stages_fit

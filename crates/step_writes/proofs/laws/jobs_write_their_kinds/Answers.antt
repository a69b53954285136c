use Rattle.step_writes.proofs.Only.{jobs_write_their_kinds}
use Rattle.step_writes.proofs.laws.jobs_write_their_kinds.Goals as goal

pub returns : goal.returns
returns c = jobs_write_their_kinds

use Rattle.step_writes.proofs.Only.{other_jobs_leave_kinds}
use Rattle.step_writes.proofs.laws.other_jobs_leave_kinds.Goals as goal

pub returns : goal.returns
returns c = other_jobs_leave_kinds

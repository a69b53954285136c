-- What laws above cite: what a step writes by its position, and what it leaves.
pub use Rattle.step_writes.proofs.Positions.{each_step_writes_its_kind}
pub use Rattle.step_writes.proofs.Lists.{kind_or, has_same, writes_none, other_kind}
pub use Rattle.step_writes.proofs.Actions.{other_words_stand, other_kinds_stand}
pub use Rattle.step_writes.proofs.Only.{jobs_write_their_kinds, other_step, other_jobs_leave_kinds, other_kind_stands}
-- and of single jobs
pub use Rattle.step_writes.proofs.Jobs.{bin_job, scan_job, put_job, unite_job, get_job, keep_job, sweep_job, clear_job}

-- What laws above cite, and what drives seats.
pub use Rattle.step_runs.proofs.Onward.{steps_go_onward, other_turns_lead}
pub use Rattle.step_runs.proofs.Ordered.{lock_stays, IsHome, takes_free, has_step, silence_keeps_desk, Stands}
pub use Rattle.step_runs.proofs.Ordered.{run_stands, steps_leave_rows}
pub use Rattle.step_runs.proofs.Desks.{Has, Keeps, silence_keeps, AllHave, has_none, has_some}
pub use Rattle.step_runs.proofs.Desks.{desk_has, run_keeps, office_keeps}
pub use Rattle.step_runs.proofs.Elsewhere.{is_calling, else_at}

-- The step that comes next at a seat, and what the seat makes of it.
use Rattle.std.specs.Prelude.{ℕ, ◌+◌, ◌%◌, ◌^◌, cond, List, Option, Some, None, slice_get, slice_set, Result, Err}
use Rattle.pool_types.specs.declared.rows.Row.{Row}
use Rattle.pool_types.specs.declared.values.InCall.{InCall}
use Rattle.pool_types.specs.declared.values.Request.{Request}
use Rattle.pool_types.specs.declared.values.Turn.{Turn}
use Rattle.pool_types.specs.Sums.{capped}
use Rattle.pool_words.specs.declared.actions.Action.{Action}
use Rattle.pool_words.specs.declared.actions.Seen.{Seen}
use Rattle.region_steps.specs.declared.office.OfficeAt.{OfficeAt}
use Rattle.step_local.specs.declared.frames.At.{At}
use Rattle.step_local.specs.declared.frames.Local.{Local}
use Rattle.step_local.specs.declared.frames.OfficeFor.{OfficeFor}
use Rattle.step_local.specs.Course.{course}
use Rattle.step_local.specs.Getting.{begun}
use Rattle.step_local.specs.Learn.{learn}
use Rattle.step_local.specs.Rows.{row_of, is_made}
use Rattle.step_parts.specs.declared.journal.StepName.{StepName}
use Rattle.step_core.specs.declared.steps.Step.{Step}

-- the index at which the region begins that the office is taken for to give back
abbrev pub gives_for : OfficeFor → Option ℕ
gives_for OfficeFor.Ask = None
gives_for (OfficeFor.Put first) = Some (first % 2 ^ 32)
gives_for (OfficeFor.Drain first rest) = Some (first % 2 ^ 32)

-- the index at which a region begins that is passed to the callback with the step of a position
abbrev pub gives_at : At → Option ℕ
gives_at (At.Office job (OfficeAt.Remove given)) = gives_for job
gives_at _ = None

abbrev pub step_of : Local → Step
step_of l = record { action = course l; gives = gives_at l.at; row = row_of l.at }

-- a call begins at a seat
abbrev pub begun_of_seat : Option Local → List Local → ℕ → Request → List Local × Result Unit InCall
begun_of_seat None locals seat request = (locals, Err (record { seat = seat }))
begun_of_seat (Some l) locals seat request = (slice_set locals seat (begun l request).0, (begun l request).1)

abbrev pub begun_at : List Local → ℕ → Request → List Local × Result Unit InCall
begun_at locals seat request = begun_of_seat (slice_get locals seat) locals seat request

-- a seat takes what its step found
abbrev pub told_of_seat : Option Local → List Local → ℕ → Seen → List Local × Turn
told_of_seat None locals seat seen = (locals, Turn.Idle)
told_of_seat (Some l) locals seat seen = (slice_set locals seat (learn l seen).0, (learn l seen).1)

abbrev pub told_at : List Local → ℕ → Seen → List Local × Turn
told_at locals seat seen = told_of_seat (slice_get locals seat) locals seat seen

-- a step's kind, where it counts as made
abbrev pub made_by : Step → Seen → Option Row
made_by step seen = cond (is_made step.action seen) (Some step.row) None

-- how many steps there are with one more action
abbrev pub counted : Action → ℕ → ℕ
counted Action.Nothing steps = steps
counted _ steps = capped (steps + 1)

-- which step it is, by the number of the steps before it
abbrev pub name_of : Step → ℕ → ℕ → StepName
name_of step seat steps = record { step = counted step.action steps; seat = seat; row = step.row }

abbrev pub name_of_seat : Option Local → ℕ → ℕ → StepName
name_of_seat None seat steps = record { step = steps; seat = seat; row = Row.Nothing }
name_of_seat (Some l) seat steps = name_of (step_of l) seat steps

-- which step comes next at a seat; a seat that the pool has not makes none
abbrev pub name_at : List Local → ℕ → ℕ → StepName
name_at locals seat steps = name_of_seat (slice_get locals seat) seat steps

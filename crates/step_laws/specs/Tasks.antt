-- What a seat has to do at the office, by its position.
use Rattle.std.specs.Prelude.{◌≡◌, ◌⊎◌, ℕ}
use Rattle.pool_words.specs.declared.actions.OfficeJob.{OfficeJob}
use Rattle.region_steps.specs.declared.office.OfficeAt.{OfficeAt}
use Rattle.step_local.specs.declared.frames.At.{At}
use Rattle.step_local.specs.declared.frames.Local.{Local}
use Rattle.step_local.specs.Backend.{office_job}
use Rattle.office_laws.specs.Regions.{Task, Shadow}
use Rattle.office_laws.specs.Steps.{shadow_entered, shadow_removed}
use Rattle.step_runs.specs.declared.entry.Entry.{Entry}

abbrev pub task_at : Local → At → Task
task_at l (At.Office job at) = Task.At (office_job l job) at
task_at l _ = Task.Away

abbrev pub task_of : Local → Task
task_of l = task_at l l.at

abbrev pub tasks_of : {D : Type 0} → (ℕ → Entry D) → ℕ → Task
tasks_of entries seat = task_of (entries seat).local

-- a seat that has nothing to do at the office, or is to win its lock
abbrev pub IsOut : Task → Type 0
IsOut task = (task ≡ Task.Away) ⊎ ((job : OfficeJob) × (task ≡ Task.At job OfficeAt.Lock))

-- what a step on a word makes of the regions: one comes into the words, or leaves them
abbrev pub shadow_at : OfficeAt → Shadow → Shadow
shadow_at (OfficeAt.Enter one) g = shadow_entered one g
shadow_at (OfficeAt.Remove given) g = shadow_removed given g
shadow_at _ g = g

abbrev pub shadow_by : At → Shadow → Shadow
shadow_by (At.Office job at) g = shadow_at at g
shadow_by _ g = g

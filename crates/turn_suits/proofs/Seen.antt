-- What is in hand, what is being won, and what the office answers.
use Rattle.std.proofs.Common.{ℕ}
use Rattle.pool_words.specs.declared.actions.Action.{Action}
use Rattle.pool_words.specs.declared.actions.Action.TheVariants.{Add, Exchange, GiveOffice, Load, Nothing, Store, Swap}
use Rattle.pool_words.specs.declared.actions.Action.TheVariants.{TakeOffice}
use Rattle.coalescer.specs.declared.drain.DrainAt.{DrainAt}
use Rattle.coalescer.specs.declared.put.PutAt.{PutAt}
use Rattle.coalescer.specs.declared.put.PutStep.{PutStep}
use Rattle.region_steps.specs.declared.office.OfficeAt.{OfficeAt}
use Rattle.guard_laws.specs.Blocks.{TaskFits}
use Rattle.backend_tasks.specs.Guards.{drain_guard, guard_task_at, put_guard}
use Rattle.step_local.specs.declared.frames.At.{At}
use Rattle.step_local.specs.declared.frames.Local.{Local}
use Rattle.step_local.specs.declared.frames.OfficeFor.{OfficeFor}
use Rattle.step_runs.specs.Entries.{seen_by}
use Rattle.hand_blocks.specs.Fits.{DrainWinsFit, GiveAnswers, IsNoRegion, OfficeAnswers, SeenAt, WinsFit}

no_region : (action : Action) (found : ℕ) → IsNoRegion (seen_by action found)
no_region (Load w) found = tt
no_region (Store w value) found = tt
no_region (Swap w value) found = tt
no_region (Exchange w from to) found = tt
no_region (Add w value) found = tt
no_region (TakeOffice job) found = tt
no_region GiveOffice found = tt
no_region Nothing found = tt

gives : (at : OfficeAt) (action : Action) (found : ℕ) → GiveAnswers at (seen_by action found)
gives (OfficeAt.Take given) action found = no_region action found
gives _ action found = tt

answers : (job : OfficeFor) (at : OfficeAt) (action : Action) (found : ℕ)
    → OfficeAnswers job at (seen_by action found)
answers OfficeFor.Ask at action found = tt
answers (OfficeFor.Put first) at action found = gives at action found
answers (OfficeFor.Drain first rest) at action found = gives at action found

put_wins : (p : PutAt) (step : PutStep) → TaskFits (put_guard p step) → WinsFit p step
put_wins p (PutStep.WinLeft granules at) fits = fits
put_wins p (PutStep.WinRight granules at) fits = fits
put_wins p _ fits = tt

drain_wins : (at : DrainAt) → TaskFits (drain_guard at) → DrainWinsFit at
drain_wins (DrainAt.Put rest at) fits = put_wins at at.step fits
drain_wins _ fits = tt

pub seen_at : (l : Local) (at : At) (action : Action) (found : ℕ) → TaskFits (guard_task_at l at)
    → SeenAt at (seen_by action found)
seen_at l (At.Drain at) action found fits = drain_wins at fits
seen_at l (At.Put at) action found fits = put_wins at at.step fits
seen_at l (At.Office job at) action found fits = answers job at action found
seen_at l _ action found fits = tt

use Rattle.std.proofs.Common.{sym, ◌∙◌, rules}
use Rattle.step_runs.specs.Callbacks.{office_of}
use Rattle.step_runs.specs.Laws.{IsOf}
use Rattle.step_runs.proofs.CallerLemmas.{office_keeps}
use Rattle.atomic_driver.specs.Rule.{key_by}
use Rattle.atomic_driver.specs.Steps.{PoolDriven}
use Rattle.atomic_driver.proofs.Driving.{answers_at_once}
use Rattle.atomic_driver.proofs.seat.DriverSeat.turn_at.Goals as goal

pub returns-in-Nothing-clause-driven : goal.returns-in-Nothing-clause-driven
returns-in-Nothing-clause-driven g c =
    let old = c.args.self.now in
    answers_at_once (office_of _ _ _ _ (key_by old.plan)) (key_by old.plan) (IsOf old.plan.policy old.plan.limits)
    (office_keeps _ _ _ _ old.plan.policy old.plan.limits (key_by old.plan))
    old.local _ _ old.office old.place.me c.requires.driven (sym c.next.ensures ∙ c.in-Nothing.is) c.told.ensures

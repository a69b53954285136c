use Rattle.std.proofs.Common.{sym, ap, subst}
use Rattle.step_runs.specs.Callbacks.{office_of}
use Rattle.step_runs.specs.Laws.{IsOf}
use Rattle.step_runs.proofs.CallerLemmas.{office_keeps}
use Rattle.atomic_driver.specs.Rule.{key_by}
use Rattle.atomic_driver.specs.Steps.{PoolDriven}
use Rattle.atomic_driver.proofs.Driving.{begins_call}
use Rattle.atomic_driver.proofs.seat.DriverSeat.begin.Goals as goal

pub returns-clause-driven : goal.returns-clause-driven
returns-clause-driven g c =
    let old = c.args.self.now in
    subst (λ z. PoolDriven g.R.Raw.out g.R.Raw.faults g.R.Raw.got g.R.Raw.passed old.plan z.0 old.office old.place.me)
    (sym c.begin.ensures)
    (begins_call (office_of _ _ _ _ (key_by old.plan)) (key_by old.plan) (IsOf old.plan.policy old.plan.limits)
    (office_keeps _ _ _ _ old.plan.policy old.plan.limits (key_by old.plan)) old.local c.args.request old.office
    old.place.me c.requires.driven)

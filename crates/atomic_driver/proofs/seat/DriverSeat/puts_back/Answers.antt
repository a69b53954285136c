use Rattle.std.proofs.Common.{sym, ap, subst, ◌∙◌, ◌∷◌}
use Rattle.step_runs.specs.Callbacks.{office_of}
use Rattle.step_runs.specs.Laws.{IsOf}
use Rattle.step_runs.proofs.CallerLemmas.{office_keeps}
use Rattle.atomic_driver.specs.Rule.{key_by}
use Rattle.atomic_table.specs.Table.{rest}
use Rattle.atomic_driver.specs.Steps.{PoolDriven}
use Rattle.atomic_driver.proofs.Driving.{out_of_slot, gives_back}
use Rattle.atomic_driver.proofs.seat.DriverSeat.puts_back.Goals as goal

pub exchange-requires : goal.exchange-requires
exchange-requires g c =
    let old = c.args.self.now in
    let slot = out_of_slot (office_of _ _ _ _ (key_by old.plan)) (key_by old.plan)
    (IsOf old.plan.policy old.plan.limits)
    (office_keeps _ _ _ _ old.plan.policy old.plan.limits (key_by old.plan)) old.local
    old.office old.place.me c.requires.driven c.requires.job in
    (c.requires.table, (slot.0, slot.1 ∙ ap (λ z. (0, slot.0) ∷ z) (sym (ap rest slot.1))))

pub returns-clause-driven : goal.returns-clause-driven
returns-clause-driven g c =
    let old = c.args.self.now in
    let driven = subst (λ z. PoolDriven g.R.Raw.out g.R.Raw.faults g.R.Raw.got g.R.Raw.passed old.plan old.local z
    old.place.me) (sym c.take-office.ensures.value) c.requires.driven in
    gives_back (office_of _ _ _ _ (key_by old.plan)) (key_by old.plan)
    (IsOf old.plan.policy old.plan.limits)
    (office_keeps _ _ _ _ old.plan.policy old.plan.limits (key_by old.plan)) old.local _ _
    c.take-office.result _ old.place.me _ driven c.requires.job c.exchange.ensures.3 c.told.ensures

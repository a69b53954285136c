use Rattle.std.proofs.Common.{rules, ◌≡◌, sym, ap, subst, ◌∙◌, ◌∷◌, Some, None}
use Rattle.step_runs.specs.Callbacks.{office_of}
use Rattle.step_runs.specs.Laws.{IsOf}
use Rattle.step_runs.proofs.CallerLemmas.{office_keeps}
use Rattle.atomic_driver.specs.Rule.{key_by}
use Rattle.atomic_table.specs.Table.{rest}
use Rattle.atomic_driver.specs.Steps.{Taken}
use Rattle.atomic_driver.proofs.Driving.{in_the_slot, takes_up}
use Rattle.atomic_driver.proofs.seat.DriverSeat.takes_out.Goals as goal

pub exchange-office-requires : goal.exchange-office-requires
exchange-office-requires g c =
    let old = c.args.self.now in
    let slot = in_the_slot (office_of _ _ _ _ (key_by old.plan)) (key_by old.plan)
    (IsOf old.plan.policy old.plan.limits)
    (office_keeps _ _ _ _ old.plan.policy old.plan.limits (key_by old.plan)) old.local _
    old.office old.place.me c.requires.driven c.requires.job in (
      c.requires.table,
      (Some slot.one, slot.slots_are ∙ ap (λ z. (0, Some slot.one) ∷ z) (sym (ap rest slot.slots_are))),
    )

pub returns-clause-driven : goal.returns-clause-driven
returns-clause-driven g c =
    let old = c.args.self.now in
    let keyed : old.key ≡ key_by old.plan = search rules in
    let answered = subst (λ k. Taken (office_of g.R.Raw.out g.R.Raw.faults g.R.Raw.got g.R.Raw.passed k) c.args.job
    c.in-Some.office c.taken-seen.result c.taken-seen.new.office) keyed c.taken-seen.ensures in
    takes_up (office_of _ _ _ _ (key_by old.plan)) (key_by old.plan)
    (IsOf old.plan.policy old.plan.limits)
    (office_keeps _ _ _ _ old.plan.policy old.plan.limits (key_by old.plan)) old.local _ _
    c.args.job old.office c.in-Some.office c.taken-seen.new.office c.taken-seen.result None old.place.me _
    c.requires.driven c.requires.job
    (c.exchange-office.ensures.2 ∙ ap (λ z. (0, z) ∷ rest old.place.me.1) c.in-Some.is)
    c.exchange-office.ensures.3 answered c.told.ensures

use Rattle.std.proofs.Common.{rules, ◌≡◌, sym, ap, subst, ◌∙◌}
use Rattle.step_runs.specs.Callbacks.{office_of}
use Rattle.step_runs.specs.Laws.{IsOf}
use Rattle.step_runs.proofs.CallerLemmas.{office_keeps}
use Rattle.atomic_driver.specs.Rule.{key_by}
use Rattle.step_local.specs.Learn.{learn}
use Rattle.step_runs.specs.Places.{gives_of}
use Rattle.step_runs.specs.Runs.{Passes}
use Rattle.atomic_driver.specs.Steps.{Acts, own_of}
use Rattle.atomic_driver.proofs.Driving.{ready, drives, acts}
use Rattle.atomic_driver.proofs.seat.DriverSeat.steps.Goals as goal

pub step-seen-requires-clause-ready : goal.step-seen-requires-clause-ready
step-seen-requires-clause-ready g c =
    let old = c.args.self.now in
    ready (office_of _ _ _ _ (key_by old.plan)) (key_by old.plan)
    (IsOf old.plan.policy old.plan.limits)
    (office_keeps _ _ _ _ old.plan.policy old.plan.limits (key_by old.plan)) old.local old.office
    old.place.me c.requires.driven

pub returns-clause-driven : goal.returns-clause-driven
returns-clause-driven g c =
    let old = c.args.self.now in
    let keyed : old.key ≡ key_by old.plan = search rules in
    let told = c.step-seen.ensures.steps in
    let passed = subst (λ k. Passes (office_of g.R.Raw.out g.R.Raw.faults g.R.Raw.got g.R.Raw.passed k)
    (gives_of old.local) old.office c.passes.new.office) keyed c.passes.ensures in
    drives (office_of _ _ _ _ (key_by old.plan)) (key_by old.plan)
    (IsOf old.plan.policy old.plan.limits)
    (office_keeps _ _ _ _ old.plan.policy old.plan.limits (key_by old.plan))
    old.local old.office c.passes.new.office c.args.word old.place.me _ told.0
    c.requires.driven c.requires.word told.2 passed _ _ (c.told.ensures ∙ ap (learn old.local) told.1)

pub returns-clause-row : goal.returns-clause-row
returns-clause-row g c =
    let old = c.args.self.now in
    let keyed : old.key ≡ key_by old.plan = search rules in
    let told = c.step-seen.ensures.steps in
    let passed = subst (λ k. Passes (office_of g.R.Raw.out g.R.Raw.faults g.R.Raw.got g.R.Raw.passed k)
    (gives_of old.local) old.office c.passes.new.office) keyed c.passes.ensures in
    subst (λ k. Acts old.local (own_of k old.place.me.0.entries) c.told.new.self
    (own_of k c.step-seen.new.place.me.0.entries) c.told.result) (sym keyed)
    (acts (office_of _ _ _ _ (key_by old.plan)) (key_by old.plan)
    (IsOf old.plan.policy old.plan.limits)
    (office_keeps _ _ _ _ old.plan.policy old.plan.limits (key_by old.plan))
    old.local old.office c.passes.new.office c.args.word old.place.me _ told.0
    c.requires.driven c.requires.word told.2 passed _ _ (c.told.ensures ∙ ap (learn old.local) told.1))

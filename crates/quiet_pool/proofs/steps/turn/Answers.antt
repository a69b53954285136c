use Rattle.std.proofs.Common.{ap, sym, ◌∙◌}
use Rattle.std.specs.Prelude.{slice_get}
use Rattle.atomic_driver.specs.declared.seat.DriverSeat.{DriverSeat}
use Rattle.step_core.specs.Steps.{told_at}
use Rattle.quiet_pool.specs.Held.{locals_of}
use Rattle.quiet_pool.proofs.Lists.{got_at}
use Rattle.quiet_pool.proofs.Quiets.{can_step, turns}
use Rattle.quiet_pool.proofs.steps.turn.Goals as goal

pub steps-seen-requires-clause-can : goal.steps-seen-requires-clause-can
steps-seen-requires-clause-can g c =
    let got = got_at (λ (x : DriverSeat g.row.R.Denot g.R.Raw). x.local) c.args.heaps.now c.from-index.result
    c.index-heaps-index.result c.if-index-heaps.false in
    can_step g.R.Raw.out g.R.Raw.faults g.R.Raw.got g.R.Raw.passed c.args.plan.now c.args.office.now
    (locals_of c.args.heaps.now) c.args.place.now.me c.args.seat c.requires.noted c.requires.state _
    (ap (λ i. slice_get (locals_of c.args.heaps.now) i) (sym c.from-index.ensures) ∙ got)

pub returns-clause-noted : goal.returns-clause-noted
returns-clause-noted g c = (let got = got_at (λ
    (x : DriverSeat g.row.R.Denot g.R.Raw). x.local) c.args.heaps.now c.from-index.result
    c.index-heaps-index.result c.if-index-heaps.false in
    let at = ap (λ i. slice_get (locals_of c.args.heaps.now) i) (sym c.from-index.ensures) ∙ got in
    let index_is = ap (λ i. told_at (locals_of c.args.heaps.now) i c.steps-seen.result) c.from-index.ensures in
    turns g.R.Raw.out g.R.Raw.faults g.R.Raw.got g.R.Raw.passed c.args.plan.now c.args.office.now
    (locals_of c.args.heaps.now) c.args.place.now.me c.args.seat c.requires.noted c.requires.state _ at
    c.steps-seen.result c.tells.result (locals_of c.tells.new.heaps) c.steps-seen.new.place.me c.steps-seen.ensures.seen
    c.steps-seen.ensures.stepped (c.tells.ensures.locals ∙ ap (λ z. z.0) index_is)
    (c.tells.ensures.turn ∙ ap (λ z. z.1) index_is)).noted_now

pub returns-clause-turned : goal.returns-clause-turned
returns-clause-turned g c = (let got = got_at (λ
    (x : DriverSeat g.row.R.Denot g.R.Raw). x.local) c.args.heaps.now c.from-index.result
    c.index-heaps-index.result c.if-index-heaps.false in
    let at = ap (λ i. slice_get (locals_of c.args.heaps.now) i) (sym c.from-index.ensures) ∙ got in
    let index_is = ap (λ i. told_at (locals_of c.args.heaps.now) i c.steps-seen.result) c.from-index.ensures in
    turns g.R.Raw.out g.R.Raw.faults g.R.Raw.got g.R.Raw.passed c.args.plan.now c.args.office.now
    (locals_of c.args.heaps.now) c.args.place.now.me c.args.seat c.requires.noted c.requires.state _ at
    c.steps-seen.result c.tells.result (locals_of c.tells.new.heaps) c.steps-seen.new.place.me c.steps-seen.ensures.seen
    c.steps-seen.ensures.stepped (c.tells.ensures.locals ∙ ap (λ z. z.0) index_is)
    (c.tells.ensures.turn ∙ ap (λ z. z.1) index_is)).turned_now

pub returns-clause-state : goal.returns-clause-state
returns-clause-state g c = (let got = got_at (λ
    (x : DriverSeat g.row.R.Denot g.R.Raw). x.local) c.args.heaps.now c.from-index.result
    c.index-heaps-index.result c.if-index-heaps.false in
    let at = ap (λ i. slice_get (locals_of c.args.heaps.now) i) (sym c.from-index.ensures) ∙ got in
    let index_is = ap (λ i. told_at (locals_of c.args.heaps.now) i c.steps-seen.result) c.from-index.ensures in
    turns g.R.Raw.out g.R.Raw.faults g.R.Raw.got g.R.Raw.passed c.args.plan.now c.args.office.now
    (locals_of c.args.heaps.now) c.args.place.now.me c.args.seat c.requires.noted c.requires.state _ at
    c.steps-seen.result c.tells.result (locals_of c.tells.new.heaps) c.steps-seen.new.place.me c.steps-seen.ensures.seen
    c.steps-seen.ensures.stepped (c.tells.ensures.locals ∙ ap (λ z. z.0) index_is)
    (c.tells.ensures.turn ∙ ap (λ z. z.1) index_is)).state_now

use Rattle.std.proofs.Common.{rules, ◌<◌, refl, sym, ap, ◌∙◌, subst}
use Rattle.pool_api.specs.Heaps.{is_going}
use Rattle.quiet_pool.specs.Held.{locals_of, quiet_of}
use Rattle.quiet_pool.specs.Quiet.{IsState}
use Rattle.quiet_pool.specs.Resets.{Goes, part_begun}
use Rattle.quiet_pool.specs.Resets.Goes.{begins}
use Rattle.quiet_pool.proofs.Parts.{Amid, amid_begun, part_on, part_done}
use Rattle.quiet_pool.proofs.States.{begun_state}
use Rattle.quiet_pool.proofs.resets.part.Goals as goal

pub loop-init : goal.loop-init
loop-init g c =
    let b = c.begins.ensures in
    let t = c.requires in
    let plan = c.args.plan.now in
    let office = c.args.office.now in
    let me = c.args.place.now.me in
    let old = locals_of c.args.heaps.now in
    let low = subst (λ n. c.args.seat < n) (ap (λ k. k.seats) t.key ∙ sym t.state.count) t.seat in
    record {
      can = search rules;
      finite = search rules;
      table = refl;
      plans = b.plans;
      noted = t.noted;
      state = subst (λ ls. IsState g.R.Raw.out g.R.Raw.faults g.R.Raw.got g.R.Raw.passed (quiet_of plan office ls me))
          (sym b.locals) (begun_state g.R.Raw.out g.R.Raw.faults g.R.Raw.got g.R.Raw.passed
          (quiet_of plan office old me)
          c.args.seat c.args.reset t.state t.idle);
      goes = subst (λ ls. Goes (part_begun (quiet_of plan office old me) c.args.seat c.args.reset) c.args.seat
          (quiet_of plan office ls me)) (sym b.locals) begins;
      amid = subst (Amid c.args.seat old) (sym b.locals) (amid_begun c.args.seat old c.args.reset low t.idle);
    }

pub loop-preserved-in-Waits : goal.loop-preserved-in-Waits
loop-preserved-in-Waits g c =
    let v = c.loop.invariant in
    let t = c.turn.ensures in
    let on = part_on (part_begun (quiet_of c.args.plan.now c.args.office.now
    (locals_of c.args.heaps.now) c.args.place.now.me)
    c.args.seat c.args.reset) c.args.seat (locals_of c.args.heaps.now)
    (quiet_of c.args.plan.now c.args.office.now (locals_of c.loop.heaps) c.loop.place.me)
    (quiet_of c.args.plan.now c.args.office.now
    (locals_of c.turn.new.heaps) c.turn.new.place.me) c.turn.result t.turned
    (ap is_going c.in-Waits.is) v.goes v.amid in
    record {
      can = search rules;
      finite = search rules;
      table = t.table ∙ v.table;
      plans = t.plans ∙ v.plans;
      noted = t.noted;
      state = t.state;
      goes = on.goes;
      amid = on.amid;
    }

pub loop-preserved-in-Stepped : goal.loop-preserved-in-Stepped
loop-preserved-in-Stepped g c =
    let v = c.loop.invariant in
    let t = c.turn.ensures in
    let on = part_on (part_begun (quiet_of c.args.plan.now c.args.office.now
    (locals_of c.args.heaps.now) c.args.place.now.me)
    c.args.seat c.args.reset) c.args.seat (locals_of c.args.heaps.now)
    (quiet_of c.args.plan.now c.args.office.now (locals_of c.loop.heaps) c.loop.place.me)
    (quiet_of c.args.plan.now c.args.office.now
    (locals_of c.turn.new.heaps) c.turn.new.place.me) c.turn.result t.turned
    (ap is_going c.in-Stepped.is) v.goes v.amid in
    record {
      can = search rules;
      finite = search rules;
      table = t.table ∙ v.table;
      plans = t.plans ∙ v.plans;
      noted = t.noted;
      state = t.state;
      goes = on.goes;
      amid = on.amid;
    }

pub loop-preserved : goal.loop-preserved
loop-preserved g c =
    let v = c.loop.invariant in
    let t = c.turn.ensures in
    let on = part_on (part_begun (quiet_of c.args.plan.now c.args.office.now
    (locals_of c.args.heaps.now) c.args.place.now.me)
    c.args.seat c.args.reset) c.args.seat (locals_of c.args.heaps.now)
    (quiet_of c.args.plan.now c.args.office.now (locals_of c.loop.heaps) c.loop.place.me)
    (quiet_of c.args.plan.now c.args.office.now
    (locals_of c.turn.new.heaps) c.turn.new.place.me) c.turn.result t.turned
    (ap is_going c.in-Idle.is) v.goes v.amid in
    record {
      can = search rules;
      finite = search rules;
      table = t.table ∙ v.table;
      plans = t.plans ∙ v.plans;
      noted = t.noted;
      state = t.state;
      goes = on.goes;
      amid = on.amid;
    }

pub returns-in-Done-clause-part : goal.returns-in-Done-clause-part
returns-in-Done-clause-part g c =
    let v = c.loop.invariant in
    (part_done (quiet_of c.args.plan.now c.args.office.now (locals_of c.args.heaps.now) c.args.place.now.me) c.args.seat
    c.args.reset (locals_of c.args.heaps.now)
    (quiet_of c.args.plan.now c.args.office.now (locals_of c.loop.heaps) c.loop.place.me)
    (quiet_of c.args.plan.now c.args.office.now (locals_of c.turn.new.heaps) c.turn.new.place.me) c.turn.result
    c.in-Done.field-0 c.turn.ensures.turned c.in-Done.is v.goes v.amid).part

pub returns-in-Done-clause-rests : goal.returns-in-Done-clause-rests
returns-in-Done-clause-rests g c =
    let v = c.loop.invariant in
    (part_done (quiet_of c.args.plan.now c.args.office.now (locals_of c.args.heaps.now) c.args.place.now.me) c.args.seat
    c.args.reset (locals_of c.args.heaps.now)
    (quiet_of c.args.plan.now c.args.office.now (locals_of c.loop.heaps) c.loop.place.me)
    (quiet_of c.args.plan.now c.args.office.now (locals_of c.turn.new.heaps) c.turn.new.place.me) c.turn.result
    c.in-Done.field-0 c.turn.ensures.turned c.in-Done.is v.goes v.amid).rests

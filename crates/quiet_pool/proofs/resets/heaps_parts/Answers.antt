use Rattle.std.proofs.Common.{rules, ◌≡◌, ◌+◌, suc, refl, ◌∙◌, subst, arith}
use Rattle.quiet_pool.specs.Held.{locals_of, quiet_of}
use Rattle.quiet_pool.specs.Resets.{AreRestingBelow, HeapsReset}
use Rattle.quiet_pool.specs.Resets.HeapsReset.{none, heap}
use Rattle.quiet_pool.proofs.Parts.{idle_still, rest_more}
use Rattle.quiet_pool.proofs.resets.heaps_parts.Goals as goal

pub loop-seat-init : goal.loop-seat-init
loop-seat-init g c = record {
  table = refl;
  plans = refl;
  noted = c.requires.noted;
  state = c.requires.state;
  parts = none;
  rests = λ seat l at low. absurd (omega arith);
  idle = c.requires.idle;
}

pub loop-seat-preserved : goal.loop-seat-preserved
loop-seat-preserved g c =
    let v = c.loop-seat.invariant in
    let e = c.part.ensures in
    let next : suc c.loop-seat.seat ≡ c.loop-seat.seat + 1 = omega arith in
    record {
      table = e.table ∙ v.table;
      plans = e.plans ∙ v.plans;
      noted = e.noted;
      state = e.state;
      parts = subst (λ n. HeapsReset
          (quiet_of c.args.plan.now c.args.office.now (locals_of c.args.heaps.now) c.args.place.now.me) n
          (quiet_of c.args.plan.now c.args.office.now (locals_of c.part.new.heaps) c.part.new.place.me)) next
          (heap {mid = quiet_of c.args.plan.now c.args.office.now
          (locals_of c.loop-seat.heaps) c.loop-seat.place.me} v.parts e.part);
      rests = subst (λ n. AreRestingBelow n (locals_of c.part.new.heaps)) next
          (rest_more c.loop-seat.seat (locals_of c.loop-seat.heaps) (locals_of c.part.new.heaps) v.rests e.rests);
      idle = idle_still c.loop-seat.seat (locals_of c.loop-seat.heaps) (locals_of c.part.new.heaps) v.idle e.rests;
    }

pub returns-clause-parts : goal.returns-clause-parts
returns-clause-parts g c =
    let v = c.loop-seat.invariant in
    let high = c.loop-seat-test.false in
    let low = c.loop-seat.auto in
    let all : c.loop-seat.seat ≡ c.args.key.now.seats = search rules in
    subst (λ n. HeapsReset (quiet_of c.args.plan.now c.args.office.now
    (locals_of c.args.heaps.now) c.args.place.now.me) n
    (quiet_of c.args.plan.now c.args.office.now (locals_of c.loop-seat.heaps) c.loop-seat.place.me)) all v.parts

pub returns-clause-rests : goal.returns-clause-rests
returns-clause-rests g c =
    let v = c.loop-seat.invariant in
    let all : c.loop-seat.seat ≡ c.args.key.now.seats = search rules in
    subst (λ n. AreRestingBelow n (locals_of c.loop-seat.heaps)) all v.rests

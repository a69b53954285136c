-- The search passes over no base that is free.
use Rattle.std.proofs.Common.{arith, sym, refl, ◌<◌, ◌+◌}
use Rattle.pool_types.proofs.Bases.{find-passes, find-none, overlaps-behind, tried-past, none-behind, at_base}
use Rattle.pool_types.specs.Regions.{overlaps}
use Rattle.pool_types.proofs.scripted.least_free.Goals as goal

pub returns-in_default-clause-some : goal.returns-in_default-clause-some
returns-in_default-clause-some c = record {
  exact = refl;
  least = record {
    steps = c.loop-base.invariant.steps;
    multiple = c.loop-base.invariant.multiple;
    free = find-none (λ one. overlaps one (at_base c.args.bytes c.loop-base.base)) c.args.out.now (sym c.in_default.ensures);
    least = c.loop-base.invariant.tried;
  };
  ends = omega arith;
}

pub returns-in_default-step_from-clause-none : goal.returns-in_default-step_from-clause-none
returns-in_default-step_from-clause-none c = λ region. none-behind c.args.out.now c.args.bytes c.loop-base.base region c.in-Some.met c.requires c.loop-base.invariant (sym c.in-Some.ensures) c.in_default-step_from.ensures.none

pub loop-base-smaller : goal.loop-base-smaller
loop-base-smaller c =
    let grows : c.loop-base.base < c.in-Some.met.base + c.in-Some.met.bytes = overlaps-behind c.in-Some.met c.args.bytes c.loop-base.base (find-passes (λ one. overlaps one (at_base c.args.bytes c.loop-base.base)) c.args.out.now c.in-Some.met (sym c.in-Some.ensures)) in
    omega (arith, c.in-Some-step_from.ensures.some.2, c.loop-base-test.true)

pub loop-base-preserved : goal.loop-base-preserved
loop-base-preserved c = let found = c.in-Some-step_from.ensures.some in
    tried-past c.args.out.now c.args.bytes c.loop-base.base c.in-Some-step_from.next found.0 c.in-Some.met c.loop-base.invariant (sym c.in-Some.ensures) found.1 found.2 found.3

-- Each pass leads on, and the last one to the end.
use Rattle.std.proofs.Common.{◌≡◌, ◌+◌, ◌-◌, ◌≤◌, ℕ, suc, arith, sym, length, subst}
use Rattle.pool_types.specs.declared.endings.Destroyed.{Destroyed}
use Rattle.step_core.specs.Endings.{no_regions, PassesAll}
use Rattle.step_core.proofs.AllRegions.{GoesOn, goes_on, ends_here, none_of}
use Rattle.step_core.proofs.endings.passes_all.Goals as goal

pub loop-init : goal.loop-init
loop-init g c =
    let none : c.default-destroyed.result ≡ no_regions =
    none_of c.default-destroyed.result c.default-destroyed.ensures.0 c.default-destroyed.ensures.1.0
    c.default-destroyed.ensures.1.1 in
    let most : length c.args.office.records ≤ 64 = c.regions-regions.ensures.sound.most in
    record {
      count = rw c.regions-regions.ensures.records (omega arith);
      room = rw none (omega (arith, most));
      leads = λ last end h. subst (λ (d : Destroyed). PassesAll g.R.Raw.out g.R.Raw.faults g.R.Raw.passed
          c.args.office.records d c.args.office.raw last end) none h;
    }

pub passes_first-requires : goal.passes_first-requires
passes_first-requires g c = c.loop.invariant.room

pub loop-preserved : goal.loop-preserved
loop-preserved g c =
    let left : ℕ = length c.regions-regions.result.now - (c.loop.counter + 1) in
    let many : length c.loop.office.records ≡ suc left = omega (arith, c.loop.invariant.count, c.loop-test.true) in
    let on : GoesOn g.R.Raw.out g.R.Raw.faults g.R.Raw.passed c.args.office.records no_regions c.args.office.raw
    c.loop.office c.passes_first.new.office c.passes_first.new.destroyed left =
    goes_on g.R.Raw.out g.R.Raw.faults g.R.Raw.passed c.args.office.records no_regions c.args.office.raw
    c.loop.office c.passes_first.new.office c.loop.destroyed c.passes_first.new.destroyed left many
    c.loop.invariant.room c.passes_first.ensures c.loop.invariant.leads in
    record {
      count = omega (arith, on.fewer, c.loop-test.true);
      room = on.room;
      leads = on.leads;
    }

pub returns : goal.returns
returns g c =
    let none : length c.loop.office.records ≡ 0 = omega (arith, c.loop.invariant.count, c.loop-test.false) in
    subst (λ raw. PassesAll g.R.Raw.out g.R.Raw.faults g.R.Raw.passed c.args.office.records no_regions c.args.office.raw
    c.loop.destroyed raw) (sym c.end.ensures.raw)
    (c.loop.invariant.leads c.loop.destroyed c.loop.office.raw
    (ends_here g.R.Raw.out g.R.Raw.faults g.R.Raw.passed c.loop.office.records c.loop.destroyed c.loop.office.raw none))

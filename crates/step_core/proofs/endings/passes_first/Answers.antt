-- The region that has the lowest number is the one that is passed.
use Rattle.std.proofs.Common.{◌≡◌, true, false, ap, Some}
use Rattle.std.specs.Prelude.{slice_get}
use Rattle.step_core.proofs.FirstRegions.{passes_first}
use Rattle.step_core.proofs.endings.passes_first.Goals as goal

pub returns-then-give : goal.returns-then-give
returns-then-give g c =
    let there : slice_get c.args.office.now.records 0 ≡ Some c.in-Some.one = cc in
    passes_first g.R.Raw.out g.R.Raw.faults g.R.Raw.passed c.args.office.now c.give.new.self c.in-Some.one true
    c.regions.ensures.sound c.if-give.ensures.gives c.args.destroyed.now _ there
    (ap (λ xs. record c.args.destroyed.now { returned = record { items = xs } }) c.push.ensures.items)

pub returns-else-give : goal.returns-else-give
returns-else-give g c =
    let there : slice_get c.args.office.now.records 0 ≡ Some c.in-Some.one = cc in
    passes_first g.R.Raw.out g.R.Raw.faults g.R.Raw.passed c.args.office.now c.give.new.self c.in-Some.one false
    c.regions.ensures.sound c.if-give.ensures.gives c.args.destroyed.now _ there
    (ap (λ xs. record c.args.destroyed.now { refused = record { items = xs } }) c.push-else-give.ensures.items)

-- One turn of the loop is one turn of its definition.
use Rattle.word_totals.proofs.Steps.{with_units-next}
use Rattle.word_totals.proofs.counting.with_units.Goals as goal

pub loop-left-preserved : goal.loop-left-preserved
loop-left-preserved g c =
    let still = g.P.AtRest.still (c.loop-left.pool) in
    let step =
    with_units-next still c.args.kind c.loop-left.left c.loop-left.unit c.loop-left.totals c.loop-left-test.true in
    let kept = c.loop-left.invariant.rest in
    let same = c.loop-left.invariant.same in
    let found = c.load.ensures.found in
    let load_same = c.load.ensures.same in
    let mark = c.of_word-mark.ensures in
    let totals = c.with_held-totals.ensures in
    let unit = c.saturating_add-unit.ensures in
    record { rest = cc; same = cc }

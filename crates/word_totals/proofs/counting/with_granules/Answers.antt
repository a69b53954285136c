-- One turn of the loop is one turn of its definition.
use Rattle.word_totals.proofs.Steps.{with_granules-next}
use Rattle.word_totals.proofs.counting.with_granules.Goals as goal

pub loop-left-preserved : goal.loop-left-preserved
loop-left-preserved g c =
    let still = g.P.AtRest.still (c.loop-left.pool) in
    let step =
    with_granules-next still c.loop-left.left c.loop-left.granule c.loop-left.totals c.loop-left-test.true in
    let kept = c.loop-left.invariant.rest in
    let same = c.loop-left.invariant.same in
    let exact = c.with_granule-totals.ensures.exact in
    let call_same = c.with_granule-totals.ensures.same in
    let granule = c.saturating_add-granule.ensures in
    record { rest = cc; same = cc }

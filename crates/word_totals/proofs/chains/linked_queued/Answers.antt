-- One turn of the loop is one turn of its definition.
use Rattle.word_totals.proofs.Steps.{linked_queued-next}
use Rattle.word_totals.proofs.chains.linked_queued.Goals as goal

pub loop-left-preserved : goal.loop-left-preserved
loop-left-preserved g c =
    let still = g.P.AtRest.still (c.loop-left.pool) in
    let step = linked_queued-next still c.loop-left.left c.in-Some.block c.loop-left.sum c.loop-left-test.true in
    let kept = c.loop-left.invariant.rest in
    let same = c.loop-left.invariant.same in
    let some = c.in-Some.is in
    let length = c.queued_length.ensures.exact in
    let length_same = c.queued_length.ensures.same in
    let sum = c.saturating_add-sum.ensures in
    let next = c.queued_next-next.ensures.exact in
    let next_same = c.queued_next-next.ensures.same in
    record { rest = cc; same = cc }

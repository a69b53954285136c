-- One turn of the loop is one turn of its definition.
use Rattle.word_totals.proofs.Steps.{linked_free-next}
use Rattle.word_totals.proofs.blocks.linked_free.Goals as goal

pub loop-left-preserved : goal.loop-left-preserved
loop-left-preserved g c =
    let still = g.P.AtRest.still (c.loop-left.pool) in
    let step =
    linked_free-next still c.args.bin c.loop-left.left c.in-Some.block c.loop-left.sum c.loop-left-test.true in
    let kept = c.loop-left.invariant.rest in
    let same = c.loop-left.invariant.same in
    let some = c.in-Some.is in
    let length = c.length_in.ensures.exact in
    let length_same = c.length_in.ensures.same in
    let sum = c.saturating_add-sum.ensures in
    let next = c.free_next-next.ensures.exact in
    let next_same = c.free_next-next.ensures.same in
    record { rest = cc; same = cc }

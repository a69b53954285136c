-- One turn of the loop is one turn of its definition.
use Rattle.std.proofs.Common.{arith}
use Rattle.word_totals.proofs.Steps.{linked_ages-next, linked_ages-none}
use Rattle.word_totals.proofs.caching.ages_from.Goals as goal

pub loop-left-preserved : goal.loop-left-preserved
loop-left-preserved g c =
    let still = g.P.AtRest.still (c.loop-left.pool) in
    let step = linked_ages-next still c.loop-left.left c.in-Some.block c.loop-left.ages.items c.loop-left-test.true in
    let kept = c.loop-left.invariant.rest in
    let same = c.loop-left.invariant.same in
    let some = c.in-Some.is in
    let age = c.load.ensures.found in
    let age_same = c.load.ensures.same in
    let pushed = c.push.ensures.items in
    let longer = c.push.ensures.len in
    let next = c.cached_next-next.ensures.exact in
    let next_same = c.cached_next-next.ensures.same in
    let room = c.loop-left.invariant.room in
    record { rest = cc; room = omega (arith, longer, room, c.loop-left-test.true); same = cc }

pub returns-clause-exact : goal.returns-clause-exact
returns-clause-exact g c =
    let still = g.P.AtRest.still (c.loop-left.pool) in
    let done =
    linked_ages-none still c.loop-left.next c.loop-left.left c.loop-left.ages.items c.loop-left-test.false in
    let kept = c.loop-left.invariant.rest in
    let same = c.loop-left.invariant.same in
    cc

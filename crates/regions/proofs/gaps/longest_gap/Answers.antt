-- Each reach is longer than the best so far, or not.
use Rattle.regions.proofs.GapLemmas.{IsFreeTo, longest_new, longest_old, longest_whole}
use Rattle.regions.proofs.gaps.longest_gap.Goals.{then-end-at, else-end-at}
use Rattle.regions.proofs.gaps.longest_gap.Goals as goal

pub loop-at-preserved : goal.loop-at-preserved
loop-at-preserved c =
    let found = c.first_taken-end.ensures in
    let reach : IsFreeTo c.args.span c.args.records.now c.loop-at.at c.first_taken-end.result = record { from = found.from; within = found.within; free = found.free; stop = found.taken } in
    elim c.if-end-at.branch [
      | then-end-at w ↦ rw w.best-is (longest_new c.args.span c.args.records.now c.loop-at.at c.first_taken-end.result c.loop-at.best.start c.loop-at.best.count c.loop-at.invariant reach w.if-end-at.true)
      | else-end-at w ↦ rw w.best-is (longest_old c.args.span c.args.records.now c.loop-at.at c.first_taken-end.result c.loop-at.best.start c.loop-at.best.count c.loop-at.invariant reach w.if-end-at.false c.loop-at-test.true)
    ]

pub returns : goal.returns
returns c = longest_whole c.args.span c.args.records.now c.loop-at.at c.loop-at.best.start c.loop-at.best.count c.loop-at.invariant c.loop-at-test.false

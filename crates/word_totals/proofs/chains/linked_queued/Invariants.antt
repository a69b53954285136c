-- What is left from here decides.
use Rattle.std.proofs.Common.{◌≡◌}
use Rattle.word_totals.specs.Chains.{linked_queued}
use Rattle.word_totals.proofs.chains.linked_queued.Given as goal

abbrev pub decreases-loop-left : goal.decreases-loop-left
decreases-loop-left g l = l.left

abbrev pub invariant-loop-left : goal.invariant-loop-left
invariant-loop-left g l =
    let still = g.P.AtRest.still in
    record {
      rest : linked_queued (still l.fn.pool) l.most l.fn.first 0 ≡ linked_queued (still l.pool) l.left l.next l.sum;
      same : still l.pool ≡ still l.fn.pool;
    }

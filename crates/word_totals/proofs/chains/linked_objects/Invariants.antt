-- What is left from here decides.
use Rattle.std.proofs.Common.{◌≡◌}
use Rattle.word_totals.specs.Chains.{linked_objects}
use Rattle.word_totals.proofs.chains.linked_objects.Given as goal

abbrev pub decreases-loop-left : goal.decreases-loop-left
decreases-loop-left g l = l.left

abbrev pub invariant-loop-left : goal.invariant-loop-left
invariant-loop-left g l =
    let still = g.P.AtRest.still in
    record {
      rest : linked_objects (still l.fn.pool) l.most l.fn.first 0 ≡
          linked_objects (still l.pool) l.left l.next l.count;
      same : still l.pool ≡ still l.fn.pool;
    }

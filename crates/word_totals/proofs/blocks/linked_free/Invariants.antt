-- What is left from here decides.
use Rattle.std.proofs.Common.{◌≡◌}
use Rattle.word_totals.specs.Blocks.{linked_free}
use Rattle.word_totals.proofs.blocks.linked_free.Given as goal

abbrev pub decreases-loop-left : goal.decreases-loop-left
decreases-loop-left g l = l.left

abbrev pub invariant-loop-left : goal.invariant-loop-left
invariant-loop-left g l =
    let still = g.P.AtRest.still in
    record {
      rest : linked_free (still l.fn.pool) l.bin l.most l.fn.first 0 ≡
          linked_free (still l.pool) l.bin l.left l.next l.sum;
      same : still l.pool ≡ still l.fn.pool;
    }

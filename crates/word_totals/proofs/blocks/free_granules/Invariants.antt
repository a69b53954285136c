-- What is left from here decides.
use Rattle.std.proofs.Common.{◌≡◌}
use Rattle.word_totals.specs.Blocks.{free_granules}
use Rattle.word_totals.proofs.blocks.free_granules.Given as goal

abbrev pub decreases-loop-left : goal.decreases-loop-left
decreases-loop-left g l = l.left

abbrev pub invariant-loop-left : goal.invariant-loop-left
invariant-loop-left g l =
    let still = g.P.AtRest.still in
    record {
      rest : free_granules (still l.fn.pool) l.bins 0 0 ≡ free_granules (still l.pool) l.left l.bin l.sum;
      same : still l.pool ≡ still l.fn.pool;
    }

-- What is left from here decides.
use Rattle.std.proofs.Common.{◌≡◌}
use Rattle.word_totals.specs.Counting.{with_units}
use Rattle.word_totals.proofs.counting.with_units.Given as goal

abbrev pub decreases-loop-left : goal.decreases-loop-left
decreases-loop-left g l = l.left

abbrev pub invariant-loop-left : goal.invariant-loop-left
invariant-loop-left g l =
    let still = g.P.AtRest.still in
    record {
      rest : with_units (still l.fn.pool) l.kind l.units l.first l.fn.before ≡
          with_units (still l.pool) l.kind l.left l.unit l.totals;
      same : still l.pool ≡ still l.fn.pool;
    }

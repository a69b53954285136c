-- What is left from here decides.
use Rattle.std.proofs.Common.{◌≡◌}
use Rattle.word_totals.specs.Counting.{with_seats}
use Rattle.word_totals.proofs.counting.with_seats.Given as goal

abbrev pub decreases-loop-left : goal.decreases-loop-left
decreases-loop-left g l = l.left

abbrev pub invariant-loop-left : goal.invariant-loop-left
invariant-loop-left g l =
    let still = g.P.AtRest.still in
    record {
      rest : with_seats (still l.fn.pool) l.seats 0 l.fn.before ≡ with_seats (still l.pool) l.left l.seat l.totals;
      same : still l.pool ≡ still l.fn.pool;
    }

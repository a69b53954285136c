-- the bins of fewer granules
use Rattle.std.proofs.Common.{◌≡◌}
use Rattle.line_runs.specs.Ending.{bins_to}
use Rattle.quiet_pool.specs.Quiet.{still_of}
use Rattle.thread_runs.proofs.ending.bins_to.Given as goal

abbrev pub invariant-loop-before : goal.invariant-loop-before
invariant-loop-before g l = record {
  bins : l.bins.items ≡ bins_to (still_of l.fn.pool) l.before;
  same : l.pool ≡ l.fn.pool;
}

-- what is left, behind what is written, is all
use Rattle.std.proofs.Common.{◌≡◌, drop}
use Rattle.thread_runs.specs.Ending.{ends_from}
use Rattle.thread_runs.proofs.ending.add_ends.Given as goal

abbrev pub invariant-loop-number : goal.invariant-loop-number
invariant-loop-number g l = record {
  report : ends_from l.report l.number (drop l.number l.fn.pools) ≡ ends_from l.fn.report 0 l.fn.pools;
  same : l.pools ≡ l.fn.pools;
}

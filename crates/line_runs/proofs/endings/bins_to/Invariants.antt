-- the bins of fewer granules
use Rattle.std.proofs.Common.{◌≡◌}
use Rattle.step_core.specs.Counts.{still_of}
use Rattle.line_runs.specs.Ending.{bins_to}
use Rattle.line_runs.proofs.endings.bins_to.Given as goal

abbrev pub invariant-loop-before : goal.invariant-loop-before
invariant-loop-before l = l.bins.items ≡ bins_to (still_of l.machine) l.before

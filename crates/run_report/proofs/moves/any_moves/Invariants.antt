-- none so far moves something
use Rattle.std.proofs.Common.{◌≡◌, drop}
use Rattle.run_report.specs.Moves.{any_moves}
use Rattle.run_report.proofs.moves.any_moves.Given as goal

abbrev pub invariant-loop-step : goal.invariant-loop-step
invariant-loop-step l = any_moves (drop l.step-index l.steps) ≡ any_moves l.steps

-- So many turns were made, after which the reset is not done.
use Rattle.std.proofs.Common.{ℕ}
use Rattle.step_core.specs.Resets.{ResetsOn}
use Rattle.step_core.proofs.machine.PlainMachine.resets_on.Given as goal

abbrev pub invariant-loop : goal.invariant-loop
invariant-loop g l = (turns : ℕ) × ResetsOn g.R.Raw.out g.R.Raw.faults g.R.Raw.got g.R.Raw.passed turns l.fn.self l.self

use Rattle.std.proofs.Common.{◌≡◌}
use Rattle.step_core.specs.Machines.{made_locals}
use Rattle.step_core.proofs.machine.made_locals.Given as goal

abbrev pub invariant-loop-seat : goal.invariant-loop-seat
invariant-loop-seat l = l.locals.items ≡ made_locals l.key l.seat

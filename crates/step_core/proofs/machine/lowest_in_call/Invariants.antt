-- no seat so far is in a call
use Rattle.std.proofs.Common.{◌≡◌, drop}
use Rattle.step_core.specs.Machines.{lowest_from}
use Rattle.step_core.proofs.machine.lowest_in_call.Given as goal

abbrev pub invariant-loop-seat : goal.invariant-loop-seat
invariant-loop-seat l = lowest_from 0 l.locals ≡ lowest_from l.seat (drop l.seat l.locals)

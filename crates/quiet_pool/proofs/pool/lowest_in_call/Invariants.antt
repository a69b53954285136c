-- no seat so far is in a call
use Rattle.std.proofs.Common.{◌≡◌, drop}
use Rattle.step_core.specs.Machines.{lowest_from}
use Rattle.quiet_pool.specs.Held.{locals_of}
use Rattle.quiet_pool.proofs.pool.lowest_in_call.Given as goal

abbrev pub invariant-loop-seat : goal.invariant-loop-seat
invariant-loop-seat g l = lowest_from 0 (locals_of l.heaps) ≡ lowest_from l.seat (locals_of (drop l.seat l.heaps))

-- What is left from here leads to all.
use Rattle.std.proofs.Common.{◌-◌}
use Rattle.line_runs.proofs.LeadsTo.{LeadsTo}
use Rattle.line_runs.proofs.turns.turn_on.Given as goal

abbrev pub invariant-loop : goal.invariant-loop
invariant-loop l = LeadsTo l.turns l.until l.seat l.fn.machine l.fn.book (l.turns - l.counter) l.machine l.book

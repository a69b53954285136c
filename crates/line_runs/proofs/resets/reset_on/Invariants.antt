-- What is left from here leads to all.
use Rattle.std.proofs.Common.{◌-◌}
use Rattle.line_runs.proofs.LeadsTo.{ResetLeads}
use Rattle.line_runs.proofs.resets.reset_on.Given as goal

abbrev pub invariant-loop : goal.invariant-loop
invariant-loop l = ResetLeads l.turns l.fn.machine l.fn.book (l.turns - l.counter) l.machine l.book

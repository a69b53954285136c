use Rattle.std.proofs.Common.{◌≡◌, ◌++◌, drop, map}
use Rattle.report_text.specs.Entries.{entries_text}
use Rattle.trace_calls.specs.Entries.{leaked}
use Rattle.trace_calls.proofs.entries.add_leaks.Given as goal

abbrev pub invariant-loop-leak : goal.invariant-loop-leak
invariant-loop-leak l = record {
  names : l.report.names ≡ l.initial.report.names;
  text : l.report.text ++ entries_text l.report.names (map leaked (drop l.leak-index l.leaks)) ≡ l.initial.report.text ++ entries_text l.initial.report.names (map leaked l.leaks);
}

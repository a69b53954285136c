use Rattle.std.proofs.Common.{◌≡◌, ◌++◌, drop, map}
use Rattle.report_text.specs.Entries.{entries_text}
use Rattle.trace_calls.specs.Entries.{cached}
use Rattle.trace_calls.proofs.entries.add_bins.Given as goal

abbrev pub invariant-loop-bin : goal.invariant-loop-bin
invariant-loop-bin l = record {
  names : l.report.names ≡ l.initial.report.names;
  text : l.report.text ++ entries_text l.report.names (map (cached l.pool) (drop l.bin-index l.bins))
      ≡ l.initial.report.text ++ entries_text l.initial.report.names (map (cached l.pool) l.bins);
}

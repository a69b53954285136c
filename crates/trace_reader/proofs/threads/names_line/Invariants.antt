use Rattle.std.proofs.Common.{[], take, drop, map}
use Rattle.std.specs.Prelude.{Result}
use Rattle.trace_reader.specs.declared.acts.Act.{Act}
use Rattle.trace_reader.specs.declared.refusal.Refusal.{Refusal}
use Rattle.trace_reader.specs.Words.{bytes_in}
use Rattle.trace_reader.specs.Acts.{ReadsNames}
use Rattle.trace_reader.proofs.threads.names_line.Given as goal

abbrev pub invariant-loop-i : goal.invariant-loop-i
invariant-loop-i l = (result : Result Act Refusal) → ReadsNames l.more (map bytes_in (take l.i l.names)) (drop l.i (map bytes_in l.names)) result → ReadsNames l.more [] (map bytes_in l.names) result

use Rattle.std.proofs.Common.{length}
use Rattle.trace_reader.specs.Contexts.{context_of}
use Rattle.trace_reader.proofs.TextLemmas.{ReadSoFar}
use Rattle.trace_reader.proofs.trace.read_lines.Given as goal

abbrev pub invariant-loop-text : goal.invariant-loop-text
invariant-loop-text l = ReadSoFar l.forms l.bytes l.rest l.number (context_of l.reading.context) l.reading.lines.items

abbrev pub decreases-loop-text : goal.decreases-loop-text
decreases-loop-text l = length l.rest

use Rattle.std.proofs.Common.{◌≡◌, ◌++◌, length, map}
use Rattle.trace_reader.specs.Words.{split_on, bytes_in}
use Rattle.trace_reader.proofs.words.split_parts.Given as goal

abbrev pub invariant-loop-part : goal.invariant-loop-part
invariant-loop-part l = map bytes_in l.parts.items ++ split_on l.separator l.rest ≡ split_on l.separator l.text

abbrev pub decreases-loop-part : goal.decreases-loop-part
decreases-loop-part l = length l.rest

use Rattle.std.proofs.Common.{◌≡◌, drop}
use Rattle.trace_reader.specs.Names.{name_key}
use Rattle.trace_reader.proofs.names.name_key.Given as goal

abbrev pub invariant-loop-i : goal.invariant-loop-i
invariant-loop-i l = l.key ≡ name_key (drop l.i l.word)

use Rattle.std.proofs.Common.{◌≡◌, take, map}
use Rattle.trace_reader.specs.Words.{bytes_in}
use Rattle.pool_types.specs.Texts.{name_bytes}
use Rattle.trace_reader.proofs.threads.thread_names.Given as goal

abbrev pub invariant-loop-word : goal.invariant-loop-word
invariant-loop-word l = map name_bytes l.names.items ≡ map bytes_in (take l.word-index l.words)

use Rattle.std.proofs.Common.{◌≢◌, ℕ, ◌<◌, map}
use Rattle.std.specs.Prelude.{slice_get, Some}
use Rattle.trace_reader.specs.Words.{bytes_in}
use Rattle.trace_reader.proofs.threads.is_among.Given as goal

abbrev pub invariant-loop-other : goal.invariant-loop-other
invariant-loop-other l = (k : ℕ) → k < l.other-index → slice_get (map bytes_in l.words) k ≢ Some l.word

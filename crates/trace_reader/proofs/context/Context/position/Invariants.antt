use Rattle.std.proofs.Common.{◌≢◌, ℕ, ◌<◌, map}
use Rattle.std.specs.Prelude.{slice_get, Some}
use Rattle.pool_types.specs.Texts.{name_bytes}
use Rattle.trace_reader.proofs.context.Context.position.Given as goal

abbrev pub invariant-loop-i : goal.invariant-loop-i
invariant-loop-i l = (k : ℕ) → k < l.i → slice_get (map name_bytes l.self.names.items) k ≢ Some l.name

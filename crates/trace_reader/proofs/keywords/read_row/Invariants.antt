-- The word is the name of no row that was passed.
use Rattle.std.proofs.Common.{◌≢◌, ℕ, ◌<◌, get_or}
use Rattle.pool_types.specs.declared.rows.Row.TheVariants.{Nothing}
use Rattle.pool_types.specs.Rows.{all_rows, row_name}
use Rattle.trace_reader.proofs.keywords.read_row.Given as goal

abbrev pub invariant-loop-row : goal.invariant-loop-row
invariant-loop-row l = (k : ℕ) → k < l.row-index → l.word ≢ row_name (get_or all_rows k Nothing)

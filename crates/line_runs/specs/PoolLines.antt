-- Every line on a pool that leaves it standing.
use Rattle.std.specs.Prelude.{◌≡◌}
use Rattle.run_report.specs.declared.book.Book.{Book}
use Rattle.trace_calls.specs.Names.{Names}
use Rattle.line_runs.specs.Pools.{Pool}
use Rattle.line_runs.specs.Lines.{Finishes, Calls, begun_at, begin_noted}
use Rattle.line_runs.specs.Resetting.{Resets}
use Rattle.line_runs.specs.declared.lines.Came.{Came}
use Rattle.line_runs.specs.declared.lines.LineAt.{LineAt}
use Rattle.line_runs.specs.declared.pool_lines.PoolLine.{PoolLine}

-- what a line makes of a pool, of what the names stand for, and of the book
abbrev pub PoolRuns : PoolLine → LineAt → Pool → Names → Book → Came → Pool → Names → Book → Type 0
PoolRuns (PoolLine.Call call) at old names book came new after last = Calls at call old names book came new after last
PoolRuns (PoolLine.Begin call) at old names book came new after last =
    (came ≡ Came.InTime) × (after ≡ names) × (new ≡ (begun_at at call old names).0) ×
    (last ≡ begin_noted at call old names book)
PoolRuns (PoolLine.Go until) at old names book came new after last = Finishes until at old names book came new after last
PoolRuns PoolLine.Reset at old names book came new after last =
    (came ≡ Came.InTime) × (after ≡ names) × Resets at.line old book new last

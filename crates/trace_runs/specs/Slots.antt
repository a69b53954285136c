-- A line on the pool that it names.
use Rattle.std.specs.Prelude.{◌≡◌, ℕ, List, Option, Some, None, slice_get, slice_set}
use Rattle.report_text.specs.declared.entry.ReportEntry.TheVariants as entry
use Rattle.run_report.specs.declared.book.Book.{Book}
use Rattle.run_report.specs.Books.{noted}
use Rattle.trace_calls.specs.Names.{Names}
use Rattle.line_runs.specs.Pools.{Pool}
use Rattle.line_runs.specs.Lines.{Notes}
use Rattle.line_runs.specs.PoolLines.{PoolRuns}
use Rattle.line_runs.specs.Ending.{Destroys}
use Rattle.line_runs.specs.declared.lines.Came.{Came}
use Rattle.line_runs.specs.declared.lines.LineAt.{LineAt}
use Rattle.line_runs.specs.declared.pool_lines.PoolLine.{PoolLine}

-- the pool that stands there is run; one that was not made, or was destroyed, is gone
abbrev pub SlotRuns : Option Pool → PoolLine → LineAt → Names → Book → Came → Option Pool → Names → Book → Type 0
SlotRuns None deed at names book came new after last =
    Notes (entry.Gone at.line) names book came after last × (new ≡ None)
SlotRuns (Some pool) deed at names book came new after last =
    (standing : Pool) × PoolRuns deed at pool names book came standing after last × (new ≡ Some standing)

abbrev pub SlotsRunBy : Option (Option Pool) → ℕ → PoolLine → LineAt → List (Option Pool) → Names → Book → Came →
    List (Option Pool) → Names → Book → Type 0
SlotsRunBy None number deed at pools names book came new after last =
    Notes (entry.Gone at.line) names book came after last × (new ≡ pools)
SlotsRunBy (Some slot) number deed at pools names book came new after last =
    (left : Option Pool) × SlotRuns slot deed at names book came left after last × (new ≡ slice_set pools number left)

-- a line that leaves its pool standing
abbrev pub SlotsRun : ℕ → PoolLine → LineAt → List (Option Pool) → Names → Book → Came → List (Option Pool) → Names →
    Book → Type 0
SlotsRun number deed at pools names book came new after last =
    SlotsRunBy (slice_get pools number) number deed at pools names book came new after last

-- the pool that stands there is destroyed
abbrev pub SlotDestroys : Option Pool → ℕ → ℕ → Book → Option Pool → Book → Type 0
SlotDestroys None line number book new last = (new ≡ None) × (last ≡ noted book (entry.Gone line))
SlotDestroys (Some pool) line number book new last = Destroys line number pool book new last

abbrev pub SlotsDestroyBy : Option (Option Pool) → ℕ → ℕ → List (Option Pool) → Book → List (Option Pool) → Book
    → Type 0
SlotsDestroyBy None line number pools book new last = (new ≡ pools) × (last ≡ noted book (entry.Gone line))
SlotsDestroyBy (Some slot) line number pools book new last =
    (left : Option Pool) × SlotDestroys slot line number book left last × (new ≡ slice_set pools number left)

-- a line that destroys its pool
abbrev pub SlotsDestroy : ℕ → ℕ → List (Option Pool) → Book → List (Option Pool) → Book → Type 0
SlotsDestroy line number pools book new last =
    SlotsDestroyBy (slice_get pools number) line number pools book new last

-- A line on the pool that stands at its number.
use Rattle.std.proofs.Common.{◌≡◌, ℕ, List, ◌<◌, length, get_or, refl, sym, subst}
use Rattle.std.specs.Prelude.{Option, Some, None, slice_get}
use Rattle.std.proofs.lemmas.Option.{slice_get_read}
use Rattle.run_report.specs.declared.book.Book.{Book}
use Rattle.trace_calls.specs.Names.{Names}
use Rattle.line_runs.specs.Pools.{Pool}
use Rattle.line_runs.specs.PoolLines.{PoolRuns}
use Rattle.line_runs.specs.Ending.{Destroys}
use Rattle.line_runs.specs.declared.lines.Came.{Came}
use Rattle.line_runs.specs.declared.lines.LineAt.{LineAt}
use Rattle.line_runs.specs.declared.pool_lines.PoolLine.{PoolLine}
use Rattle.trace_runs.specs.Slots.{SlotRuns, SlotsRunBy, SlotsRun, SlotDestroys, SlotsDestroyBy, SlotsDestroy}

-- the pool stands
pub ran : (slot new : Option Pool) (pool standing : Pool) (deed : PoolLine) (at : LineAt) (names : Names) (book : Book)
    (came : Came) (after : Names) (last : Book) → slot ≡ Some pool → new ≡ Some standing →
    PoolRuns deed at pool names book came standing after last → SlotRuns slot deed at names book came new after last
ran slot new pool standing deed at names book came after last is left runs =
    subst (λ (s : Option Pool). SlotRuns s deed at names book came new after last) (sym is) (standing, runs, left)

-- the element at an index below the end
there_is : (pools : List (Option Pool)) (index : ℕ) (slot : Option Pool) → index < length pools →
    slot ≡ get_or pools index slot → slice_get pools index ≡ Some slot
there_is pools index slot below there = slice_get_read pools (length pools) index slot refl below there

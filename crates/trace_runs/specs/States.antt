-- What stands between two lines of a trace.
use Rattle.std.specs.Prelude.{◌≡◌, ℕ, Bool, List, [], Option, None, slice_index_or}
use Rattle.pool_types.specs.declared.values.Place.{Place}
use Rattle.report_text.specs.Reports.{ReportView}
use Rattle.run_report.specs.declared.book.Book.{Book}
use Rattle.trace_calls.specs.Names.{Names, no_names}
use Rattle.line_runs.specs.Pools.{Pool}

-- the pools, by their numbers, of which some were not made or were destroyed; what the names stand for, by their numbers;
-- and what was written and counted
pub record State : Type 0 where
  pub pools : List (Option Pool)
  pub places : List (Option Place)
  pub book : Book

-- what each name stands for; a name of which nothing is kept stands for null
abbrev pub names_in : List (Option Place) → Names
names_in places = λ name. slice_index_or places name None

-- nothing is written, and nothing counted
abbrev pub first_book : Option ReportView → Bool → Book
first_book report moves = record {
  report = report;
  moves = moves;
  moved = 0;
  counts = record { calls = 0; got = 0; null = 0; freed = 0 };
}

-- before the first line no pool is made, and each name stands for null
pub record IsFirst (report : Option ReportView) (moves : Bool) (state : State) : Type 0 where
  pub pools : state.pools ≡ []
  pub names : (name : ℕ) → names_in state.places name ≡ no_names name
  pub book : state.book ≡ first_book report moves

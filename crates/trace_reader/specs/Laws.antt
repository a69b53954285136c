-- The laws of traces.
use Rattle.std.specs.Prelude.{◌≡◌, ◌≢◌, ℕ, ◌≤◌, List, [], length, map, Some, Ok}
use Rattle.std.specs.declared.option.Option.{Option}
use Rattle.pool_types.specs.declared.rows.Row.{Row}
use Rattle.pool_types.specs.declared.rows.Row.TheVariants.{Nothing}
use Rattle.pool_types.specs.declared.values.Place.{Place}
use Rattle.pool_types.specs.Limits.{most_lines}
use Rattle.pool_types.specs.Rows.{row_name}
use Rattle.pool_types.specs.Texts.{place_text}
use Rattle.trace_reader.specs.declared.acts.Act.{Act}
use Rattle.trace_reader.specs.declared.acts.Forms.{Forms}
use Rattle.trace_reader.specs.declared.acts.Forms.TheVariants as forms
use Rattle.trace_reader.specs.declared.trace.Trace.{Trace}
use Rattle.trace_reader.specs.Keywords.{IsRowOf}
use Rattle.trace_reader.specs.Acts.{Enters, ReadsWords}
use Rattle.trace_reader.specs.Contexts.{Context}
use Rattle.trace_reader.specs.Served.{AreBoundInTurn, AreNumbered, AreNumberedNames, AreServed, act_of}
use Rattle.trace_reader.specs.Slots.{IsPlaceOf, IsWritable}
use Rattle.trace_reader.specs.Text.{IsReadAs, Outcome, ReadsTrace, nothing_yet}

-- a text is read as one thing only
abbrev pub TracesAreClear : Type 0
TracesAreClear =
    (forms : Forms) (bytes : List ℕ) (one other : Outcome) → IsReadAs forms bytes one → IsReadAs forms bytes other →
    one ≡ other

-- plain traces have one shape
abbrev pub PlainTracesHaveOneShape : Type 0
PlainTracesHaveOneShape =
    (bytes : List ℕ) (trace : Trace) → ReadsTrace forms.Plain bytes (Ok trace) →
    AreServed trace.names.items trace.pools.items (map act_of trace.lines.items)

-- lines are numbered in their order
abbrev pub LinesAreNumbered : Type 0
LinesAreNumbered =
    (forms : Forms) (bytes : List ℕ) (trace : Trace) → ReadsTrace forms bytes (Ok trace) →
    AreNumbered 1 trace.lines.items × (length trace.lines.items ≤ most_lines)

-- names are bound before they are used, and numbered as they are bound
abbrev pub NamesAreBoundInTurn : Type 0
NamesAreBoundInTurn =
    (forms : Forms) (bytes : List ℕ) (trace : Trace) → ReadsTrace forms bytes (Ok trace) →
    AreBoundInTurn 0 (map act_of trace.lines.items)

-- a number is that of one name: before the first line, and behind each line that is read
abbrev pub NumbersAreNames : Type 0
NumbersAreNames =
    AreNumberedNames nothing_yet
    × ((forms : Forms) (before next : Context) (words : List (List ℕ)) (act : Act)
    → ReadsWords forms before words (Ok act) →
    Enters before words act next → AreNumberedNames before → AreNumberedNames next)

-- the text of a place is read as that place, and as nothing else
abbrev pub PlacesAreReadBack : Type 0
PlacesAreReadBack =
    (place : Place) (result : Option Place) → IsWritable place → IsPlaceOf (place_text place) result
    → result ≡ Some place

-- the name of a row is read as that row, and as nothing else
abbrev pub RowsAreReadBack : Type 0
RowsAreReadBack = (row : Row) (result : Option Row) → row ≢ Nothing → IsRowOf (row_name row) result → result ≡ Some row

-- What the lines on one pool come to.
use Rattle.std.specs.Prelude.{◌≡◌, ℕ, Result, Ok, Err}
use Rattle.pool_types.specs.declared.values.Answer.{Answer}
use Rattle.pool_types.specs.declared.values.InCall.{InCall}
use Rattle.pool_types.specs.Script.{Script}
use Rattle.report_text.specs.declared.entry.ReportEntry.{ReportEntry}
use Rattle.report_text.specs.declared.entry.ReportEntry.TheVariants as entry
use Rattle.run_report.specs.declared.book.Book.{Book}
use Rattle.run_report.specs.Books.{noted, counted}
use Rattle.step_core.specs.Machines.{Machine}
use Rattle.trace_calls.specs.Names.{Names, request_of, names_after}
use Rattle.trace_reader.specs.declared.acts.TraceCall.{TraceCall}
use Rattle.line_runs.specs.Pools.{Pool, call_of, with_machine, begun_pool}
use Rattle.line_runs.specs.Turning.{TurnsOn, turns_of}
use Rattle.line_runs.specs.declared.lines.Came.{Came}
use Rattle.line_runs.specs.declared.lines.LineAt.{LineAt}
use Rattle.line_runs.specs.declared.turns.Stop.{Stop}
use Rattle.line_runs.specs.declared.turns.Until.{Until}

-- what the names stand for once a call was answered so
abbrev pub NamesAfter : Names → TraceCall → Answer → Names → Type 0
NamesAfter old call answer new = (name : ℕ) → new name ≡ names_after old call answer name

-- the line is run, and this is all that it writes
abbrev pub Notes : ReportEntry → Names → Book → Came → Names → Book → Type 0
Notes entry names book came new last = (came ≡ Came.InTime) × (new ≡ names) × (last ≡ noted book entry)

-- so many turns were made, and none ended the line
abbrev pub Spends : Until → ℕ → Names → Book → Came → Names → Book → Type 0
Spends (Until.Turns turns) line names book came new last = Notes (entry.Stepped line) names book came new last
Spends (Until.Made row) line names book came new last = (came ≡ Came.OutOfTurns) × (new ≡ names) × (last ≡ book)
Spends Until.Answer line names book came new last = (came ≡ Came.OutOfTurns) × (new ≡ names) × (last ≡ book)

-- the call of a line was answered
abbrev pub IsAnswered : TraceCall → ℕ → Answer → Names → Book → Came → Names → Book → Type 0
IsAnswered call line answer names book came new last =
    (came ≡ Came.InTime) × NamesAfter names call answer new
    × (last ≡ noted (counted book answer) (entry.Answered line answer))

-- what a line comes to whose turns stop so, where this is the seat's call
abbrev pub Stops : Until → ℕ → TraceCall → Stop → Names → Book → Came → Names → Book → Type 0
Stops until line call (Stop.Answered answer) names book came new last =
    IsAnswered call line answer names book came new last
Stops until line call (Stop.Waits awaited) names book came new last =
    Notes (entry.Waits line awaited) names book came new last
Stops until line call Stop.Idle names book came new last = Notes (entry.Idle line) names book came new last
Stops until line call Stop.Reached names book came new last = Notes (entry.Stepped line) names book came new last
Stops until line call Stop.Spent names book came new last = Spends until line names book came new last

-- turns of a seat to where the line stops, and what it comes to
pub record Finishes (until : Until) (at : LineAt) (old : Pool) (names : Names) (book : Book) (came : Came) (new : Pool)
    (after : Names) (last : Book) : Type 0 where
  pub stop : Stop
  pub middle : Machine Script
  pub written : Book
  pub turns : TurnsOn (turns_of until old.machine.stock.key) until at.seat old.machine book stop middle written
  pub stops : Stops until at.line (call_of old.calls at.seat) stop names written came after last
  pub pool : new ≡ with_machine old middle

-- a call that was begun goes on to its answer; one that was refused writes that the thread is in a call
abbrev pub CallsBy : Result Unit InCall → LineAt → Pool → Names → Book → Came → Pool → Names → Book → Type 0
CallsBy (Ok done) at pool names book came new after last = Finishes Until.Answer at pool names book came new after last
CallsBy (Err refused) at pool names book came new after last =
    Notes (entry.CallOpen at.line) names book came after last × (new ≡ pool)

abbrev pub begun_at : LineAt → TraceCall → Pool → Names → Pool × Result Unit InCall
begun_at at call pool names = begun_pool pool at.seat call (request_of names call)

-- a call that a line makes whole
abbrev pub Calls : LineAt → TraceCall → Pool → Names → Book → Came → Pool → Names → Book → Type 0
Calls at call old names book came new after last =
    CallsBy (begun_at at call old names).1 at (begun_at at call old names).0 names book came new after last

abbrev pub begun_entry : Result Unit InCall → ℕ → ReportEntry
begun_entry (Ok done) line = entry.Begun line
begun_entry (Err refused) line = entry.CallOpen line

-- a call that a line begins
abbrev pub begin_noted : LineAt → TraceCall → Pool → Names → Book → Book
begin_noted at call old names book = noted book (begun_entry (begun_at at call old names).1 at.line)

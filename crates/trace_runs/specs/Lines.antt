-- What each line of a trace does.
use Rattle.std.specs.Prelude.{◌≡◌, ℕ}
use Rattle.run_report.specs.Books.{called}
use Rattle.trace_reader.specs.declared.acts.Act.{Act}
use Rattle.trace_reader.specs.declared.acts.Act.TheVariants as act
use Rattle.trace_reader.specs.declared.acts.TraceLine.{TraceLine}
use Rattle.trace_reader.specs.declared.trace.Trace.{Trace}
use Rattle.line_runs.specs.declared.lines.Came.{Came}
use Rattle.line_runs.specs.declared.lines.LineAt.{LineAt}
use Rattle.line_runs.specs.declared.pool_lines.PoolLine.{PoolLine}
use Rattle.line_runs.specs.declared.turns.Until.{Until}
use Rattle.trace_runs.specs.Making.{Makes}
use Rattle.trace_runs.specs.Slots.{SlotsRun, SlotsDestroy}
use Rattle.trace_runs.specs.States.{State, names_in}
use Rattle.trace_runs.specs.declared.lines.Deed.{Deed}

-- what a line does: nothing, where it names threads or answers of a callback; else it makes a pool, acts on one, or
-- destroys one
abbrev pub deed_of : Act → Deed
deed_of act.Threads = Deed.Nothing
deed_of (act.Pool pool) = Deed.Make pool
deed_of (act.RawGet pool base bytes) = Deed.Nothing
deed_of (act.RawGetFail pool) = Deed.Nothing
deed_of (act.RawPutOk pool) = Deed.Nothing
deed_of (act.RawPutFail pool) = Deed.Nothing
deed_of (act.Call thread pool call) = Deed.On pool thread (PoolLine.Call call)
deed_of (act.Begin thread pool call) = Deed.On pool thread (PoolLine.Begin call)
deed_of (act.Step thread pool turns) = Deed.On pool thread (PoolLine.Go (Until.Turns turns))
deed_of (act.UpTo thread pool row) = Deed.On pool thread (PoolLine.Go (Until.Made row))
deed_of (act.Finish thread pool) = Deed.On pool thread (PoolLine.Go Until.Answer)
deed_of (act.Reset pool) = Deed.On pool 0 PoolLine.Reset
deed_of (act.Destroy pool) = Deed.Destroy pool

-- a call that a line makes whole is counted before it is made
abbrev pub call_counted : PoolLine → State → State
call_counted (PoolLine.Call call) s = record { pools = s.pools; places = s.places; book = called s.book }
call_counted (PoolLine.Begin call) s = s
call_counted (PoolLine.Go until) s = s
call_counted PoolLine.Reset s = s

-- a line acts on the pool of this number
abbrev pub OnPool : ℕ → PoolLine → LineAt → State → Came → State → Type 0
OnPool number deed at s came next =
    SlotsRun number deed at s.pools (names_in s.places) s.book came next.pools (names_in next.places) next.book

abbrev pub DeedRuns : Trace → ℕ → Deed → State → Came → State → Type 0
DeedRuns trace line Deed.Nothing s came next = (came ≡ Came.InTime) × (next ≡ s)
DeedRuns trace line (Deed.Make pool) s came next = (came ≡ Came.InTime) × Makes trace line pool s next
DeedRuns trace line (Deed.On pool seat deed) s came next =
    OnPool pool deed (record { line = line; seat = seat }) (call_counted deed s) came next
DeedRuns trace line (Deed.Destroy pool) s came next =
    (came ≡ Came.InTime) × (next.places ≡ s.places) × SlotsDestroy line pool s.pools s.book next.pools next.book

-- a line is run, and what it comes to
abbrev pub LineRuns : Trace → TraceLine → State → Came → State → Type 0
LineRuns trace line s came next = DeedRuns trace line.line (deed_of line.act) s came next

-- What the lines of a trace make of a run, one after another.
use Prim.Native.Nat.{zero, suc}
use Rattle.std.specs.Prelude.{◌≡◌, ℕ, ◌≤◌, ◌<◌, List, [], ◌∷◌, length, Some, None, Ok, Err}
use Rattle.std.specs.declared.option.Option.{Option}
use Rattle.pool_types.specs.declared.policy.Which.TheVariants.{Seats}
use Rattle.pool_types.specs.declared.policy.CreateError.TheVariants as refusal
use Rattle.trace_reader.specs.declared.acts.TraceCall.{TraceCall}
use Rattle.trace_reader.specs.declared.acts.Act.{Act}
use Rattle.trace_reader.specs.declared.acts.Act.TheVariants as act
use Rattle.trace_reader.specs.declared.acts.TraceLine.{TraceLine}
use Rattle.trace_reader.specs.declared.trace.Trace.{Trace}
use Rattle.report_text.specs.declared.entry.ReportEntry.{ReportEntry}
use Rattle.report_text.specs.declared.entry.ReportEntry.TheVariants.{Gone, Answered}
use Rattle.report_text.specs.Reports.{ReportView}
use Rattle.pool_types.specs.Texts.{names_of}
use Rattle.plain_lists.specs.Lists.{Lists, no_lists}
use Rattle.plain_lists.specs.Held.{totals_at, leaks_at}
use Rattle.plain_lists.specs.Whole.{whole, IsServed}
use Rattle.plain_pool.specs.declared.arrays.PoolArrays.{PoolArrays}
use Rattle.plain_pool.specs.Pool.{Stands}
use Rattle.trace_calls.specs.declared.places.Places.{Places}
use Rattle.trace_calls.specs.Names.{Names, no_names, request_of, names_after, call_at}
use Rattle.trace_calls.specs.Pools.{Judged, made_entry}
use Rattle.trace_calls.specs.Entries.{listed, pool_end, with_entries}
use Rattle.trace_calls.specs.Kept.{names_kept}

-- how the making of a pool for so many threads is judged
abbrev pub judged : ℕ → Judged
judged zero = Err (refusal.BadLimits Seats)
judged (suc threads) = Ok tt

-- what a replay has between its lines: the lists of its pool, once that is made, and what the names stand for
pub record Going : Type 0 where
  pub lists : Option Lists
  pub names : Names

-- no line was run yet
abbrev pub no_line : Going
no_line = record { lists = None; names = no_names }

-- the pool's lists after its making was judged so
abbrev pub after_making : Judged → Option Lists
after_making (Ok done) = Some no_lists
after_making (Err refusal) = None

-- after a call, where the names stand for these and the pool has these lists
abbrev pub after_call : Names → TraceCall → Option Lists → Going
after_call names call None = record { lists = None; names = names }
after_call names call (Some lists) = record {
  lists = Some (whole lists (request_of names call)).lists;
  names = names_after names call (whole lists (request_of names call)).answer;
}

-- what a call reports
abbrev pub call_entry : ℕ → Names → TraceCall → Option Lists → ReportEntry
call_entry line names call None = Gone line
call_entry line names call (Some lists) = Answered line (whole lists (request_of names call)).answer

-- after a line, where there are so many threads
abbrev pub after_line : ℕ → Going → Act → Going
after_line threads going (act.Pool number) = record { lists = after_making (judged threads); names = going.names }
after_line threads going (act.Call thread number call) = after_call going.names call going.lists
after_line threads going other = going

-- what a line reports
abbrev pub entry_at : ℕ → Going → ℕ → Act → Option ReportEntry
entry_at threads going line (act.Pool number) = made_entry line (judged threads)
entry_at threads going line (act.Call thread number call) = Some (call_entry line going.names call going.lists)
entry_at threads going line other = None

-- what the lines report, one after another
abbrev pub run_entries : ℕ → Going → List TraceLine → List ReportEntry
run_entries threads going [] = []
run_entries threads going (line ∷ lines) =
    listed (entry_at threads going line.line line.act) (run_entries threads (after_line threads going line.act) lines)

-- after all of them
abbrev pub after_lines : ℕ → Going → List TraceLine → Going
after_lines threads going [] = going
after_lines threads going (line ∷ lines) = after_lines threads (after_line threads going line.act) lines

-- what the pool reports at the end
abbrev pub held_entries : Option Lists → List ReportEntry
held_entries None = []
held_entries (Some lists) = pool_end 0 (totals_at lists) [] (leaks_at lists)

-- the report of a whole run
abbrev pub run_report : Trace → ReportView
run_report trace =
    with_entries
    (with_entries (record { names = names_of trace.names.items; text = [] })
    (run_entries (length trace.names.items) no_line trace.lines.items))
    (held_entries (after_lines (length trace.names.items) no_line trace.lines.items).lists)

-- the pool stands for the lists, or there is neither
abbrev pub StandsFor : Option PoolArrays → Option Lists → Type 0
StandsFor None None = Unit {0}
StandsFor None (Some lists) = ⊥
StandsFor (Some pool) None = ⊥
StandsFor (Some pool) (Some lists) = Stands pool lists

-- this is what a replay has
pub record IsAt (pool : Option PoolArrays) (places : Places) (going : Going) : Type 0 where
  pub stands : StandsFor pool going.lists
  pub names : (name : ℕ) → names_kept places name ≡ going.names name

-- what a call asks is served
abbrev pub AsksServed : Option TraceCall → Type 0
AsksServed None = Unit {0}
AsksServed (Some call) = IsServed (request_of no_names call)

abbrev pub IsServedLine : TraceLine → Type 0
IsServedLine line = AsksServed (call_at line.act)

-- a pool that was made granted no more than so many objects
abbrev pub HasGranted : ℕ → Option Lists → Type 0
HasGranted most None = Unit {0}
HasGranted most (Some lists) = lists.granted ≤ most

-- a pool that was made has a thread
abbrev pub HasThread : ℕ → Option Lists → Type 0
HasThread threads None = Unit {0}
HasThread threads (Some lists) = 0 < threads

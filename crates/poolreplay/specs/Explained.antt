-- What it is for a report to be explained by a run of the partition machine. Nothing is named here of how a pool is
-- built.
use Rattle.std.specs.Prelude.{◌≡◌, ℕ, List, [], ◌++◌, true, length, Contains, Some, None, Ok}
use Rattle.pool_types.specs.declared.policy.RegionRec.{RegionRec}
use Rattle.pool_types.specs.declared.values.Leak.{Leak}
use Rattle.pool_types.specs.Limits.{plain_region_bytes}
use Rattle.pool_types.specs.Policies.{Checks}
use Rattle.pool_types.specs.Script.{Script, Gets, Puts, IsAnswer}
use Rattle.pool_types.specs.Texts.{names_of}
use Rattle.part_model.specs.Totals.{totals_of}
use Rattle.trace_reader.specs.declared.acts.Forms.TheVariants as forms
use Rattle.trace_reader.specs.declared.trace.Trace.{Trace}
use Rattle.trace_reader.specs.Text.{ReadsTrace}
use Rattle.trace_calls.specs.Entries.{line_entries, has_pool, end_entries}
use Rattle.trace_calls.specs.Names.{no_names, requests_from}
use Rattle.trace_calls.specs.Pools.{Judged, limits_of}
use Rattle.report_text.specs.Entries.{report_text}
use Rattle.poolreplay.specs.Plain.{is_plain}
use Rattle.machine.specs.States.{fixed_terms}
use Rattle.machine.specs.Callback.{raw_calls, HasAnswered, no_script}
use Rattle.machine.specs.Events.{Event}
use Rattle.machine.specs.Leaks.{AreLeaks}
use Rattle.machine.specs.Runs.{IsRun, AreCalls, EndAnswered, requests_in, answers_in, end_of}

-- The text is the report of a run of the partition machine that does what the trace asks. So each move is lawful, each
-- object suits its request and was no object's when it was granted, and null comes only for a stated cause.
pub record Explained (bytes text : List ℕ) (trace : Trace) (events : List Event) (leaks : List Leak) : Type 0 where
  -- the bytes spell the trace, and it is plain
  pub spelled : ReadsTrace forms.All bytes (Ok trace)
  pub plain : is_plain trace ≡ true
  -- the events are a run, from no region on, of calls alone, and nothing comes after the last answer
  pub run : IsRun fixed_terms events
  pub calls : AreCalls events
  pub ends : EndAnswered events
  -- a callback without scripts answered so, and gave each region
  pub raw : (after : Script) × HasAnswered Gets Puts no_script (raw_calls events) after
  pub region : (region : RegionRec) → Contains (end_of events).regions region →
      IsAnswer None [] plain_region_bytes (Some region.region)
  -- the calls ask what the lines ask, in order, where a name stands for what its call got
  pub asked : requests_in events ≡ requests_from no_names trace.lines.items (answers_in events)
  -- the leaks are the objects that are held at the end: each once, and with all its bytes
  pub held : AreLeaks (end_of events) leaks
  -- the making of the pool is judged by its policy and limits
  pub judged : Judged
  pub checked : Checks fixed_terms.policy (limits_of (length trace.names.items)) judged
  -- The text is the report of the lines, with the answers of the run, and, where the pool was made, with the totals of
  -- its end and the leaks.
  pub report : text ≡ report_text (names_of trace.names.items)
      (line_entries judged trace.lines.items (answers_in events)
      ++ end_entries (has_pool judged trace.lines.items) (totals_of (end_of events).held) leaks)

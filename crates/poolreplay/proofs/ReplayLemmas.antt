-- What a trace that was read and run is, and which status comes.
use Rattle.std.proofs.Common.{◌≡◌, ℕ, ◌-◌, ◌^◌, ◌<◌, ◌≤◌, true, List, [], ◌++◌, length, map, Some, None, sym, ◌∙◌, ap, subst, lit<, arith}
use Rattle.std.specs.Prelude.{All, Ok}
use Rattle.pool_types.specs.declared.values.Region.{Region}
use Rattle.pool_types.specs.declared.values.Answer.{Answer}
use Rattle.pool_types.specs.declared.values.Request.{Request}
use Rattle.pool_types.specs.declared.values.Request.TheVariants.{Malloc}
use Rattle.pool_types.specs.Limits.{most_lines, plain_region_bytes}
use Rattle.pool_types.specs.Script.{IsAnswer}
use Rattle.machine.specs.Events.{Event}
use Rattle.machine.specs.Runs.{answers_in}
use Rattle.part_model.specs.declared.totals.Totals.{Totals}
use Rattle.trace_reader.specs.declared.acts.Forms.TheVariants as forms
use Rattle.trace_reader.specs.declared.acts.TraceLine.{TraceLine}
use Rattle.trace_reader.specs.declared.trace.Trace.{Trace}
use Rattle.trace_reader.specs.Text.{ReadsTrace}
use Rattle.trace_reader.proofs.CallerLemmas.{lines_are_numbered}
use Rattle.report_text.specs.declared.entry.ReportEntry.{ReportEntry}
use Rattle.pool_types.specs.Texts.{names_of}
use Rattle.report_text.specs.Entries.{end_text, report_text}
use Rattle.report_text.proofs.CallerLemmas.{entries_text-append}
use Rattle.report_text.specs.Reports.{ended_text}
use Rattle.plain_lists.specs.Lists.{no_lists}
use Rattle.plain_lists.specs.Held.{totals_at, leaks_at}
use Rattle.plain_lists.specs.Whole.{IsServed, lists_after, answers_to}
use Rattle.plain_lists.specs.Counts.{ArePlaced}
use Rattle.plain_lists.proofs.Placed.{mallocs_are_placed}
use Rattle.plain_runs.specs.Journal.{events_to}
use Rattle.plain_runs.proofs.CallerLemmas.{whole_calls_run, whole_calls_hold, first_by_rule}
use Rattle.trace_calls.specs.Names.{no_names, requests_from}
use Rattle.trace_calls.specs.Entries.{line_entries, has_pool, end_entries}
use Rattle.poolreplay.specs.Running.{no_line, judged, after_lines, run_entries, held_entries, run_report, IsServedLine}
use Rattle.poolreplay.specs.Plain.{is_plain}
use Rattle.poolreplay.specs.Replay.{IsReplayed}
use Rattle.poolreplay.proofs.PlainLemmas.{plain_served}
use Rattle.poolreplay.proofs.RunLemmas.{IsReported, all_asked, requests_same, requests_served, requests_few, mallocs_small, served_reported}

-- a plain trace is one that is served
pub trace_reported : (trace : Trace) → is_plain trace ≡ true → IsReported (length trace.names.items) trace.lines.items
trace_reported trace plain = served_reported trace.names.items trace.pools.items trace.lines.items (plain_served trace plain)

pub trace_served : (trace : Trace) → is_plain trace ≡ true → All IsServedLine trace.lines.items
trace_served trace plain = (trace_reported trace plain).served

pub trace_short : (bytes : List ℕ) (trace : Trace) → ReadsTrace forms.All bytes (Ok trace) → length trace.lines.items ≤ most_lines
trace_short bytes trace spelled = (lines_are_numbered forms.All bytes trace spelled).1

-- calls that are served and are mallocs alone are placed by counts
all_placed : (requests : List Request) → All IsServed requests → (sizes : List ℕ) → requests ≡ map Malloc sizes → ArePlaced [] sizes (answers_to no_lists requests)
all_placed requests served sizes is =
    subst (λ (rs : List Request). ArePlaced [] sizes (answers_to no_lists rs)) (sym is) (mallocs_are_placed sizes (mallocs_small sizes (subst (λ (rs : List Request). All IsServed rs) is served)))

-- what a trace that was read and run is
pub replayed : (bytes text : List ℕ) (trace : Trace) → ReadsTrace forms.All bytes (Ok trace) → is_plain trace ≡ true → text ≡ ended_text (run_report trace) → IsReplayed bytes text
replayed bytes text trace spelled plain written =
    let lines : List TraceLine = trace.lines.items in
    let threads : ℕ = length trace.names.items in
    let names : List (List ℕ) = names_of trace.names.items in
    let parts = trace_reported trace plain in
    let requests : List Request = all_asked lines in
    let events : List Event = events_to no_lists requests in
    let served : All IsServed requests = requests_served no_lists no_names lines parts.served in
    let few : length requests < 2 ^ 55 - 1 = omega (arith, trace_short bytes trace spelled, requests_few no_lists no_names lines) in
    let whole = whole_calls_run requests served few in
    let holds = whole_calls_hold requests served few in
    let run : List ReportEntry = run_entries threads no_line lines in
    let held : List ReportEntry = held_entries (after_lines threads no_line lines).lists in
    let report : List Answer → Totals → List ℕ = λ answers totals.
    report_text names (line_entries (judged threads) lines answers ++ end_entries (has_pool (judged threads) lines) totals (leaks_at (lists_after no_lists requests))) in
    record {
      trace = trace;
      events = events;
      leaks = leaks_at (lists_after no_lists requests);
      explained = record {
        spelled = spelled;
        plain = plain;
        run = whole.run;
        calls = whole.calls;
        ends = whole.ends;
        raw = whole.raw;
        region = λ region member. subst (λ (r : Region). IsAnswer None [] plain_region_bytes (Some r)) (sym (whole.regions region member)) (lit< tt, first_by_rule);
        asked = whole.asked ∙ sym (requests_same no_lists no_names lines) ∙ ap (λ (answers : List Answer). requests_from no_names lines answers) (sym whole.answered);
        held = holds.leaks;
        judged = judged threads;
        checked = parts.checked;
        report = written
            ∙ ap (λ (t : List ℕ). t ++ end_text) (sym (entries_text-append names run held))
            ∙ ap (λ (entries : List ReportEntry). report_text names entries) parts.reported
            ∙ ap (λ (answers : List Answer). report answers (totals_at (lists_after no_lists requests))) (sym whole.answered)
            ∙ ap (λ (totals : Totals). report (answers_in events) totals) (sym holds.totals);
      };
      settled = record {
        events_are = ap (events_to no_lists) (sym whole.asked);
        answered = whole.answered ∙ ap (λ (rs : List Request). answers_to no_lists rs) (sym whole.asked);
        placed = λ sizes are. subst (λ (answers : List Answer). ArePlaced [] sizes answers) (sym whole.answered) (all_placed requests served sizes (sym whole.asked ∙ are));
        leaks_are = ap (λ (rs : List Request). leaks_at (lists_after no_lists rs)) (sym whole.asked);
      };
    }

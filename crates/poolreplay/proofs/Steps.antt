-- What a line makes of what a replay has.
use Prim.Native.Nat.{zero, suc}
use Rattle.std.proofs.Common.{◌≡◌, ℕ, ◌+◌, List, ◌∷◌, Some, None, refl, ◌∙◌, ap, subst, arith, append_assoc}
use Rattle.std.specs.declared.option.Option.{Option}
use Rattle.pool_types.specs.declared.values.Answer.{Answer}
use Rattle.pool_types.specs.declared.values.Request.{Request}
use Rattle.trace_reader.specs.declared.acts.TraceCall.{TraceCall}
use Rattle.trace_reader.specs.declared.acts.Act.{Act}
use Rattle.trace_reader.specs.declared.acts.Act.TheVariants as act
use Rattle.trace_reader.specs.declared.acts.TraceLine.{TraceLine}
use Rattle.report_text.specs.declared.entry.ReportEntry.{ReportEntry}
use Rattle.report_text.specs.declared.entry.ReportEntry.TheVariants.{Answered}
use Rattle.report_text.specs.Entries.{entry_text, entries_text}
use Rattle.report_text.specs.Reports.{ReportView}
use Rattle.plain_lists.specs.Lists.{Lists}
use Rattle.plain_lists.specs.Whole.{whole}
use Rattle.plain_runs.proofs.CallerLemmas.{granted_whole}
use Rattle.plain_pool.specs.declared.arrays.PoolArrays.{PoolArrays}
use Rattle.plain_pool.specs.Pool.{Stands}
use Rattle.trace_calls.specs.declared.places.Places.{Places}
use Rattle.trace_calls.specs.Entries.{listed, with_entry, with_entries}
use Rattle.trace_calls.specs.Names.{Names, request_of, names_after}
use Rattle.poolreplay.specs.Running.{Going, no_line, judged, after_making, after_call, call_entry, after_line, after_lines, entry_at, run_entries, StandsFor, IsAt, HasGranted, HasThread}
use Rattle.trace_calls.specs.Kept.{names_kept}
use Rattle.trace_calls.proofs.CallerLemmas.{request_same, after_same}

-- what a pool and names are after a call
pub called : (pool next : PoolArrays) (places kept : Places) (call : TraceCall) (answer : Answer) → ((lists : Lists) → Stands pool lists → Stands next (whole lists (request_of (names_kept places) call)).lists) →
    ((name : ℕ) → names_kept kept name ≡ names_after (names_kept places) call answer name) → ((lists : Lists) → Stands pool lists → answer ≡ (whole lists (request_of (names_kept places) call)).answer) →
    (going : Going) → IsAt (Some pool) places going → IsAt (Some next) kept (after_call going.names call going.lists)
called pool next places kept call answer stands named answered going is = by_lists going.lists is.stands
  where
    by_lists : (lists : Option Lists) → StandsFor (Some pool) lists → IsAt (Some next) kept (after_call going.names call lists)
    by_lists None none = absurd none
    by_lists (Some lists) here =
        let asks : request_of (names_kept places) call ≡ request_of going.names call = request_same (names_kept places) going.names is.names call in
        let says : answer ≡ (whole lists (request_of going.names call)).answer = answered lists here ∙ ap (λ (r : Request). (whole lists r).answer) asks in
        record {
          stands = subst (λ (r : Request). Stands next (whole lists r).lists) asks (stands lists here);
          names = λ name. named name ∙ after_same (names_kept places) going.names is.names call answer name ∙ ap (λ (a : Answer). names_after going.names call a name) says;
        }

-- and what it reports
pub called_entry : (line : ℕ) (pool : PoolArrays) (places : Places) (call : TraceCall) (answer : Answer) → ((lists : Lists) → Stands pool lists → answer ≡ (whole lists (request_of (names_kept places) call)).answer) →
    (going : Going) → IsAt (Some pool) places going → Answered line answer ≡ call_entry line going.names call going.lists
called_entry line pool places call answer answered going is = by_lists going.lists is.stands
  where
    by_lists : (lists : Option Lists) → StandsFor (Some pool) lists → Answered line answer ≡ call_entry line going.names call lists
    by_lists None none = absurd none
    by_lists (Some lists) here =
        ap (λ (a : Answer). Answered line a) (answered lists here ∙ ap (λ (r : Request). (whole lists r).answer) (request_same (names_kept places) going.names is.names call))

-- a pool that a line made has a thread, and granted nothing
made_thread : (threads : ℕ) → HasThread threads (after_making (judged threads))
made_thread zero = tt
made_thread (suc threads) = omega arith

made_granted : (threads most : ℕ) → HasGranted most (after_making (judged threads))
made_granted zero most = tt
made_granted (suc threads) most = omega arith

-- a call leaves it one, and grants one object at most
called_thread : (threads : ℕ) (names : Names) (call : TraceCall) (lists : Option Lists) → HasThread threads lists → HasThread threads (after_call names call lists).lists
called_thread threads names call None some = tt
called_thread threads names call (Some lists) some = some

called_granted : (most : ℕ) (names : Names) (call : TraceCall) (lists : Option Lists) → HasGranted most lists → HasGranted (most + 1) (after_call names call lists).lists
called_granted most names call None few = tt
called_granted most names call (Some lists) few = omega (arith, few, granted_whole lists (request_of names call))

granted_more : (most : ℕ) (lists : Option Lists) → HasGranted most lists → HasGranted (most + 1) lists
granted_more most None few = tt
granted_more most (Some lists) few = omega (arith, few)

line_thread : (threads : ℕ) (going : Going) (deed : Act) → HasThread threads going.lists → HasThread threads (after_line threads going deed).lists
line_thread threads going (act.Pool number) some = made_thread threads
line_thread threads going (act.Call thread number call) some = called_thread threads going.names call going.lists some
line_thread threads going other some = some

line_granted : (threads most : ℕ) (going : Going) (deed : Act) → HasGranted most going.lists → HasGranted (most + 1) (after_line threads going deed).lists
line_granted threads most going (act.Pool number) few = made_granted threads (most + 1)
line_granted threads most going (act.Call thread number call) few = called_granted most going.names call going.lists few
line_granted threads most going other few = granted_more most going.lists few

-- an entry and then others
then_listed : (report : ReportView) (entry : Option ReportEntry) (entries : List ReportEntry) → with_entries (with_entry report entry) entries ≡ with_entries report (listed entry entries)
then_listed report None entries = refl
then_listed report (Some entry) entries =
    ap (λ (text : List ℕ). let r : ReportView = record { names = report.names; text = text } in r) (append_assoc report.text (entry_text report.names entry) (entries_text report.names entries))

-- What is done of these lines, so many, and what is left make the whole.
pub record IsUnderWay (threads done : ℕ) (pool : Option PoolArrays) (places : Places) (report start : ReportView) (lines left : List TraceLine) : Type 0 where
  pub going : Going
  pub here : IsAt pool places going
  pub ends : after_lines threads going left ≡ after_lines threads no_line lines
  pub text : with_entries report (run_entries threads going left) ≡ with_entries start (run_entries threads no_line lines)
  pub thread : HasThread threads going.lists
  pub room : HasGranted done going.lists

-- after one line more
pub stepped : (threads done : ℕ) (pool next : Option PoolArrays) (places kept : Places) (report written start : ReportView) (lines : List TraceLine) (line : TraceLine) (left : List TraceLine) →
    ((going : Going) → IsAt pool places going → IsAt next kept (after_line threads going line.act)) → ((going : Going) → IsAt pool places going → written ≡ with_entry report (entry_at threads going line.line line.act)) →
    IsUnderWay threads done pool places report start lines (line ∷ left) → IsUnderWay threads (done + 1) next kept written start lines left
stepped threads done pool next places kept report written start lines line left goes writes way =
    let later : List ReportEntry = run_entries threads (after_line threads way.going line.act) left in
    record {
      going = after_line threads way.going line.act;
      here = goes way.going way.here;
      ends = way.ends;
      text = ap (λ (r : ReportView). with_entries r later) (writes way.going way.here)
          ∙ then_listed report (entry_at threads way.going line.line line.act) later
          ∙ way.text;
      thread = line_thread threads way.going line.act way.thread;
      room = line_granted threads done way.going line.act way.room;
    }

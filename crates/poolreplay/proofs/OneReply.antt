-- What bytes come to is one: their report or summary, or the line that is out of turns, or the line that is refused.
use Rattle.std.proofs.Common.{◌≡◌, ◌≢◌, ℕ, inl, inr, Bool, true, false, List, length, sym, ◌∙◌, ap, refl}
use Rattle.std.specs.Prelude.{Result, Ok, Err, not, ◌&&◌}
use Rattle.arrayvec.specs.ArrayVec.{ArrayVec}
use Rattle.report_text.specs.Reports.{ReportView, ended_text}
use Rattle.trace_reader.specs.declared.acts.Forms.TheVariants as forms
use Rattle.trace_reader.specs.declared.acts.PoolOption.{PoolOption}
use Rattle.trace_reader.specs.declared.acts.TraceLine.{TraceLine}
use Rattle.trace_reader.specs.declared.trace.Trace.{Trace}
use Rattle.trace_reader.specs.Text.{ReadsTrace}
use Rattle.trace_runs.specs.declared.ends.Summary.{Summary}
use Rattle.trace_runs.specs.declared.runs.RunError.{RunError}
use Rattle.run_laws.proofs.CallerLemmas.{AreSpelledAlike, spelled_alike, threads_alike}
use Rattle.run_laws.proofs.CallerLemmas.{texts_run_to_one, texts_sum_to_one}
use Rattle.program_edge.specs.declared.outcome.Status.{Status}
use Rattle.program_edge.specs.declared.outcome.Status.TheVariants.{Done, BadWords, BadTrace, TooLong, ReadFault}
use Rattle.program_edge.specs.declared.outcome.Status.TheVariants.{StepsOut, WriteFault, NoMemory}
use Rattle.poolreplay.specs.Laws.{ReportsAreOne}
use Rattle.poolreplay.specs.Plain.{are_plain_lines, is_plain}
use Rattle.program_edge.specs.Readings.{SpellOne}
use Rattle.program_edge.proofs.CallerLemmas.{not_both, one_refusal}
use Rattle.poolreplay.specs.Replay.{IsAnswered, IsOutOfTurns, IsReplayed, IsReply, IsReportOf, IsRunOf}
use Rattle.poolreplay.specs.Replay.{IsSumReply, IsSummaryOf, IsSummed, IsUnsummed, is_listed}
use Rattle.poolreplay.specs.Summaries.{summary_text}
use Rattle.poolreplay.proofs.ClearLemmas.{replays_are_clear}

-- traces that are spelled alike are plain or not alike
plain_alike : (one other : Trace) → AreSpelledAlike one other → is_plain one ≡ is_plain other
unfolding is_plain
plain_alike one other same =
    ap (λ (threads : ℕ). are_plain_lines threads one.pools.items one.lines.items) (threads_alike one other same)
    ∙ ap (λ (pools : List (ArrayVec PoolOption)). are_plain_lines (length other.names.items) pools one.lines.items)
    same.pools
    ∙ ap (λ (lines : List TraceLine). are_plain_lines (length other.names.items) other.pools.items lines) same.lines

-- a plain trace without moves is not run line by line
not_listed : (moves : Bool) (bytes text : List ℕ) (trace : Trace) → moves ≡ false → IsReplayed bytes text →
    ReadsTrace forms.All bytes (Ok trace) → is_listed moves trace ≡ false → ⊥
not_listed moves bytes text trace none listed spelled other =
    let plain : is_plain trace ≡ true = plain_alike trace listed.trace (spelled_alike forms.All bytes trace listed.trace
    spelled listed.explained.spelled) ∙ listed.explained.plain in
    let is : is_listed moves trace ≡ true = ap (λ (m : Bool). not m && is_plain trace) none ∙ plain in
    let wrong : true ≡ false = sym is ∙ other in
    cc

-- a run that came to something did not lack memory
came_some : {A : Type 0} (came : A) (result : Result A RunError) → result ≡ Ok came → result ≢ Err RunError.NoMemory
came_some came result is wrong = cc

out_some : {A : Type 0} (line : ℕ) (result : Result A RunError) → result ≡ Err (RunError.StepsOut line) →
    result ≢ Err RunError.NoMemory
out_some line result is wrong = cc

-- two results that are one
same_came : {A : Type 0} (one other : A) (result result' : Result A RunError) → result ≡ Ok one → result' ≡ Ok other →
    result ≡ result' → one ≡ other
same_came one other result result' is is' same = cc

same_out : {A : Type 0} (line other : ℕ) (result result' : Result A RunError) → result ≡ Err (RunError.StepsOut line) →
    result' ≡ Err (RunError.StepsOut other) → result ≡ result' → line ≡ other
same_out line other result result' is is' same = cc

not_out : {A : Type 0} (came : A) (line : ℕ) (result result' : Result A RunError) → result ≡ Ok came →
    result' ≡ Err (RunError.StepsOut line) → result ≡ result' → ⊥
not_out came line result result' is is' same = cc

-- two runs of a text have one report
reports_once : (moves : Bool) (bytes text text' : List ℕ) (run : IsRunOf moves bytes text)
    (run' : IsRunOf moves bytes text') → run.report ≡ run'.report
reports_once moves bytes text text' run run' =
    same_came run.report run'.report (Ok run.report) (Ok run'.report) refl refl
    (texts_run_to_one forms.All bytes moves run.trace run'.trace (Ok run.report) (Ok run'.report) run.spelled run'.spelled
    run.runs run'.runs (came_some run.report (Ok run.report) refl) (came_some run'.report (Ok run'.report) refl))

-- a report
pub reports_are_one : ReportsAreOne
reports_are_one moves bytes one other (inl listed) (inl listed') = replays_are_clear bytes one other listed.1 listed'.1
reports_are_one moves bytes one other (inl listed) (inr run) =
    absurd (not_listed moves bytes one run.trace listed.0 listed.1 run.spelled run.other)
reports_are_one moves bytes one other (inr run) (inl listed) =
    absurd (not_listed moves bytes other run.trace listed.0 listed.1 run.spelled run.other)
reports_are_one moves bytes one other (inr run) (inr run') =
    run.written
    ∙ ap (λ (report : ReportView). ended_text report) (reports_once moves bytes one other run run')
    ∙ sym run'.written

report_in_turns : (moves : Bool) (bytes text : List ℕ) (line : ℕ) → IsReportOf moves bytes text →
    IsOutOfTurns moves bytes line → ⊥
report_in_turns moves bytes text line (inl listed) out =
    not_listed moves bytes text out.trace listed.0 listed.1 out.spelled out.other
report_in_turns moves bytes text line (inr run) out =
    not_out run.report line (Ok run.report) (Err (RunError.StepsOut line)) refl refl
    (texts_run_to_one forms.All bytes moves run.trace out.trace (Ok run.report) (Err (RunError.StepsOut line)) run.spelled
    out.spelled run.runs out.runs (came_some run.report (Ok run.report) refl)
    (out_some line (Err (RunError.StepsOut line)) refl))

one_out : (moves : Bool) (bytes : List ℕ) (line other : ℕ) → IsOutOfTurns moves bytes line →
    IsOutOfTurns moves bytes other → line ≡ other
one_out moves bytes line other out out' =
    same_out line other (Err (RunError.StepsOut line)) (Err (RunError.StepsOut other)) refl refl
    (texts_run_to_one forms.All bytes moves out.trace out'.trace (Err (RunError.StepsOut line))
    (Err (RunError.StepsOut other)) out.spelled out'.spelled out.runs out'.runs
    (out_some line (Err (RunError.StepsOut line)) refl) (out_some other (Err (RunError.StepsOut other)) refl))

-- a summary
sums_once : (bytes text text' : List ℕ) (sum : IsSummaryOf bytes text) (sum' : IsSummaryOf bytes text') →
    sum.summary ≡ sum'.summary
sums_once bytes text text' sum sum' =
    same_came sum.summary sum'.summary (Ok sum.summary) (Ok sum'.summary) refl refl
    (texts_sum_to_one forms.All bytes sum.trace sum'.trace (Ok sum.summary) (Ok sum'.summary) sum.spelled sum'.spelled
    sum.sums sum'.sums (came_some sum.summary (Ok sum.summary) refl) (came_some sum'.summary (Ok sum'.summary) refl))

summaries_are_one : (bytes one other : List ℕ) → IsSummaryOf bytes one → IsSummaryOf bytes other → one ≡ other
summaries_are_one bytes one other sum sum' =
    sum.written ∙ ap (λ (summary : Summary). summary_text summary) (sums_once bytes one other sum sum') ∙ sym sum'.written

summary_in_turns : (bytes text : List ℕ) (line : ℕ) → IsSummaryOf bytes text → IsUnsummed bytes line → ⊥
summary_in_turns bytes text line sum out =
    not_out sum.summary line (Ok sum.summary) (Err (RunError.StepsOut line)) refl refl
    (texts_sum_to_one forms.All bytes sum.trace out.trace (Ok sum.summary) (Err (RunError.StepsOut line)) sum.spelled
    out.spelled sum.sums out.sums (came_some sum.summary (Ok sum.summary) refl)
    (out_some line (Err (RunError.StepsOut line)) refl))

one_unsummed : (bytes : List ℕ) (line other : ℕ) → IsUnsummed bytes line → IsUnsummed bytes other → line ≡ other
one_unsummed bytes line other out out' =
    same_out line other (Err (RunError.StepsOut line)) (Err (RunError.StepsOut other)) refl refl
    (texts_sum_to_one forms.All bytes out.trace out'.trace (Err (RunError.StepsOut line)) (Err (RunError.StepsOut other))
    out.spelled out'.spelled out.sums out'.sums (out_some line (Err (RunError.StepsOut line)) refl)
    (out_some other (Err (RunError.StepsOut other)) refl))

-- the trace that a report tells of
pub report_spelled : (moves : Bool) (bytes text : List ℕ) → IsReportOf moves bytes text → SpellOne forms.All bytes
report_spelled moves bytes text (inl listed) = (listed.1.trace, listed.1.explained.spelled)
report_spelled moves bytes text (inr run) = (run.trace, run.spelled)

-- one status is wanted
pub answered_once : (moves : Bool) (bytes : List ℕ) (one other : Status) → IsAnswered moves bytes one →
    IsAnswered moves bytes other → one ≡ other
answered_once moves bytes Done Done h h' = refl
answered_once moves bytes Done (StepsOut line) h h' = absurd (report_in_turns moves bytes h.0 line h.1 h')
answered_once moves bytes Done (BadTrace line kind) h h' =
    absurd (not_both forms.All bytes line kind (report_spelled moves bytes h.0 h.1) h')
answered_once moves bytes (StepsOut line) Done h h' = absurd (report_in_turns moves bytes h'.0 line h'.1 h)
answered_once moves bytes (StepsOut line) (StepsOut other) h h' =
    ap (λ (l : ℕ). StepsOut l) (one_out moves bytes line other h h')
answered_once moves bytes (StepsOut line) (BadTrace other kind) h h' =
    absurd (not_both forms.All bytes other kind (h.trace, h.spelled) h')
answered_once moves bytes (BadTrace line kind) Done h h' =
    absurd (not_both forms.All bytes line kind (report_spelled moves bytes h'.0 h'.1) h)
answered_once moves bytes (BadTrace line kind) (StepsOut other) h h' =
    absurd (not_both forms.All bytes line kind (h'.trace, h'.spelled) h)
answered_once moves bytes (BadTrace line kind) (BadTrace other kind') h h' =
    one_refusal forms.All bytes line kind other kind' h h'
answered_once moves bytes Done other h h' = absurd h'
answered_once moves bytes (StepsOut line) other h h' = absurd h'
answered_once moves bytes (BadTrace line kind) other h h' = absurd h'
answered_once moves bytes one other h h' = absurd h

pub summed_once : (bytes : List ℕ) (one other : Status) → IsSummed bytes one → IsSummed bytes other → one ≡ other
summed_once bytes Done Done h h' = refl
summed_once bytes Done (StepsOut line) h h' = absurd (summary_in_turns bytes h.0 line h.1 h')
summed_once bytes Done (BadTrace line kind) h h' =
    absurd (not_both forms.All bytes line kind (h.1.trace, h.1.spelled) h')
summed_once bytes (StepsOut line) Done h h' = absurd (summary_in_turns bytes h'.0 line h'.1 h)
summed_once bytes (StepsOut line) (StepsOut other) h h' =
    ap (λ (l : ℕ). StepsOut l) (one_unsummed bytes line other h h')
summed_once bytes (StepsOut line) (BadTrace other kind) h h' =
    absurd (not_both forms.All bytes other kind (h.trace, h.spelled) h')
summed_once bytes (BadTrace line kind) Done h h' =
    absurd (not_both forms.All bytes line kind (h'.1.trace, h'.1.spelled) h)
summed_once bytes (BadTrace line kind) (StepsOut other) h h' =
    absurd (not_both forms.All bytes line kind (h'.trace, h'.spelled) h)
summed_once bytes (BadTrace line kind) (BadTrace other kind') h h' =
    one_refusal forms.All bytes line kind other kind' h h'
summed_once bytes Done other h h' = absurd h'
summed_once bytes (StepsOut line) other h h' = absurd h'
summed_once bytes (BadTrace line kind) other h h' = absurd h'
summed_once bytes one other h h' = absurd h

-- with one status one text is due
pub reply_text : (moves : Bool) (bytes : List ℕ) (status : Status) (one other : List ℕ) →
    IsReply moves bytes status one → IsReply moves bytes status other → one ≡ other
reply_text moves bytes Done one other due due' = reports_are_one moves bytes one other due due'
reply_text moves bytes (BadTrace line kind) one other due due' = due.1 ∙ sym due'.1
reply_text moves bytes (StepsOut line) one other due due' = due.1 ∙ sym due'.1
reply_text moves bytes NoMemory one other due due' = due ∙ sym due'
reply_text moves bytes BadWords one other due due' = absurd due
reply_text moves bytes TooLong one other due due' = absurd due
reply_text moves bytes ReadFault one other due due' = absurd due
reply_text moves bytes WriteFault one other due due' = absurd due

pub sum_text : (bytes : List ℕ) (status : Status) (one other : List ℕ) → IsSumReply bytes status one →
    IsSumReply bytes status other → one ≡ other
sum_text bytes Done one other due due' = summaries_are_one bytes one other due due'
sum_text bytes (BadTrace line kind) one other due due' = due.1 ∙ sym due'.1
sum_text bytes (StepsOut line) one other due due' = due.1 ∙ sym due'.1
sum_text bytes NoMemory one other due due' = due ∙ sym due'
sum_text bytes BadWords one other due due' = absurd due
sum_text bytes TooLong one other due due' = absurd due
sum_text bytes ReadFault one other due due' = absurd due
sum_text bytes WriteFault one other due due' = absurd due

-- Which texts are due.
use Rattle.std.proofs.Common.{◌≡◌, ℕ, inl, inr, Bool, false, List, refl, sym, subst}
use Rattle.std.specs.Prelude.{Ok, Err}
use Rattle.report_text.specs.Reports.{ReportView, ended_text}
use Rattle.trace_reader.specs.declared.acts.Forms.TheVariants as forms
use Rattle.trace_reader.specs.declared.refusal.TraceError.{TraceError}
use Rattle.trace_reader.specs.declared.refusal.TraceRefused.TheVariants.{Bad}
use Rattle.trace_reader.specs.declared.trace.Trace.{Trace}
use Rattle.trace_reader.specs.Text.{ReadsTrace}
use Rattle.trace_runs.specs.Runs.{Runs, Sums}
use Rattle.trace_runs.specs.declared.runs.RunError.TheVariants as RunError
use Rattle.trace_runs.specs.declared.ends.Summary.{Summary}
use Rattle.program_edge.specs.declared.outcome.Status.{Status}
use Rattle.program_edge.specs.declared.outcome.Status.TheVariants.{Done, BadTrace, StepsOut}
use Rattle.program_edge.specs.Outcome.{Says}
use Rattle.program_edge.specs.Texts.{refused_text, steps_out_text}
use Rattle.poolreplay.specs.Replay.{IsReply, IsSumReply, is_listed}
use Rattle.poolreplay.specs.Summaries.{summary_text}

-- by what it says, a reply is due
reply_by : (moves : Bool) (bytes : List ℕ) (wanted : Status) (words : List ℕ) (status : Status) (text : List ℕ)
    → IsReply moves bytes wanted words → Says wanted words status text → IsReply moves bytes status text
reply_by moves bytes wanted words status text due (inl says) =
    subst (λ (s : Status). IsReply moves bytes s text) (sym says.0) (subst (λ (t : List ℕ). IsReply moves bytes wanted t) (sym says.1) due)
reply_by moves bytes wanted words status text due (inr none) = subst (λ (s : Status). IsReply moves bytes s text) (sym none.0) none.1

sum_by : (bytes : List ℕ) (wanted : Status) (words : List ℕ) (status : Status) (text : List ℕ)
    → IsSumReply bytes wanted words → Says wanted words status text → IsSumReply bytes status text
sum_by bytes wanted words status text due (inl says) =
    subst (λ (s : Status). IsSumReply bytes s text) (sym says.0) (subst (λ (t : List ℕ). IsSumReply bytes wanted t) (sym says.1) due)
sum_by bytes wanted words status text due (inr none) = subst (λ (s : Status). IsSumReply bytes s text) (sym none.0) none.1

-- a refused line
pub refused_reply : (moves : Bool) (bytes : List ℕ) (error : TraceError) (status : Status) (text : List ℕ)
    → ReadsTrace forms.All bytes (Err (Bad error)) → Says (BadTrace error.line error.kind) (refused_text error.line error.kind) status text
    → IsReply moves bytes status text
refused_reply moves bytes error status text read says =
    reply_by moves bytes (BadTrace error.line error.kind) (refused_text error.line error.kind) status text (read, refl) says

pub refused_sum : (bytes : List ℕ) (error : TraceError) (status : Status) (text : List ℕ)
    → ReadsTrace forms.All bytes (Err (Bad error)) → Says (BadTrace error.line error.kind) (refused_text error.line error.kind) status text
    → IsSumReply bytes status text
refused_sum bytes error status text read says =
    sum_by bytes (BadTrace error.line error.kind) (refused_text error.line error.kind) status text (read, refl) says

-- a run
pub run_reported : (moves : Bool) (bytes : List ℕ) (trace : Trace) (report : ReportView) (text : List ℕ)
    → ReadsTrace forms.All bytes (Ok trace) → is_listed moves trace ≡ false → Runs moves trace (Ok report) → text ≡ ended_text report
    → IsReply moves bytes Done text
run_reported moves bytes trace report text spelled other runs written =
    inr (record { trace = trace; spelled = spelled; other = other; report = report; runs = runs; written = written })

pub run_out : (moves : Bool) (bytes : List ℕ) (trace : Trace) (line : ℕ) (status : Status) (text : List ℕ)
    → ReadsTrace forms.All bytes (Ok trace) → is_listed moves trace ≡ false → Runs moves trace (Err (RunError.StepsOut line))
    → Says (StepsOut line) (steps_out_text line) status text → IsReply moves bytes status text
run_out moves bytes trace line status text spelled other runs says =
    reply_by moves bytes (StepsOut line) (steps_out_text line) status text
    (record { trace = trace; spelled = spelled; other = other; runs = runs }, refl) says

-- a summary
pub run_summed : (bytes : List ℕ) (trace : Trace) (summary : Summary) (status : Status) (text : List ℕ)
    → ReadsTrace forms.All bytes (Ok trace) → Sums trace (Ok summary) → Says Done (summary_text summary) status text
    → IsSumReply bytes status text
run_summed bytes trace summary status text spelled sums says =
    sum_by bytes Done (summary_text summary) status text
    (record { trace = trace; spelled = spelled; summary = summary; sums = sums; written = refl }) says

pub run_unsummed : (bytes : List ℕ) (trace : Trace) (line : ℕ) (status : Status) (text : List ℕ)
    → ReadsTrace forms.All bytes (Ok trace) → Sums trace (Err (RunError.StepsOut line))
    → Says (StepsOut line) (steps_out_text line) status text → IsSumReply bytes status text
run_unsummed bytes trace line status text spelled sums says =
    sum_by bytes (StepsOut line) (steps_out_text line) status text
    (record { trace = trace; spelled = spelled; sums = sums }, refl) says

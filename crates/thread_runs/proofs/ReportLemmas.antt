-- One line more of a report.
use Rattle.std.proofs.Common.{◌≡◌, ◌≢◌, ℕ, zero, suc, ◌+◌, ◌<◌, Bool, true, false, cond, eqb, List, [], ◌∷◌, ◌++◌}
use Rattle.std.proofs.Common.{length, get_or, take, replicate, refl, sym, ap, ◌∙◌, subst, ⊎_elim, arith}
use Rattle.std.specs.Prelude.{Option, Some, None, slice_get, slice_set}
use Rattle.std.specs.Global.{Vec}
use Rattle.std.proofs.lemmas.Bool.{eq-eqb, ne_eqb}
use Rattle.std.proofs.lemmas.Bool.Decides.{eqb_tells}
use Rattle.std.proofs.lemmas.List.{get_or-replicate, length-replicate, length-set, take_more}
use Rattle.std.proofs.lemmas.Option.{get_or_from_slice_get, same_Some, slice_get-get_or, slice_get_within}
use Rattle.list_laws.proofs.Gets.{slice_get-set_same, slice_get-set_other}
use Rattle.report_text.specs.declared.entry.ReportEntry.{ReportEntry}
use Rattle.report_text.specs.Reports.{ReportView}
use Rattle.thread_calls.specs.declared.calls.OwnCall.{OwnCall}
use Rattle.thread_calls.specs.declared.calls.Said.{Said}
use Rattle.thread_calls.specs.Calls.{own_call}
use Rattle.thread_calls.specs.Script.{count_own, more_own}
use Rattle.thread_calls.proofs.CallerLemmas.{own_below, own_more}
use Rattle.trace_calls.specs.Entries.{with_entry}
use Rattle.trace_reader.specs.declared.acts.Act.{Act}
use Rattle.trace_reader.specs.declared.acts.Act.TheVariants as act
use Rattle.trace_reader.specs.declared.acts.TraceCall.{TraceCall}
use Rattle.trace_reader.specs.declared.acts.TraceLine.{TraceLine}
use Rattle.trace_reader.specs.declared.trace.Trace.{Trace}
use Rattle.thread_runs.specs.Telling.{ActTells, AreSaid, AreTold, IsNextOf, Reports}
use Rattle.thread_runs.specs.Traces.{IsAmong, IsWithin, threads_in}

-- the lines before the next place
take_line : (lines : List TraceLine) (place : ℕ) (line : TraceLine) → slice_get lines place ≡ Some line
    → take (place + 1) lines ≡ take place lines ++ line ∷ []
take_line lines place line at = take_more lines place line (slice_get_within lines place line at)
    ∙ ap (λ (l : TraceLine). take place lines ++ l ∷ []) (get_or_from_slice_get lines place line line at)

own_same : (thread : ℕ) (pool : ℕ) (call : TraceCall)
    → own_call thread (act.Call thread pool call) ≡ Some (record { pool = pool; call = call })
own_same thread pool call =
    ap (λ (b : Bool). cond b (Some (record { pool = pool; call = call })) None) (eq-eqb thread thread refl)

own_other : (thread named pool : ℕ) (call : TraceCall) → named ≢ thread
    → own_call thread (act.Call named pool call) ≡ None
own_other thread named pool call other =
    ap (λ (b : Bool). cond {A = Option OwnCall} b (Some (record { pool = pool; call = call })) None)
    (ne_eqb named thread other)

plus_one : (n : ℕ) → n + 1 ≡ suc n
plus_one n = omega arith

zeros_at : (n i : ℕ) → i < n → slice_get {X = ℕ} (replicate n 0) i ≡ Some 0
zeros_at n i low = slice_get-get_or {X = ℕ} (replicate n 0) i 0 (let m = length-replicate {A = ℕ} n 0 in omega arith)
    ∙ ap Some (get_or-replicate {A = ℕ} n i 0 0 low)

module _ (trace : Trace) where
  count_after : (place thread : ℕ) (line : TraceLine) → slice_get trace.lines.items place ≡ Some line
      → count_own thread (take (place + 1) trace.lines.items)
      ≡ more_own (own_call thread line.act) (count_own thread (take place trace.lines.items))
  count_after place thread line at = ap (count_own thread) (take_line trace.lines.items place line at)
      ∙ own_more thread (take place trace.lines.items) line

  -- a line that is no call
  pub told_passes : (place : ℕ) (told : List ℕ) (line : TraceLine) → slice_get trace.lines.items place ≡ Some line
      → ((thread : ℕ) → own_call thread line.act ≡ None) → AreTold trace place told → AreTold trace (place + 1) told
  told_passes place told line at none are = record {
    count = are.count;
    each = λ thread low. are.each thread low ∙ ap Some (sym (count_after place thread line at
        ∙ ap (λ (o : Option OwnCall). more_own o (count_own thread (take place trace.lines.items))) (none thread)));
  }

  -- a pool line names a pool of the trace
  pub pool_among : (place : ℕ) (one : TraceLine) (pool : ℕ) → IsWithin trace
      → slice_get trace.lines.items place ≡ Some one
      → one.act ≡ act.Pool pool → pool < length trace.pools.items
  pool_among place one pool within at is =
      subst (IsAmong (threads_in trace) (length trace.pools.items)) is (within.each place one at)

  -- a call line names a thread of the trace
  pub thread_among : (place : ℕ) (one : TraceLine) (thread pool : ℕ) (call : TraceCall) → IsWithin trace
      → slice_get trace.lines.items place ≡ Some one → one.act ≡ act.Call thread pool call → thread < threads_in trace
  thread_among place one thread pool call within at is =
      subst (IsAmong (threads_in trace) (length trace.pools.items)) is (within.each place one at)

  -- the thread's call of the line is there
  pub is_next : (all : List (Vec Said)) (place : ℕ) (told : List ℕ) (line : TraceLine) (thread pool : ℕ)
      (call : TraceCall)
      → slice_get trace.lines.items place ≡ Some line → line.act ≡ act.Call thread pool call → IsWithin trace
      → AreSaid trace all → AreTold trace place told → IsNextOf all told thread
  is_next all place told line thread pool call at is within said are =
      let low = thread_among place line thread pool call within at is in
      record {
        there = let n = said.count in omega arith;
        counted = let n = are.count in omega arith;
        more = λ one here.
            let same : one ≡ count_own thread (take place trace.lines.items) =
            same_Some one (count_own thread (take place trace.lines.items)) (sym here ∙ are.each thread low) in
            let below = own_below thread trace.lines.items place line (record { pool = pool; call = call })
            (slice_get_within trace.lines.items place line at)
            (ap (λ (l : TraceLine). own_call thread l.act) (get_or_from_slice_get trace.lines.items place line line at)
            ∙ ap (own_call thread) is ∙ own_same thread pool call) in
            let enough = said.enough thread low in
            omega arith;
      }

  -- a line that is the thread's call
  pub told_speaks : (place : ℕ) (told new : List ℕ) (line : TraceLine) (thread pool : ℕ) (call : TraceCall)
      → slice_get trace.lines.items place ≡ Some line → line.act ≡ act.Call thread pool call → IsWithin trace
      → ((n : ℕ) → slice_get told thread ≡ Some n → new ≡ slice_set told thread (n + 1)) → AreTold trace place told
      → AreTold trace (place + 1) new
  told_speaks place told new line thread pool call at is within sets are =
      let before = take place trace.lines.items in
      let low = thread_among place line thread pool call within at is in
      let set = sets (count_own thread before) (are.each thread low) in
      record {
        count = ap length set ∙ length-set told thread (count_own thread before + 1) ∙ are.count;
        each = λ one one_low. ⊎_elim
            (λ (z : (eqb one thread ≡ true) × (one ≡ thread)).
            ap (slice_get new) z.1 ∙ ap (λ (xs : List ℕ). slice_get xs thread) set
            ∙ slice_get-set_same told thread (count_own thread before + 1) (let n = are.count in omega arith)
            ∙ ap Some (plus_one (count_own thread before) ∙ sym (count_after place thread line at
            ∙ ap (λ (a : Act). more_own (own_call thread a) (count_own thread before)) is
            ∙ ap (λ (o : Option OwnCall). more_own o (count_own thread before)) (own_same thread pool call)))
            ∙ ap (λ (t : ℕ). Some (count_own t (take (place + 1) trace.lines.items))) (sym z.1))
            (λ (z : (eqb one thread ≡ false) × (one ≢ thread)).
            ap (λ (xs : List ℕ). slice_get xs one) set
            ∙ slice_get-set_other told thread one (count_own thread before + 1) z.1 ∙ are.each one one_low
            ∙ ap Some (sym (count_after place one line at
            ∙ ap (λ (a : Act). more_own (own_call one a) (count_own one before)) is
            ∙ ap (λ (o : Option OwnCall). more_own o (count_own one before))
            (own_other one thread pool call (λ same. z.1 (sym same))))))
            (eqb_tells one thread);
      }

  -- nothing is told before the first line
  pub none_told : (told : List ℕ) (count : ℕ) → told ≡ replicate count 0 → count ≡ threads_in trace
      → AreTold trace 0 told
  none_told told count is len = record {
    count = ap length is ∙ length-replicate count 0 ∙ len;
    each = λ thread low. ap (λ (xs : List ℕ). slice_get xs thread) is ∙ zeros_at count thread (omega arith);
  }

  -- one line more is reported
  pub reports_more : (said : ℕ → List Said) (first report new : ReportView) (place : ℕ) (line : TraceLine)
      (entry : Option ReportEntry) → slice_get trace.lines.items place ≡ Some line
      → Reports trace said first (take place trace.lines.items) report
      → ActTells trace said (take place trace.lines.items) line.line line.act entry → new ≡ with_entry report entry
      → Reports trace said first (take (place + 1) trace.lines.items) new
  reports_more said first report new place line entry at reports one is =
      subst (λ (z : List TraceLine × ReportView). Reports trace said first z.0 z.1)
      (λ k. (sym (take_line trace.lines.items place line at) k, sym is k))
      (Reports.tells reports line entry one)

  -- there is a line
  pub line_there : (place : ℕ) → place < length trace.lines.items
      → (line : TraceLine) × (slice_get trace.lines.items place ≡ Some line)
  line_there place low = by trace.lines.items place low
    where
      by : (lines : List TraceLine) (i : ℕ) → i < length lines → (line : TraceLine) × (slice_get lines i ≡ Some line)
      by [] i short = absurd (omega arith)
      by (line ∷ lines) zero short = (line, refl)
      by (line ∷ lines) (suc i) short = by lines i (omega arith)

  -- the line that is read
  pub line_here : (given : List TraceLine) (place : ℕ) (d : TraceLine) → given ≡ trace.lines.items
      → place < length trace.lines.items → slice_get trace.lines.items place ≡ Some (get_or given place d)
  line_here given place d is low = subst (λ (xs : List TraceLine). slice_get xs place ≡ Some (get_or given place d)) is
      (slice_get-get_or given place d (let n = ap length is in omega arith))

  -- what is told of the line that is read
  pub told_here : (said : ℕ → List Said) (before : List TraceLine) (place : ℕ) (one : TraceLine)
      (entry : Option ReportEntry)
      (act : Act) → slice_get trace.lines.items place ≡ Some one → one.act ≡ act
      → ActTells trace said before one.line act entry → (line : TraceLine)
      → slice_get trace.lines.items place ≡ Some line
      → ActTells trace said before line.line line.act entry
  told_here said before place one entry act at is tells line here =
      let same = same_Some one line (sym at ∙ here) in
      subst (λ (l : TraceLine). ActTells trace said before l.line l.act entry) same
      (subst (λ (a : Act). ActTells trace said before one.line a entry) (sym is) tells)

  -- other lines report nothing
  pub others_tell : (said : ℕ → List Said) (before : List TraceLine) (line : ℕ) (deed : Act)
      → ((pool : ℕ) → deed ≡ act.Pool pool → ⊥)
      → ((thread pool : ℕ) (call : TraceCall) → deed ≡ act.Call thread pool call → ⊥)
      → ActTells trace said before line deed None
  others_tell said before line act.Threads pools calls = refl
  others_tell said before line (act.Pool pool) pools calls = absurd (pools pool refl)
  others_tell said before line (act.Call thread pool call) pools calls = absurd (calls thread pool call refl)
  others_tell said before line (act.Begin thread pool call) pools calls = refl
  others_tell said before line (act.RawGet pool base bytes) pools calls = refl
  others_tell said before line (act.RawGetFail pool) pools calls = refl
  others_tell said before line (act.RawPutOk pool) pools calls = refl
  others_tell said before line (act.RawPutFail pool) pools calls = refl
  others_tell said before line (act.Step thread pool turns) pools calls = refl
  others_tell said before line (act.UpTo thread pool row) pools calls = refl
  others_tell said before line (act.Finish thread pool) pools calls = refl
  others_tell said before line (act.Reset pool) pools calls = refl
  others_tell said before line (act.Destroy pool) pools calls = refl

-- and are no thread's call
pub others_own : (deed : Act) → ((thread pool : ℕ) (call : TraceCall) → deed ≡ act.Call thread pool call → ⊥)
    → (thread : ℕ) → own_call thread deed ≡ None
others_own act.Threads calls thread = refl
others_own (act.Pool pool) calls thread = refl
others_own (act.Call named pool call) calls thread = absurd (calls named pool call refl)
others_own (act.Begin named pool call) calls thread = refl
others_own (act.RawGet pool base bytes) calls thread = refl
others_own (act.RawGetFail pool) calls thread = refl
others_own (act.RawPutOk pool) calls thread = refl
others_own (act.RawPutFail pool) calls thread = refl
others_own (act.Step named pool turns) calls thread = refl
others_own (act.UpTo named pool row) calls thread = refl
others_own (act.Finish named pool) calls thread = refl
others_own (act.Reset pool) calls thread = refl
others_own (act.Destroy pool) calls thread = refl

pub no_call : (deed : Act) (pool : ℕ) → deed ≡ act.Pool pool → (thread other : ℕ) (call : TraceCall)
    → deed ≡ act.Call thread other call → ⊥
no_call deed pool is thread other call also = cc

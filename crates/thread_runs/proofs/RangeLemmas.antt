-- The threads and the pools that lines name are the trace's.
use Rattle.std.proofs.Common.{◌≡◌, ℕ, zero, suc, ◌+◌, ◌<◌, ◌≤◌, inl, inr, Bool, true, false, List, [], ◌∷◌, ◌++◌}
use Rattle.std.proofs.Common.{length, drop, refl, sym, ◌∙◌, ap, subst, arith}
use Rattle.std.specs.Prelude.{Option, Some, None, Ok, slice_get}
use Rattle.std.proofs.lemmas.List.{length-append, length-map}
use Rattle.std.proofs.lemmas.Option.{slice_get_within}
use Rattle.pool_types.specs.Limits.{most_pools}
use Rattle.pool_types.specs.Texts.{name_bytes}
use Rattle.trace_reader.specs.declared.acts.Act.{Act}
use Rattle.trace_reader.specs.declared.acts.Act.TheVariants as act
use Rattle.trace_reader.specs.declared.acts.Forms.TheVariants as forms
use Rattle.trace_reader.specs.declared.acts.TraceLine.{TraceLine}
use Rattle.trace_reader.specs.declared.keywords.Keyword.{Keyword}
use Rattle.trace_reader.specs.declared.keywords.Keyword.TheVariants.{ThreadsWord, PoolWord, RawWord, BeginWord}
use Rattle.trace_reader.specs.declared.keywords.Keyword.TheVariants.{StepWord, UpToWord, FinishWord, ResetWord}
use Rattle.trace_reader.specs.declared.keywords.Keyword.TheVariants.{DestroyWord}
use Rattle.trace_reader.specs.declared.keywords.ScriptWord.{ScriptWord}
use Rattle.trace_reader.specs.declared.keywords.ScriptWord.TheVariants.{GetWord, GetFailWord, PutOkWord, PutFailWord}
use Rattle.trace_reader.specs.Acts.{AnyNumber, CallLine, Enters, KeywordLine, PoolOptions, RawEntry, ReadsCall}
use Rattle.trace_reader.specs.Acts.{ReadsScriptWord, ReadsWords, ThreadsLine, serves_keyword, with_bound}
use Rattle.trace_reader.specs.declared.trace.Trace.{Trace}
use Rattle.trace_reader.specs.Combinators.{Then, Ends, Wraps}
use Rattle.trace_reader.specs.Contexts.{Context}
use Rattle.trace_reader.specs.Slots.{ReadsNextPool, ReadsPool, ReadsThread}
use Rattle.trace_reader.specs.Text.{nothing_yet}
use Rattle.trace_reader.proofs.CallForms.{Holds, ends_holds, then_holds, wraps_holds}
use Rattle.trace_reader.proofs.ContextLemmas.{names_give}
use Rattle.trace_reader.proofs.OneSlot.{ok_same, not_both}
use Rattle.trace_reader.proofs.ServedLaws.{Follow, lines_follow}
use Rattle.thread_runs.specs.Traces.{IsAmong, IsRead, IsWithin}

-- what a line names stands before it; a pool line's pool is the next one, of few
abbrev Suits : Context → Act → Type 0
Suits before act.Threads = before.names ≡ []
Suits before (act.Pool pool) = (pool ≡ length before.pools) × (length before.pools < most_pools)
Suits before (act.Call thread pool call) = thread < length before.names
Suits before other = Unit {0}

threads_suit : (more : Bool) (before : Context) (words : List (List ℕ)) (deed : Act)
    → ThreadsLine more before words (Ok deed) → Suits before deed
threads_suit more before words deed read = elim read [
  | inl named ↦ subst (Suits before) (sym (names_give more [] (drop 1 words) deed named.2)) named.0
  | inr refused ↦ absurd (not_both refused.1)
]

pool_suits : (more : Bool) (before : Context) (pool : ℕ) → (pool ≡ length before.pools)
    × (length before.pools < most_pools)
    → Holds (Suits before) (PoolOptions more pool)
pool_suits more before pool next words at deed read = elim read [
  | inl refused ↦ absurd (not_both refused.2)
  | inr rest ↦ elim rest [
    | inl made ↦ subst (Suits before) (sym (ok_same made.3)) next
    | inr unserved ↦ absurd (not_both unserved.4)
  ]
]

raw_suits : (before : Context) (pool : ℕ) (script : ScriptWord) → Holds (Suits before) (RawEntry pool script)
raw_suits before pool GetWord =
    then_holds (Suits before) AnyNumber (λ base. Then AnyNumber (λ bytes. Ends (act.RawGet pool base bytes)))
    (λ base text read. then_holds (Suits before) AnyNumber (λ bytes. Ends (act.RawGet pool base bytes))
    (λ bytes text read. ends_holds (Suits before) (act.RawGet pool base bytes) tt))
raw_suits before pool GetFailWord = ends_holds (Suits before) (act.RawGetFail pool) tt
raw_suits before pool PutOkWord = ends_holds (Suits before) (act.RawPutOk pool) tt
raw_suits before pool PutFailWord = ends_holds (Suits before) (act.RawPutFail pool) tt

none_served : {P : Type 0} → ◌≡◌ {A = Bool} false true → P
none_served same = absurd (cc)

keyword_suits : (more : Bool) (before : Context) (key : Keyword) (words : List (List ℕ)) (deed : Act)
    → serves_keyword forms.Threads key ≡ true → KeywordLine more before key words (Ok deed) → Suits before deed
keyword_suits more before ThreadsWord words deed serves read = threads_suit more before words deed read
keyword_suits more before PoolWord words deed serves read =
    then_holds (Suits before) (ReadsNextPool before) (PoolOptions more)
    (λ pool text next. pool_suits more before pool (next.1, next.0)) words 1 deed read
keyword_suits more before RawWord words deed serves read =
    then_holds (Suits before) (ReadsPool before) (λ pool. Then ReadsScriptWord (RawEntry pool))
    (λ pool text made. then_holds (Suits before) ReadsScriptWord (RawEntry pool)
    (λ script text is. raw_suits before pool script)) words 1 deed read
keyword_suits more before BeginWord words deed serves read = none_served serves
keyword_suits more before StepWord words deed serves read = none_served serves
keyword_suits more before UpToWord words deed serves read = none_served serves
keyword_suits more before FinishWord words deed serves read = none_served serves
keyword_suits more before ResetWord words deed serves read = none_served serves
keyword_suits more before DestroyWord words deed serves read = none_served serves

call_suits : (more : Bool) (before : Context) (words : List (List ℕ)) (deed : Act)
    → CallLine more before words (Ok deed) → Suits before deed
call_suits more before words deed read =
    then_holds (Suits before) (ReadsThread before)
    (λ thread. Then (ReadsPool before) (λ pool. Wraps (act.Call thread pool) (ReadsCall more before)))
    (λ thread text known. then_holds (Suits before) (ReadsPool before)
    (λ pool. Wraps (act.Call thread pool) (ReadsCall more before))
    (λ pool name made. wraps_holds (λ call. Unit {0}) (Suits before) (act.Call thread pool) (ReadsCall more before)
    (λ call any. slice_get_within before.names thread text known.1.there) (λ words at call read. tt))) words 0 deed
    read

line_suits : (before : Context) (words : List (List ℕ)) (deed : Act) → ReadsWords forms.Threads before words (Ok deed)
    → Suits before deed
line_suits before words deed read = elim read [
  | inl keyed ↦ keyword_suits true before keyed.0 words deed keyed.2 keyed.3
  | inr rest ↦ elim rest [
    | inl unserved ↦ absurd (not_both unserved.3)
    | inr rest ↦ elim rest [
      | inl unserved ↦ absurd (not_both unserved.4)
      | inr called ↦ call_suits true before words deed called.2
    ]
  ]
]

-- names and pools stay, and a pool is among the few
record Grows (before next : Context) (deed : Act) : Type 0 where
  names : length before.names ≤ length next.names
  pools : length before.pools ≤ length next.pools
  few : length next.pools ≤ most_pools
  among : IsAmong (length next.names) (length next.pools) deed

stays : (before next : Context) (deed : Act) → length before.pools ≤ most_pools → next.names ≡ before.names
    → next.pools ≡ before.pools → IsAmong (length before.names) (length before.pools) deed → Grows before next deed
stays before next deed few names pools among = record {
  names = let n = ap length names in omega arith;
  pools = let n = ap length pools in omega arith;
  few = let n = ap length pools in omega arith;
  among = subst (λ (z : ℕ × ℕ). IsAmong z.0 z.1 deed) (λ k. (ap length (sym names) k, ap length (sym pools) k)) among;
}

same_stays : (before next : Context) (deed : Act) → length before.pools ≤ most_pools → next ≡ before
    → IsAmong (length before.names) (length before.pools) deed → Grows before next deed
same_stays before next deed few same among =
    stays before next deed few (ap (λ (c : Context). c.names) same) (ap (λ (c : Context). c.pools) same) among

bound_stays : (before : Context) (number : Option ℕ) (word : List ℕ)
    → ((with_bound before number word).names ≡ before.names) × ((with_bound before number word).pools ≡ before.pools)
bound_stays before None word = (refl, refl)
bound_stays before (Some number) word = (refl, refl)

grows : (before : Context) (words : List (List ℕ)) (deed : Act) (next : Context) → length before.pools ≤ most_pools
    → Suits before deed → Enters before words deed next → Grows before next deed
grows before words act.Threads next few suits enters =
    let pools : next.pools ≡ before.pools = ap (λ (c : Context). c.pools) enters in
    record {
      names = let n = ap length suits in omega arith;
      pools = let n = ap length pools in omega arith;
      few = let n = ap length pools in omega arith;
      among = tt;
    }
grows before words (act.Pool pool) next few suits enters =
    let names : next.names ≡ before.names = ap (λ (c : Context). c.names) enters.2 in
    let pools : next.pools ≡ before.pools ++ enters.0 ∷ [] = ap (λ (c : Context). c.pools) enters.2 in
    let more : length next.pools ≡ length before.pools + 1 = ap length pools
    ∙ length-append before.pools (enters.0 ∷ []) in
    let at = suits.0 in
    let low = suits.1 in
    record {
      names = let n = ap length names in omega arith;
      pools = omega arith;
      few = omega arith;
      among = omega arith;
    }
grows before words (act.Call thread pool call) next few suits enters =
    let same = bound_stays before _ _ in
    stays before next (act.Call thread pool call) few (ap (λ (c : Context). c.names) enters ∙ same.0)
    (ap (λ (c : Context). c.pools) enters ∙ same.1) suits
grows before words (act.Begin thread pool call) next few suits enters =
    let same = bound_stays before _ _ in
    stays before next (act.Begin thread pool call) few (ap (λ (c : Context). c.names) enters ∙ same.0)
    (ap (λ (c : Context). c.pools) enters ∙ same.1) tt
grows before words (act.RawGet pool base bytes) next few suits enters =
    same_stays before next (act.RawGet pool base bytes) few enters tt
grows before words (act.RawGetFail pool) next few suits enters =
    same_stays before next (act.RawGetFail pool) few enters tt
grows before words (act.RawPutOk pool) next few suits enters = same_stays before next (act.RawPutOk pool) few enters tt
grows before words (act.RawPutFail pool) next few suits enters =
    same_stays before next (act.RawPutFail pool) few enters tt
grows before words (act.Step thread pool turns) next few suits enters =
    same_stays before next (act.Step thread pool turns) few enters tt
grows before words (act.UpTo thread pool row) next few suits enters =
    same_stays before next (act.UpTo thread pool row) few enters tt
grows before words (act.Finish thread pool) next few suits enters =
    same_stays before next (act.Finish thread pool) few enters tt
grows before words (act.Reset pool) next few suits enters = same_stays before next (act.Reset pool) few enters tt
grows before words (act.Destroy pool) next few suits enters = same_stays before next (act.Destroy pool) few enters tt

-- the same where there are more names and pools
among_more : (threads pools more all : ℕ) (deed : Act) → threads ≤ more → pools ≤ all → IsAmong threads pools deed
    → IsAmong more all deed
among_more threads pools more all act.Threads names made among = tt
among_more threads pools more all (act.Pool pool) names made among = omega arith
among_more threads pools more all (act.Call thread pool call) names made among = omega arith
among_more threads pools more all (act.Begin thread pool call) names made among = tt
among_more threads pools more all (act.RawGet pool base bytes) names made among = tt
among_more threads pools more all (act.RawGetFail pool) names made among = tt
among_more threads pools more all (act.RawPutOk pool) names made among = tt
among_more threads pools more all (act.RawPutFail pool) names made among = tt
among_more threads pools more all (act.Step thread pool turns) names made among = tt
among_more threads pools more all (act.UpTo thread pool row) names made among = tt
among_more threads pools more all (act.Finish thread pool) names made among = tt
among_more threads pools more all (act.Reset pool) names made among = tt
among_more threads pools more all (act.Destroy pool) names made among = tt

-- lines behind a first one
record Follows (before last : Context) (lines : List TraceLine) : Type 0 where
  names : length before.names ≤ length last.names
  pools : length before.pools ≤ length last.pools
  few : length last.pools ≤ most_pools
  each : (place : ℕ) (line : TraceLine) → slice_get lines place ≡ Some line
      → IsAmong (length last.names) (length last.pools) line.act

at_first : (line : TraceLine) (lines : List TraceLine) (threads pools : ℕ) → IsAmong threads pools line.act
    → ((place : ℕ) (one : TraceLine) → slice_get lines place ≡ Some one → IsAmong threads pools one.act)
    → (place : ℕ) (one : TraceLine) → slice_get (line ∷ lines) place ≡ Some one → IsAmong threads pools one.act
at_first line lines threads pools first rest zero one is =
    let same : line ≡ one = cc in subst (λ (l : TraceLine). IsAmong threads pools l.act) same first
at_first line lines threads pools first rest (suc place) one is = rest place one is

follows : (before : Context) (least : ℕ) (lines : List TraceLine) (last : Context) → length before.pools ≤ most_pools
    → Follow forms.Threads before least lines last → Follows before last lines
unfolding Follow
follows before least [] last few follow =
    let names = ap (λ (c : Context). length c.names) follow in
    let pools = ap (λ (c : Context). length c.pools) follow in
    record {
      names = omega arith;
      pools = omega arith;
      few = omega arith;
      each = λ place line is. let h : ◌≡◌ {A = Option TraceLine} None (Some line) = is in absurd (cc);
    }
follows before least (line ∷ lines) last few follow =
    let grown = grows before follow.0 line.act follow.1 few (line_suits before follow.0 line.act follow.2.read)
    follow.3 in
    let rest = follows follow.1 (line.line + 1) lines last grown.few follow.4 in
    let n = grown.names in
    let m = rest.names in
    let p = grown.pools in
    let q = rest.pools in
    record {
      names = omega arith;
      pools = omega arith;
      few = rest.few;
      each = at_first line lines (length last.names) (length last.pools)
          (among_more (length follow.1.names) (length follow.1.pools) (length last.names) (length last.pools) line.act
          rest.names rest.pools grown.among) rest.each;
    }

-- the lines of a trace that was read name its threads and its pools
pub lines_are_within : (trace : Trace) → IsRead trace → IsWithin trace
lines_are_within trace (bytes, read) =
    let to = lines_follow forms.Threads nothing_yet 1 read.texts read.last trace.lines.items _ _ read.reads in
    let all = follows nothing_yet 1 trace.lines.items to.last (omega arith) to.follow in
    let names : length to.last.names ≡ length trace.names.items = ap length (sym to.named)
    ∙ length-map trace.names.items name_bytes in
    let pools : length to.last.pools ≡ length trace.pools.items = ap length (sym to.made) in
    record {
      few = let n = all.few in omega arith;
      each = λ place line is. subst (λ (z : ℕ × ℕ). IsAmong z.0 z.1 line.act) (λ k. (names k, pools k))
          (all.each place line is);
    }

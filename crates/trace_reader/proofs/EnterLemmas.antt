-- What is known of a line that was read, and what stands behind it.
use Rattle.std.proofs.Common.{◌≡◌, ℕ, ◌+◌, ◌<◌, ◌≤◌, inl, inr, Bool, true, false, List, [], ◌∷◌, length, drop, refl, sym, ◌∙◌, ap, subst, arith, get_or}
use Rattle.std.specs.Prelude.{Result, Ok, Err, Some, None, slice_get}
use Rattle.std.specs.declared.option.Option.{Option}
use Rattle.std.proofs.lemmas.Option.{slice_get_within, slice_get-get_or, same_Some}
use Rattle.arrayvec.specs.ArrayVec.{ArrayVec}
use Rattle.pool_types.specs.Limits.{most_turns}
use Rattle.trace_reader.specs.declared.refusal.Refusal.{Refusal}
use Rattle.trace_reader.specs.declared.acts.Forms.{Forms}
use Rattle.trace_reader.specs.declared.acts.PoolOption.{PoolOption}
use Rattle.trace_reader.specs.declared.acts.TraceCall.{TraceCall}
use Rattle.trace_reader.specs.declared.acts.Act.{Act}
use Rattle.trace_reader.specs.declared.acts.Act.TheVariants as act
use Rattle.trace_reader.specs.declared.keywords.Keyword.{Keyword}
use Rattle.trace_reader.specs.declared.keywords.Keyword.TheVariants.{ThreadsWord, PoolWord, RawWord, BeginWord, StepWord, UpToWord, FinishWord, ResetWord, DestroyWord}
use Rattle.trace_reader.specs.declared.keywords.ScriptWord.{ScriptWord}
use Rattle.trace_reader.specs.declared.keywords.ScriptWord.TheVariants.{GetWord, GetFailWord, PutOkWord, PutFailWord}
use Rattle.trace_reader.specs.Keywords.{keyword_text}
use Rattle.trace_reader.specs.Combinators.{Then, Ends, Wraps}
use Rattle.trace_reader.specs.Contexts.{Context}
use Rattle.trace_reader.specs.Slots.{ReadsNewName, ReadsNumber, ReadsThread, ReadsPool, ReadsNextPool}
use Rattle.trace_reader.specs.Options.{ReadsOptions}
use Rattle.trace_reader.specs.Acts.{AnyNumber, BindingCall, CallLine, Enters, KeywordLine, MayBind, MayEnter, PlainCall, PoolOptions, RawEntry, ReadsCall, ReadsCallWord, ReadsNames, ReadsRow, ReadsScriptWord, ReadsWords, ThreadsLine, bound_by, serves_more, with_bound, with_pool, word_in}
use Rattle.trace_reader.specs.Served.{after_call, call_in, count_with}
use Rattle.trace_reader.proofs.ThreadLemmas.{are_names}
use Rattle.trace_reader.proofs.ContextLemmas.{names_give, word_read}
use Rattle.trace_reader.proofs.OneSlot.{ok_same, not_both}
use Rattle.trace_reader.proofs.OneOption.{options_one}
use Rattle.trace_reader.proofs.CallForms.{Holds, binding_binds, plain_binds, then_holds, ends_holds}

-- neither names threads nor makes a pool nor makes a call
IsOther : Act → Type 0
IsOther act.Threads = ⊥
IsOther (act.Pool pool) = ⊥
IsOther (act.Call thread pool call) = ⊥
IsOther (act.Begin thread pool call) = ⊥
IsOther other = Unit {0}

other_enters : (before : Context) (words : List (List ℕ)) (other : Act) → IsOther other → MayEnter before words other
unfolding IsOther
other_enters before words act.Threads is = absurd is
other_enters before words (act.Pool pool) is = absurd is
other_enters before words (act.RawGet pool base bytes) is = tt
other_enters before words (act.RawGetFail pool) is = tt
other_enters before words (act.RawPutOk pool) is = tt
other_enters before words (act.RawPutFail pool) is = tt
other_enters before words (act.Call thread pool call) is = absurd is
other_enters before words (act.Begin thread pool call) is = absurd is
other_enters before words (act.Step thread pool turns) is = tt
other_enters before words (act.UpTo thread pool row) is = tt
other_enters before words (act.Finish thread pool) is = tt
other_enters before words (act.Reset pool) is = tt
other_enters before words (act.Destroy pool) is = tt

raw_other : (pool : ℕ) (script : ScriptWord) → Holds IsOther (RawEntry pool script)
unfolding IsOther
raw_other pool GetWord = then_holds IsOther AnyNumber (λ base. Then AnyNumber (λ bytes. Ends (act.RawGet pool base bytes)))
    (λ base text read. then_holds IsOther AnyNumber (λ bytes. Ends (act.RawGet pool base bytes)) (λ bytes text read. ends_holds IsOther (act.RawGet pool base bytes) tt))
raw_other pool GetFailWord = ends_holds IsOther (act.RawGetFail pool) tt
raw_other pool PutOkWord = ends_holds IsOther (act.RawPutOk pool) tt
raw_other pool PutFailWord = ends_holds IsOther (act.RawPutFail pool) tt

-- calls

-- the word of the name that a call binds is the first of the call
word_there : (words : List (List ℕ)) (at : ℕ) (text : List ℕ) → slice_get words at ≡ Some text → word_in words at ≡ text
word_there words at text is = same_Some _ _ (sym (slice_get-get_or words at [] (slice_get_within words at text is)) ∙ is)

bound_known : (before : Context) (words : List (List ℕ)) (at : ℕ) (text : List ℕ) (number : ℕ) (call : TraceCall) → slice_get words at ≡ Some text → ReadsNewName before text (Ok number) → bound_by call ≡ Some number →
    MayBind before (bound_by call) (word_in words at)
bound_known before words at text number call there new binds =
    subst (λ (bound : Option ℕ). MayBind before bound (word_in words at)) (sym binds)
    (subst (λ (word : List ℕ). MayBind before (Some number) word) (sym (word_there words at text there)) (new.0, new.1))

call_known : (more : Bool) (before : Context) (words : List (List ℕ)) (at : ℕ) (call : TraceCall) → ReadsCall more before words at (Ok call) → MayBind before (bound_by call) (word_in words at)
call_known more before words at call read = elim read [
  | inl named ↦ elim named.1 [
    | inl refused ↦ absurd (not_both refused.2)
    | inr went ↦ elim went.2 [
      | inl refused ↦ absurd (not_both refused.2)
      | inr called ↦
          let word = word_read (ReadsNewName before) (slice_get words at) went.0 went.1 in
          bound_known before words at word.0 went.0 call word.1 word.2 (binding_binds more before went.0 called.0 words (at + 1 + 1 + 1) call called.2)
    ]
  ]
  | inr plain ↦ elim plain.1 [
    | inl refused ↦ absurd (not_both refused.2)
    | inr called ↦ subst (λ (bound : Option ℕ). MayBind before bound (word_in words at)) (sym (plain_binds before called.0 words (at + 1) call called.2)) tt
  ]
]

-- a line that names threads
threads_enter : (more : Bool) (before : Context) (words : List (List ℕ)) (deed : Act) → 0 < length words → ThreadsLine more before words (Ok deed) → MayEnter before words deed
threads_enter more before words deed some read = elim read [
  | inl named ↦
      let same : deed ≡ act.Threads = names_give more [] (drop 1 words) deed named.2 in
      subst (λ (d : Act). MayEnter before words d) (sym same) (are_names more (drop 1 words) (subst (λ (d : Act). ReadsNames more [] (drop 1 words) (Ok d)) same named.2), some)
  | inr refused ↦ absurd (not_both refused.1)
]

-- options that were read make a pool line
options_enter : (more : Bool) (before : Context) (pool : ℕ) (words : List (List ℕ)) (deed : Act) → 1 < length words → PoolOptions more pool words 2 (Ok deed) → MayEnter before words deed
options_enter more before pool words deed some read = elim read [
  | inl refused ↦ absurd (not_both refused.2)
  | inr rest ↦ elim rest [
    | inl made ↦ subst (λ (d : Act). MayEnter before words d) (sym (ok_same made.3)) (some, (made.0, made.1))
    | inr unserved ↦ absurd (not_both unserved.4)
  ]
]

-- a pool line
pool_enters : (more : Bool) (before : Context) (words : List (List ℕ)) (deed : Act) → Then (ReadsNextPool before) (PoolOptions more) words 1 (Ok deed) → MayEnter before words deed
pool_enters more before words deed read = elim read [
  | inl refused ↦ absurd (not_both refused.2)
  | inr went ↦ let word = word_read (ReadsNextPool before) (slice_get words 1) went.0 went.1 in options_enter more before went.0 words deed (slice_get_within words 1 word.0 word.1) went.2
]

-- a line that begins a call, and one that makes a whole call
begin_enters : (more : Bool) (before : Context) (words : List (List ℕ)) (deed : Act) → KeywordLine more before BeginWord words (Ok deed) → MayEnter before words deed
begin_enters more before words deed read = elim read [
  | inl refused ↦ absurd (not_both refused.2)
  | inr named ↦ elim named.2 [
    | inl refused ↦ absurd (not_both refused.2)
    | inr made ↦ elim made.2 [
      | inl refused ↦ absurd (not_both refused.2)
      | inr called ↦ subst (λ (d : Act). MayEnter before words d) (sym (ok_same called.2)) (call_known more before words 3 called.0 called.1)
    ]
  ]
]

call_enters : (more : Bool) (before : Context) (words : List (List ℕ)) (deed : Act) → CallLine more before words (Ok deed) → MayEnter before words deed
call_enters more before words deed read = elim read [
  | inl refused ↦ absurd (not_both refused.2)
  | inr named ↦ elim named.2 [
    | inl refused ↦ absurd (not_both refused.2)
    | inr made ↦ elim made.2 [
      | inl refused ↦ absurd (not_both refused.2)
      | inr called ↦ subst (λ (d : Act). MayEnter before words d) (sym (ok_same called.2)) (call_known more before words 2 called.0 called.1)
    ]
  ]
]

-- a line that begins with a keyword
line_enters : (more : Bool) (before : Context) (key : Keyword) (words : List (List ℕ)) (deed : Act) → 0 < length words → KeywordLine more before key words (Ok deed) → MayEnter before words deed
unfolding IsOther
line_enters more before ThreadsWord words deed some read = threads_enter more before words deed some read
line_enters more before PoolWord words deed some read = pool_enters more before words deed read
line_enters more before RawWord words deed some read =
    other_enters before words deed (then_holds IsOther (ReadsPool before) (λ pool. Then ReadsScriptWord (RawEntry pool)) (λ pool text made. then_holds IsOther ReadsScriptWord (RawEntry pool) (λ script text is. raw_other pool script)) words 1 deed read)
line_enters more before BeginWord words deed some read = begin_enters more before words deed read
line_enters more before StepWord words deed some read =
    other_enters before words deed (then_holds IsOther (ReadsThread before) (λ thread. Then (ReadsPool before) (λ pool. Then (ReadsNumber 1 most_turns) (λ turns. Ends (act.Step thread pool turns))))
    (λ thread text known. then_holds IsOther (ReadsPool before) (λ pool. Then (ReadsNumber 1 most_turns) (λ turns. Ends (act.Step thread pool turns)))
    (λ pool text made. then_holds IsOther (ReadsNumber 1 most_turns) (λ turns. Ends (act.Step thread pool turns)) (λ turns text some. ends_holds IsOther (act.Step thread pool turns) tt))) words 1 deed read)
line_enters more before UpToWord words deed some read =
    other_enters before words deed (then_holds IsOther (ReadsThread before) (λ thread. Then (ReadsPool before) (λ pool. Then ReadsRow (λ row. Ends (act.UpTo thread pool row))))
    (λ thread text known. then_holds IsOther (ReadsPool before) (λ pool. Then ReadsRow (λ row. Ends (act.UpTo thread pool row)))
    (λ pool text made. then_holds IsOther ReadsRow (λ row. Ends (act.UpTo thread pool row)) (λ row text is. ends_holds IsOther (act.UpTo thread pool row) tt))) words 1 deed read)
line_enters more before FinishWord words deed some read =
    other_enters before words deed (then_holds IsOther (ReadsThread before) (λ thread. Then (ReadsPool before) (λ pool. Ends (act.Finish thread pool)))
    (λ thread text known. then_holds IsOther (ReadsPool before) (λ pool. Ends (act.Finish thread pool)) (λ pool text made. ends_holds IsOther (act.Finish thread pool) tt)) words 1 deed read)
line_enters more before ResetWord words deed some read =
    other_enters before words deed (then_holds IsOther (ReadsPool before) (λ pool. Ends (act.Reset pool)) (λ pool text made. ends_holds IsOther (act.Reset pool) tt) words 1 deed read)
line_enters more before DestroyWord words deed some read =
    other_enters before words deed (then_holds IsOther (ReadsPool before) (λ pool. Ends (act.Destroy pool)) (λ pool text made. ends_holds IsOther (act.Destroy pool) tt) words 1 deed read)

-- what is known of the words of a line that was read
pub line_known : (forms : Forms) (before : Context) (words : List (List ℕ)) (deed : Act) → ReadsWords forms before words (Ok deed) → MayEnter before words deed
line_known forms before words deed read = elim read [
  | inl keyed ↦ line_enters (serves_more forms) before keyed.0 words deed (slice_get_within words 0 (keyword_text keyed.0) keyed.1) keyed.3
  | inr rest ↦ elim rest [
    | inl unserved ↦ absurd (not_both unserved.3)
    | inr rest ↦ elim rest [
      | inl unserved ↦ absurd (not_both unserved.4)
      | inr call ↦ call_enters (serves_more forms) before words deed call.2
    ]
  ]
]

-- what stands behind a line

pub vec_same : (one other : ArrayVec PoolOption) → one.items ≡ other.items → one ≡ other
vec_same one other same = ap (λ (xs : List PoolOption). record { items = xs }) same

-- is one thing only
pub enters_one : (before : Context) (words : List (List ℕ)) (deed : Act) (one other : Context) → Enters before words deed one → Enters before words deed other → one ≡ other
enters_one before words act.Threads one other h k = h ∙ sym k
enters_one before words (act.Pool pool) one other h k =
    let same : h.0 ≡ k.0 = vec_same h.0 k.0 (ok_same (options_one [] (drop 2 words) (Ok h.0.items) (Ok k.0.items) h.1 k.1)) in
    h.2 ∙ ap (λ (options : ArrayVec PoolOption). with_pool before options) same ∙ sym k.2
enters_one before words (act.Call thread pool call) one other h k = h ∙ sym k
enters_one before words (act.Begin thread pool call) one other h k = h ∙ sym k
enters_one before words (act.RawGet pool base bytes) one other h k = h ∙ sym k
enters_one before words (act.RawGetFail pool) one other h k = h ∙ sym k
enters_one before words (act.RawPutOk pool) one other h k = h ∙ sym k
enters_one before words (act.RawPutFail pool) one other h k = h ∙ sym k
enters_one before words (act.Step thread pool turns) one other h k = h ∙ sym k
enters_one before words (act.UpTo thread pool row) one other h k = h ∙ sym k
enters_one before words (act.Finish thread pool) one other h k = h ∙ sym k
enters_one before words (act.Reset pool) one other h k = h ∙ sym k
enters_one before words (act.Destroy pool) one other h k = h ∙ sym k

-- how many names are bound there
bound_count : (before : Context) (number : Option ℕ) (word : List ℕ) → (with_bound before number word).count ≡ count_with before.count number
bound_count before None word = refl
bound_count before (Some number) word = refl

count_of : {one other : Context} → one ≡ other → one.count ≡ other.count
count_of same = ap (λ (context : Context). context.count) same

pub enters_count : (before : Context) (words : List (List ℕ)) (deed : Act) (next : Context) → Enters before words deed next → next.count ≡ after_call before.count (call_in deed)
enters_count before words act.Threads next h = count_of h
enters_count before words (act.Pool pool) next h = count_of h.2
enters_count before words (act.Call thread pool call) next h = count_of h ∙ bound_count before (bound_by call) (word_in words 2)
enters_count before words (act.Begin thread pool call) next h = count_of h ∙ bound_count before (bound_by call) (word_in words 3)
enters_count before words (act.RawGet pool base bytes) next h = count_of h
enters_count before words (act.RawGetFail pool) next h = count_of h
enters_count before words (act.RawPutOk pool) next h = count_of h
enters_count before words (act.RawPutFail pool) next h = count_of h
enters_count before words (act.Step thread pool turns) next h = count_of h
enters_count before words (act.UpTo thread pool row) next h = count_of h
enters_count before words (act.Finish thread pool) next h = count_of h
enters_count before words (act.Reset pool) next h = count_of h
enters_count before words (act.Destroy pool) next h = count_of h

with_one_more : (count : ℕ) (number : Option ℕ) → count_with count number ≤ count + 1
with_one_more count None = omega arith
with_one_more count (Some number) = omega arith

one_more_after : (count : ℕ) (call : Option TraceCall) → after_call count call ≤ count + 1
one_more_after count None = omega arith
one_more_after count (Some call) = with_one_more count (bound_by call)

pub enters_few : (before : Context) (words : List (List ℕ)) (deed : Act) (next : Context) → Enters before words deed next → next.count ≤ before.count + 1
enters_few before words deed next h = omega (arith, enters_count before words deed next h, one_more_after before.count (call_in deed))

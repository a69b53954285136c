-- the shape of plain traces.
use Rattle.std.proofs.Common.{◌≡◌, ℕ, ◌+◌, ◌<◌, ◌⊎◌, inl, inr, true, false, List, [], ◌∷◌, ◌++◌, length, drop, map, refl, sym, ◌∙◌, ap, subst, arith}
use Rattle.std.specs.Prelude.{Ok, Some, None, slice_get}
use Rattle.std.specs.declared.option.Option.{Option}
use Rattle.arrayvec.specs.ArrayVec.{ArrayVec}
use Rattle.std.proofs.lemmas.Option.{slice_get_within}
use Rattle.pool_types.specs.declared.texts.ThreadName.{ThreadName}
use Rattle.trace_reader.specs.Laws.{PlainTracesHaveOneShape}
use Rattle.trace_reader.specs.declared.acts.Forms.TheVariants as forms
use Rattle.trace_reader.specs.declared.acts.PoolOption.{PoolOption}
use Rattle.trace_reader.specs.declared.acts.TraceCall.{TraceCall}
use Rattle.trace_reader.specs.declared.acts.Act.{Act}
use Rattle.trace_reader.specs.declared.acts.Act.TheVariants as act
use Rattle.trace_reader.specs.declared.acts.TraceLine.{TraceLine}
use Rattle.trace_reader.specs.declared.keywords.Keyword.{Keyword}
use Rattle.trace_reader.specs.declared.keywords.Keyword.TheVariants.{ThreadsWord, PoolWord, RawWord, BeginWord, StepWord, UpToWord, FinishWord, ResetWord, DestroyWord}
use Rattle.trace_reader.specs.declared.keywords.CallWord.{CallWord}
use Rattle.trace_reader.specs.Combinators.{Then}
use Rattle.trace_reader.specs.Contexts.{Context}
use Rattle.trace_reader.specs.Slots.{ReadsNextPool, ReadsPool, ReadsThread}
use Rattle.trace_reader.specs.Acts.{CallLine, Calls, IsPlainPool, KeywordLine, PoolOptions, ReadsCall, ReadsCallWord, ReadsNames, ReadsWords, ThreadsLine, Enters, bound_by, serves_call, serves_keyword, with_bound, with_pool, word_in}
use Rattle.pool_types.specs.Texts.{name_bytes}
use Rattle.trace_reader.specs.Text.{nothing_yet}
use Rattle.trace_reader.specs.Options.{ReadsOptions}
use Rattle.trace_reader.specs.Served.{AreServed, AreServedCalls, IsServedCall, act_of, plain_options, plain_pool}
use Rattle.trace_reader.proofs.ContextLemmas.{word_read}
use Rattle.trace_reader.proofs.OneSlot.{ok_same, not_both}
use Rattle.trace_reader.proofs.ServedLaws.{Follow, lines_follow}
use Rattle.trace_reader.proofs.EnterLemmas.{vec_same}
use Rattle.trace_reader.proofs.OneOption.{options_one}
use Rattle.trace_reader.proofs.CallForms.{IsSmallCall, binding_small, plain_small}

-- one line of a plain trace

-- the line names the one thread
record NamesThread (before : Context) (words : List (List ℕ)) (deed : Act) : Type 0 where
  unnamed : before.names ≡ []
  unmade : before.pools ≡ []
  name : List ℕ
  named : drop 1 words ≡ name ∷ []
  does : deed ≡ act.Threads

-- the line makes the pool
record MakesPool (before : Context) (words : List (List ℕ)) (deed : Act) : Type 0 where
  unmade : before.pools ≡ []
  options : ReadsOptions [] (drop 2 words) (Ok plain_options.items)
  does : deed ≡ plain_pool

-- the line makes a call that is served
record MakesCall (before : Context) (deed : Act) : Type 0 where
  thread : ℕ
  pool : ℕ
  call : TraceCall
  known : thread < length before.names
  made : pool < length before.pools
  served : IsServedCall call
  does : deed ≡ act.Call thread pool call

-- one name is read
one_name : (words : List (List ℕ)) (deed : Act) → ReadsNames false [] words (Ok deed) → (name : List ℕ) × (words ≡ name ∷ []) × (deed ≡ act.Threads)
one_name [] deed read = elim read [ inl none ↦ absurd (not_both none.1) | inr some ↦ absurd (some.0 refl) ]
one_name (word ∷ []) deed read = elim read [
  | inl refused ↦ absurd (not_both refused.2)
  | inr named ↦ elim named.2 [ inl none ↦ absurd (not_both none.1) | inr some ↦ (word, refl, ok_same some.1) ]
]
one_name (word ∷ other ∷ words) deed read = elim read [
  | inl refused ↦ absurd (not_both refused.2)
  | inr named ↦ elim named.2 [
    | inl refused ↦ absurd (not_both refused.2)
    | inr again ↦ elim again.1.1 [ inl none ↦ let h : ◌≡◌ {A = List (List ℕ)} (word ∷ []) [] = none in absurd (cc) | inr more ↦ let h : false ≡ true = more in absurd (cc) ]
  ]
]

threads_line : (before : Context) (words : List (List ℕ)) (deed : Act) → ThreadsLine false before words (Ok deed) → NamesThread before words deed
threads_line before words deed read = elim read [
  | inl named ↦ let one = one_name (drop 1 words) deed named.2 in record { unnamed = named.0; unmade = named.1; name = one.0; named = one.1; does = one.2 }
  | inr refused ↦ absurd (not_both refused.1)
]

options_line : (pool : ℕ) (words : List (List ℕ)) (at : ℕ) (deed : Act) → PoolOptions false pool words at (Ok deed) → (pool ≡ 0) × ReadsOptions [] (drop at words) (Ok plain_options.items) × (deed ≡ plain_pool)
options_line pool words at deed read = elim read [
  | inl refused ↦ absurd (not_both refused.2)
  | inr rest ↦ elim rest [
    | inl made ↦ elim made.2 [
      | inl more ↦ let h : false ≡ true = more in absurd (cc)
      | inr plain ↦ (plain.0, subst (λ (os : List PoolOption). ReadsOptions [] (drop at words) (Ok os)) plain.1 made.1, ok_same made.3 ∙ ap (λ (n : ℕ). act.Pool n) plain.0)
    ]
    | inr unserved ↦ absurd (not_both unserved.4)
  ]
]

no_length : (pools : List (ArrayVec PoolOption)) → length pools ≡ 0 → pools ≡ []
no_length [] same = refl
no_length (pool ∷ pools) same = absurd (omega arith)

pool_line : (before : Context) (words : List (List ℕ)) (deed : Act) → Then (ReadsNextPool before) (PoolOptions false) words 1 (Ok deed) → MakesPool before words deed
pool_line before words deed read = elim read [
  | inl refused ↦ absurd (not_both refused.2)
  | inr went ↦
      let next = (word_read (ReadsNextPool before) (slice_get words 1) went.0 went.1).2 in
      let made = options_line went.0 words 2 deed went.2 in
      record { unmade = no_length before.pools (sym next.1 ∙ made.0); options = made.1; does = made.2 }
]

some_ap : {one other : List ℕ} → one ≡ other → ◌≡◌ {A = Option (List ℕ)} (Some one) (Some other)
some_ap same = cc

-- the call of the words is one that is served
served_call : (before : Context) (words : List (List ℕ)) (call : TraceCall) → ((word : CallWord) → Calls words word → serves_call forms.Plain word ≡ true) → ReadsCall false before words 2 (Ok call) → IsServedCall call
served_call before words call served read = elim read [
  | inl named ↦ elim named.1 [
    | inl refused ↦ absurd (not_both refused.2)
    | inr went ↦ elim went.2 [
      | inl refused ↦ absurd (not_both refused.2)
      | inr called ↦
          let word = word_read (ReadsCallWord true) (slice_get words 4) called.0 called.1 in
          let small : IsSmallCall called.0 call = binding_small before went.0 called.0 words 5 call called.2 in
          (ap (λ (w : CallWord). serves_call forms.Plain w) small.0 ∙ served called.0 (inl (named.0, word.1 ∙ some_ap word.2.0)), small.1)
    ]
  ]
  | inr plain ↦ elim plain.1 [
    | inl refused ↦ absurd (not_both refused.2)
    | inr called ↦
        let word = word_read (ReadsCallWord false) (slice_get words 2) called.0 called.1 in
        let small : IsSmallCall called.0 call = plain_small before called.0 words 3 call called.2 in
        (ap (λ (w : CallWord). serves_call forms.Plain w) small.0 ∙ served called.0 (inr (plain.0, word.1 ∙ some_ap word.2.0)), small.1)
  ]
]

call_line : (before : Context) (words : List (List ℕ)) (deed : Act) → ((word : CallWord) → Calls words word → serves_call forms.Plain word ≡ true) → CallLine false before words (Ok deed) → MakesCall before deed
call_line before words deed served read = elim read [
  | inl refused ↦ absurd (not_both refused.2)
  | inr named ↦ elim named.2 [
    | inl refused ↦ absurd (not_both refused.2)
    | inr made ↦ elim made.2 [
      | inl refused ↦ absurd (not_both refused.2)
      | inr called ↦
          let thread = word_read (ReadsThread before) (slice_get words 0) named.0 named.1 in
          let pool = word_read (ReadsPool before) (slice_get words 1) made.0 made.1 in
          record {
            thread = named.0;
            pool = made.0;
            call = called.0;
            known = slice_get_within before.names named.0 thread.0 thread.2.1.there;
            made = pool.2.2;
            served = served_call before words called.0 served called.1;
            does = ok_same called.2;
          }
    ]
  ]
]

-- what a line of a plain trace does
ServedLine : Context → List (List ℕ) → Act → Type 0
ServedLine before words deed = NamesThread before words deed ⊎ MakesPool before words deed ⊎ MakesCall before deed

keyword_line : (before : Context) (key : Keyword) (words : List (List ℕ)) (deed : Act) → serves_keyword forms.Plain key ≡ true → KeywordLine false before key words (Ok deed) → ServedLine before words deed
unfolding ServedLine
keyword_line before ThreadsWord words deed served read = inl (threads_line before words deed read)
keyword_line before PoolWord words deed served read = inr (inl (pool_line before words deed read))
keyword_line before RawWord words deed served read = let h : false ≡ true = served in absurd (cc)
keyword_line before BeginWord words deed served read = let h : false ≡ true = served in absurd (cc)
keyword_line before StepWord words deed served read = let h : false ≡ true = served in absurd (cc)
keyword_line before UpToWord words deed served read = let h : false ≡ true = served in absurd (cc)
keyword_line before FinishWord words deed served read = let h : false ≡ true = served in absurd (cc)
keyword_line before ResetWord words deed served read = let h : false ≡ true = served in absurd (cc)
keyword_line before DestroyWord words deed served read = let h : false ≡ true = served in absurd (cc)

served_line : (before : Context) (words : List (List ℕ)) (deed : Act) → ReadsWords forms.Plain before words (Ok deed) → ServedLine before words deed
unfolding ServedLine
served_line before words deed read = elim read [
  | inl keyed ↦ keyword_line before keyed.0 words deed keyed.2 keyed.3
  | inr rest ↦ elim rest [
    | inl unserved ↦ absurd (not_both unserved.3)
    | inr rest ↦ elim rest [
      | inl unserved ↦ absurd (not_both unserved.4)
      | inr called ↦ inr (inr (call_line before words deed called.1 called.2))
    ]
  ]
]

-- what stands before the next line

bound_names : (before : Context) (number : Option ℕ) (word : List ℕ) → (with_bound before number word).names ≡ before.names
bound_names before None word = refl
bound_names before (Some number) word = refl

bound_pools : (before : Context) (number : Option ℕ) (word : List ℕ) → (with_bound before number word).pools ≡ before.pools
bound_pools before None word = refl
bound_pools before (Some number) word = refl

-- the names of the threads and the options of the pools
record Stands (before : Context) (names : List (List ℕ)) (pools : List (ArrayVec PoolOption)) : Type 0 where
  named : before.names ≡ names
  made : before.pools ≡ pools

same_stands : (one other : Context) (names : List (List ℕ)) (pools : List (ArrayVec PoolOption)) → one ≡ other → Stands other names pools → Stands one names pools
same_stands one other names pools same stands = subst (λ (context : Context). Stands context names pools) (sym same) stands

after_threads : (before next : Context) (words : List (List ℕ)) (deed : Act) → (is : NamesThread before words deed) → Enters before words deed next → Stands next (is.name ∷ []) []
after_threads before next words deed is enters =
    let moved : Enters before words act.Threads next = subst (λ (d : Act). Enters before words d next) is.does enters in
    same_stands next (record before { names = drop 1 words }) (is.name ∷ []) [] moved (record { named = is.named; made = is.unmade })

after_pool : (before next : Context) (names : List (List ℕ)) (words : List (List ℕ)) (deed : Act) → before.names ≡ names → MakesPool before words deed → Enters before words deed next → Stands next names (plain_options ∷ [])
after_pool before next names words deed named is enters =
    let moved : Enters before words plain_pool next = subst (λ (d : Act). Enters before words d next) is.does enters in
    let plain : moved.0 ≡ plain_options = vec_same moved.0 plain_options (ok_same (options_one [] (drop 2 words) (Ok moved.0.items) (Ok plain_options.items) moved.1 is.options)) in
    same_stands next (with_pool before moved.0) names (plain_options ∷ []) moved.2
    (record { named = named; made = ap (λ (ps : List (ArrayVec PoolOption)). ps ++ moved.0 ∷ []) is.unmade ∙ ap (λ (os : ArrayVec PoolOption). os ∷ []) plain })

after_call : (before next : Context) (names : List (List ℕ)) (pools : List (ArrayVec PoolOption)) (words : List (List ℕ)) (deed : Act) → Stands before names pools → MakesCall before deed → Enters before words deed next →
    Stands next names pools
after_call before next names pools words deed stands is enters =
    let moved : Enters before words (act.Call is.thread is.pool is.call) next = subst (λ (d : Act). Enters before words d next) is.does enters in
    same_stands next (with_bound before (bound_by is.call) (word_in words 2)) names pools moved
    (record { named = bound_names before (bound_by is.call) (word_in words 2) ∙ stands.named; made = bound_pools before (bound_by is.call) (word_in words 2) ∙ stands.made })

-- a list with an item is not empty
nil_cons : {A : Type 0} {x : A} {xs : List A} → ◌≡◌ {A = List A} [] (x ∷ xs) → ⊥
nil_cons same = cc

no_thread : (before : Context) (pools : List (ArrayVec PoolOption)) (deed : Act) → Stands before [] pools → MakesCall before deed → ⊥
no_thread before pools deed stands is = absurd (omega (arith, is.known, ap length stands.named))

no_pool : (before : Context) (names : List (List ℕ)) (deed : Act) → Stands before names [] → MakesCall before deed → ⊥
no_pool before names deed stands is = absurd (omega (arith, is.made, ap length stands.made))

one_pool : (before : Context) (names words : List (List ℕ)) (deed : Act) → Stands before names (plain_options ∷ []) → MakesPool before words deed → ⊥
one_pool before names words deed stands is = nil_cons (sym is.unmade ∙ stands.made)

named_before : (before : Context) (name : List ℕ) (pools : List (ArrayVec PoolOption)) (words : List (List ℕ)) (deed : Act) → Stands before (name ∷ []) pools → NamesThread before words deed → ⊥
named_before before name pools words deed stands is = nil_cons (sym is.unnamed ∙ stands.named)

made_before : (before : Context) (names words : List (List ℕ)) (deed : Act) → Stands before names (plain_options ∷ []) → NamesThread before words deed → ⊥
made_before before names words deed stands is = nil_cons (sym is.unmade ∙ stands.made)

-- the lines that follow, by what stands before

-- what stands behind lines of calls
record AreCalls (name : List ℕ) (lines : List TraceLine) (last : Context) : Type 0 where
  stands : Stands last (name ∷ []) (plain_options ∷ [])
  calls : AreServedCalls (map act_of lines)

calls_follow : (before : Context) (least : ℕ) (name : List ℕ) (lines : List TraceLine) (last : Context) → Stands before (name ∷ []) (plain_options ∷ []) → Follow forms.Plain before least lines last → AreCalls name lines last
unfolding Follow ServedLine
calls_follow before least name [] last stands follow = record { stands = same_stands last before (name ∷ []) (plain_options ∷ []) follow stands; calls = tt }
calls_follow before least name (line ∷ lines) last stands follow = elim (served_line before follow.0 line.act follow.2.read) [
  | inl threads ↦ absurd (named_before before name (plain_options ∷ []) follow.0 line.act stands threads)
  | inr rest ↦ elim rest [
    | inl pool ↦ absurd (one_pool before (name ∷ []) follow.0 line.act stands pool)
    | inr is ↦
        let more : AreCalls name lines last = calls_follow follow.1 (line.line + 1) name lines last (after_call before follow.1 (name ∷ []) (plain_options ∷ []) follow.0 line.act stands is follow.3) follow.4 in
        record {
          stands = more.stands;
          calls = subst (λ (d : Act). AreServedCalls (d ∷ map act_of lines)) (sym is.does)
              (omega (arith, is.known, ap length stands.named), omega (arith, is.made, ap length stands.made), is.served, more.calls);
        }
  ]
]

-- no line follows the pool's line where no thread is named
none_follow : (before : Context) (least : ℕ) (lines : List TraceLine) (last : Context) → Stands before [] (plain_options ∷ []) → Follow forms.Plain before least lines last → Stands last [] (plain_options ∷ []) × (lines ≡ [])
unfolding Follow ServedLine
none_follow before least [] last stands follow = (same_stands last before [] (plain_options ∷ []) follow stands, refl)
none_follow before least (line ∷ lines) last stands follow = elim (served_line before follow.0 line.act follow.2.read) [
  | inl threads ↦ absurd (made_before before [] follow.0 line.act stands threads)
  | inr rest ↦ elim rest [ inl pool ↦ absurd (one_pool before [] follow.0 line.act stands pool) | inr is ↦ absurd (no_thread before (plain_options ∷ []) line.act stands is) ]
]

-- the lines behind the one that names the thread: none, or the pool's line and then calls
ActsNamed : List ℕ → List TraceLine → Context → Type 0
ActsNamed name lines last = (Stands last (name ∷ []) [] × (map act_of lines ≡ []))
    ⊎ ((calls : List Act) × Stands last (name ∷ []) (plain_options ∷ []) × (map act_of lines ≡ plain_pool ∷ calls) × AreServedCalls calls)

named_follow : (before : Context) (least : ℕ) (name : List ℕ) (lines : List TraceLine) (last : Context) → Stands before (name ∷ []) [] → Follow forms.Plain before least lines last → ActsNamed name lines last
unfolding Follow ServedLine ActsNamed
named_follow before least name [] last stands follow = inl (same_stands last before (name ∷ []) [] follow stands, refl)
named_follow before least name (line ∷ lines) last stands follow = elim (served_line before follow.0 line.act follow.2.read) [
  | inl threads ↦ absurd (named_before before name [] follow.0 line.act stands threads)
  | inr rest ↦ elim rest [
    | inl pool ↦
        let more : AreCalls name lines last = calls_follow follow.1 (line.line + 1) name lines last (after_pool before follow.1 (name ∷ []) follow.0 line.act stands.named pool follow.3) follow.4 in
        inr (map act_of lines, more.stands, ap (λ (d : Act). d ∷ map act_of lines) pool.does, more.calls)
    | inr is ↦ absurd (no_pool before (name ∷ []) line.act stands is)
  ]
]

-- the names of threads, by their bytes
no_names : (threads : List ThreadName) → map name_bytes threads ≡ [] → threads ≡ []
no_names [] same = refl
no_names (thread ∷ threads) same = absurd (nil_cons (sym same))

one_thread : (name : List ℕ) (threads : List ThreadName) → map name_bytes threads ≡ name ∷ [] → (thread : ThreadName) × (threads ≡ thread ∷ [])
one_thread name [] same = absurd (nil_cons same)
one_thread name (thread ∷ threads) same =
    let h : ◌≡◌ {A = List (List ℕ)} (name_bytes thread ∷ map name_bytes threads) (name ∷ []) = same in
    let rest : map name_bytes threads ≡ [] = cc in
    (thread, ap (λ (ts : List ThreadName). thread ∷ ts) (no_names threads rest))

all_follow : (lines : List TraceLine) (threads : List ThreadName) (pools : List (ArrayVec PoolOption)) (least : ℕ) (last : Context) → map name_bytes threads ≡ last.names → pools ≡ last.pools → Follow forms.Plain nothing_yet least lines last →
    AreServed threads pools (map act_of lines)
unfolding Follow ServedLine ActsNamed
all_follow [] threads pools least last named made follow = inl (
  no_names threads (named ∙ ap (λ (c : Context). c.names) follow),
  made ∙ ap (λ (c : Context). c.pools) follow,
  refl,
)
all_follow (line ∷ lines) threads pools least last named made follow = elim (served_line nothing_yet follow.0 line.act follow.2.read) [
  | inl is ↦
      elim (named_follow follow.1 (line.line + 1) is.name lines last (after_threads nothing_yet follow.1 follow.0 line.act is follow.3) follow.4) [
        | inl none ↦
            let thread = one_thread is.name threads (named ∙ none.0.named) in
            inr (inl (thread.0, thread.1, made ∙ none.0.made, ap (λ (d : Act). d ∷ map act_of lines) is.does ∙ ap (λ (ds : List Act). act.Threads ∷ ds) none.1))
        | inr some ↦
            let thread = one_thread is.name threads (named ∙ some.1.named) in
            inr (inr (inr (thread.0, some.0, thread.1, made ∙ some.1.made, ap (λ (d : Act). d ∷ map act_of lines) is.does ∙ ap (λ (ds : List Act). act.Threads ∷ ds) some.2, some.3)))
      ]
  | inr rest ↦ elim rest [
    | inl pool ↦
        let none = none_follow follow.1 (line.line + 1) lines last (after_pool nothing_yet follow.1 [] follow.0 line.act refl pool follow.3) follow.4 in
        inr (inr (inl (no_names threads (named ∙ none.0.named), made ∙ none.0.made, ap (λ (d : Act). d ∷ map act_of lines) pool.does ∙ ap (λ (ls : List TraceLine). plain_pool ∷ map act_of ls) none.1)))
    | inr is ↦ absurd (no_thread nothing_yet [] line.act (record { named = refl; made = refl }) is)
  ]
]

pub plain_traces_have_one_shape : PlainTracesHaveOneShape
plain_traces_have_one_shape bytes trace read =
    let to = lines_follow forms.Plain nothing_yet 1 read.texts read.last trace.lines.items (map name_bytes trace.names.items) trace.pools.items read.reads in
    all_follow trace.lines.items trace.names.items trace.pools.items 1 to.last to.named to.made to.follow

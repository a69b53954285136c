-- Each line is read in one way.
use Rattle.std.proofs.Common.{◌≡◌, ◌≢◌, ℕ, ◌+◌, ◌<◌, ◌⊎◌, inl, inr, Bool, true, false, List, [], ◌∷◌, ◌++◌, drop, sym, ◌∙◌, ap, subst, arith, true≢false}
use Rattle.std.specs.Prelude.{Result, Ok, Err, Some, None, slice_get}
use Rattle.std.specs.declared.option.Option.{Option}
use Rattle.std.proofs.lemmas.Option.{same_Some}
use Rattle.pool_types.specs.Limits.{most_turns}
use Rattle.trace_reader.specs.declared.refusal.Refusal.{Refusal}
use Rattle.trace_reader.specs.declared.keywords.Keyword.{Keyword}
use Rattle.trace_reader.specs.declared.keywords.Keyword.TheVariants.{ThreadsWord, PoolWord, RawWord, BeginWord, StepWord, UpToWord, FinishWord, ResetWord, DestroyWord}
use Rattle.trace_reader.specs.declared.keywords.CallWord.{CallWord}
use Rattle.trace_reader.specs.declared.keywords.CallWord.TheVariants.{MallocWord, AlignedWord, ReallocWord, AlignedReallocWord, FreeWord, MsizeWord, IdentifyWord, ExitWord}
use Rattle.trace_reader.specs.declared.keywords.ScriptWord.{ScriptWord}
use Rattle.trace_reader.specs.declared.keywords.ScriptWord.TheVariants.{GetWord, GetFailWord, PutOkWord, PutFailWord}
use Rattle.trace_reader.specs.declared.acts.Forms.{Forms}
use Rattle.trace_reader.specs.declared.acts.PoolOption.{PoolOption}
use Rattle.trace_reader.specs.declared.acts.TraceCall.TheVariants as call
use Rattle.trace_reader.specs.declared.acts.Act.{Act}
use Rattle.trace_reader.specs.declared.acts.Act.TheVariants as act
use Rattle.trace_reader.specs.Keywords.{keyword_text}
use Rattle.trace_reader.specs.Combinators.{OnWord, Then, Ends, Wraps}
use Rattle.trace_reader.specs.Contexts.{Context}
use Rattle.trace_reader.specs.Slots.{ReadsNumber, ReadsSize, ReadsThread, ReadsPool, ReadsNextPool, ReadsNewName, ReadsWhat}
use Rattle.trace_reader.specs.Acts.{AnyNumber, BindingCall, CallLine, IsPlainPool, KeywordLine, NamedCall, PlainCall, PoolOptions, RawEntry, ReadsCall, ReadsCallWord, ReadsName, ReadsNames, ReadsRow, ReadsScriptWord, ReadsWords, ThreadsLine, serves_call, serves_keyword, serves_more}
use Rattle.trace_reader.proofs.OneWord.{keyword_same}
use Rattle.trace_reader.proofs.OneSlot.{OneWay, ok_same, err_same, not_both, number_one, any_one, size_one, thread_one, pool_one, next_pool_one, new_name_one, what_one, script_one, call_word_one, row_one}
use Rattle.trace_reader.proofs.OneOption.{options_one}

-- words are read in one way by a form
abbrev OneForm : {A : Type 0} → (List (List ℕ) → ℕ → Result A Refusal → Type 0) → Type 0
OneForm {A} form = (words : List (List ℕ)) (at : ℕ) (one other : Result A Refusal) → form words at one → form words at other → one ≡ other

on_word_one : {A : Type 0} (slot : List ℕ → Result A Refusal → Type 0) → OneWay slot → (word : Option (List ℕ)) (one other : Result A Refusal) → OnWord slot word one → OnWord slot word other → one ≡ other
on_word_one slot clear None one other h k = h ∙ sym k
on_word_one slot clear (Some word) one other h k = clear word one other h k

then_one : {A B : Type 0} (slot : List ℕ → Result A Refusal → Type 0) (next : A → List (List ℕ) → ℕ → Result B Refusal → Type 0) → OneWay slot → ((a : A) → OneForm (next a)) → OneForm (Then slot next)
then_one {A} {B} slot next clear more words at one other h k = elim h [
  | inl p ↦ elim k [
    | inl q ↦ let e : p.0 ≡ q.0 = err_same (on_word_one slot clear (slice_get words at) (Err p.0) (Err q.0) p.1 q.1) in cc
    | inr q ↦ absurd (not_both (on_word_one slot clear (slice_get words at) (Ok q.0) (Err p.0) q.1 p.1))
  ]
  | inr p ↦ elim k [
    | inl q ↦ absurd (not_both (on_word_one slot clear (slice_get words at) (Ok p.0) (Err q.0) p.1 q.1))
    | inr q ↦
        let e : p.0 ≡ q.0 = ok_same (on_word_one slot clear (slice_get words at) (Ok p.0) (Ok q.0) p.1 q.1) in
        more q.0 words (at + 1) one other (subst (λ (a : A). next a words (at + 1) one) e p.2) q.2
  ]
]

ends_one : {A : Type 0} (value : A) → OneForm (Ends value)
ends_one value words at one other h k = elim h [
  | inl p ↦ elim k [ inl q ↦ p.1 ∙ sym q.1 | inr q ↦ absurd (omega (arith, p.0, q.0)) ]
  | inr p ↦ elim k [ inl q ↦ absurd (omega (arith, p.0, q.0)) | inr q ↦ p.1 ∙ sym q.1 ]
]

wraps_one : {A B : Type 0} (wrap : A → B) (form : List (List ℕ) → ℕ → Result A Refusal → Type 0) → OneForm form → OneForm (Wraps wrap form)
wraps_one {A} {B} wrap form clear words at one other h k = elim h [
  | inl p ↦ elim k [
    | inl q ↦ let e : p.0 ≡ q.0 = err_same (clear words at (Err p.0) (Err q.0) p.1 q.1) in cc
    | inr q ↦ absurd (not_both (clear words at (Ok q.0) (Err p.0) q.1 p.1))
  ]
  | inr p ↦ elim k [
    | inl q ↦ absurd (not_both (clear words at (Ok p.0) (Err q.0) p.1 q.1))
    | inr q ↦ let e : p.0 ≡ q.0 = ok_same (clear words at (Ok p.0) (Ok q.0) p.1 q.1) in cc
  ]
]

-- calls

binding_one : (more : Bool) (before : Context) (name : ℕ) (word : CallWord) → OneForm (BindingCall more before name word)
binding_one more before name MallocWord = then_one (ReadsSize more) (λ size. Ends (call.Malloc name size)) (size_one more) (λ size. ends_one (call.Malloc name size))
binding_one more before name AlignedWord = then_one AnyNumber (λ size. Then AnyNumber (λ alignment. Ends (call.Aligned name size alignment))) any_one
    (λ size. then_one AnyNumber (λ alignment. Ends (call.Aligned name size alignment)) any_one (λ alignment. ends_one (call.Aligned name size alignment)))
binding_one more before name ReallocWord = then_one (ReadsWhat before) (λ what. Then AnyNumber (λ size. Ends (call.Realloc name what size))) (what_one before)
    (λ what. then_one AnyNumber (λ size. Ends (call.Realloc name what size)) any_one (λ size. ends_one (call.Realloc name what size)))
binding_one more before name AlignedReallocWord = then_one (ReadsWhat before) (λ what. Then AnyNumber (λ size. Then AnyNumber (λ alignment. Ends (call.AlignedRealloc name what size alignment)))) (what_one before)
    (λ what. then_one AnyNumber (λ size. Then AnyNumber (λ alignment. Ends (call.AlignedRealloc name what size alignment))) any_one
    (λ size. then_one AnyNumber (λ alignment. Ends (call.AlignedRealloc name what size alignment)) any_one (λ alignment. ends_one (call.AlignedRealloc name what size alignment))))
binding_one more before name FreeWord = λ words at one other h k. absurd h
binding_one more before name MsizeWord = λ words at one other h k. absurd h
binding_one more before name IdentifyWord = λ words at one other h k. absurd h
binding_one more before name ExitWord = λ words at one other h k. absurd h

plain_one : (before : Context) (word : CallWord) → OneForm (PlainCall before word)
plain_one before FreeWord = then_one (ReadsWhat before) (λ what. Ends (call.Free what)) (what_one before) (λ what. ends_one (call.Free what))
plain_one before MsizeWord = then_one (ReadsWhat before) (λ what. Ends (call.Msize what)) (what_one before) (λ what. ends_one (call.Msize what))
plain_one before IdentifyWord = then_one (ReadsWhat before) (λ what. Ends (call.Identify what)) (what_one before) (λ what. ends_one (call.Identify what))
plain_one before ExitWord = ends_one call.Exit
plain_one before MallocWord = λ words at one other h k. absurd h
plain_one before AlignedWord = λ words at one other h k. absurd h
plain_one before ReallocWord = λ words at one other h k. absurd h
plain_one before AlignedReallocWord = λ words at one other h k. absurd h

named_one : (more : Bool) (before : Context) → OneForm (NamedCall more before)
named_one more before = then_one (ReadsNewName before) (λ name words at. Then (ReadsCallWord true) (BindingCall more before name) words (at + 1)) (new_name_one before)
    (λ name words at. then_one (ReadsCallWord true) (BindingCall more before name) (call_word_one true) (binding_one more before name) words (at + 1))

call_one : (more : Bool) (before : Context) → OneForm (ReadsCall more before)
call_one more before words at one other h k = elim h [
  | inl p ↦ elim k [ inl q ↦ named_one more before words at one other p.1 q.1 | inr q ↦ absurd (q.0 p.0) ]
  | inr p ↦ elim k [ inl q ↦ absurd (p.0 q.0) | inr q ↦ then_one (ReadsCallWord false) (PlainCall before) (call_word_one false) (plain_one before) words at one other p.1 q.1 ]
]

-- lines that name threads

absent : (more : Bool) (had : List (List ℕ)) → had ≢ [] → more ≡ false → (had ≡ []) ⊎ (more ≡ true) → ⊥
absent more had some not may = elim may [ inl none ↦ some none | inr is ↦ true≢false (sym is ∙ not) ]

name_mixed : (more : Bool) (had : List (List ℕ)) (word name : List ℕ) (f : Refusal) → ReadsName more had word (Ok name) → ReadsName more had word (Err f) → ⊥
name_mixed more had word name f h k = elim k [
  | inl q ↦ absent more had q.0 q.1 h.1
  | inr r ↦ elim r [
    | inl q ↦ omega (arith, q.1, h.2)
    | inr r ↦ elim r [ inl q ↦ q.2 h.3 | inr q ↦ h.4 q.3 q.4 ]
  ]
]

name_one : (more : Bool) (had : List (List ℕ)) → OneWay (ReadsName more had)
name_one more had word (Ok a) (Ok b) h k = let e : a ≡ b = h.0 ∙ sym k.0 in cc
name_one more had word (Ok a) (Err f) h k = absurd (name_mixed more had word a f h k)
name_one more had word (Err f) (Ok a) h k = absurd (name_mixed more had word a f k h)
name_one more had word (Err f) (Err g) h k = elim h [
  | inl p ↦ elim k [
    | inl q ↦ let e : f ≡ g = p.2 ∙ sym q.2 in cc
    | inr r ↦ elim r [ inl q ↦ absurd (absent more had p.0 p.1 q.0) | inr r ↦ elim r [ inl q ↦ absurd (absent more had p.0 p.1 q.0) | inr q ↦ absurd (absent more had p.0 p.1 q.0) ] ]
  ]
  | inr s ↦ elim s [
    | inl p ↦ elim k [
      | inl q ↦ absurd (absent more had q.0 q.1 p.0)
      | inr r ↦ elim r [
        | inl q ↦ let e : f ≡ g = p.2 ∙ sym q.2 in cc
        | inr r ↦ elim r [ inl q ↦ absurd (omega (arith, p.1, q.1)) | inr q ↦ absurd (omega (arith, p.1, q.1)) ]
      ]
    ]
    | inr s ↦ elim s [
      | inl p ↦ elim k [
        | inl q ↦ absurd (absent more had q.0 q.1 p.0)
        | inr r ↦ elim r [
          | inl q ↦ absurd (omega (arith, p.1, q.1))
          | inr r ↦ elim r [ inl q ↦ let e : f ≡ g = p.3 ∙ sym q.3 in cc | inr q ↦ absurd (p.2 q.2) ]
        ]
      ]
      | inr p ↦ elim k [
        | inl q ↦ absurd (absent more had q.0 q.1 p.0)
        | inr r ↦ elim r [
          | inl q ↦ absurd (omega (arith, p.1, q.1))
          | inr r ↦ elim r [ inl q ↦ absurd (q.2 p.2) | inr q ↦ let e : f ≡ g = p.5 ∙ sym q.5 in cc ]
        ]
      ]
    ]
  ]
]

names_one : (more : Bool) (had words : List (List ℕ)) (one other : Result Act Refusal) → ReadsNames more had words one → ReadsNames more had words other → one ≡ other
names_one more had [] one other h k = elim h [
  | inl p ↦ elim k [ inl q ↦ p.1 ∙ sym q.1 | inr q ↦ absurd (q.0 p.0) ]
  | inr p ↦ elim k [ inl q ↦ absurd (p.0 q.0) | inr q ↦ p.1 ∙ sym q.1 ]
]
names_one more had (word ∷ words) one other h k = elim h [
  | inl p ↦ elim k [
    | inl q ↦ let e : p.0 ≡ q.0 = err_same (name_one more had word (Err p.0) (Err q.0) p.1 q.1) in cc
    | inr q ↦ absurd (not_both (name_one more had word (Ok q.0) (Err p.0) q.1 p.1))
  ]
  | inr p ↦ elim k [
    | inl q ↦ absurd (not_both (name_one more had word (Ok p.0) (Err q.0) p.1 q.1))
    | inr q ↦ names_one more (had ++ word ∷ []) words one other p.2 q.2
  ]
]

threads_clash : (before : Context) → before.names ≡ [] → before.pools ≡ [] → (before.names ≢ []) ⊎ (before.pools ≢ []) → ⊥
threads_clash before none unmade some = elim some [ inl names ↦ names none | inr pools ↦ pools unmade ]

threads_one : (more : Bool) (before : Context) (words : List (List ℕ)) (one other : Result Act Refusal) → ThreadsLine more before words one → ThreadsLine more before words other → one ≡ other
threads_one more before words one other h k = elim h [
  | inl p ↦ elim k [ inl q ↦ names_one more [] (drop 1 words) one other p.2 q.2 | inr q ↦ absurd (threads_clash before p.0 p.1 q.0) ]
  | inr p ↦ elim k [ inl q ↦ absurd (threads_clash before q.0 q.1 p.0) | inr q ↦ p.1 ∙ sym q.1 ]
]

-- pool lines

unserved : (more : Bool) (pool : ℕ) (options : List PoolOption) → (more ≡ true) ⊎ IsPlainPool pool options → more ≡ false → (IsPlainPool pool options → ⊥) → ⊥
unserved more pool options served not other = elim served [ inl is ↦ true≢false (sym is ∙ not) | inr plain ↦ other plain ]

pool_options_one : (more : Bool) (pool : ℕ) → OneForm (PoolOptions more pool)
pool_options_one more pool words at one other h k = elim h [
  | inl p ↦ elim k [
    | inl q ↦ let e : p.0 ≡ q.0 = err_same (options_one [] (drop at words) (Err p.0) (Err q.0) p.1 q.1) in cc
    | inr r ↦ elim r [ inl q ↦ absurd (not_both (options_one [] (drop at words) (Ok q.0) (Err p.0) q.1 p.1)) | inr q ↦ absurd (not_both (options_one [] (drop at words) (Ok q.0) (Err p.0) q.1 p.1)) ]
  ]
  | inr s ↦ elim s [
    | inl p ↦ elim k [
      | inl q ↦ absurd (not_both (options_one [] (drop at words) (Ok p.0) (Err q.0) p.1 q.1))
      | inr r ↦ elim r [
        | inl q ↦ p.3 ∙ sym q.3
        | inr q ↦ let e : p.0 ≡ q.0 = ok_same (options_one [] (drop at words) (Ok p.0) (Ok q.0) p.1 q.1) in
            absurd (unserved more pool q.0 (subst (λ (os : List PoolOption). (more ≡ true) ⊎ IsPlainPool pool os) e p.2) q.2 q.3)
      ]
    ]
    | inr p ↦ elim k [
      | inl q ↦ absurd (not_both (options_one [] (drop at words) (Ok p.0) (Err q.0) p.1 q.1))
      | inr r ↦ elim r [
        | inl q ↦ let e : q.0 ≡ p.0 = ok_same (options_one [] (drop at words) (Ok q.0) (Ok p.0) q.1 p.1) in
            absurd (unserved more pool p.0 (subst (λ (os : List PoolOption). (more ≡ true) ⊎ IsPlainPool pool os) e q.2) p.2 p.3)
        | inr q ↦ p.4 ∙ sym q.4
      ]
    ]
  ]
]

raw_one : (pool : ℕ) (script : ScriptWord) → OneForm (RawEntry pool script)
raw_one pool GetWord = then_one AnyNumber (λ base. Then AnyNumber (λ bytes. Ends (act.RawGet pool base bytes))) any_one
    (λ base. then_one AnyNumber (λ bytes. Ends (act.RawGet pool base bytes)) any_one (λ bytes. ends_one (act.RawGet pool base bytes)))
raw_one pool GetFailWord = ends_one (act.RawGetFail pool)
raw_one pool PutOkWord = ends_one (act.RawPutOk pool)
raw_one pool PutFailWord = ends_one (act.RawPutFail pool)

-- all lines

keyword_line_one : (more : Bool) (before : Context) (key : Keyword) (words : List (List ℕ)) (one other : Result Act Refusal) → KeywordLine more before key words one → KeywordLine more before key words other → one ≡ other
keyword_line_one more before ThreadsWord words one other h k = threads_one more before words one other h k
keyword_line_one more before PoolWord words one other h k = then_one (ReadsNextPool before) (PoolOptions more) (next_pool_one before) (pool_options_one more) words 1 one other h k
keyword_line_one more before RawWord words one other h k =
    then_one (ReadsPool before) (λ pool. Then ReadsScriptWord (RawEntry pool)) (pool_one before) (λ pool. then_one ReadsScriptWord (RawEntry pool) script_one (raw_one pool)) words 1 one other h k
keyword_line_one more before BeginWord words one other h k =
    then_one (ReadsThread before) (λ thread. Then (ReadsPool before) (λ pool. Wraps (act.Begin thread pool) (ReadsCall more before))) (thread_one before)
    (λ thread. then_one (ReadsPool before) (λ pool. Wraps (act.Begin thread pool) (ReadsCall more before)) (pool_one before) (λ pool. wraps_one (act.Begin thread pool) (ReadsCall more before) (call_one more before))) words 1 one other h k
keyword_line_one more before StepWord words one other h k =
    then_one (ReadsThread before) (λ thread. Then (ReadsPool before) (λ pool. Then (ReadsNumber 1 most_turns) (λ turns. Ends (act.Step thread pool turns)))) (thread_one before)
    (λ thread. then_one (ReadsPool before) (λ pool. Then (ReadsNumber 1 most_turns) (λ turns. Ends (act.Step thread pool turns))) (pool_one before)
    (λ pool. then_one (ReadsNumber 1 most_turns) (λ turns. Ends (act.Step thread pool turns)) (number_one 1 most_turns (omega arith)) (λ turns. ends_one (act.Step thread pool turns)))) words 1 one other h k
keyword_line_one more before UpToWord words one other h k =
    then_one (ReadsThread before) (λ thread. Then (ReadsPool before) (λ pool. Then ReadsRow (λ row. Ends (act.UpTo thread pool row)))) (thread_one before)
    (λ thread. then_one (ReadsPool before) (λ pool. Then ReadsRow (λ row. Ends (act.UpTo thread pool row))) (pool_one before)
    (λ pool. then_one ReadsRow (λ row. Ends (act.UpTo thread pool row)) row_one (λ row. ends_one (act.UpTo thread pool row)))) words 1 one other h k
keyword_line_one more before FinishWord words one other h k =
    then_one (ReadsThread before) (λ thread. Then (ReadsPool before) (λ pool. Ends (act.Finish thread pool))) (thread_one before)
    (λ thread. then_one (ReadsPool before) (λ pool. Ends (act.Finish thread pool)) (pool_one before) (λ pool. ends_one (act.Finish thread pool))) words 1 one other h k
keyword_line_one more before ResetWord words one other h k = then_one (ReadsPool before) (λ pool. Ends (act.Reset pool)) (pool_one before) (λ pool. ends_one (act.Reset pool)) words 1 one other h k
keyword_line_one more before DestroyWord words one other h k = then_one (ReadsPool before) (λ pool. Ends (act.Destroy pool)) (pool_one before) (λ pool. ends_one (act.Destroy pool)) words 1 one other h k

call_line_one : (more : Bool) (before : Context) (words : List (List ℕ)) (one other : Result Act Refusal) → CallLine more before words one → CallLine more before words other → one ≡ other
call_line_one more before words one other h k =
    then_one (ReadsThread before) (λ thread. Then (ReadsPool before) (λ pool. Wraps (act.Call thread pool) (ReadsCall more before))) (thread_one before)
    (λ thread. then_one (ReadsPool before) (λ pool. Wraps (act.Call thread pool) (ReadsCall more before)) (pool_one before) (λ pool. wraps_one (act.Call thread pool) (ReadsCall more before) (call_one more before))) words 0 one other h k

key_same : (words : List (List ℕ)) (one other : Keyword) → slice_get words 0 ≡ Some (keyword_text one) → slice_get words 0 ≡ Some (keyword_text other) → one ≡ other
key_same words one other h k = keyword_same one other (same_Some _ _ (sym h ∙ k))

pub words_one : (forms : Forms) (before : Context) (words : List (List ℕ)) (one other : Result Act Refusal) → ReadsWords forms before words one → ReadsWords forms before words other → one ≡ other
words_one forms before words one other h k = elim h [
  | inl p ↦ elim k [
    | inl q ↦ let e : p.0 ≡ q.0 = key_same words p.0 q.0 p.1 q.1 in
        keyword_line_one (serves_more forms) before q.0 words one other (subst (λ (key : Keyword). KeywordLine (serves_more forms) before key words one) e p.3) q.3
    | inr r ↦ elim r [
      | inl q ↦ let e : p.0 ≡ q.0 = key_same words p.0 q.0 p.1 q.1 in absurd (true≢false (sym (subst (λ (key : Keyword). serves_keyword forms key ≡ true) e p.2) ∙ q.2))
      | inr r ↦ elim r [ inl q ↦ absurd (q.0 p.0 p.1) | inr q ↦ absurd (q.0 p.0 p.1) ]
    ]
  ]
  | inr s ↦ elim s [
    | inl p ↦ elim k [
      | inl q ↦ let e : q.0 ≡ p.0 = key_same words q.0 p.0 q.1 p.1 in absurd (true≢false (sym (subst (λ (key : Keyword). serves_keyword forms key ≡ true) e q.2) ∙ p.2))
      | inr r ↦ elim r [ inl q ↦ p.3 ∙ sym q.3 | inr r ↦ elim r [ inl q ↦ absurd (q.0 p.0 p.1) | inr q ↦ absurd (q.0 p.0 p.1) ] ]
    ]
    | inr s ↦ elim s [
      | inl p ↦ elim k [
        | inl q ↦ absurd (p.0 q.0 q.1)
        | inr r ↦ elim r [
          | inl q ↦ absurd (p.0 q.0 q.1)
          | inr r ↦ elim r [ inl q ↦ p.4 ∙ sym q.4 | inr q ↦ absurd (true≢false (sym (q.1 p.1 p.2) ∙ p.3)) ]
        ]
      ]
      | inr p ↦ elim k [
        | inl q ↦ absurd (p.0 q.0 q.1)
        | inr r ↦ elim r [
          | inl q ↦ absurd (p.0 q.0 q.1)
          | inr r ↦ elim r [
            | inl q ↦ absurd (true≢false (sym (p.1 q.1 q.2) ∙ q.3))
            | inr q ↦ call_line_one (serves_more forms) before words one other p.2 q.2
          ]
        ]
      ]
    ]
  ]
]

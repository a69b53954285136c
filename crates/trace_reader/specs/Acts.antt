-- The lines of a trace, word by word.
use Rattle.std.specs.Prelude.{◌≡◌, ◌≢◌, ℕ, ◌+◌, ◌<◌, ◌≤◌, ◌⊎◌, Bool, true, false, if◌then◌else◌, List, [], ◌∷◌, ◌++◌, length, drop, codes, slice_get, slice_index_or, Some, None, Result, Ok, Err}
use Rattle.std.specs.declared.option.Option.{Option}
use Rattle.std.specs.Str.{bytes_eq}
use Rattle.arrayvec.specs.ArrayVec.{ArrayVec}
use Rattle.pool_types.specs.declared.rows.Row.{Row}
use Rattle.pool_types.specs.Limits.{most_threads, most_turns}
use Rattle.trace_reader.specs.declared.refusal.Refusal.{Refusal}
use Rattle.trace_reader.specs.declared.refusal.Refusal.TheVariants.{Spelling, ThreadsAgain, TooMany, NotServed}
use Rattle.trace_reader.specs.declared.keywords.Keyword.{Keyword}
use Rattle.trace_reader.specs.declared.keywords.Keyword.TheVariants.{ThreadsWord, PoolWord, RawWord, BeginWord, StepWord, UpToWord, FinishWord, ResetWord, DestroyWord}
use Rattle.trace_reader.specs.declared.keywords.CallWord.{CallWord}
use Rattle.trace_reader.specs.declared.keywords.CallWord.TheVariants.{MallocWord, AlignedWord, ReallocWord, AlignedReallocWord, FreeWord, MsizeWord, IdentifyWord, ExitWord}
use Rattle.trace_reader.specs.declared.keywords.ScriptWord.{ScriptWord}
use Rattle.trace_reader.specs.declared.keywords.ScriptWord.TheVariants.{GetWord, GetFailWord, PutOkWord, PutFailWord}
use Rattle.trace_reader.specs.declared.acts.Forms.{Forms}
use Rattle.trace_reader.specs.declared.acts.Forms.TheVariants as forms
use Rattle.trace_reader.specs.declared.acts.PoolOption.{PoolOption}
use Rattle.trace_reader.specs.declared.acts.PoolOption.TheVariants as option
use Rattle.trace_reader.specs.declared.acts.TraceCall.{TraceCall}
use Rattle.trace_reader.specs.declared.acts.TraceCall.TheVariants as call
use Rattle.trace_reader.specs.declared.acts.Act.{Act}
use Rattle.trace_reader.specs.declared.acts.Act.TheVariants as act
use Rattle.trace_reader.specs.Names.{IsThreadName, IsBoundName}
use Rattle.trace_reader.specs.Keywords.{IsRowOf, keyword_text, call_text, script_text}
use Rattle.trace_reader.specs.Combinators.{Then, Ends, Wraps}
use Rattle.trace_reader.specs.Contexts.{Context}
use Rattle.trace_reader.specs.Slots.{ReadsNumber, ReadsSize, ReadsThread, ReadsPool, ReadsNextPool, ReadsNewName, ReadsWhat}
use Rattle.trace_reader.specs.Options.{ReadsOptions}

-- the lines whose first word is this are served
abbrev pub serves_keyword : Forms → Keyword → Bool
serves_keyword forms.All key = true
serves_keyword forms.Plain ThreadsWord = true
serves_keyword forms.Plain PoolWord = true
serves_keyword forms.Plain RawWord = false
serves_keyword forms.Plain BeginWord = false
serves_keyword forms.Plain StepWord = false
serves_keyword forms.Plain UpToWord = false
serves_keyword forms.Plain FinishWord = false
serves_keyword forms.Plain ResetWord = false
serves_keyword forms.Plain DestroyWord = false
serves_keyword forms.Threads ThreadsWord = true
serves_keyword forms.Threads PoolWord = true
serves_keyword forms.Threads RawWord = true
serves_keyword forms.Threads BeginWord = false
serves_keyword forms.Threads StepWord = false
serves_keyword forms.Threads UpToWord = false
serves_keyword forms.Threads FinishWord = false
serves_keyword forms.Threads ResetWord = false
serves_keyword forms.Threads DestroyWord = false

-- the call is served
abbrev pub serves_call : Forms → CallWord → Bool
serves_call forms.All call = true
serves_call forms.Threads call = true
serves_call forms.Plain MallocWord = true
serves_call forms.Plain FreeWord = true
serves_call forms.Plain MsizeWord = true
serves_call forms.Plain IdentifyWord = true
serves_call forms.Plain AlignedWord = false
serves_call forms.Plain ReallocWord = false
serves_call forms.Plain AlignedReallocWord = false
serves_call forms.Plain ExitWord = false

-- more than one thread, pools other than `pool P0 fixed`, and sizes above 8128 are served
abbrev pub serves_more : Forms → Bool
serves_more forms.All = true
serves_more forms.Threads = true
serves_more forms.Plain = false

-- the pool line is `pool P0 fixed`
abbrev pub IsPlainPool : ℕ → List PoolOption → Type 0
IsPlainPool pool options = (pool ≡ 0) × (options ≡ option.Fixed ∷ [])

-- one more name of a thread, after those of the line that were read, or what is wrong with it
abbrev pub ReadsName : Bool → List (List ℕ) → List ℕ → Result (List ℕ) Refusal → Type 0
ReadsName more had word (Ok name) = (name ≡ word) × ((had ≡ []) ⊎ (more ≡ true)) × (length had < most_threads)
    × IsThreadName word × ((k : ℕ) → slice_get had k ≢ Some word)
ReadsName more had word (Err refusal) = ((had ≢ []) × (more ≡ false) × (refusal ≡ NotServed))
    ⊎ (((had ≡ []) ⊎ (more ≡ true)) × (most_threads ≤ length had) × (refusal ≡ TooMany))
    ⊎ (((had ≡ []) ⊎ (more ≡ true)) × (length had < most_threads) × (IsThreadName word → ⊥) × (refusal ≡ Spelling))
    ⊎ (((had ≡ []) ⊎ (more ≡ true)) × (length had < most_threads) × IsThreadName word × (k : ℕ)
    × (slice_get had k ≡ Some word) × (refusal ≡ ThreadsAgain))

-- the word may stand as a name there, or what is wrong with it
abbrev pub IsNameJudged : Bool → List (List ℕ) → List ℕ → Result (Unit {0}) Refusal → Type 0
IsNameJudged more had word (Ok _) = ReadsName more had word (Ok word)
IsNameJudged more had word (Err refusal) = ReadsName more had word (Err refusal)

-- the words are names of threads, and no more than there may be
pub record AreThreadNames (words : List (List ℕ)) : Type 0 where
  pub names : (k : ℕ) (word : List ℕ) → slice_get words k ≡ Some word → IsThreadName word
  pub few : length words ≤ most_threads

-- the names of the words, after those that were read
abbrev pub ReadsNames : Bool → List (List ℕ) → List (List ℕ) → Result Act Refusal → Type 0
ReadsNames more had [] result = ((had ≡ []) × (result ≡ Err Spelling)) ⊎ ((had ≢ []) × (result ≡ Ok act.Threads))
ReadsNames more had (word ∷ words) result =
    ((refusal : Refusal) × ReadsName more had word (Err refusal) × (result ≡ Err refusal))
    ⊎ ((name : List ℕ) × ReadsName more had word (Ok name) × ReadsNames more (had ++ word ∷ []) words result)

-- a line that names the threads: it stands before any pool line, once
abbrev pub ThreadsLine : Bool → Context → List (List ℕ) → Result Act Refusal → Type 0
ThreadsLine more before words result =
    ((before.names ≡ []) × (before.pools ≡ []) × ReadsNames more [] (drop 1 words) result)
    ⊎ (((before.names ≢ []) ⊎ (before.pools ≢ [])) × (result ≡ Err ThreadsAgain))

-- the options of a pool line
abbrev pub PoolOptions : Bool → ℕ → List (List ℕ) → ℕ → Result Act Refusal → Type 0
PoolOptions more pool words at result =
    ((refusal : Refusal) × ReadsOptions [] (drop at words) (Err refusal) × (result ≡ Err refusal))
    ⊎ ((options : List PoolOption) × ReadsOptions [] (drop at words) (Ok options)
    × ((more ≡ true) ⊎ IsPlainPool pool options) × (result ≡ Ok (act.Pool pool)))
    ⊎ ((options : List PoolOption) × ReadsOptions [] (drop at words) (Ok options) × (more ≡ false)
    × (IsPlainPool pool options → ⊥) × (result ≡ Err NotServed))

-- any number
abbrev pub AnyNumber : List ℕ → Result ℕ Refusal → Type 0
AnyNumber = ReadsNumber 0 18446744073709551615

-- the word of a script's entry
abbrev pub ReadsScriptWord : List ℕ → Result ScriptWord Refusal → Type 0
ReadsScriptWord word (Ok script) = word ≡ script_text script
ReadsScriptWord word (Err refusal) = ((script : ScriptWord) → word ≢ script_text script) × (refusal ≡ Spelling)

-- an entry of a pool's scripts
abbrev pub RawEntry : ℕ → ScriptWord → List (List ℕ) → ℕ → Result Act Refusal → Type 0
RawEntry pool GetWord = Then AnyNumber (λ base. Then AnyNumber (λ bytes. Ends (act.RawGet pool base bytes)))
RawEntry pool GetFailWord = Ends (act.RawGetFail pool)
RawEntry pool PutOkWord = Ends (act.RawPutOk pool)
RawEntry pool PutFailWord = Ends (act.RawPutFail pool)

-- the call binds a name
abbrev pub binds : CallWord → Bool
binds MallocWord = true
binds AlignedWord = true
binds ReallocWord = true
binds AlignedReallocWord = true
binds FreeWord = false
binds MsizeWord = false
binds IdentifyWord = false
binds ExitWord = false

-- the word of a call that binds a name, or of one that binds none
abbrev pub ReadsCallWord : Bool → List ℕ → Result CallWord Refusal → Type 0
ReadsCallWord binding word (Ok call) = (word ≡ call_text call) × (binds call ≡ binding)
ReadsCallWord binding word (Err refusal) = ((call : CallWord) → binds call ≡ binding → word ≢ call_text call)
    × (refusal ≡ Spelling)

-- what follows the word of a call that binds a name
abbrev pub BindingCall : Bool → Context → ℕ → CallWord → List (List ℕ) → ℕ → Result TraceCall Refusal → Type 0
BindingCall more before name MallocWord = Then (ReadsSize more) (λ size. Ends (call.Malloc name size))
BindingCall more before name AlignedWord = Then AnyNumber (λ size. Then AnyNumber (λ alignment. Ends (call.Aligned name size alignment)))
BindingCall more before name ReallocWord = Then (ReadsWhat before) (λ what. Then AnyNumber (λ size. Ends (call.Realloc name what size)))
BindingCall more before name AlignedReallocWord = Then (ReadsWhat before) (λ what. Then AnyNumber (λ size. Then AnyNumber (λ alignment. Ends (call.AlignedRealloc name what size alignment))))
BindingCall more before name other = λ words at result. ⊥

-- what follows the word of a call that binds none
abbrev pub PlainCall : Context → CallWord → List (List ℕ) → ℕ → Result TraceCall Refusal → Type 0
PlainCall before FreeWord = Then (ReadsWhat before) (λ what. Ends (call.Free what))
PlainCall before MsizeWord = Then (ReadsWhat before) (λ what. Ends (call.Msize what))
PlainCall before IdentifyWord = Then (ReadsWhat before) (λ what. Ends (call.Identify what))
PlainCall before ExitWord = Ends call.Exit
PlainCall before other = λ words at result. ⊥

-- a call that binds a name: the name, `=`, the call's word and what it asks for
abbrev pub NamedCall : Bool → Context → List (List ℕ) → ℕ → Result TraceCall Refusal → Type 0
NamedCall more before = Then (ReadsNewName before) (λ name words at. Then (ReadsCallWord true) (BindingCall more before name) words (at + 1))

-- a call: it binds a name where its second word is `=`
abbrev pub ReadsCall : Bool → Context → List (List ℕ) → ℕ → Result TraceCall Refusal → Type 0
ReadsCall more before words at result =
    ((slice_get words (at + 1) ≡ Some (codes "=")) × NamedCall more before words at result)
    ⊎ ((slice_get words (at + 1) ≢ Some (codes "=")) × Then (ReadsCallWord false) (PlainCall before) words at result)

-- a row's name
abbrev pub ReadsRow : List ℕ → Result Row Refusal → Type 0
ReadsRow word (Ok row) = IsRowOf word (Some row)
ReadsRow word (Err refusal) = IsRowOf word None × (refusal ≡ Spelling)

-- what follows the first word, where that is a keyword
abbrev pub KeywordLine : Bool → Context → Keyword → List (List ℕ) → Result Act Refusal → Type 0
KeywordLine more before ThreadsWord words = ThreadsLine more before words
KeywordLine more before PoolWord words = Then (ReadsNextPool before) (PoolOptions more) words 1
KeywordLine more before RawWord words = Then (ReadsPool before) (λ pool. Then ReadsScriptWord (RawEntry pool)) words 1
KeywordLine more before BeginWord words = Then (ReadsThread before) (λ thread. Then (ReadsPool before) (λ pool. Wraps (act.Begin thread pool) (ReadsCall more before))) words 1
KeywordLine more before StepWord words = Then (ReadsThread before) (λ thread. Then (ReadsPool before) (λ pool. Then (ReadsNumber 1 most_turns) (λ turns. Ends (act.Step thread pool turns)))) words 1
KeywordLine more before UpToWord words = Then (ReadsThread before) (λ thread. Then (ReadsPool before) (λ pool. Then ReadsRow (λ row. Ends (act.UpTo thread pool row)))) words 1
KeywordLine more before FinishWord words = Then (ReadsThread before) (λ thread. Then (ReadsPool before) (λ pool. Ends (act.Finish thread pool))) words 1
KeywordLine more before ResetWord words = Then (ReadsPool before) (λ pool. Ends (act.Reset pool)) words 1
KeywordLine more before DestroyWord words = Then (ReadsPool before) (λ pool. Ends (act.Destroy pool)) words 1

-- a line that begins with a thread and makes a whole call
abbrev pub CallLine : Bool → Context → List (List ℕ) → Result Act Refusal → Type 0
CallLine more before words = Then (ReadsThread before) (λ thread. Then (ReadsPool before) (λ pool. Wraps (act.Call thread pool) (ReadsCall more before))) words 0

-- the word in the call's place of a line names this call: the fifth word where the fourth is `=`, else the third
abbrev pub Calls : List (List ℕ) → CallWord → Type 0
Calls words call = ((slice_get words 3 ≡ Some (codes "=")) × (slice_get words 4 ≡ Some (call_text call)))
    ⊎ ((slice_get words 3 ≢ Some (codes "=")) × (slice_get words 2 ≡ Some (call_text call)))

-- what the words of a line are read as
abbrev pub ReadsWords : Forms → Context → List (List ℕ) → Result Act Refusal → Type 0
ReadsWords forms before words result =
    ((key : Keyword) × (slice_get words 0 ≡ Some (keyword_text key)) × (serves_keyword forms key ≡ true)
    × KeywordLine (serves_more forms) before key words result)
    ⊎ ((key : Keyword) × (slice_get words 0 ≡ Some (keyword_text key)) × (serves_keyword forms key ≡ false)
    × (result ≡ Err NotServed))
    ⊎ (((key : Keyword) → slice_get words 0 ≢ Some (keyword_text key)) × (call : CallWord) × Calls words call
    × (serves_call forms call ≡ false) × (result ≡ Err NotServed))
    ⊎ (((key : Keyword) → slice_get words 0 ≢ Some (keyword_text key))
    × ((call : CallWord) → Calls words call → serves_call forms call ≡ true)
    × CallLine (serves_more forms) before words result)

-- the number of the name that the call binds
abbrev pub bound_by : TraceCall → Option ℕ
bound_by (call.Malloc name size) = Some name
bound_by (call.Aligned name size alignment) = Some name
bound_by (call.Realloc name what size) = Some name
bound_by (call.AlignedRealloc name what size alignment) = Some name
bound_by (call.Free what) = None
bound_by (call.Msize what) = None
bound_by (call.Identify what) = None
bound_by call.Exit = None

-- the word in this place, or no bytes where there is none
abbrev pub word_in : List (List ℕ) → ℕ → List ℕ
word_in words at = slice_index_or words at []

-- where a name is bound, this word has its number from then on, and the next name will have the next one
abbrev pub with_bound : Context → Option ℕ → List ℕ → Context
with_bound before None word = before
with_bound before (Some number) word =
    record before { bound = λ other. if bytes_eq word other then Some number else before.bound other; count = before.count + 1 }

-- one pool more, with these options
abbrev pub with_pool : Context → ArrayVec PoolOption → Context
with_pool before options = record before { pools = before.pools ++ options ∷ [] }

-- What stands before the next line, after a line of these words that does this. The word of a name that is bound is the third of a line
-- that makes a whole call, and the fourth of one that begins one.
abbrev pub Enters : Context → List (List ℕ) → Act → Context → Type 0
Enters before words act.Threads next = next ≡ record before { names = drop 1 words }
Enters before words (act.Pool pool) next = (options : ArrayVec PoolOption)
    × ReadsOptions [] (drop 2 words) (Ok options.items) × (next ≡ with_pool before options)
Enters before words (act.Call thread pool call) next = next ≡ with_bound before (bound_by call) (word_in words 2)
Enters before words (act.Begin thread pool call) next = next ≡ with_bound before (bound_by call) (word_in words 3)
Enters before words (act.RawGet pool base bytes) next = next ≡ before
Enters before words (act.RawGetFail pool) next = next ≡ before
Enters before words (act.RawPutOk pool) next = next ≡ before
Enters before words (act.RawPutFail pool) next = next ≡ before
Enters before words (act.Step thread pool turns) next = next ≡ before
Enters before words (act.UpTo thread pool row) next = next ≡ before
Enters before words (act.Finish thread pool) next = next ≡ before
Enters before words (act.Reset pool) next = next ≡ before
Enters before words (act.Destroy pool) next = next ≡ before

-- what is known of the word of a name that a line binds
abbrev pub MayBind : Context → Option ℕ → List ℕ → Type 0
MayBind before None word = Unit {0}
MayBind before (Some number) word = (number ≡ before.count) × IsBoundName word

-- what is known of a line that was read and does this
abbrev pub MayEnter : Context → List (List ℕ) → Act → Type 0
MayEnter before words act.Threads = AreThreadNames (drop 1 words) × (0 < length words)
MayEnter before words (act.Pool pool) = (1 < length words)
    × ((options : List PoolOption) × ReadsOptions [] (drop 2 words) (Ok options))
MayEnter before words (act.Call thread pool call) = MayBind before (bound_by call) (word_in words 2)
MayEnter before words (act.Begin thread pool call) = MayBind before (bound_by call) (word_in words 3)
MayEnter before words other = Unit {0}

-- the keyword that stands first, or that none does
abbrev pub IsFirstWord : List (List ℕ) → Option Keyword → Type 0
IsFirstWord words (Some key) = slice_get words 0 ≡ Some (keyword_text key)
IsFirstWord words None = (key : Keyword) → slice_get words 0 ≢ Some (keyword_text key)

-- the call that the words make, or that they make none
abbrev pub IsCalled : List (List ℕ) → Option CallWord → Type 0
IsCalled words (Some call) = Calls words call
IsCalled words None = (call : CallWord) → Calls words call → ⊥

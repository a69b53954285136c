-- The fixed words of the language, and the names of rows.
use Rattle.std.specs.Prelude.{◌≡◌, ◌≢◌, ℕ, List, codes, Some, None}
use Rattle.std.specs.declared.option.Option.{Option}
use Rattle.pool_types.specs.declared.rows.Row.{Row}
use Rattle.pool_types.specs.declared.rows.Row.TheVariants.{Nothing}
use Rattle.pool_types.specs.Rows.{row_name}
use Rattle.trace_reader.specs.declared.keywords.Keyword.{Keyword}
use Rattle.trace_reader.specs.declared.keywords.Keyword.TheVariants.{ThreadsWord, PoolWord, RawWord, BeginWord, StepWord, UpToWord, FinishWord, ResetWord, DestroyWord}
use Rattle.trace_reader.specs.declared.keywords.CallWord.{CallWord}
use Rattle.trace_reader.specs.declared.keywords.CallWord.TheVariants.{MallocWord, AlignedWord, ReallocWord, AlignedReallocWord, FreeWord, MsizeWord, IdentifyWord, ExitWord}
use Rattle.trace_reader.specs.declared.keywords.ScriptWord.{ScriptWord}
use Rattle.trace_reader.specs.declared.keywords.ScriptWord.TheVariants.{GetWord, GetFailWord, PutOkWord, PutFailWord}

-- a keyword's text
abbrev pub keyword_text : Keyword → List ℕ
keyword_text ThreadsWord = codes "threads"
keyword_text PoolWord = codes "pool"
keyword_text RawWord = codes "raw"
keyword_text BeginWord = codes "begin"
keyword_text StepWord = codes "step"
keyword_text UpToWord = codes "upto"
keyword_text FinishWord = codes "finish"
keyword_text ResetWord = codes "reset"
keyword_text DestroyWord = codes "destroy"

-- the text of a call's word
abbrev pub call_text : CallWord → List ℕ
call_text MallocWord = codes "malloc"
call_text AlignedWord = codes "aligned"
call_text ReallocWord = codes "realloc"
call_text AlignedReallocWord = codes "arealloc"
call_text FreeWord = codes "free"
call_text MsizeWord = codes "msize"
call_text IdentifyWord = codes "identify"
call_text ExitWord = codes "exit"

-- the text of the word for an entry of a script
abbrev pub script_text : ScriptWord → List ℕ
script_text GetWord = codes "get"
script_text GetFailWord = codes "getfail"
script_text PutOkWord = codes "putok"
script_text PutFailWord = codes "putfail"

-- the keyword that the word is, or that it is none
abbrev pub IsKeywordOf : List ℕ → Option Keyword → Type 0
IsKeywordOf word (Some key) = word ≡ keyword_text key
IsKeywordOf word None = (key : Keyword) → word ≢ keyword_text key

-- the call that the word names, or that it names none
abbrev pub IsCallWordOf : List ℕ → Option CallWord → Type 0
IsCallWordOf word (Some call) = word ≡ call_text call
IsCallWordOf word None = (call : CallWord) → word ≢ call_text call

-- the entry that the word is for, or that it is for none
abbrev pub IsScriptWordOf : List ℕ → Option ScriptWord → Type 0
IsScriptWordOf word (Some raw) = word ≡ script_text raw
IsScriptWordOf word None = (raw : ScriptWord) → word ≢ script_text raw

-- the row that the word names, or that it names none
abbrev pub IsRowOf : List ℕ → Option Row → Type 0
IsRowOf word (Some row) = (word ≡ row_name row) × (row ≢ Nothing)
IsRowOf word None = (row : Row) → row ≢ Nothing → word ≢ row_name row

-- A whole trace, line by line.
use Rattle.std.specs.Prelude.{◌≡◌, ◌≢◌, ℕ, ◌+◌, ◌<◌, ◌≤◌, ◌⊎◌, ◌==◌, Bool, true, false, List, [], ◌∷◌, ◌++◌, length, map, Some, None, Result, Ok, Err}
use Rattle.std.specs.declared.option.Option.{Option}
use Rattle.trace_reader.specs.declared.refusal.Refusal.{Refusal}
use Rattle.trace_reader.specs.declared.refusal.Refusal.TheVariants.{TooMany, TooLong, NoNewline}
use Rattle.trace_reader.specs.declared.refusal.TraceRefused.{TraceRefused}
use Rattle.trace_reader.specs.declared.refusal.TraceRefused.TheVariants.{Bad, NoMemory}
use Rattle.arrayvec.specs.ArrayVec.{ArrayVec}
use Rattle.trace_reader.specs.declared.acts.Forms.{Forms}
use Rattle.trace_reader.specs.declared.acts.PoolOption.{PoolOption}
use Rattle.trace_reader.specs.declared.acts.Act.{Act}
use Rattle.trace_reader.specs.declared.acts.TraceLine.{TraceLine}
use Rattle.trace_reader.specs.declared.trace.Trace.{Trace}
use Rattle.pool_types.specs.Limits.{most_line_bytes, most_lines}
use Rattle.trace_reader.specs.Words.{split_on, words_of}
use Rattle.trace_reader.specs.Refusals.{refusal_kind}
use Rattle.trace_reader.specs.Contexts.{Context}
use Rattle.pool_types.specs.Texts.{name_bytes}
use Rattle.trace_reader.specs.Acts.{Enters, ReadsWords}

-- an empty line, or one that begins with `#`
abbrev pub is_skipped : List ℕ → Bool
is_skipped [] = true
is_skipped (byte ∷ bytes) = byte == 35

-- what a line with a newline is read as: nothing, what it does, or what is wrong with it
abbrev pub ReadsLine : Forms → Context → ℕ → List ℕ → Result (Option Act) Refusal → Type 0
ReadsLine forms before number text result =
    ((most_line_bytes < length text) × (result ≡ Err TooLong))
    ⊎ ((length text ≤ most_line_bytes) × (most_lines < number) × (result ≡ Err TooMany))
    ⊎ ((length text ≤ most_line_bytes) × (number ≤ most_lines) × (is_skipped text ≡ true) × (result ≡ Ok None))
    ⊎ ((length text ≤ most_line_bytes) × (number ≤ most_lines) × (is_skipped text ≡ false) × (refusal : Refusal)
    × ReadsWords forms before (words_of text) (Err refusal) × (result ≡ Err refusal))
    ⊎ ((length text ≤ most_line_bytes) × (number ≤ most_lines) × (is_skipped text ≡ false) × (act : Act)
    × ReadsWords forms before (words_of text) (Ok act) × (result ≡ Ok (Some act)))

-- what a text is read as: its lines, the names of its threads and the options of its pools, or its first refused line and what is wrong
-- with it
pub data Outcome : Type 0 where
  AllRead : List TraceLine → List (List ℕ) → List (ArrayVec PoolOption) → Outcome
  FirstRefused : ℕ → Refusal → Outcome

-- the same, behind these lines
abbrev pub behind : List TraceLine → Outcome → Outcome
behind lines (AllRead more names pools) = AllRead (lines ++ more) names pools
behind lines (FirstRefused line refusal) = FirstRefused line refusal

-- what the lines from this number on are read as, where the last part of the text has no newline
abbrev pub ReadsLines : Forms → Context → ℕ → List (List ℕ) → List ℕ → Outcome → Type 0
ReadsLines forms before number [] last outcome = ((last ≡ []) × (outcome ≡ AllRead [] before.names before.pools))
    ⊎ ((last ≢ []) × (outcome ≡ FirstRefused number NoNewline))
ReadsLines forms before number (text ∷ texts) last outcome =
    ((refusal : Refusal) × ReadsLine forms before number text (Err refusal) × (outcome ≡ FirstRefused number refusal))
    ⊎ (ReadsLine forms before number text (Ok None) × ReadsLines forms before (number + 1) texts last outcome)
    ⊎ ((act : Act) × (next : Context) × (rest : Outcome) × ReadsLine forms before number text (Ok (Some act))
    × Enters before (words_of text) act next × ReadsLines forms next (number + 1) texts last rest
    × (outcome ≡ behind (record { line = number; act = act } ∷ []) rest))

-- before the first line nothing is named, made or bound
abbrev pub nothing_yet : Context
nothing_yet = record { names = []; pools = []; bound = λ word. None; count = 0 }

-- what the bytes are read as from the line of this number on
pub record IsReadFrom (forms : Forms) (before : Context) (number : ℕ) (bytes : List ℕ) (outcome : Outcome) : Type 0 where
  pub texts : List (List ℕ)
  pub last : List ℕ
  pub parts : split_on 10 bytes ≡ texts ++ last ∷ []
  pub reads : ReadsLines forms before number texts last outcome

-- what the bytes are read as
abbrev pub IsReadAs : Forms → List ℕ → Outcome → Type 0
IsReadAs forms bytes outcome = IsReadFrom forms nothing_yet 1 bytes outcome

-- the bytes spell the trace
abbrev pub SpellsTrace : Forms → List ℕ → Trace → Type 0
SpellsTrace forms bytes trace = IsReadAs forms bytes (AllRead trace.lines.items (map name_bytes trace.names.items) trace.pools.items)

-- the first refused line of the bytes has this number, and this is wrong with it
abbrev pub RefusesLine : Forms → List ℕ → ℕ → Refusal → Type 0
RefusesLine forms bytes line refusal = IsReadAs forms bytes (FirstRefused line refusal)

-- what reading a trace answers
abbrev pub ReadsTrace : Forms → List ℕ → Result Trace TraceRefused → Type 0
ReadsTrace forms bytes (Ok trace) = SpellsTrace forms bytes trace
ReadsTrace forms bytes (Err (Bad error)) = (refusal : Refusal) × RefusesLine forms bytes error.line refusal
    × (error.kind ≡ refusal_kind refusal)
ReadsTrace forms bytes (Err NoMemory) = Unit {0}

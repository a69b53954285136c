-- What a run by threads answers and writes.
use Rattle.std.specs.Prelude.{◌≡◌, ℕ, ◌+◌, ◌<◌, ◌≤◌, ◌⊎◌, List, [], ◌∷◌, codes, length, Option, Some, Ok}
use Rattle.std.specs.Io.KnownBytes.{Appends, Keeps}
use Rattle.pool_types.specs.Limits.{most_trace_bytes}
use Rattle.pool_types.specs.Transfers.{IsReadWhole, IsReadPast, IsWrittenPart}
use Rattle.trace_reader.specs.declared.acts.Forms.TheVariants as forms
use Rattle.trace_reader.specs.declared.trace.Trace.{Trace}
use Rattle.trace_reader.specs.Text.{ReadsTrace}
use Rattle.report_text.specs.Reports.{ReportView, ended_text}
use Rattle.quiet_pool.specs.Quiet.{Quiet}
use Rattle.thread_runs.specs.Runs.{IsRan}
use Rattle.program_edge.specs.declared.outcome.Status.{Status}
use Rattle.program_edge.specs.declared.outcome.Status.TheVariants.{Done, BadWords, BadTrace, TooLong, ReadFault}
use Rattle.program_edge.specs.declared.outcome.Status.TheVariants.{StepsOut, WriteFault, NoMemory}
use Rattle.program_edge.specs.Outcome.{ComesBut}
use Rattle.program_edge.specs.Readings.{IsRefused, SpellOne}
use Rattle.program_edge.specs.Texts.{refused_text}

-- the words are the command line
abbrev pub IsCommand : List (List ℕ) → Type 0
IsCommand words = words ≡ codes "threads" ∷ []

-- they are none
abbrev pub IsNoCommand : List (List ℕ) → Type 0
IsNoCommand words = IsCommand words → ⊥

-- The text is the report of the trace that the bytes spell, run by its threads, and these are its pools at the end.
pub record IsRunOf {R : Type 0} (bytes text : List ℕ) (pools : List (Option (Quiet R))) : Type 0 where
  pub trace : Trace
  pub spelled : ReadsTrace forms.Threads bytes (Ok trace)
  pub report : ReportView
  pub ran : IsRan trace report pools
  pub written : text ≡ ended_text report

module _ {R : Type 0} where
  -- the text and the pools that are due with a status, for bytes that were read whole
  abbrev pub IsReply : List ℕ → Status → List ℕ → List (Option (Quiet R)) → Type 0
  IsReply bytes Done text pools = IsRunOf bytes text pools
  IsReply bytes (BadTrace line kind) text pools =
      IsRefused forms.Threads bytes line kind × (text ≡ refused_text line kind) × (pools ≡ [])
  IsReply bytes NoMemory text pools = (text ≡ []) × (pools ≡ [])
  IsReply bytes BadWords text pools = ⊥
  IsReply bytes TooLong text pools = ⊥
  IsReply bytes ReadFault text pools = ⊥
  IsReply bytes WriteFault text pools = ⊥
  IsReply bytes (StepsOut line) text pools = ⊥

  -- a source's bytes were read whole, and these are due for them
  pub record IsReadReply (old new : Option (List ℕ)) (status : Status) (text : List ℕ)
      (pools : List (Option (Quiet R))) : Type 0 where
    pub bytes : List ℕ
    pub read : IsReadWhole old new bytes
    pub reply : IsReply bytes status text pools

  -- the text and the pools that are due with a status, for a trace that is to be read from a source
  abbrev pub IsSourceReply : Option (List ℕ) → Option (List ℕ) → Status → List ℕ → List (Option (Quiet R)) → Type 0
  IsSourceReply old new Done text pools = IsReadReply old new Done text pools
  IsSourceReply old new (BadTrace line kind) text pools = IsReadReply old new (BadTrace line kind) text pools
  IsSourceReply old new TooLong text pools = IsReadPast old new (most_trace_bytes + 1) × (text ≡ []) × (pools ≡ [])
  IsSourceReply old new ReadFault text pools = (text ≡ []) × (pools ≡ [])
  IsSourceReply old new NoMemory text pools = (text ≡ []) × (pools ≡ [])
  IsSourceReply old new BadWords text pools = ⊥
  IsSourceReply old new WriteFault text pools = ⊥
  IsSourceReply old new (StepsOut line) text pools = ⊥

  -- The text and the pools that are due with a status, for these words and what was read. Nothing is read for words
  -- that are no command line, and want of memory is due at any time.
  abbrev pub IsDue : List (List ℕ) → Option (List ℕ) → Option (List ℕ) → Status → List ℕ → List (Option (Quiet R)) →
      Type 0
  IsDue words old new BadWords text pools =
      IsNoCommand words × Keeps old new × (text ≡ codes "bad words\n") × (pools ≡ [])
  IsDue words old new NoMemory text pools = (text ≡ []) × (pools ≡ [])
  IsDue words old new WriteFault text pools = ⊥
  IsDue words old new (StepsOut line) text pools = ⊥
  IsDue words old new Done text pools = IsCommand words × IsSourceReply old new Done text pools
  IsDue words old new (BadTrace line kind) text pools =
      IsCommand words × IsSourceReply old new (BadTrace line kind) text pools
  IsDue words old new TooLong text pools = IsCommand words × IsSourceReply old new TooLong text pools
  IsDue words old new ReadFault text pools = IsCommand words × IsSourceReply old new ReadFault text pools

-- the status that bytes want that are to be run: they spell a trace, or they are refused
abbrev pub IsAnswered : List ℕ → Status → Type 0
IsAnswered bytes Done = SpellOne forms.Threads bytes
IsAnswered bytes (BadTrace line kind) = IsRefused forms.Threads bytes line kind
IsAnswered bytes other = ⊥

-- the status that the source's bytes want
abbrev pub IsReadWanted : List ℕ → Status → Type 0
IsReadWanted bytes status =
    ((most_trace_bytes < length bytes) × (status ≡ TooLong))
    ⊎ ((length bytes ≤ most_trace_bytes) × IsAnswered bytes status)

-- The status that the words and the source's bytes want.
abbrev pub IsWanted : List (List ℕ) → List ℕ → Status → Type 0
IsWanted words bytes status =
    (IsNoCommand words × (status ≡ BadWords)) ⊎ (IsCommand words × IsReadWanted bytes status)

-- the text that is due with the status and the pools was written, behind what the sink had
pub record IsWritten {R : Type 0} (words : List (List ℕ)) (left left' : Option (List ℕ)) (status : Status)
    (pools : List (Option (Quiet R))) (taken taken' : Option (List ℕ)) : Type 0 where
  pub text : List ℕ
  -- it is due for the words and for what was read
  pub due : IsDue words left left' status text pools
  -- all of it was taken
  pub all : Appends taken taken' text

-- a front of a text that was due was written
pub record IsFrontWritten (R : Type 0) (words : List (List ℕ))
    (left left' taken taken' : Option (List ℕ)) : Type 0 where
  pub status : Status
  pub text : List ℕ
  pub pools : List (Option (Quiet R))
  -- it was due with this status and these pools, for the words and for what was read
  pub due : IsDue words left left' status text pools
  -- a front of it was taken
  pub front : IsWrittenPart taken taken' text

-- where the source tells its bytes, the status comes that these and the words want
abbrev pub IsComplete : List (List ℕ) → Option (List ℕ) → Status → ℕ → ℕ → ℕ → ℕ → Type 0
IsComplete words left status source source' sink sink' =
    (bytes : List ℕ) (wanted : Status) → left ≡ Some bytes → IsWanted words bytes wanted →
    ComesBut wanted status source source' sink sink'

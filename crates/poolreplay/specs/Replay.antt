-- What a replay answers and writes.
use Rattle.std.specs.Prelude.{◌≡◌, ℕ, ◌+◌, ◌<◌, ◌≤◌, ◌⊎◌, Bool, false, not, ◌&&◌, List, [], codes, length, Some}
use Rattle.std.specs.Prelude.{None, Ok, Err}
use Rattle.std.specs.declared.option.Option.{Option}
use Rattle.std.specs.Io.KnownBytes.{Appends, Keeps}
use Rattle.pool_types.specs.declared.values.Leak.{Leak}
use Rattle.pool_types.specs.Causes.{Rose}
use Rattle.pool_types.specs.Limits.{most_trace_bytes}
use Rattle.pool_types.specs.Transfers.{IsReadWhole, IsReadPast, IsWrittenPart}
use Rattle.trace_reader.specs.declared.acts.Forms.TheVariants as forms
use Rattle.trace_reader.specs.declared.trace.Trace.{Trace}
use Rattle.trace_reader.specs.Text.{ReadsTrace}
use Rattle.report_text.specs.Reports.{ReportView, ended_text}
use Rattle.replay_words.specs.Commands.{IsCommand, ReadsCommand}
use Rattle.replay_words.specs.declared.command.Command.{Command}
use Rattle.replay_words.specs.declared.command.Command.TheVariants as command
use Rattle.trace_gen.specs.Generated.{generated}
use Rattle.trace_runs.specs.Runs.{Runs, Sums}
use Rattle.trace_runs.specs.declared.runs.RunError.TheVariants as RunError
use Rattle.trace_runs.specs.declared.ends.Summary.{Summary}
use Rattle.machine.specs.Events.{Event}
use Rattle.program_edge.specs.Outcome.{ComesBut}
use Rattle.program_edge.specs.Readings.{IsRefused, SpellOne}
use Rattle.program_edge.specs.Texts.{refused_text, steps_out_text}
use Rattle.program_edge.specs.declared.outcome.Status.{Status}
use Rattle.program_edge.specs.declared.outcome.Status.TheVariants.{Done, BadWords, BadTrace, TooLong, ReadFault}
use Rattle.program_edge.specs.declared.outcome.Status.TheVariants.{StepsOut, WriteFault, NoMemory}
use Rattle.poolreplay.specs.Explained.{Explained}
use Rattle.poolreplay.specs.Plain.{is_plain}
use Rattle.poolreplay.specs.Settled.{Settled}
use Rattle.poolreplay.specs.Summaries.{summary_text}

-- A report of a plain trace: it tells of one trace, one run and the objects that are held at its end. The run explains
-- the report, and the bytes settle the run; so they settle the text.
pub record IsReplayed (bytes text : List ℕ) : Type 0 where
  pub trace : Trace
  pub events : List Event
  pub leaks : List Leak
  pub explained : Explained bytes text trace events leaks
  pub settled : Settled events leaks

-- whole calls over lists serve the trace: it is plain, and no moves are asked
abbrev pub is_listed : Bool → Trace → Bool
is_listed moves trace = not moves && is_plain trace

-- A report of any other trace: it is that of the trace's run, line by line, on the machines of its pools.
pub record IsRunOf (moves : Bool) (bytes text : List ℕ) : Type 0 where
  pub trace : Trace
  pub spelled : ReadsTrace forms.All bytes (Ok trace)
  pub other : is_listed moves trace ≡ false
  pub report : ReportView
  pub runs : Runs moves trace (Ok report)
  pub written : text ≡ ended_text report

-- a report, with what each step moves or without it
abbrev pub IsReportOf : Bool → List ℕ → List ℕ → Type 0
IsReportOf moves bytes text = ((moves ≡ false) × IsReplayed bytes text) ⊎ IsRunOf moves bytes text

-- the run made, in this line, the most turns that a line makes, and none ended it
pub record IsOutOfTurns (moves : Bool) (bytes : List ℕ) (line : ℕ) : Type 0 where
  pub trace : Trace
  pub spelled : ReadsTrace forms.All bytes (Ok trace)
  pub other : is_listed moves trace ≡ false
  pub runs : Runs moves trace (Err (RunError.StepsOut line))

-- a summary: it is that of the trace's run
pub record IsSummaryOf (bytes text : List ℕ) : Type 0 where
  pub trace : Trace
  pub spelled : ReadsTrace forms.All bytes (Ok trace)
  pub summary : Summary
  pub sums : Sums trace (Ok summary)
  pub written : text ≡ summary_text summary

-- the run that was to be summed made, in this line, the most turns that a line makes
pub record IsUnsummed (bytes : List ℕ) (line : ℕ) : Type 0 where
  pub trace : Trace
  pub spelled : ReadsTrace forms.All bytes (Ok trace)
  pub sums : Sums trace (Err (RunError.StepsOut line))

-- the text that is due with a status, for bytes that were read whole
abbrev pub IsReply : Bool → List ℕ → Status → List ℕ → Type 0
IsReply moves bytes Done text = IsReportOf moves bytes text
IsReply moves bytes (BadTrace line kind) text = IsRefused forms.All bytes line kind × (text ≡ refused_text line kind)
IsReply moves bytes (StepsOut line) text = IsOutOfTurns moves bytes line × (text ≡ steps_out_text line)
IsReply moves bytes NoMemory text = text ≡ []
IsReply moves bytes BadWords text = ⊥
IsReply moves bytes TooLong text = ⊥
IsReply moves bytes ReadFault text = ⊥
IsReply moves bytes WriteFault text = ⊥

-- and for bytes that are to be summed
abbrev pub IsSumReply : List ℕ → Status → List ℕ → Type 0
IsSumReply bytes Done text = IsSummaryOf bytes text
IsSumReply bytes (BadTrace line kind) text = IsRefused forms.All bytes line kind × (text ≡ refused_text line kind)
IsSumReply bytes (StepsOut line) text = IsUnsummed bytes line × (text ≡ steps_out_text line)
IsSumReply bytes NoMemory text = text ≡ []
IsSumReply bytes BadWords text = ⊥
IsSumReply bytes TooLong text = ⊥
IsSumReply bytes ReadFault text = ⊥
IsSumReply bytes WriteFault text = ⊥

-- a source's bytes were read whole, and this is due for them
pub record IsReadReply (moves : Bool) (old new : Option (List ℕ)) (status : Status) (text : List ℕ) : Type 0 where
  pub bytes : List ℕ
  pub read : IsReadWhole old new bytes
  pub reply : IsReply moves bytes status text

-- the text that is due with a status, for a trace that is to be read from a source
abbrev pub IsReplayReply : Bool → Option (List ℕ) → Option (List ℕ) → Status → List ℕ → Type 0
IsReplayReply moves old new TooLong text = IsReadPast old new (most_trace_bytes + 1) × (text ≡ [])
IsReplayReply moves old new ReadFault text = text ≡ []
IsReplayReply moves old new NoMemory text = text ≡ []
IsReplayReply moves old new Done text = IsReadReply moves old new Done text
IsReplayReply moves old new (BadTrace line kind) text = IsReadReply moves old new (BadTrace line kind) text
IsReplayReply moves old new (StepsOut line) text = IsReadReply moves old new (StepsOut line) text
IsReplayReply moves old new BadWords text = ⊥
IsReplayReply moves old new WriteFault text = ⊥

-- the text that is due with a status, for a command and what was read; a generated trace is not read
abbrev pub IsDueFor : Command → Option (List ℕ) → Option (List ℕ) → Status → List ℕ → Type 0
IsDueFor (command.Replay moves) old new status text = IsReplayReply moves old new status text
IsDueFor (command.Gen seed threads calls) old new status text =
    Keeps old new × IsSumReply (generated seed threads calls) status text

-- the words ask for a command, for which this is due
pub record IsCommanded (words : List (List ℕ)) (old new : Option (List ℕ)) (status : Status) (text : List ℕ) : Type 0 where
  pub command : Command
  pub asked : IsCommand words command
  pub due : IsDueFor command old new status text

-- The text that is due with a status, for these words and what was read. Nothing is read for words that are no command
-- line, and want of memory is due at any time.
abbrev pub IsDue : List (List ℕ) → Option (List ℕ) → Option (List ℕ) → Status → List ℕ → Type 0
IsDue words old new BadWords text = ReadsCommand words None × Keeps old new × (text ≡ codes "bad words\n")
IsDue words old new NoMemory text = text ≡ []
IsDue words old new WriteFault text = ⊥
IsDue words old new Done text = IsCommanded words old new Done text
IsDue words old new (BadTrace line kind) text = IsCommanded words old new (BadTrace line kind) text
IsDue words old new (StepsOut line) text = IsCommanded words old new (StepsOut line) text
IsDue words old new TooLong text = IsCommanded words old new TooLong text
IsDue words old new ReadFault text = IsCommanded words old new ReadFault text

-- The status that bytes want that are to be reported: their run comes to a report, or a line of it made the most turns
-- that a line makes, or the bytes spell no trace.
abbrev pub IsAnswered : Bool → List ℕ → Status → Type 0
IsAnswered moves bytes Done = (text : List ℕ) × IsReportOf moves bytes text
IsAnswered moves bytes (StepsOut line) = IsOutOfTurns moves bytes line
IsAnswered moves bytes (BadTrace line kind) = IsRefused forms.All bytes line kind
IsAnswered moves bytes other = ⊥

-- and the one that bytes want that are to be summed
abbrev pub IsSummed : List ℕ → Status → Type 0
IsSummed bytes Done = (text : List ℕ) × IsSummaryOf bytes text
IsSummed bytes (StepsOut line) = IsUnsummed bytes line
IsSummed bytes (BadTrace line kind) = IsRefused forms.All bytes line kind
IsSummed bytes other = ⊥

-- the status that the source's bytes want
abbrev pub IsReadWanted : Bool → List ℕ → Status → Type 0
IsReadWanted moves bytes status =
    ((most_trace_bytes < length bytes) × (status ≡ TooLong))
    ⊎ ((length bytes ≤ most_trace_bytes) × IsAnswered moves bytes status)

-- the status that a command and the source's bytes want
abbrev pub IsWantedBy : Command → List ℕ → Status → Type 0
IsWantedBy (command.Replay moves) bytes status = IsReadWanted moves bytes status
IsWantedBy (command.Gen seed threads calls) bytes status = IsSummed (generated seed threads calls) status

-- The status that the words and the source's bytes want.
abbrev pub IsWanted : List (List ℕ) → List ℕ → Status → Type 0
IsWanted words bytes status =
    (ReadsCommand words None × (status ≡ BadWords))
    ⊎ ((command : Command) × IsCommand words command × IsWantedBy command bytes status)

-- a command has a trace to run: one that is read, no longer than it may be, or one that is generated
abbrev pub HasTrace : Command → List ℕ → Type 0
HasTrace (command.Replay moves) bytes = (length bytes ≤ most_trace_bytes) × SpellOne forms.All bytes
HasTrace (command.Gen seed threads calls) bytes = SpellOne forms.All (generated seed threads calls)

-- a trace was run: to its end, or to a line that is out of turns
abbrev pub IsRunEnd : Status → Type 0
IsRunEnd Done = Unit {0}
IsRunEnd (StepsOut line) = Unit {0}
IsRunEnd other = ⊥

-- it was, but for want of memory, and for a fault that is counted
abbrev pub RunsBut : Status → ℕ → ℕ → ℕ → ℕ → Type 0
RunsBut status source source' sink sink' =
    IsRunEnd status ⊎ (status ≡ NoMemory) ⊎ ((status ≡ ReadFault) × Rose source source')
    ⊎ ((status ≡ WriteFault) × Rose sink sink')

-- the text that is due with the status was written, behind what the sink had
pub record IsWritten (words : List (List ℕ)) (left left' : Option (List ℕ)) (status : Status)
    (taken taken' : Option (List ℕ)) : Type 0 where
  pub text : List ℕ
  -- it is due for the words and for what was read
  pub due : IsDue words left left' status text
  -- all of it was taken
  pub all : Appends taken taken' text

-- a front of a text that was due was written
pub record IsFrontWritten (words : List (List ℕ)) (left left' taken taken' : Option (List ℕ)) : Type 0 where
  pub status : Status
  pub text : List ℕ
  -- it was due with this status, for the words and for what was read
  pub due : IsDue words left left' status text
  -- a front of it was taken
  pub front : IsWrittenPart taken taken' text

-- where the source tells its bytes, the status comes that these and the words want
abbrev pub IsComplete : List (List ℕ) → Option (List ℕ) → Status → ℕ → ℕ → ℕ → ℕ → Type 0
IsComplete words left status source source' sink sink' =
    (bytes : List ℕ) (wanted : Status) → left ≡ Some bytes → IsWanted words bytes wanted →
    ComesBut wanted status source source' sink sink'

-- and where the words ask for a command that has a trace, it is run
abbrev pub IsRunWhereSpelled : List (List ℕ) → Option (List ℕ) → Status → ℕ → ℕ → ℕ → ℕ → Type 0
IsRunWhereSpelled words left status source source' sink sink' =
    (bytes : List ℕ) (command : Command) → left ≡ Some bytes → IsCommand words command → HasTrace command bytes →
    RunsBut status source source' sink sink'

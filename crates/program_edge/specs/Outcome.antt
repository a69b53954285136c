-- How a program ends, what it writes then, and when a status comes.
use Rattle.std.specs.Prelude.{◌≡◌, ℕ, ◌⊎◌, List, []}
use Rattle.pool_types.specs.Causes.{Rose}
use Rattle.report_text.specs.Reports.{ended_text}
use Rattle.program_edge.specs.declared.outcome.Output.{Output}
use Rattle.program_edge.specs.declared.outcome.Output.TheVariants as output
use Rattle.program_edge.specs.declared.outcome.Status.{Status}
use Rattle.program_edge.specs.declared.outcome.Status.TheVariants.{Done, BadWords, BadTrace, TooLong, ReadFault}
use Rattle.program_edge.specs.declared.outcome.Status.TheVariants.{StepsOut, WriteFault, NoMemory}

-- the status that the process ends with
abbrev pub status_number : Status → ℕ
status_number Done = 0
status_number BadWords = 2
status_number (BadTrace line kind) = 3
status_number TooLong = 4
status_number ReadFault = 5
status_number WriteFault = 6
status_number (StepsOut line) = 7
status_number NoMemory = 8

-- the text that is to be written
abbrev pub output_text : Output → List ℕ
output_text (output.Words text) = text.items
output_text (output.Whole report) = ended_text report

-- this status comes with this text, or memory ran out
abbrev pub Says : Status → List ℕ → Status → List ℕ → Type 0
Says wanted words status text = ((status ≡ wanted) × (text ≡ words)) ⊎ ((status ≡ NoMemory) × (text ≡ []))

-- The status comes that is wanted, but for want of memory, and for a fault that is counted. The counts are those of the
-- source before and after, and those of the sink.
abbrev pub ComesBut : Status → Status → ℕ → ℕ → ℕ → ℕ → Type 0
ComesBut wanted status source source' sink sink' =
    (status ≡ wanted) ⊎ (status ≡ NoMemory) ⊎ ((status ≡ ReadFault) × Rose source source')
    ⊎ ((status ≡ WriteFault) × Rose sink sink')

-- The laws of a replay: for one input there is one text, with one status.
use Rattle.std.specs.Prelude.{◌≡◌, ◌≢◌, ℕ, Bool, List, Some}
use Rattle.std.specs.declared.option.Option.{Option}
use Rattle.program_edge.specs.declared.outcome.Status.{Status}
use Rattle.program_edge.specs.declared.outcome.Status.TheVariants.{NoMemory, ReadFault}
use Rattle.poolreplay.specs.Replay.{IsDue, IsReportOf, IsWanted}

-- the bytes settle the report, with moves or without them
abbrev pub ReportsAreOne : Type 0
ReportsAreOne = (moves : Bool) (bytes one other : List ℕ) → IsReportOf moves bytes one → IsReportOf moves bytes other →
    one ≡ other

-- words and bytes want one status
abbrev pub StatusesAreOne : Type 0
StatusesAreOne = (words : List (List ℕ)) (bytes : List ℕ) (one other : Status) → IsWanted words bytes one →
    IsWanted words bytes other → one ≡ other

-- one text is due for them, with that status, whatever is left of the source; but for want of memory, and for a read
-- that failed
abbrev pub TextsAreOne : Type 0
TextsAreOne = (words : List (List ℕ)) (bytes : List ℕ) (left left' : Option (List ℕ)) (one other : Status)
    (text text' : List ℕ) → IsDue words (Some bytes) left one text → IsDue words (Some bytes) left' other text' →
    one ≢ NoMemory → one ≢ ReadFault → other ≢ NoMemory → other ≢ ReadFault → (one ≡ other) × (text ≡ text')

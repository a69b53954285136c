-- Reading one more line, and all of them.
use Rattle.std.specs.Prelude.{◌≡◌, ℕ, List, [], ◌∷◌, ◌++◌, Some, None, Ok, Err}
use Rattle.std.specs.declared.option.Option.{Option}
use Rattle.trace_reader.specs.declared.refusal.Refusal.{Refusal}
use Rattle.trace_reader.specs.declared.acts.Forms.{Forms}
use Rattle.trace_reader.specs.declared.acts.Act.{Act}
use Rattle.trace_reader.specs.declared.acts.TraceLine.{TraceLine}
use Rattle.trace_reader.specs.declared.trace.Outcome as kept
use Rattle.trace_reader.specs.declared.trace.Outcome.TheVariants as kept_as
use Rattle.trace_reader.specs.Words.{words_of}
use Rattle.trace_reader.specs.Contexts.{Context}
use Rattle.trace_reader.specs.Acts.{Enters}
use Rattle.trace_reader.specs.Text.{ReadsLine, RefusesLine, SpellsTrace}

-- what a line that was read makes of the lines before it, and of what stands before
abbrev pub StepsTo : ℕ → List ℕ → Context → List TraceLine → Option Act → Context → List TraceLine → Type 0
StepsTo number text before lines None next more = (next ≡ before) × (more ≡ lines)
StepsTo number text before lines (Some act) next more = Enters before (words_of text) act next
    × (more ≡ lines ++ record { line = number; act = act } ∷ [])

-- one more line is read, or refused
abbrev pub AddsLine : Forms → ℕ → List ℕ → Context → List TraceLine → Option Refusal → Context → List TraceLine → Type 0
AddsLine forms number text before lines (Some refusal) next more = ReadsLine forms before number text (Err refusal)
AddsLine forms number text before lines None next more = (result : Option Act)
    × ReadsLine forms before number text (Ok result) × StepsTo number text before lines result next more

-- what the whole text is read as
abbrev pub IsOutcome : Forms → List ℕ → kept.Outcome → Type 0
IsOutcome forms bytes (kept_as.AllRead trace) = SpellsTrace forms bytes trace
IsOutcome forms bytes (kept_as.FirstRefused line refusal) = RefusesLine forms bytes line refusal

-- What was read from a source to its end, and written to a sink as a whole, where they tell their bytes.
use Rattle.std.specs.Prelude.{◌≡◌, ℕ, ◌≤◌, List, length, take}
use Rattle.std.specs.declared.option.Option.{Option}
use Rattle.std.specs.Io.KnownBytes.{Appends, Consumes, IsAtEnd}
use Rattle.pool_types.specs.Limits.{most_trace_bytes}

-- these bytes are all that there was, and no more than a trace may have
pub record IsReadWhole (old new : Option (List ℕ)) (bytes : List ℕ) : Type 0 where
  pub consumed : Consumes old new bytes
  pub ended : IsAtEnd new
  pub few : length bytes ≤ most_trace_bytes

-- so many bytes were taken
abbrev pub IsReadPast : Option (List ℕ) → Option (List ℕ) → ℕ → Type 0
IsReadPast old new count = (bytes : List ℕ) × Consumes old new bytes × (length bytes ≡ count)

-- some front of the text was taken
abbrev pub IsWrittenPart : Option (List ℕ) → Option (List ℕ) → List ℕ → Type 0
IsWrittenPart old new text = (count : ℕ) × (count ≤ length text) × Appends old new (take count text)

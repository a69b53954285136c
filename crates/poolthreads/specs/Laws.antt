-- The law of a run by threads: one status is wanted.
use Rattle.std.specs.Prelude.{◌≡◌, ℕ, List}
use Rattle.program_edge.specs.declared.outcome.Status.{Status}
use Rattle.poolthreads.specs.Threads.{IsWanted}

-- words and bytes want one status
abbrev pub StatusesAreOne : Type 0
StatusesAreOne = (words : List (List ℕ)) (bytes : List ℕ) (one other : Status) → IsWanted words bytes one →
    IsWanted words bytes other → one ≡ other

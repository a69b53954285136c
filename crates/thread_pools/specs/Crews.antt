-- A worker for each thread.
use Rattle.std.specs.Prelude.{◌≡◌, ℕ, suc, ◌+◌, List, Bool, Option}
use mathlib.Core.Option.{some}
use lib.ListN.{get_elem?}
use Rattle.atomic_table.specs.Seated.{TableId}
use Rattle.pool_types.specs.declared.raw.Raw.{Ghosts}
use Rattle.pool_types.specs.declared.values.Region.{Region}
use Rattle.pool_api.specs.Tables.{Stand}
use Rattle.trace_reader.specs.declared.acts.TraceLine.{TraceLine}
use Rattle.thread_lines.specs.declared.worker.Worker.{Worker}
use Rattle.thread_lines.specs.Working.{Works}

module _ {R : Type 0} (out : R → List Region) (faults : R → ℕ) (got : R → ℕ → Option Region → R → Type 0)
    (passed : R → Region → Bool → R → Type 0) where
  -- the last thread comes first, and each has run its lines before its next one
  abbrev pub AreWorkers : {raw : Ghosts R} → List (Option Stand) → TableId → List TraceLine → ℕ → List (Worker R raw)
      → Type 0
  AreWorkers {raw} pools table lines threads workers = (i : ℕ) (w : Worker R raw) → get_elem? workers i ≡ some w →
      (w.thread + suc i ≡ threads) × Works out faults got passed pools table lines w

-- The laws of what whole calls, and a thread's lines, grant and free.
use Rattle.std.specs.Prelude.{◌≡◌, ℕ, List, Some, Ok}
use Rattle.name_board.specs.Board.{IsKnown}
use Rattle.name_board.specs.declared.rule.Bound.{Bound}
use Rattle.pool_types.specs.declared.values.Answer.{Answer}
use Rattle.pool_types.specs.declared.values.Region.{Region}
use Rattle.pool_types.specs.declared.values.Request.{Request}
use Rattle.regions.specs.Offices.{Desk}
use Rattle.step_local.specs.declared.frames.Local.{Local}
use Rattle.step_runs.specs.declared.entry.Entry.{Entry}
use Rattle.trace_reader.specs.declared.acts.TraceLine.{TraceLine}
use Rattle.pool_api.specs.Heaps.{CalledBy, IsResting}
use Rattle.thread_calls.specs.declared.calls.Said.{Said}
use Rattle.thread_lines.specs.Heaps.{Heap, Heaps}
use Rattle.thread_lines.specs.Telling.{Tells}
use Rattle.paid_calls.specs.Earning.{AddsEarned, AddsPaid}

module _ {R : Type 0} (out : R → List Region) where
  -- a call of a heap that is in none
  abbrev pub CallsPay : Type 0
  CallsPay =
      (l : Local) (e : Entry (Desk R)) (request : Request) (answer : Answer) (now : Local) (after : Entry (Desk R))
      → IsResting l → CalledBy l e request (Ok answer) now after → AddsPaid l.key request answer e after

  -- lines of a thread whose heap of a pool is in no call before them, where these names are bound
  abbrev pub LinesPay : Type 0
  LinesPay =
      (known : List Bound) (thread : ℕ) (first : Heaps (Desk R)) (lines : List TraceLine) (all : List Said)
      (heaps : Heaps (Desk R)) → Tells (IsKnown known) thread first lines all heaps
      → (pool : ℕ) (before after : Heap (Desk R)) → first pool ≡ Some before → IsResting before.local
      → heaps pool ≡ Some after
      → AddsEarned before.local.key (IsKnown known) thread pool lines all before.entry after.entry

-- A thread's heaps, its pen, and what its calls came to.
use Rattle.std.specs.Prelude.{◌≡◌, ℕ, ◌≤◌, ◌+◌, List, [], ◌∷◌, ◌++◌, Bool, Option, length, take, vec_len, vec_capacity}
use Rattle.atomic_table.specs.Seated.{TableId}
use Rattle.crossbeam_utils.specs.Padded.{padded_value}
use Rattle.name_board.specs.Board.{IsPen, IsKnown, cursor, view}
use Rattle.name_board.specs.declared.rule.Bound.{Bound}
use Rattle.pool_types.specs.declared.raw.Raw.{Ghosts}
use Rattle.pool_types.specs.declared.values.Region.{Region}
use Rattle.pool_types.specs.declared.values.Request.{Request}
use Rattle.pool_api.specs.Tables.{Stand}
use Rattle.trace_reader.specs.declared.acts.TraceLine.{TraceLine}
use Rattle.trace_reader.specs.Acts.{bound_by}
use Rattle.thread_calls.specs.declared.calls.OwnCall.{OwnCall}
use Rattle.thread_calls.specs.declared.calls.Said.{Said}
use Rattle.thread_lines.specs.declared.worker.Worker.{Worker}
use Rattle.thread_lines.specs.Binding.{AddsBound, AddsKnown}
use Rattle.thread_calls.specs.Calls.{word_of}
use Rattle.thread_lines.specs.Heaps.{AreHeaps, first_heaps, heaps_in}
use Rattle.thread_calls.specs.Script.{owners_of, count_own}
use Rattle.thread_lines.specs.Telling.{Asks, Serves, Tells}

-- the same thread, and its next line is the one behind
abbrev pub moved_on : {R : Type 0} {raw : Ghosts R} → Worker R raw → Worker R raw
moved_on w = record w { next = w.next + 1 }

-- What a call of the thread adds: it asks for what a name that is known has, the heap serves it, the name that it binds is
-- bound, and what it came to is kept.
pub record SpeaksBy {R : Type 0} {raw : Ghosts R} (own : OwnCall) (old new : Worker R raw) : Type 0 where
  pub pen : new.pen.table_id ≡ old.pen.table_id
  pub slots : new.pen.me.1 ≡ old.pen.me.1
  pub request : Request
  pub said : Said
  pub seen : List Bound
  pub known : AddsKnown old.pen.me.0.known seen
  pub asks : Asks (IsKnown seen) own.call request
  pub serves : Serves (heaps_in old.heaps.items) own.pool request said (heaps_in new.heaps.items)
  pub binds : AddsBound (bound_by own.call) (word_of said) (view old.pen.me.0.cursors seen) new.pen.me.0
  pub kept : (padded_value new.said).items ≡ (padded_value old.said).items ++ said ∷ []
  pub len : vec_len (padded_value new.said) ≡ vec_len (padded_value old.said) + 1
  pub capacity : vec_capacity (padded_value old.said) ≤ vec_capacity (padded_value new.said)

module _ {R : Type 0} (out : R → List Region) (faults : R → ℕ) (got : R → ℕ → Option Region → R → Type 0)
    (passed : R → Region → Bool → R → Type 0) where
  -- the thread has run its lines among those before its next one
  pub record Works {raw : Ghosts R} (pools : List (Option Stand)) (board : TableId) (lines : List TraceLine)
      (w : Worker R raw) : Type 0 where
    pub heaps : AreHeaps out faults got passed pools w.thread w.heaps.items
    pub pen : IsPen board w.pen
    pub empty : w.pen.me.1 ≡ []
    pub from : ℕ
    pub cursors : w.pen.me.0.cursors ≡ cursor w.thread from ∷ []
    pub low : from ≤ length (owners_of (take w.next lines))
    pub within : w.next ≤ length lines
    pub room : count_own w.thread lines ≤ vec_capacity (padded_value w.said)
    pub count : vec_len (padded_value w.said) ≡ count_own w.thread (take w.next lines)
    pub tells : Tells (IsKnown w.pen.me.0.known) w.thread (first_heaps pools w.thread) (take w.next lines)
        (padded_value w.said).items (heaps_in w.heaps.items)

-- The newest notes of a seat are forgotten.
use Rattle.std.proofs.Common.{◌≡◌, ℕ, List, refl}
use Rattle.pool_words.specs.declared.words.Key.{Key}
use Rattle.word_laws.specs.Memory.{put}
use Rattle.word_laws.proofs.CallerLemmas.{put_here}
use Rattle.object_laws.specs.Objects.{Note}
use Rattle.object_laws.specs.Steps.{ObjectStep}
use Rattle.use_laws.specs.Steps.{PoolStep}
use Rattle.heap_tasks.specs.Notes.{IsTail, all, behind}
use Rattle.pool_laws.specs.Steps.{IsFree, WholeStep}
use Rattle.pool_laws.specs.Wholes.{Whole}
use Rattle.seat_ties.specs.Turns.{SeatRun, stays, steps_on}
use Rattle.seat_ties.proofs.CallerLemmas.{runs_go_on}

-- the whole with these notes
abbrev pub with_notes : (ℕ → List Note) → Whole → Whole
with_notes notes w = record w { pool = record w.pool { locals = record w.pool.locals { notes = notes } } }

pub record Forgotten (k : Key) (w : Whole) (seat : ℕ) (ns : List Note) : Type 0 where
  pub notes : ℕ → List Note
  pub run : SeatRun k seat w (with_notes notes w)
  pub are : notes seat ≡ ns

pub forget : (k : Key) (seat : ℕ) (ns : List Note) (w : Whole) (ms : List Note) → IsTail ns ms → w.pool.locals.notes seat ≡ ms
    → IsFree w seat → Forgotten k w seat ns
forget k seat ns w ms all is free = record { notes = w.pool.locals.notes; run = stays; are = is }
forget k seat ns w ms (behind {n = n} {ns = rest} tail) is free =
    let notes : ℕ → List Note = put w.pool.locals.notes seat rest in
    let later : Whole = with_notes notes w in
    let step : WholeStep k seat w later = WholeStep.uses later.pool
    (PoolStep.objects w.pool.objects w.pool.mem later.pool.locals (ObjectStep.forgets seat n rest is) tt) refl free in
    let on = forget k seat ns later rest tail (put_here w.pool.locals.notes seat seat rest refl)
    (record { shelf = free.shelf; queue = free.queue }) in
    record {
      notes = on.notes;
      run = runs_go_on k seat w later (with_notes on.notes later) (steps_on stays step) on.run;
      are = on.are;
    }

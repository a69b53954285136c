-- Workers of a trace's threads, before their lines are run and after.
use Rattle.std.specs.Prelude.{◌≡◌, ℕ, ◌<◌, List, [], ◌∷◌, ◌++◌, Bool, Option, length, map}
use Rattle.atomic_table.specs.Seated.{TableId}
use Rattle.pool_types.specs.declared.raw.Raw.{Ghosts}
use Rattle.pool_types.specs.declared.values.Region.{Region}
use Rattle.pool_api.specs.Tables.{Stand}
use Rattle.trace_reader.specs.declared.acts.TraceLine.{TraceLine}
use Rattle.thread_lines.specs.declared.worker.Worker.{Worker}
use Rattle.thread_lines.specs.Working.{Works}
use Rattle.thread_starts.specs.declared.starting.Crew.{Crew}
use Rattle.thread_starts.specs.declared.starting.Next.{Next}

module _ {A : Type 0} where
  -- this is so of each
  abbrev pub Each : (A → Type 0) → List A → Type 0
  Each P [] = Unit {0}
  Each P (x ∷ xs) = P x × Each P xs

-- the threads of the workers
abbrev pub threads_of : {R : Type 0} {raw : Ghosts R} → List (Worker R raw) → List ℕ
threads_of workers = map (λ w. w.thread) workers

module _ {R : Type 0} (out : R → List Region) (faults : R → ℕ) (got : R → ℕ → Option Region → R → Type 0)
    (passed : R → Region → Bool → R → Type 0) where
  -- the worker has run all its lines
  pub record IsDone {raw : Ghosts R} (pools : List (Option Stand)) (table : TableId) (lines : List TraceLine)
      (w : Worker R raw) : Type 0 where
    pub works : Works out faults got passed pools table lines w
    pub all : w.next ≡ length lines

  -- the last of the workers, and those before it
  pub record IsNext {raw : Ghosts R} (pools : List (Option Stand)) (table : TableId) (lines : List TraceLine)
      (workers : List (Worker R raw)) (next : Next R raw) : Type 0 where
    pub worker : Works out faults got passed pools table lines next.worker
    pub rest : Each (Works out faults got passed pools table lines) next.rest.items
    pub threads : threads_of workers ≡ threads_of next.rest.items ++ next.worker.thread ∷ []
    pub fewer : length next.rest.items < length workers

  -- the workers that are done, and those that stayed
  pub record IsCrew {raw : Ghosts R} (pools : List (Option Stand)) (table : TableId) (lines : List TraceLine)
      (crew : Crew R raw) : Type 0 where
    pub done : Each (IsDone pools table lines) crew.done.items
    pub stayed : Each (Works out faults got passed pools table lines) crew.stayed.items

  -- the crew has these workers besides, done, and those that stayed as before
  pub record Joins {raw : Ghosts R} (pools : List (Option Stand)) (table : TableId) (lines : List TraceLine)
      (threads : List ℕ) (old new : Crew R raw) : Type 0 where
    pub crew : IsCrew pools table lines new
    pub done : threads_of new.done.items ≡ threads_of old.done.items ++ threads
    pub stayed : threads_of new.stayed.items ≡ threads_of old.stayed.items

  -- of the workers that stayed the last, if there is one, is done
  pub record JoinsLast {raw : Ghosts R} (pools : List (Option Stand)) (table : TableId) (lines : List TraceLine)
      (old new : Crew R raw) : Type 0 where
    pub crew : IsCrew pools table lines new
    pub last : (threads : List ℕ) (thread : ℕ) → threads_of old.stayed.items ≡ threads ++ thread ∷ [] →
        (threads_of new.stayed.items ≡ threads) × (threads_of new.done.items ≡ threads_of old.done.items ++ thread ∷ [])

-- The steps of a seat on the queue: what each rests on, and what it leaves.
use Rattle.std.specs.Prelude.{◌≡◌, ℕ, ◌<◌, Some, None, List, [], ◌∷◌, ⊤}
use Rattle.pool_words.specs.declared.words.Key.{Key}
use Rattle.pool_words.specs.declared.words.Word.{Word}
use Rattle.pool_words.specs.declared.actions.Action.TheVariants.{Load, Swap}
use Rattle.pool_words.specs.Words.{queues, queue_links}
use Rattle.word_codes.specs.declared.guards.Guard.{Guard}
use Rattle.word_codes.specs.Links.{link_of}
use Rattle.word_codes.specs.QueueLinks.{queue_link_of}
use Rattle.guards.specs.declared.win.Side.{Side}
use Rattle.guards.specs.declared.win.Taking.{Taking}
use Rattle.chain_words.specs.declared.pushing.PushAt.{PushAt}
use Rattle.chain_words.specs.declared.pushing.PushNext.{PushNext}
use Rattle.chain_words.specs.Pushing.{push_learn}
use Rattle.word_laws.specs.Memory.{Mem, put, after, found}
use Rattle.chain_laws.specs.Chains.{tally}
use Rattle.chain_laws.specs.Pushing.{push_action}
use Rattle.chain_laws.specs.Seats.{items_after}
use Rattle.guard_laws.specs.Blocks as blocks
use Rattle.guard_laws.specs.Blocks.{Use, Place, Standing, edge_of}
use Rattle.guard_laws.specs.Steps.{guard_in, GuardStep, with_use, with_edges, shadow_drained}
use Rattle.queue_laws.specs.Queue.{queue_words, push_of, Task, Shadow, Locals}

-- the words of the queue are the same
pub record SameQueue (m m' : Mem) : Type 0 where
  pub head : m' queues ≡ m queues
  pub links : m' queue_links ≡ m queue_links

-- a seat that puts no block into the queue just then
abbrev pub IsIdle : Task → Type 0
IsIdle Task.Away = ⊤
IsIdle (Task.Queues first granules at) = ⊥
IsIdle (Task.Drains rest) = ⊤

-- no block comes into the queue or leaves it, and what the seat took of it stays in its hand
pub record IsQuiet (place place' : ℕ → Place) (seat : ℕ) (drained : List ℕ) : Type 0 where
  pub to : (x n : ℕ) → place x ≡ Place.Block x n Use.Queued → place' x ≡ Place.Block x n Use.Queued
  pub from : (x n : ℕ) → place' x ≡ Place.Block x n Use.Queued → place x ≡ Place.Block x n Use.Queued
  pub hand : (x n : ℕ) → 0 < tally x drained → place x ≡ Place.Block x n (Use.Held seat Taking.ToJoin)
      → place' x ≡ Place.Block x n (Use.Held seat Taking.ToJoin)

abbrev pub task_queued : ℕ → ℕ → PushNext → Task
task_queued first granules (PushNext.Goes at) = Task.Queues first granules at
task_queued first granules (PushNext.Pushed head) = Task.Away

abbrev pub shadow_queued : ℕ → ℕ → PushNext → blocks.Shadow → blocks.Shadow
shadow_queued first granules (PushNext.Goes at) g = g
shadow_queued first granules (PushNext.Pushed head) g =
    with_use first granules Use.Queued (with_edges first granules Standing.Waiting g)

abbrev pub behind : List ℕ → List ℕ
behind [] = []
behind (x ∷ xs) = xs

abbrev pub with_queue : ℕ → Task → Locals → Locals
with_queue seat task l = record { guards = l.guards; queue = put l.queue seat task }

pub data QueueStep (k : Key) (seat : ℕ) (g : Shadow) (m : Mem) (l : Locals) : Shadow → Mem → Locals → Type 0 where
  -- a step on guards, or on other words, by which no block comes into the queue or leaves it
  guards : (h : blocks.Shadow) (m' : Mem) (tasks : ℕ → blocks.Task)
      → GuardStep k seat g.guards m l.guards h m' tasks → IsIdle (l.queue seat)
      → IsQuiet g.guards.place h.place seat (g.drained seat) → SameQueue m m'
      → QueueStep k seat g m l (record { guards = h; queued = g.queued; drained = g.drained }) m'
      (record { guards = tasks; queue = l.queue })
  -- a block in hand is to be queued, once both its guards say that it is being joined
  begins : (x n : ℕ) → l.queue seat ≡ Task.Away → l.guards seat ≡ blocks.Task.Away
      → g.guards.place x ≡ Place.Block x n (Use.Held seat Taking.ToJoin)
      → ((e : Side) → guard_in m e (edge_of e x n) ≡ Guard.Coalescing)
      → QueueStep k seat g m l g m (with_queue seat (Task.Queues x n PushAt.Look) l)
  -- Q1 to Q3: the block is linked, and the exchange makes it the first one
  pushes : (x n : ℕ) (at : PushAt) → l.queue seat ≡ Task.Queues x n at → l.guards seat ≡ blocks.Task.Away
      → QueueStep k seat g m l
      (record {
        guards = shadow_queued x n
            (push_learn at (found m (push_action queue_words (push_of x n) at))) g.guards;
        queued = items_after (push_of x n) g.queued
            (push_learn at (found m (push_action queue_words (push_of x n) at)));
        drained = g.drained;
      })
      (after k m (push_action queue_words (push_of x n) at))
      (with_queue seat (task_queued x n (push_learn at (found m (push_action queue_words (push_of x n) at)))) l)
  -- Q4: the queue is taken whole
  takes : l.queue seat ≡ Task.Away
      → QueueStep k seat g m l
      (record {
        guards = shadow_drained seat g.guards;
        queued = [];
        drained = put g.drained seat g.queued;
      })
      (after k m (Swap Word.Queue 0))
      (with_queue seat (Task.Drains (link_of (found m (Swap Word.Queue 0)))) l)
  -- Q5: the link of the first block that is left tells its granules and the next one
  reads : (x : ℕ) → l.queue seat ≡ Task.Drains (Some x)
      → QueueStep k seat g m l
      (record { guards = g.guards; queued = g.queued; drained = put g.drained seat (behind (g.drained seat)) }) m
      (with_queue seat (Task.Drains (queue_link_of (found m (Load (Word.QueueLink x)))).next) l)
  -- all of it is put
  ends : l.queue seat ≡ Task.Drains None → QueueStep k seat g m l g m (with_queue seat Task.Away l)

-- any number of steps of any number of seats
pub data QueueRun (k : Key) (g0 : Shadow) (m0 : Mem) (l0 : Locals) : Shadow → Mem → Locals → Type 0 where
  starts : QueueRun k g0 m0 l0 g0 m0 l0
  steps : {g1 : Shadow} {m1 : Mem} {l1 : Locals} {h : Shadow} {m' : Mem} {l' : Locals}
      → QueueRun k g0 m0 l0 g1 m1 l1 → (seat : ℕ) → QueueStep k seat g1 m1 l1 h m' l' → QueueRun k g0 m0 l0 h m' l'

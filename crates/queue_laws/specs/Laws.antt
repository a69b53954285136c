-- The laws of the queue.
use Rattle.std.specs.Prelude.{◌≡◌, ◌≢◌, ℕ, ◌+◌, ◌^◌, ◌<◌, false, Some}
use Rattle.pool_words.specs.declared.words.Key.{Key}
use Rattle.pool_words.specs.declared.words.Word.{Word}
use Rattle.pool_words.specs.declared.actions.Action.TheVariants.{Swap}
use Rattle.pool_words.specs.Words.{queues}
use Rattle.word_codes.specs.Links.{link_of}
use Rattle.word_codes.specs.declared.guards.Guard.{Guard}
use Rattle.guards.specs.declared.win.Side.{Side}
use Rattle.guards.specs.declared.win.Taking.{Taking}
use Rattle.guards.specs.declared.win.WinAt.{WinAt}
use Rattle.guards.specs.declared.win.WinCall.{WinCall}
use Rattle.guards.specs.declared.win.WinNext.{WinNext}
use Rattle.guards.specs.Win.{win_course, win_learn}
use Rattle.backend_bins.specs.declared.bin.BinAt.{BinAt}
use Rattle.coalescer.specs.declared.put.PutAt.{PutAt}
use Rattle.coalescer.specs.declared.put.PutCall.{PutCall}
use Rattle.coalescer.specs.declared.put.PutStep.{PutStep}
use Rattle.coalescer.specs.Put.{put_course, put_learn}
use Rattle.chain_words.specs.declared.pushing.PushAt.{PushAt}
use Rattle.chain_words.specs.declared.pushing.PushNext.{PushNext}
use Rattle.chain_words.specs.Pushing.{push_learn}
use Rattle.word_laws.specs.Memory.{Mem, after, found, fresh}
use Rattle.chain_laws.specs.Chains.{tally, IsChain}
use Rattle.chain_laws.specs.Pushing.{links_of, push_action}
use Rattle.lock_laws.specs.Steps.{link_to}
use Rattle.guard_laws.specs.Blocks as blocks
use Rattle.guard_laws.specs.Blocks.{Use, Place, core_in, GuardGood}
use Rattle.guard_laws.specs.Steps.{guard_in, place_drained, GuardStep}
use Rattle.guard_laws.specs.Neighbours.{Covered}
use Rattle.chain_laws.specs.Named.{ten_key}
use Rattle.queue_laws.specs.Queue.{told, queue_words, push_of, Task, Shadow, Locals, QueueGood}
use Rattle.queue_laws.specs.Steps.{QueueStep, QueueRun, shadow_queued}
use Rattle.queue_laws.specs.Puts.{HasBlock, PutFits, IsJoining, shadow_put, AfterPut, AtGuards}
use Rattle.queue_laws.specs.Alone.{NoTwo, SidesFit, SidesAfter, IsAlone, IsLooking, IsCalm, CalmFits}
use Rattle.queue_laws.specs.Alone.{JoinsOn, JoinsNext, CalmAt, CalmAfter}
use Rattle.queue_laws.specs.Named.{no_queue, no_tasks, one_queued, one_memory, one_queues}

-- each step of each seat keeps what holds of blocks, guards and the queue
abbrev pub StepsKeepQueue : Type 0
StepsKeepQueue =
    (k : Key) (seat : ℕ) (g : Shadow) (m : Mem) (l : Locals) (h : Shadow) (m' : Mem) (l' : Locals) → QueueGood k g m l
    → QueueStep k seat g m l h m' l' → QueueGood k h m' l'

abbrev pub RunsKeepQueue : Type 0
RunsKeepQueue =
    (k : Key) (g : Shadow) (m : Mem) (l : Locals) (h : Shadow) (m' : Mem) (l' : Locals) → QueueGood k g m l
    → QueueRun k g m l h m' l' → QueueGood k h m' l'

-- a queued block is in the queue's chain, once, its link tells its granules, and no seat has it in a chain that it took
pub record IsQueuedOnce (g : Shadow) (m : Mem) (x n : ℕ) : Type 0 where
  pub once : tally x g.queued ≡ 1
  pub granules : told m x ≡ n
  pub else : (seat : ℕ) → tally x (g.drained seat) ≡ 0

abbrev pub QueuedBlocksAreOnce : Type 0
QueuedBlocksAreOnce =
    (k : Key) (g : Shadow) (m : Mem) (l : Locals) (x n : ℕ) → QueueGood k g m l
    → g.guards.place x ≡ Place.Block x n Use.Queued → IsQueuedOnce g m x n

-- what a push leaves: the block is in its seat's hand still, or it is queued
abbrev pub AfterPush : Shadow → ℕ → ℕ → ℕ → PushNext → Type 0
AfterPush g seat x n (PushNext.Goes at) = g.guards.place x ≡ Place.Block x n (Use.Held seat Taking.ToJoin)
AfterPush g seat x n (PushNext.Pushed head) =
    (shadow_queued x n (PushNext.Pushed head) g.guards).place x ≡ Place.Block x n Use.Queued

abbrev pub PushesQueueOrKeep : Type 0
PushesQueueOrKeep =
    (k : Key) (g : Shadow) (m : Mem) (l : Locals) (seat x n : ℕ) (at : PushAt) → QueueGood k g m l
    → l.queue seat ≡ Task.Queues x n at
    → AfterPush g seat x n (push_learn at (found m (push_action queue_words (push_of x n) at)))

-- the swap gives the whole queue: what it found leads through all queued blocks, and no block is queued then
pub record IsTaken (k : Key) (g : Shadow) (m : Mem) (seat : ℕ) : Type 0 where
  pub chain : IsChain (links_of queue_words (after k m (Swap Word.Queue 0))) (link_to (link_of (m queues 0))) g.queued 0
  pub all : (x n : ℕ) → g.guards.place x ≡ Place.Block x n Use.Queued
      → place_drained seat (g.guards.place x) ≡ Place.Block x n (Use.Held seat Taking.ToJoin)
  pub none : (x n : ℕ) → place_drained seat (g.guards.place x) ≡ Place.Block x n Use.Queued → ⊥

abbrev pub SwapTakesTheQueue : Type 0
SwapTakesTheQueue =
    (k : Key) (g : Shadow) (m : Mem) (l : Locals) (seat : ℕ) → QueueGood k g m l → l.queue seat ≡ Task.Away
    → IsTaken k g m seat

-- the first block that is left of a chain that a seat took is in its hand, with the granules that its link tells
abbrev pub TakenLinksTellBlocks : Type 0
TakenLinksTellBlocks =
    (k : Key) (g : Shadow) (m : Mem) (l : Locals) (seat x : ℕ) → QueueGood k g m l
    → l.queue seat ≡ Task.Drains (Some x)
    → g.guards.place x ≡ Place.Block x (told m x) (Use.Held seat Taking.ToJoin)

-- a put goes on with its block in hand, as it was or joined to a neighbour; it ends where the block is queued,
-- whole, or behind the step that put it into its bin, whole; or it gives the block, which is in hand, whole
abbrev pub PutEndsJoinedQueuedOrWhole : Type 0
PutEndsJoinedQueuedOrWhole =
    (k : Key) (g : blocks.Shadow) (m : Mem) (tasks : ℕ → blocks.Task) (c : PutCall) (p : PutAt)
    → GuardGood k g (core_in m tasks) → IsJoining (tasks c.seat) p p.step → PutFits c g p p.step
    → AfterPut c g (shadow_put c p p.step (found m (put_course c p)) g) p p.step
    (put_learn c p (found m (put_course c p)))

-- the step that puts it there
abbrev pub PutsComeIntoBins : Type 0
PutsComeIntoBins =
    (k : Key) (g : blocks.Shadow) (m : Mem) (tasks : ℕ → blocks.Task) (c : PutCall) (p : PutAt) (found : ℕ)
    → GuardGood k g (core_in m tasks) → p.step ≡ PutStep.Bin BinAt.Left → PutFits c g p p.step
    → (shadow_put c p p.step found g).place p.block.first ≡ Place.Block p.block.first p.block.granules Use.Bin

-- at guards, a put's step on its word is a step of the laws of guards, with these blocks behind it
abbrev pub PutsStepAtGuards : Type 0
PutsStepAtGuards =
    (k : Key) (g : blocks.Shadow) (m : Mem) (tasks : ℕ → blocks.Task) (c : PutCall) (p : PutAt)
    → GuardGood k g (core_in m tasks) → AtGuards (tasks c.seat) p p.step → PutFits c g p p.step
    → (tasks' : ℕ → blocks.Task) × GuardStep k c.seat g m tasks
    (shadow_put c p p.step (found m (put_course c p)) g) (after k m (put_course c p)) tasks'

-- while no other seat is at a guard, and the put's block does not come from the queue, no two blocks in bins are beside
-- each other at any step of a put, if so at its begin; and what it has judged of its sides is so
abbrev pub AlonePutsLeaveNoTwo : Type 0
AlonePutsLeaveNoTwo =
    (k : Key) (g : blocks.Shadow) (m : Mem) (tasks : ℕ → blocks.Task) (c : PutCall) (p : PutAt)
    → GuardGood k g (core_in m tasks) → c.drained ≡ false → IsAlone tasks c.seat → IsJoining (tasks c.seat) p p.step
    → IsLooking (tasks c.seat) p.step → PutFits c g p p.step → NoTwo g.place → SidesFit g.place p.block p.step
    → NoTwo (shadow_put c p p.step (found m (put_course c p)) g).place
    × SidesAfter (shadow_put c p p.step (found m (put_course c p)) g).place (put_learn c p (found m (put_course c p)))

-- where no guard is won alone, nothing is queued and no other block is to be joined, a put finds no mark of a join at
-- its block's sides, so that it does not come to queue there
abbrev pub AloneSidesAreUnmarked : Type 0
AloneSidesAreUnmarked =
    (k : Key) (g : blocks.Shadow) (m : Mem) (tasks : ℕ → blocks.Task) (seat first n : ℕ)
    → GuardGood k g (core_in m tasks) → Covered g → ((other : ℕ) → tasks other ≡ blocks.Task.Away)
    → HasBlock g seat first n → IsCalm g.place first
    → (guard_in m Side.End first ≢ Guard.Coalescing) × (guard_in m Side.Begin (first + n) ≢ Guard.Coalescing)

-- and a block of which it has won the first guard is won
abbrev pub AloneWinsAreWon : Type 0
AloneWinsAreWon =
    (k : Key) (g : blocks.Shadow) (m : Mem) (tasks : ℕ → blocks.Task) (seat : ℕ) (c : WinCall)
    → GuardGood k g (core_in m tasks) → IsAlone tasks seat → tasks seat ≡ blocks.Task.Wins c WinAt.Second
    → win_learn c WinAt.Second (found m (win_course c WinAt.Second)) ≡ WinNext.Won

-- so no step of a put that is alone leads it to the queue, nor to give a guard back
abbrev pub AlonePutsNeverQueue : Type 0
AlonePutsNeverQueue =
    (k : Key) (g : blocks.Shadow) (m : Mem) (tasks : ℕ → blocks.Task) (c : PutCall) (p : PutAt)
    → GuardGood k g (core_in m tasks) → Covered g → IsAlone tasks c.seat → IsJoining (tasks c.seat) p p.step
    → IsLooking (tasks c.seat) p.step → PutFits c g p p.step → CalmFits g.place p.block.first p.step → JoinsOn p.step
    → JoinsNext (put_learn c p (found m (put_course c p)))

-- and each of its steps keeps calm, from its begin to its end
abbrev pub AlonePutsKeepCalm : Type 0
AlonePutsKeepCalm =
    (k : Key) (g : blocks.Shadow) (m : Mem) (tasks : ℕ → blocks.Task) (c : PutCall) (p : PutAt)
    → GuardGood k g (core_in m tasks) → Covered g → IsAlone tasks c.seat → IsJoining (tasks c.seat) p p.step
    → IsLooking (tasks c.seat) p.step → PutFits c g p p.step → CalmAt g.place p.block p.step → JoinsOn p.step
    → CalmAfter (shadow_put c p p.step (found m (put_course c p)) g).place p.block p.step
    (put_learn c p (found m (put_course c p)))
    × JoinsNext (put_learn c p (found m (put_course c p)))

-- what a put has in hand stays there while others step
abbrev pub OthersKeepPuts : Type 0
OthersKeepPuts =
    (k : Key) (other : ℕ) (g : blocks.Shadow) (m : Mem) (tasks : ℕ → blocks.Task) (h : blocks.Shadow) (m' : Mem)
    (tasks' : ℕ → blocks.Task) (c : PutCall) (p : PutAt) → GuardGood k g (core_in m tasks)
    → GuardStep k other g m tasks h m' tasks' → other ≢ c.seat → PutFits c g p p.step → PutFits c h p p.step

-- in a new pool the queue is empty
abbrev pub FreshQueuesAreEmpty : Type 0
FreshQueuesAreEmpty = (k : Key) → k.span < 2 ^ 32 → QueueGood k no_queue fresh no_tasks

-- a block that is queued, and one that is about to be
abbrev pub NamedQueueStands : Type 0
NamedQueueStands = QueueGood ten_key one_queued one_memory one_queues

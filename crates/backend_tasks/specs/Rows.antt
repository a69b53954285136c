-- The rows of guards, of bins and of the queue, without the memory: what a seat was about to do, its action, what that
-- finds, and what is left to do.
use Rattle.std.specs.Prelude.{◌≡◌, ℕ, ⊤, false, Some, None, List, [], ◌∷◌}
use Rattle.pool_words.specs.declared.words.Word.{Word}
use Rattle.pool_words.specs.declared.actions.Action.{Action}
use Rattle.pool_words.specs.declared.actions.Action.TheVariants.{Load, Store, Swap}
use Rattle.pool_words.specs.Words.{WordKind, bin_locks, bin_heads, forwards, backwards, queues, queue_links}
use Rattle.word_codes.specs.declared.guards.Guard.{Guard}
use Rattle.word_codes.specs.Guards.{guard_word}
use Rattle.word_codes.specs.Links.{link_of}
use Rattle.word_codes.specs.QueueLinks.{queue_link_of}
use Rattle.guards.specs.declared.win.Side.{Side}
use Rattle.guards.specs.declared.win.WinAt.{WinAt}
use Rattle.guards.specs.declared.win.WinCall.{WinCall}
use Rattle.guards.specs.declared.win.WinNext.{WinNext}
use Rattle.guards.specs.Win.{win_course, win_learn}
use Rattle.locked_chain.specs.declared.insert.InsertAt.{InsertAt}
use Rattle.locked_chain.specs.declared.remove.RemoveAt.{RemoveAt}
use Rattle.locked_chain.specs.Insert.{insert_course, insert_learn}
use Rattle.locked_chain.specs.Locks.{lock_course, lock_learn, unlock_course}
use Rattle.locked_chain.specs.Remove.{remove_course, remove_learn}
use Rattle.chain_words.specs.declared.pushing.PushAt.{PushAt}
use Rattle.chain_words.specs.Pushing.{push_learn}
use Rattle.backend_bins.specs.declared.blocks.Block.{Block}
use Rattle.backend_bins.specs.Blocks.{block_end, bin_of}
use Rattle.chain_laws.specs.Pushing.{push_action}
use Rattle.lock_laws.specs.Locks.{lock_by}
use Rattle.lock_laws.specs.Seats.{list_call}
use Rattle.guard_laws.specs.Blocks as guards
use Rattle.guard_laws.specs.Blocks.{edge_word}
use Rattle.guard_laws.specs.Steps.{task_after}
use Rattle.bin_laws.specs.Bins as bins
use Rattle.bin_laws.specs.Bins.{bin_words}
use Rattle.bin_laws.specs.Steps.{task_won, task_locked, task_leaves, task_linked, task_unlinked}
use Rattle.queue_laws.specs.Queue as queue
use Rattle.queue_laws.specs.Queue.{queue_words, push_of}
use Rattle.queue_laws.specs.Steps.{IsIdle, task_queued}
use Rattle.free_laws.specs.Steps.{IsNotWon}
use Rattle.step_writes.specs.Kinds.{guard_kinds}
use Rattle.step_writes.specs.Writings.{writing_of, writes_one_of}
use Rattle.backend_tasks.specs.Queue.{drained}

-- the action writes no word of these kinds
abbrev pub Spares : List WordKind → Action → Type 0
Spares kinds action = writes_one_of kinds (writing_of action) ≡ false

abbrev pub list_kinds : List WordKind
list_kinds = bin_locks ∷ bin_heads ∷ forwards ∷ backwards ∷ []

abbrev pub queue_kinds : List WordKind
queue_kinds = queues ∷ queue_links ∷ []

-- where a block's guard is
abbrev pub end_of : Side → Block → ℕ
end_of Side.Begin b = b.first
end_of Side.End b = block_end b

pub data GuardRow : guards.Task → Action → ℕ → guards.Task → Type 0 where
  -- G1, G2
  wins : (c : WinCall) (at : WinAt) (found : ℕ)
      → GuardRow (guards.Task.Wins c at) (win_course c at) found (task_after c (win_learn c at found))
  -- G3: a block is offered at its begin
  offers : (b : Block) (found : ℕ)
      → GuardRow guards.Task.Away (Store (Word.Size b.first) (guard_word (Guard.Free b.granules))) found
      (guards.Task.Offers b.first b.granules)
  -- G4: and at its end
  offered : (b : Block) (found : ℕ)
      → GuardRow (guards.Task.Offers b.first b.granules)
      (Store (Word.Left (block_end b)) (guard_word (Guard.Free b.granules))) found guards.Task.Away
  -- G5, G6: a block in hand is to be joined
  marks : (e : Side) (b : Block) (found : ℕ)
      → GuardRow guards.Task.Away (Store (edge_word e (end_of e b)) (guard_word Guard.Coalescing)) found
      guards.Task.Away
  -- G5, G6: a guard within a block that is cut, or a region's first or last one
  readies : (e : Side) (y found : ℕ)
      → GuardRow guards.Task.Away (Store (edge_word e y) (guard_word Guard.Used)) found guards.Task.Away
  -- G5, G6: a wall of a region
  walls : (e : Side) (y found : ℕ)
      → GuardRow guards.Task.Away (Store (edge_word e y) (guard_word Guard.Wall)) found guards.Task.Away
  -- each step on another word
  others : (action : Action) (found : ℕ) → Spares guard_kinds action
      → GuardRow guards.Task.Away action found guards.Task.Away

-- no block comes into a bin with it or leaves one: a guard is not the second one of a block that is won or offered
abbrev pub KeepsBins : guards.Task → ℕ → Type 0
KeepsBins guards.Task.Away found = ⊤
KeepsBins (guards.Task.Wins c at) found = IsNotWon (win_learn c at found)
KeepsBins (guards.Task.Offers first granules) found = ⊥

-- beside what the seat was about to do with guards
pub data BinRow (seat : ℕ) (guard : guards.Task) : bins.Task → Action → ℕ → bins.Task → Type 0 where
  -- B1
  takes : (b found : ℕ) → guard ≡ guards.Task.Away
      → BinRow seat guard bins.Task.Away (lock_course (lock_by bin_words.lock seat b)) found
      (task_locked b (lock_learn (lock_by bin_words.lock seat b) found))
  -- B1 of a block that was won
  leaves : (x n found : ℕ) → guard ≡ guards.Task.Away
      → BinRow seat guard (bins.Task.Won x n) (lock_course (lock_by bin_words.lock seat (bin_of n))) found
      (task_leaves x n (lock_learn (lock_by bin_words.lock seat (bin_of n)) found))
  -- B2
  frees : (b found : ℕ) → guard ≡ guards.Task.Away
      → BinRow seat guard (bins.Task.Has b) (unlock_course (lock_by bin_words.lock seat b)) found bins.Task.Away
  -- B3 to B6 of a put
  links : (x n : ℕ) (at : InsertAt) (found : ℕ) → guard ≡ guards.Task.Away
      → BinRow seat guard (bins.Task.Links x n at) (insert_course (list_call bin_words (bin_of n) x) at) found
      (task_linked x n (insert_learn at found))
  -- B3 to B6 of a block that was won
  unlinks : (x n : ℕ) (at : RemoveAt) (found : ℕ) → guard ≡ guards.Task.Away
      → BinRow seat guard (bins.Task.Unlinks x n at) (remove_course (list_call bin_words (bin_of n) x) at) found
      (task_unlinked x n (remove_learn at found))
  -- the second guard of a block is won
  wins : (c : WinCall) (task : bins.Task) (found : ℕ) → guard ≡ guards.Task.Wins c WinAt.Second
      → win_learn c WinAt.Second found ≡ WinNext.Won
      → BinRow seat guard task (win_course c WinAt.Second) found (task_won c.begin c.granules task)
  -- G4: the second store of a block that is put
  comes : (b : Block) (found : ℕ) → guard ≡ guards.Task.Offers b.first b.granules
      → BinRow seat guard (bins.Task.Has (bin_of b.granules))
      (Store (Word.Left (block_end b)) (guard_word (Guard.Free b.granules))) found
      (bins.Task.Links b.first b.granules InsertAt.Head)
  -- each step on a word of no list, by which no block comes into a bin or leaves one
  others : (task : bins.Task) (action : Action) (found : ℕ) → KeepsBins guard found → Spares list_kinds action
      → BinRow seat guard task action found task

pub data QueueRow : queue.Task → Action → ℕ → queue.Task → Type 0 where
  -- Q1 to Q3
  pushes : (x n : ℕ) (at : PushAt) (found : ℕ)
      → QueueRow (queue.Task.Queues x n at) (push_action queue_words (push_of x n) at) found
      (task_queued x n (push_learn at found))
  -- Q4
  takes : (found : ℕ) → QueueRow queue.Task.Away (Swap Word.Queue 0) found (drained (link_of found))
  -- Q4 of a reset, which keeps what is left of the queue as its stage
  unqueues : (found : ℕ) → QueueRow queue.Task.Away (Swap Word.Queue 0) found queue.Task.Away
  -- Q5
  reads : (x found : ℕ)
      → QueueRow (queue.Task.Drains (Some x)) (Load (Word.QueueLink x)) found
      (queue.Task.Drains (queue_link_of found).next)
  -- all of it is put, with a step on another word
  ends : (action : Action) (found : ℕ) → Spares queue_kinds action
      → QueueRow (queue.Task.Drains None) action found queue.Task.Away
  -- each step on another word, while no block is put into the queue
  others : (task : queue.Task) (action : Action) (found : ℕ) → IsIdle task → Spares queue_kinds action
      → QueueRow task action found task

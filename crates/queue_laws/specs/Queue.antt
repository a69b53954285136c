-- Which blocks the queue's chain has, and which those have that seats took: each block of that use, once, with its
-- granules told by its link.
use Rattle.std.specs.Prelude.{◌≡◌, ℕ, ◌^◌, ◌<◌, Bool, ltb, Option, Some, List, ⊤}
use Rattle.pool_words.specs.declared.words.Key.{Key}
use Rattle.pool_words.specs.declared.words.Word.{Word}
use Rattle.pool_words.specs.Words.{queue_links}
use Rattle.word_codes.specs.declared.guards.Guard.{Guard}
use Rattle.word_codes.specs.Links.{link_of, link_word}
use Rattle.word_codes.specs.QueueLinks.{queue_link_of, queue_link_word}
use Rattle.guards.specs.declared.win.Side.{Side}
use Rattle.guards.specs.declared.win.Taking.{Taking}
use Rattle.chain_words.specs.declared.pushing.PushAt.{PushAt}
use Rattle.word_laws.specs.Memory.{Mem}
use Rattle.chain_laws.specs.Chains.{Link, tally, IsChain}
use Rattle.chain_laws.specs.Pushing.{ChainWords, links_of, Push}
use Rattle.chain_laws.specs.Seats.{Pusher, ChainGood}
use Rattle.lock_laws.specs.Steps.{link_to, link_at}
use Rattle.guard_laws.specs.Blocks as blocks
use Rattle.guard_laws.specs.Blocks.{Use, Place, Standing, at_edge, edge_of, core_in, GuardGood}
use Rattle.guard_laws.specs.Steps.{guard_in}

-- where a queued block's word leads, and the granules that it tells
abbrev pub queue_link_at : ℕ → Link
queue_link_at word = link_to (queue_link_of word).next

abbrev pub told : Mem → ℕ → ℕ
told m x = (queue_link_of (m queue_links x)).granules

abbrev pub queue_words : ChainWords
queue_words = record {
  head = Word.Queue;
  link = λ x. Word.QueueLink x;
  reads_head = link_at;
  reads_link = queue_link_at;
}

-- a head that a link can tell beside the granules
abbrev pub can_tell : ℕ → Bool
can_tell head = ltb head (2 ^ 32)

-- the push of a block
abbrev pub push_of : ℕ → ℕ → Push
push_of x n = record {
  item = x;
  linked = λ found. queue_link_word (record { next = link_of found; granules = n });
  filled = link_word (Some x);
}

-- what a seat does with the queue: it puts a block there, or has taken the queue and puts what is left of it
pub data Task : Type 0 where
  Away : Task
  Queues : (first granules : ℕ) (at : PushAt) → Task
  Drains : (rest : Option ℕ) → Task

abbrev pub pusher_of : Task → Pusher
pusher_of Task.Away = Pusher.Away
pusher_of (Task.Queues first granules at) = Pusher.Pushes (push_of first granules) at
pusher_of (Task.Drains rest) = Pusher.Away

abbrev pub rest_of : Task → Link
rest_of Task.Away = Link.Ends 0
rest_of (Task.Queues first granules at) = Link.Ends 0
rest_of (Task.Drains rest) = link_to rest

pub record Shadow : Type 0 where
  pub guards : blocks.Shadow
  -- the queue, and of each seat what it took and has not yet begun to put
  pub queued : List ℕ
  pub drained : ℕ → List ℕ

pub record Locals : Type 0 where
  pub guards : ℕ → blocks.Task
  pub queue : ℕ → Task

-- before the exchange the link tells the block's granules
abbrev pub IsTold : Mem → ℕ → ℕ → PushAt → Type 0
IsTold m x n PushAt.Look = ⊤
IsTold m x n (PushAt.Link found) = ⊤
IsTold m x n (PushAt.Exchange found) = told m x ≡ n

-- a block that its seat puts into the queue is in its hand, and both guards say that it is being joined
pub record QueuesFit (g : blocks.Shadow) (m : Mem) (seat x n : ℕ) (at : PushAt) : Type 0 where
  pub hand : g.place x ≡ Place.Block x n (Use.Held seat Taking.ToJoin)
  pub stands : (e : Side) → at_edge g.standing e (edge_of e x n) ≡ Standing.Joining
  pub guards : (e : Side) → guard_in m e (edge_of e x n) ≡ Guard.Coalescing
  pub link : IsTold m x n at

abbrev pub TaskFits : blocks.Shadow → Mem → ℕ → Task → Type 0
TaskFits g m seat Task.Away = ⊤
TaskFits g m seat (Task.Queues x n at) = QueuesFit g m seat x n at
TaskFits g m seat (Task.Drains rest) = ⊤

pub record QueueGood (k : Key) (g : Shadow) (m : Mem) (l : Locals) : Type 0 where
  pub guards : GuardGood k g.guards (core_in m l.guards)
  pub chain : ChainGood k queue_words can_tell m (λ t. pusher_of (l.queue t)) g.queued 0
  pub queued_is : (x : ℕ) → 0 < tally x g.queued → g.guards.place x ≡ Place.Block x (told m x) Use.Queued
  pub is_queued : (x n : ℕ) → g.guards.place x ≡ Place.Block x n Use.Queued → 0 < tally x g.queued
  pub drains : (t : ℕ) → IsChain (links_of queue_words m) (rest_of (l.queue t)) (g.drained t) 0
  pub drained_is : (t x : ℕ) → 0 < tally x (g.drained t)
      → g.guards.place x ≡ Place.Block x (told m x) (Use.Held t Taking.ToJoin)
  pub tasks : (t : ℕ) → TaskFits g.guards m t (l.queue t)

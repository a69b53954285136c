-- A wrong definition, which breaks a law at the queue that is named.
use Rattle.std.specs.Prelude.{◌≡◌, ℕ, Some, ◌∷◌}
use Rattle.pool_words.specs.declared.words.Key.{Key}
use Rattle.pool_words.specs.declared.words.Word.{Word}
use Rattle.word_codes.specs.Links.{link_word}
use Rattle.chain_words.specs.declared.pushing.PushAt.{PushAt}
use Rattle.chain_words.specs.declared.pushing.PushNext.{PushNext}
use Rattle.word_laws.specs.Memory.{Mem, stored}
use Rattle.guard_laws.specs.Blocks as blocks
use Rattle.queue_laws.specs.Queue.{Task, Shadow, Locals, QueueGood}
use Rattle.queue_laws.specs.Steps.{shadow_queued, with_queue}

-- a push stores the head, whatever it is by then
abbrev pub PushesByStore : Type 0
PushesByStore =
    (k : Key) (seat : ℕ) (g : Shadow) (m : Mem) (l : Locals) (x n head : ℕ)
    → l.queue seat ≡ Task.Queues x n (PushAt.Exchange head) → l.guards seat ≡ blocks.Task.Away → QueueGood k g m l
    → QueueGood k (record {
      guards = shadow_queued x n (PushNext.Pushed head) g.guards;
      queued = x ∷ g.queued;
      drained = g.drained;
    }) (stored k m Word.Queue (link_word (Some x))) (with_queue seat Task.Away l)

abbrev pub StoredPushesAreWrong : Type 0
StoredPushesAreWrong = PushesByStore → ⊥

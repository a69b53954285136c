-- The word of a block in the queue: the block behind it, and how many granules it has.
use Rattle.std.specs.Prelude.{ℕ, ◌+◌, ◌*◌, ◌/◌, ◌%◌, ◌^◌, ◌<◌, ⊤, Option, Some, None}
use Rattle.word_codes.specs.Links.{link_of, link_word}
use Rattle.word_codes.specs.declared.queue_links.QueueLink.{QueueLink}

unfoldable pub queue_link_of : ℕ → QueueLink
queue_link_of w = record { next = link_of (w % 2 ^ 32); granules = w / 2 ^ 32 }

unfoldable pub queue_link_word : QueueLink → ℕ
queue_link_word q = link_word q.next % 2 ^ 32 + 2 ^ 32 * (q.granules % 2 ^ 32)

abbrev pub FitsQueueNext : Option ℕ → Type 0
FitsQueueNext (Some block) = block + 1 < 2 ^ 32
FitsQueueNext None = ⊤

abbrev pub FitsQueueLink : QueueLink → Type 0
FitsQueueLink q = FitsQueueNext q.next × (q.granules < 2 ^ 32)

-- A chain and a push by name: the queue, on which blocks 5 and 3 were pushed, and on which block 7 is about to be.
use Rattle.std.specs.Prelude.{ℕ, zero, suc, Bool, true, false, List, [], ◌∷◌}
use Rattle.pool_words.specs.declared.words.Key.{Key}
use Rattle.pool_words.specs.declared.words.Word.{Word}
use Rattle.pool_words.specs.Words.{queues, queue_links}
use Rattle.chain_words.specs.declared.pushing.PushAt.{PushAt}
use Rattle.word_laws.specs.Memory.{Mem, put, write, fresh}
use Rattle.chain_laws.specs.Chains.{Link}
use Rattle.chain_laws.specs.Chains.Link.{To, Ends}
use Rattle.chain_laws.specs.Pushing.{ChainWords, Push}
use Rattle.chain_laws.specs.Seats.{Pusher}
use Rattle.chain_laws.specs.Seats.Pusher.{Away, Pushes}

-- a pool of ten granules
abbrev pub ten_key : Key
ten_key = record {
  pool = 0;
  seats = 2;
  span = 10;
  region = 163840;
  granularity = 8192;
  gets = true;
  frees = true;
  fixed = false;
  keep = false;
}

-- an item's index plus 1, or 0 at the end
abbrev pub plain_link : ℕ → Link
plain_link zero = Ends 0
plain_link (suc item) = To item

abbrev pub queue_words : ChainWords
queue_words = record {
  head = Word.Queue;
  link = λ block. Word.QueueLink block;
  reads_head = plain_link;
  reads_link = plain_link;
}

abbrev pub queued_blocks : List ℕ
queued_blocks = 3 ∷ 5 ∷ []

-- block 7 is linked to block 3, which was found first
abbrev pub two_queued : Mem
two_queued = write (write (write (write fresh queues 0 4) queue_links 3 6) queue_links 5 0) queue_links 7 4

abbrev pub seventh : Push
seventh = record { item = 7; linked = λ found. found; filled = 8 }

abbrev pub seventh_at : PushAt
seventh_at = PushAt.Exchange 4

abbrev pub any_number : ℕ → Bool
any_number n = true

abbrev pub one_pusher : ℕ → Pusher
one_pusher = put (λ seat. Away) 1 (Pushes seventh seventh_at)

-- The queue is emptied.
use Rattle.std.specs.Prelude.{ℕ, true, Option, Some, None}
use Rattle.pool_words.specs.declared.words.Word.{Word}
use Rattle.pool_words.specs.declared.actions.Action.{Action}
use Rattle.pool_words.specs.declared.actions.Action.TheVariants.{Load, Swap as Exchange_for}
use Rattle.word_codes.specs.declared.queue_links.QueueLink.{QueueLink}
use Rattle.word_codes.specs.Links.{link_of}
use Rattle.word_codes.specs.QueueLinks.{queue_link_of}
use Rattle.locked_chain.specs.Insert.{end_link}
use Rattle.backend_bins.specs.Blocks.{block}
use Rattle.coalescer.specs.declared.put.PutCall.{PutCall}
use Rattle.coalescer.specs.declared.put.PutNext.{PutNext}
use Rattle.coalescer.specs.declared.drain.DrainCall.{DrainCall}
use Rattle.coalescer.specs.declared.drain.DrainAt.{DrainAt}
use Rattle.coalescer.specs.declared.drain.DrainAt.TheVariants.{Swap, Link, Put}
use Rattle.coalescer.specs.declared.drain.DrainNext.{DrainNext}
use Rattle.coalescer.specs.declared.drain.DrainNext.TheVariants.{Goes, Waits, Gives, Drained}
use Rattle.coalescer.specs.Put.{put_begins, put_course, put_learn}

-- what comes from the queue does not go back to it
abbrev pub put_call : DrainCall → PutCall
put_call c = record { seat = c.seat; drained = true; gives = c.gives }

abbrev pub goes_on : Option ℕ → DrainNext
goes_on (Some first) = Goes (Link first)
goes_on None = Drained

abbrev pub drain_course : DrainCall → DrainAt → Action
drain_course c Swap = Exchange_for Word.Queue end_link
drain_course c (Link first) = Load (Word.QueueLink first)
drain_course c (Put rest at) = put_course (put_call c) at

-- the link is read before the put, which may change it
abbrev pub link_read : ℕ → QueueLink → DrainNext
link_read first link = Goes (Put link.next (put_begins (block first link.granules)))

abbrev pub put_goes : Option ℕ → PutNext → DrainNext
put_goes rest (PutNext.Goes at) = Goes (Put rest at)
put_goes rest (PutNext.Waits bin) = Waits bin
put_goes rest PutNext.Done = goes_on rest
put_goes rest (PutNext.Gives b) = Gives b rest

abbrev pub drain_learn : DrainCall → DrainAt → ℕ → DrainNext
drain_learn c Swap found = goes_on (link_of found)
drain_learn c (Link first) found = link_read first (queue_link_of found)
drain_learn c (Put rest at) found = put_goes rest (put_learn (put_call c) at found)

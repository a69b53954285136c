-- The queue is taken, and its blocks come out of it one after another.
use Rattle.std.specs.Prelude.{ℕ, Option, Some, None}
use Rattle.pool_words.specs.declared.words.Word.{Word}
use Rattle.pool_words.specs.declared.actions.Action.{Action}
use Rattle.pool_words.specs.declared.actions.Action.TheVariants.{Load, Swap}
use Rattle.word_codes.specs.declared.queue_links.QueueLink.{QueueLink}
use Rattle.word_codes.specs.Links.{link_of}
use Rattle.word_codes.specs.QueueLinks.{queue_link_of}
use Rattle.locked_chain.specs.Insert.{end_link}
use Rattle.backend_bins.specs.Blocks.{block}
use Rattle.reset_steps.specs.declared.unqueue.UnqueueAt.{UnqueueAt}
use Rattle.reset_steps.specs.declared.unqueue.UnqueueNext.{UnqueueNext}
use Rattle.reset_steps.specs.declared.unqueue.UnqueueNext.TheVariants.{Goes, Out, Emptied}

abbrev pub unqueue_from : Option ℕ → UnqueueNext
unqueue_from (Some first) = Goes (UnqueueAt.Link first)
unqueue_from None = Emptied

abbrev pub unqueue_course : UnqueueAt → Action
unqueue_course UnqueueAt.Take = Swap Word.Queue end_link
unqueue_course (UnqueueAt.Link first) = Load (Word.QueueLink first)

abbrev pub unqueued : ℕ → QueueLink → UnqueueNext
unqueued first link = Out (block first link.granules) link.next

abbrev pub unqueue_learn : UnqueueAt → ℕ → UnqueueNext
unqueue_learn UnqueueAt.Take f = unqueue_from (link_of f)
unqueue_learn (UnqueueAt.Link first) f = unqueued first (queue_link_of f)

-- A new pool's queue, and a queue by name: the block of three granules at 2 is in it, and seat 0, which found it empty
-- before, is about to put the block of two granules behind that there.
use Rattle.std.specs.Prelude.{Some, None, [], ◌∷◌}
use Rattle.pool_words.specs.Words.{queues, queue_links, sizes, lefts}
use Rattle.word_codes.specs.declared.guards.Guard.{Guard}
use Rattle.word_codes.specs.Guards.{guard_word}
use Rattle.word_codes.specs.Links.{link_word}
use Rattle.word_codes.specs.QueueLinks.{queue_link_word}
use Rattle.guards.specs.declared.win.Taking.{Taking}
use Rattle.chain_words.specs.declared.pushing.PushAt.{PushAt}
use Rattle.word_laws.specs.Memory.{Mem, put, write, fresh}
use Rattle.guard_laws.specs.Blocks as blocks
use Rattle.guard_laws.specs.Blocks.{Use, Standing}
use Rattle.guard_laws.specs.Steps.{with_use, with_edges, shadow_split}
use Rattle.guard_laws.specs.Named.{no_blocks}
use Rattle.queue_laws.specs.Queue.{Task, Shadow, Locals}

abbrev pub no_queue : Shadow
no_queue = record { guards = no_blocks; queued = []; drained = λ seat. [] }

abbrev pub no_tasks : Locals
no_tasks = record { guards = λ seat. blocks.Task.Away; queue = λ seat. Task.Away }

-- a region of granules 2 to 6 came, and seat 0 cut it
abbrev pub cut_blocks : blocks.Shadow
cut_blocks = shadow_split 0 2 3 2
    (with_use 2 5 (Use.Held 0 Taking.ForUse) (with_edges 2 5 Standing.Resting no_blocks))

abbrev pub first_joining : blocks.Shadow
first_joining = with_use 2 3 (Use.Held 0 Taking.ToJoin) (with_edges 2 3 Standing.Joining cut_blocks)

abbrev pub both_joining : blocks.Shadow
both_joining = with_use 5 2 (Use.Held 0 Taking.ToJoin) (with_edges 5 2 Standing.Joining first_joining)

abbrev pub queued_blocks : blocks.Shadow
queued_blocks = with_use 2 3 Use.Queued (with_edges 2 3 Standing.Waiting both_joining)

abbrev pub one_queued : Shadow
one_queued = record { guards = queued_blocks; queued = 2 ∷ []; drained = λ seat. [] }

abbrev pub marked_memory : Mem
marked_memory =
    write (write (write (write fresh sizes 2 (guard_word Guard.Coalescing)) lefts 5 (guard_word Guard.Coalescing))
    sizes 5 (guard_word Guard.Coalescing)) lefts 7 (guard_word Guard.Coalescing)

abbrev pub one_memory : Mem
one_memory =
    write (write (write marked_memory queues 0 (link_word (Some 2)))
    queue_links 2 (queue_link_word (record { next = None; granules = 3 })))
    queue_links 5 (queue_link_word (record { next = None; granules = 2 }))

abbrev pub one_queues : Locals
one_queues = record {
  guards = λ seat. blocks.Task.Away;
  queue = put (λ seat. Task.Away) 0 (Task.Queues 5 2 (PushAt.Exchange 0));
}

-- A new pool's bins, and the hardest state of one bin: a block is in a bin since both its guards say that it is
-- free, its
-- putter, seat 1, has the bin's lock and has linked nothing yet, and seat 0 has won the block already.
use Rattle.std.specs.Prelude.{[]}
use Rattle.guards.specs.declared.win.Taking.{Taking}
use Rattle.locked_chain.specs.declared.insert.InsertAt.{InsertAt}
use Rattle.locked_chain.specs.Locks.{lock_course}
use Rattle.word_laws.specs.Memory.{Mem, put, after, fresh}
use Rattle.chain_laws.specs.Named.{ten_key}
use Rattle.lock_laws.specs.Locks.{lock_by}
use Rattle.guard_laws.specs.Blocks as blocks
use Rattle.guard_laws.specs.Blocks.{Use, Standing}
use Rattle.guard_laws.specs.Steps.{with_use, with_edges}
use Rattle.guard_laws.specs.Named.{no_blocks}
use Rattle.bin_laws.specs.Bins.{bin_words, Task, Member, Shadow, Locals}

abbrev pub no_bins : Shadow
no_bins = record { guards = no_blocks; items = λ b. []; member = λ x. Member.Out }

abbrev pub no_tasks : Locals
no_tasks = record { guards = λ seat. blocks.Task.Away; bins = λ seat. Task.Away }

-- the bin of blocks of two granules
abbrev pub locked_memory : Mem
locked_memory = after ten_key fresh (lock_course (lock_by bin_words.lock 1 1))

abbrev pub won_block : blocks.Shadow
won_block = with_use 3 2 (Use.Held 0 Taking.ForUse) (with_edges 3 2 Standing.Resting no_blocks)

abbrev pub named_bins : Shadow
named_bins = record {
  guards = won_block;
  items = λ b. [];
  member = put (λ x. Member.Out) 3 (Member.Comes 2 1);
}

abbrev pub named_tasks : Locals
named_tasks = record {
  guards = λ seat. blocks.Task.Away;
  bins = put (put (λ seat. Task.Away) 0 (Task.Won 3 2)) 1 (Task.Links 3 2 InsertAt.Head);
}

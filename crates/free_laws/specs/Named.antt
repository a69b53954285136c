-- A new pool's bins and queue; and one by name, to which steps of seat 0 lead from a new one: its one region came as a
-- block in the seat's hand, the seat took the lock of that block's bin, and offered the block at both its ends. So the
-- block is in the bin, and the seat is about to link it.
use Rattle.std.specs.Prelude.{◌≡◌, []}
use Rattle.pool_words.specs.declared.words.Key.{Key}
use Rattle.pool_words.specs.declared.words.Word.{Word}
use Rattle.pool_words.specs.declared.actions.Action.TheVariants.{Store}
use Rattle.word_codes.specs.declared.guards.Guard.{Guard}
use Rattle.word_codes.specs.Guards.{guard_word}
use Rattle.guards.specs.declared.win.Side.{Side}
use Rattle.locked_chain.specs.declared.insert.InsertAt.{InsertAt}
use Rattle.locked_chain.specs.Locks.{lock_course}
use Rattle.backend_bins.specs.Blocks.{bin_of}
use Rattle.word_laws.specs.Memory.{Mem, put, after, fresh}
use Rattle.chain_laws.specs.Named.{ten_key}
use Rattle.lock_laws.specs.Locks.{lock_by}
use Rattle.guard_laws.specs.Blocks as blocks
use Rattle.guard_laws.specs.Blocks.{Use, Place, Standing}
use Rattle.guard_laws.specs.Steps.{with_use, with_edge}
use Rattle.bin_laws.specs.Bins.{bin_words, Task, Member}
use Rattle.bin_laws.specs.Steps.{with_bin}
use Rattle.queue_laws.specs.Queue as queues
use Rattle.use_laws.specs.Named as uses
use Rattle.free_laws.specs.Spaces.{Space, bins_of, bin_tasks, FreeGood}
use Rattle.free_laws.specs.Steps.{with_guards, with_bins, FreeRun}

abbrev pub fresh_space : Key → Space
fresh_space k = record {
  pool = uses.fresh_pool k;
  items = λ b. [];
  member = λ x. Member.Out;
  queued = [];
  drained = λ seat. [];
  bins = λ seat. Task.Away;
  queue = λ seat. queues.Task.Away;
}

abbrev pub one_region : Space
one_region = with_guards uses.one_region.blocks fresh (uses.fresh_pool ten_key).tasks (fresh_space ten_key)

abbrev pub locked_memory : Mem
locked_memory = after ten_key fresh (lock_course (lock_by bin_words.lock 0 (bin_of 10)))

abbrev pub one_locked : Space
one_locked = with_bins (bins_of one_region) locked_memory
    (with_bin 0 (Task.Has (bin_of 10)) (bin_tasks one_region)) one_region

abbrev pub one_offered : Space
one_offered = with_guards (with_edge Side.Begin 0 (Standing.Open 10) one_locked.pool.blocks)
    (after ten_key locked_memory (Store (Word.Size 0) (guard_word (Guard.Free 10))))
    (put one_locked.pool.tasks 0 (blocks.Task.Offers 0 10)) one_locked

abbrev pub named_space : Space
named_space = with_bins (record {
  guards = with_use 0 10 Use.Bin (with_edge Side.End 10 (Standing.Open 10) one_offered.pool.blocks);
  items = one_offered.items;
  member = put one_offered.member 0 (Member.Comes 10 0);
}) (after ten_key one_offered.pool.mem (Store (Word.Left 10) (guard_word (Guard.Free 10)))) (record {
  guards = put one_offered.pool.tasks 0 blocks.Task.Away;
  bins = put one_offered.bins 0 (Task.Links 0 10 InsertAt.Head);
}) one_offered

pub record IsNamed : Type 0 where
  pub offered : FreeGood ten_key one_offered
  pub run : FreeRun ten_key (fresh_space ten_key) named_space
  pub good : FreeGood ten_key named_space
  pub bin : named_space.pool.blocks.place 0 ≡ Place.Block 0 10 Use.Bin
  pub comes : named_space.member 0 ≡ Member.Comes 10 0

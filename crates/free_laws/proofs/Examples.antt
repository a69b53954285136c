-- A new pool, the pool that is named, to which steps lead from it, and what the wrong definition comes to.
use Rattle.std.proofs.Common.{◌≡◌, inl, ℕ, refl, arith}
use Rattle.pool_words.specs.declared.words.Word.{Word}
use Rattle.pool_words.specs.declared.actions.Action.TheVariants.{Store}
use Rattle.word_codes.specs.declared.guards.Guard.{Guard}
use Rattle.word_codes.specs.Guards.{guard_word}
use Rattle.guards.specs.declared.win.Side.{Side}
use Rattle.guards.specs.declared.win.Taking.{Taking}
use Rattle.backend_bins.specs.Blocks.{bin_of}
use Rattle.word_laws.specs.Memory.{fresh}
use Rattle.chain_laws.specs.Named.{ten_key}
use Rattle.guard_laws.specs.Blocks.{edge_of}
use Rattle.guard_laws.specs.Steps.{guard_in, GuardStep}
use Rattle.guard_laws.proofs.CallerLemmas.{zero_reads}
use Rattle.bin_laws.specs.Bins.{Task}
use Rattle.bin_laws.specs.Laws.{FreshBinsAreEmpty}
use Rattle.bin_laws.specs.Steps.{with_bin, BinStep}
use Rattle.queue_laws.specs.Laws.{FreshQueuesAreEmpty}
use Rattle.use_laws.specs.Laws.{FreshPoolsAreGood}
use Rattle.free_laws.specs.Spaces.{bins_of, bin_tasks}
use Rattle.free_laws.specs.Steps.{FreeStep, FreeRun}
use Rattle.free_laws.specs.Steps.FreeRun.{starts, steps}
use Rattle.free_laws.specs.Named.{fresh_space, one_region, locked_memory, one_locked, one_offered, named_space}
use Rattle.free_laws.specs.Laws.{FreshSpacesAreGood, NamedSpaceStands}
use Rattle.free_laws.specs.Wrong.{UnlistedPutsAreWrong}
use Rattle.free_laws.proofs.Keeps.{runs_keep_free}
use Rattle.free_laws.proofs.Words.{leaves_things, leaves_lists, leaves_queue, same_things, same_lists, same_queue}

pub fresh_spaces_are_good : FreshPoolsAreGood → FreshBinsAreEmpty → FreshQueuesAreEmpty → FreshSpacesAreGood
fresh_spaces_are_good pools bins queues k low = record {
  pool = pools k low;
  bins = bins k low;
  queue = queues k low;
  seats = λ t. record { lock = tt; queue = tt };
}

-- a new pool's guards say that blocks are in use
unused : (e : Side) (y : ℕ) → guard_in fresh e y ≡ Guard.Used
unused Side.Begin y = zero_reads
unused Side.End y = zero_reads

region_comes : FreeStep ten_key 0 (fresh_space ten_key) one_region
region_comes = FreeStep.guards one_region.pool.blocks fresh one_region.pool.tasks
    (GuardStep.comes 0 10 (omega arith) (omega arith) (λ z low high. refl) (λ e. unused e (edge_of e 0 10))) tt tt tt
    (same_things fresh) (same_lists fresh) (same_queue fresh)

lock_taken : FreeStep ten_key 0 one_region one_locked
lock_taken = FreeStep.bins (bins_of one_region) locked_memory
    (with_bin 0 (Task.Has (bin_of 10)) (bin_tasks one_region)) (BinStep.takes (bin_of 10) (omega arith) refl) refl tt

block_offered : FreeStep ten_key 0 one_locked one_offered
block_offered = let action = Store (Word.Size 0) (guard_word (Guard.Free 10)) in
    FreeStep.guards one_offered.pool.blocks one_offered.pool.mem one_offered.pool.tasks
    (GuardStep.offers 0 10 Taking.ForUse refl refl) tt refl tt
    (leaves_things ten_key locked_memory 6 7 action (omega arith) (omega arith, omega arith))
    (leaves_lists ten_key locked_memory 6 7 action (inl (omega arith)) (omega arith, omega arith))
    (leaves_queue ten_key locked_memory 6 7 action (omega arith) (omega arith, omega arith))

block_comes : FreeStep ten_key 0 one_offered named_space
block_comes = FreeStep.bins (bins_of named_space) named_space.pool.mem (bin_tasks named_space)
    (BinStep.comes 0 10 refl refl) refl tt

offered_run : FreeRun ten_key (fresh_space ten_key) one_offered
offered_run = steps (steps (steps starts 0 region_comes) 0 lock_taken) 0 block_offered

pub named_space_stands : FreshSpacesAreGood → NamedSpaceStands
named_space_stands fresh' = let new = fresh' ten_key (omega arith) in record {
  offered = runs_keep_free ten_key (fresh_space ten_key) one_offered new offered_run;
  run = steps offered_run 0 block_comes;
  good = runs_keep_free ten_key (fresh_space ten_key) named_space new (steps offered_run 0 block_comes);
  bin = refl;
  comes = refl;
}

pub unlisted_puts_are_wrong : NamedSpaceStands → UnlistedPutsAreWrong
unlisted_puts_are_wrong named wrong =
    let good = wrong ten_key 0 one_offered 0 10 refl named.offered in good.bins.members.bin_is 0 10 refl

-- Wrong definitions. Each breaks a law at the bin that is named.
use Rattle.std.specs.Prelude.{◌≡◌, ℕ, drop}
use Rattle.cache_ages.specs.declared.CacheOp.{CacheOp}
use Rattle.cache_ages.specs.CacheSteps.{cache_step, CanStep}
use Rattle.pool_words.specs.declared.words.Key.{Key}
use Rattle.pool_words.specs.declared.words.Word.{Word}
use Rattle.large_cache.specs.declared.sweep.Cleanup.{Cleanup}
use Rattle.word_laws.specs.Memory.{Mem, stored}
use Rattle.cache_laws.specs.Bins.{Bin, numbers_of}
use Rattle.cache_laws.specs.Gets.{get_done}
use Rattle.cache_laws.specs.Sweeps.{count_gone, cut_bin}
use Rattle.cache_laws.specs.Good.{Task, CacheGood}

-- a get that forgets to count the block as one in use
abbrev pub ForgetfulGets : Type 0
ForgetfulGets =
    (bin : Bin) (time : ℕ) → CanStep CacheOp.Get bin.used
    → numbers_of (record (get_done time bin) { used = bin.used })
    ≡ (cache_step (numbers_of bin) CacheOp.Get time).numbers

abbrev pub ForgetfulGetsAreWrong : Type 0
ForgetfulGetsAreWrong = ForgetfulGets → ⊥

-- a cleanup that releases no block
abbrev pub IdleCleanups : Type 0
IdleCleanups =
    (bin : Bin) (time : ℕ) → numbers_of bin ≡ (cache_step (numbers_of bin) CacheOp.Hard time).numbers

abbrev pub IdleCleanupsAreWrong : Type 0
IdleCleanupsAreWrong = IdleCleanups → ⊥

-- a cleanup that releases as many blocks as it should, and the newest in place of the oldest
abbrev pub GreedyCleanups : Type 0
GreedyCleanups =
    (bin : Bin) (time : ℕ)
    → numbers_of (record (cut_bin Cleanup.Soft time bin) {
      items = drop (count_gone Cleanup.Soft time bin) bin.items;
    })
    ≡ (cache_step (numbers_of bin) CacheOp.Soft time).numbers

abbrev pub GreedyCleanupsAreWrong : Type 0
GreedyCleanupsAreWrong = GreedyCleanups → ⊥

-- a seat that stores a bin's head without its lock
abbrev pub LocklessStores : Type 0
LocklessStores =
    (k : Key) (g : ℕ → Bin) (m : Mem) (tasks : ℕ → Task) (seat b head : ℕ) → tasks seat ≡ Task.Away
    → CacheGood k g m tasks → CacheGood k g (stored k m (Word.CacheHead b) head) tasks

abbrev pub LocklessStoresAreWrong : Type 0
LocklessStoresAreWrong = LocklessStores → ⊥

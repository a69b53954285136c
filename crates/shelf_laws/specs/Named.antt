-- A new pool with an empty cache; and the pool that `use_laws` names, whose block at 6 is in the bin for blocks of one
-- granule, while seat 0 is about to put its block at 7 there.
use Rattle.std.specs.Prelude.{[], ◌∷◌}
use Rattle.pool_words.specs.declared.words.Key.{Key}
use Rattle.pool_words.specs.declared.words.Word.{Word}
use Rattle.pool_words.specs.declared.actions.Action.TheVariants.{Store}
use Rattle.large_cache.specs.declared.keep.KeepAt.{KeepAt}
use Rattle.word_laws.specs.Memory.{Mem, put, after}
use Rattle.chain_laws.specs.Named.{ten_key}
use Rattle.cache_laws.specs.Bins.{Bin}
use Rattle.cache_laws.specs.Good.{Task}
use Rattle.cache_laws.specs.Named.{no_bins}
use Rattle.use_laws.specs.Named.{fresh_pool, named_pool}
use Rattle.shelf_laws.specs.Shelves.{State}

abbrev pub fresh_state : Key → State
fresh_state k = record { pool = fresh_pool k; bins = no_bins; jobs = λ seat. Task.Away }

abbrev pub one_bin : Bin
one_bin = record {
  count = 1;
  used = 0;
  mean = 0;
  threshold = 0;
  get = 0;
  cleaned = 0;
  items = record { block = 6; age = 0 } ∷ [];
}

-- the bin's head says block 6, and its count one block
abbrev pub headed_words : Mem
headed_words = after ten_key named_pool.mem (Store (Word.CacheHead 1) 7)

abbrev pub shelf_words : Mem
shelf_words = after ten_key headed_words (Store (Word.CacheItems 1) 1)

abbrev pub putting : Task
putting = Task.Keeping 1 5 7 KeepAt.Lock

abbrev pub named_state : State
named_state = record {
  pool = record named_pool { mem = shelf_words };
  bins = put no_bins 1 one_bin;
  jobs = put (λ seat. Task.Away) 0 putting;
}

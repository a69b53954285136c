-- A new pool's bins, and a bin by name: that for blocks of two granules, with the blocks 5 and 3. Seat 1 is taking
-- block 5, which the bin's head leads to no more.
use Rattle.std.specs.Prelude.{ℕ, Some, None, [], ◌∷◌}
use Rattle.pool_words.specs.Words.{cache_locks, cache_heads, cache_items, cache_used, cache_means, cache_links}
use Rattle.pool_words.specs.Words.{cache_thresholds, cache_ages}
use Rattle.large_cache.specs.declared.get.Newest.{Newest}
use Rattle.large_cache.specs.declared.get.HitAt.{HitAt}
use Rattle.large_cache.specs.declared.get.GetAt.{GetAt}
use Rattle.large_cache.specs.declared.keep.KeepAt.{KeepAt}
use Rattle.large_cache.specs.declared.sweep.Cleanup.{Cleanup}
use Rattle.large_cache.specs.declared.sweep.Walk.{Walk}
use Rattle.large_cache.specs.declared.sweep.SweepAt.{SweepAt}
use Rattle.word_laws.specs.Memory.{Mem, put, write, fresh}
use Rattle.cache_laws.specs.Bins.{Item, Bin}
use Rattle.cache_laws.specs.Good.{Task}
use Rattle.cache_laws.specs.Uses.{Uses}

abbrev pub empty_bin : Bin
empty_bin = record { count = 0; used = 0; mean = 0; threshold = 0; get = 0; cleaned = 0; items = [] }

abbrev pub no_bins : ℕ → Bin
no_bins b = empty_bin

abbrev pub no_uses : Uses
no_uses = record { users = λ x. None; asked = λ seat. None }

abbrev pub newer : Item
newer = record { block = 5; age = 19 }

abbrev pub older : Item
older = record { block = 3; age = 14 }

abbrev pub two_bin : Bin
two_bin = record {
  count = 2;
  used = 7;
  mean = 4;
  threshold = 0;
  get = 0;
  cleaned = 0;
  items = newer ∷ older ∷ [];
}

abbrev pub named_bins : ℕ → Bin
named_bins = put no_bins 2 two_bin

-- the words of the bin, with its lock free
abbrev pub two_words : Mem
two_words =
    write (write (write (write
    (write (write (write (write fresh cache_heads 2 6) cache_items 2 2) cache_used 2 7) cache_means 2 4)
    cache_links 5 4) cache_links 3 0) cache_ages 5 19) cache_ages 3 14

abbrev pub named_words : Mem
named_words = write (write two_words cache_locks 2 2) cache_heads 2 4

abbrev pub named_newest : Newest
named_newest = record { items = 2; block = 5; link = 4; age = 19; mean = 4 }

abbrev pub taking : Task
taking = Task.Getting 2 30 (GetAt.Hit (HitAt.SetItems named_newest))

abbrev pub named_tasks : ℕ → Task
named_tasks = put (λ seat. Task.Away) 1 taking

-- two seats more: seat 2 puts block 4 into the empty bin 3, whose head does not lead to it yet, and seat 3 sweeps
-- bin 6, of whose blocks 8 stays and 7 goes
abbrev pub putting : Task
putting = Task.Keeping 3 40 4 (KeepAt.SetHead 0 None)

abbrev pub staying : Item
staying = record { block = 8; age = 29 }

abbrev pub going : Item
going = record { block = 7; age = 3 }

abbrev pub stale_bin : Bin
stale_bin = record {
  count = 2;
  used = 1;
  mean = 20;
  threshold = 0;
  get = 0;
  cleaned = 0;
  items = staying ∷ going ∷ [];
}

abbrev pub named_walk : Walk
named_walk = record { count = 2; threshold = 10; block = 7; kept = Some 8; stale = 1; newest = 3 }

abbrev pub sweeping : Task
sweeping = Task.Sweeping 6 30 Cleanup.Soft (7 ∷ []) (SweepAt.Cut named_walk)

abbrev pub busy_bins : ℕ → Bin
busy_bins = put named_bins 6 stale_bin

abbrev pub busy_words : Mem
busy_words =
    write (write (write (write (write (write (write (write (write (write (write
    named_words cache_locks 3 3) cache_ages 4 40) cache_locks 6 4) cache_heads 6 9) cache_items 6 2) cache_used 6 1)
    cache_means 6 20) cache_thresholds 6 10) cache_links 8 8) cache_ages 8 29) cache_ages 7 3

abbrev pub busy_tasks : ℕ → Task
busy_tasks = put (put named_tasks 2 putting) 3 sweeping

-- The course of a get, and what it learns.
use Rattle.std.specs.Prelude.{ℕ, ◌+◌, ◌-◌, cond, ◌==◌, Option, Some, None}
use Rattle.cache_ages.specs.Times.{span_between, mean_after_hit, threshold_after_miss}
use Rattle.pool_words.specs.declared.words.Word.{Word}
use Rattle.pool_words.specs.declared.actions.Action.{Action}
use Rattle.pool_words.specs.declared.actions.Action.TheVariants.{Load, Store, Exchange}
use Rattle.word_codes.specs.Links.{link_of}
use Rattle.word_codes.specs.Locks.{lock_word}
use Rattle.pool_types.specs.Sums.{capped}
use Rattle.large_cache.specs.declared.get.CacheCall.{CacheCall}
use Rattle.large_cache.specs.declared.get.HitAt.{HitAt}
use Rattle.large_cache.specs.declared.get.GetAt.{GetAt}
use Rattle.large_cache.specs.declared.get.GetNext.{GetNext}
use Rattle.large_cache.specs.declared.get.GetNext.TheVariants.{Goes, Waits, Took, Missed}

-- a get that takes a block
abbrev pub hit_course : CacheCall → HitAt → Action
hit_course c (HitAt.Link items block) = Load (Word.CacheLink block)
hit_course c (HitAt.Age items block link) = Load (Word.CacheAge block)
hit_course c (HitAt.Mean items block link age) = Load (Word.CacheMean c.granules)
hit_course c (HitAt.Pop newest) = Store (Word.CacheHead c.granules) newest.link
hit_course c (HitAt.SetItems newest) = Store (Word.CacheItems c.granules) (newest.items - 1)
hit_course c (HitAt.SetMean newest) =
    Store (Word.CacheMean c.granules) (mean_after_hit newest.mean (span_between newest.age c.time))

abbrev pub hit_learn : HitAt → ℕ → GetAt
hit_learn (HitAt.Link items block) f = GetAt.Hit (HitAt.Age items block f)
hit_learn (HitAt.Age items block link) f = GetAt.Hit (HitAt.Mean items block link f)
hit_learn (HitAt.Mean items block link age) f = GetAt.Hit (HitAt.Pop (record {
  items = items;
  block = block;
  link = link;
  age = age;
  mean = f;
}))
hit_learn (HitAt.Pop newest) f = GetAt.Hit (HitAt.SetItems newest)
hit_learn (HitAt.SetItems newest) f = GetAt.Hit (HitAt.SetMean newest)
hit_learn (HitAt.SetMean newest) f = GetAt.SetTime (Some newest.block)

abbrev pub get_course : CacheCall → GetAt → Action
get_course c GetAt.Lock = Exchange (Word.CacheLock c.granules) 0 (lock_word c.seat)
get_course c GetAt.Items = Load (Word.CacheItems c.granules)
get_course c (GetAt.Head items) = Load (Word.CacheHead c.granules)
get_course c (GetAt.Hit at) = hit_course c at
get_course c GetAt.Cleaned = Load (Word.CacheCleaned c.granules)
get_course c (GetAt.SetThreshold cleaned) =
    Store (Word.CacheThreshold c.granules) (threshold_after_miss 0 cleaned c.time)
get_course c GetAt.ClearCleaned = Store (Word.CacheCleaned c.granules) 0
get_course c (GetAt.SetTime block) = Store (Word.CacheGet c.granules) c.time
get_course c (GetAt.Used block) = Load (Word.CacheUsed c.granules)
get_course c (GetAt.SetUsed block used) = Store (Word.CacheUsed c.granules) (capped (used + 1))
get_course c (GetAt.Unlock block) = Store (Word.CacheLock c.granules) 0

-- a bin without a block misses
abbrev pub get_counted : ℕ → GetAt
get_counted items = cond (items == 0) GetAt.Cleaned (GetAt.Head items)

-- the newest block; where the head names none, the get misses
abbrev pub get_headed : ℕ → Option ℕ → GetAt
get_headed items (Some block) = GetAt.Hit (HitAt.Link items block)
get_headed items None = GetAt.Cleaned

-- a miss: the threshold changes where a block was released since the last one
abbrev pub get_cleaned : ℕ → GetAt
get_cleaned cleaned = cond (cleaned == 0) (GetAt.SetTime None) (GetAt.SetThreshold cleaned)

abbrev pub get_unlocked : Option ℕ → GetNext
get_unlocked (Some block) = Took block
get_unlocked None = Missed

abbrev pub get_learn : GetAt → ℕ → GetNext
get_learn GetAt.Lock f = cond (f == 0) (Goes GetAt.Items) Waits
get_learn GetAt.Items f = Goes (get_counted f)
get_learn (GetAt.Head items) f = Goes (get_headed items (link_of f))
get_learn (GetAt.Hit at) f = Goes (hit_learn at f)
get_learn GetAt.Cleaned f = Goes (get_cleaned f)
get_learn (GetAt.SetThreshold cleaned) f = Goes GetAt.ClearCleaned
get_learn GetAt.ClearCleaned f = Goes (GetAt.SetTime None)
get_learn (GetAt.SetTime block) f = Goes (GetAt.Used block)
get_learn (GetAt.Used block) f = Goes (GetAt.SetUsed block f)
get_learn (GetAt.SetUsed block used) f = Goes (GetAt.Unlock block)
get_learn (GetAt.Unlock block) f = get_unlocked block

-- The course of a put into a cache bin, and what it learns.
use Rattle.std.specs.Prelude.{ℕ, ◌+◌, ◌-◌, cond, ◌==◌, nat_le, Option, Some, None}
use Rattle.cache_ages.specs.Times.{most_items}
use Rattle.pool_words.specs.declared.words.Word.{Word}
use Rattle.pool_words.specs.declared.actions.Action.{Action}
use Rattle.pool_words.specs.declared.actions.Action.TheVariants.{Load, Store, Exchange}
use Rattle.word_codes.specs.Links.{link_of, link_word}
use Rattle.word_codes.specs.Locks.{lock_word}
use Rattle.pool_types.specs.Sums.{capped}
use Rattle.large_cache.specs.List.{cut_behind}
use Rattle.large_cache.specs.declared.keep.KeepCall.{KeepCall}
use Rattle.large_cache.specs.declared.keep.Tail.{Tail}
use Rattle.large_cache.specs.declared.keep.KeepAt.{KeepAt}
use Rattle.large_cache.specs.declared.keep.KeepNext.{KeepNext}
use Rattle.large_cache.specs.declared.keep.KeepNext.TheVariants.{Goes, Waits, Kept}

abbrev pub keep_course : KeepCall → KeepAt → Action
keep_course c KeepAt.Lock = Exchange (Word.CacheLock c.granules) 0 (lock_word c.seat)
keep_course c KeepAt.Items = Load (Word.CacheItems c.granules)
keep_course c (KeepAt.Head items) = Load (Word.CacheHead c.granules)
keep_course c (KeepAt.Walk tail) = Load (Word.CacheLink tail.block)
keep_course c (KeepAt.OldAge tail) = Load (Word.CacheAge tail.block)
keep_course c (KeepAt.Cut tail age) = cut_behind c.granules tail.before
keep_course c (KeepAt.SetCleaned tail age) = Store (Word.CacheCleaned c.granules) age
keep_course c (KeepAt.SetLink items head released) = Store (Word.CacheLink c.block) head
keep_course c (KeepAt.SetAge items released) = Store (Word.CacheAge c.block) c.time
keep_course c (KeepAt.SetHead items released) = Store (Word.CacheHead c.granules) (link_word (Some c.block))
keep_course c (KeepAt.SetItems items released) = Store (Word.CacheItems c.granules) (capped (items + 1))
keep_course c (KeepAt.Used released) = Load (Word.CacheUsed c.granules)
keep_course c (KeepAt.SetUsed released used) = Store (Word.CacheUsed c.granules) (used - 1)
keep_course c (KeepAt.Unlock released) = Store (Word.CacheLock c.granules) 0

-- a full bin releases its oldest block before the put; a list without a block has none to release
abbrev pub keep_headed : ℕ → ℕ → Option ℕ → KeepAt
keep_headed items head (Some block) = cond (nat_le most_items items)
    (KeepAt.Walk (record { head = head; before = None; block = block }))
    (KeepAt.SetLink items head None)
keep_headed items head None = KeepAt.SetLink items head None

abbrev pub keep_walked : Tail → Option ℕ → KeepAt
keep_walked tail (Some block) = KeepAt.Walk (record tail { before = Some tail.block; block = block })
keep_walked tail None = KeepAt.OldAge tail

-- the bin has room; where what was cut off was the only block, its list is empty
abbrev pub keep_released : Tail → Option ℕ → KeepAt
keep_released tail (Some before) = KeepAt.SetLink (most_items - 1) tail.head (Some tail.block)
keep_released tail None = KeepAt.SetLink (most_items - 1) 0 (Some tail.block)

abbrev pub keep_learn : KeepAt → ℕ → KeepNext
keep_learn KeepAt.Lock f = cond (f == 0) (Goes KeepAt.Items) Waits
keep_learn KeepAt.Items f = Goes (KeepAt.Head f)
keep_learn (KeepAt.Head items) f = Goes (keep_headed items f (link_of f))
keep_learn (KeepAt.Walk tail) f = Goes (keep_walked tail (link_of f))
keep_learn (KeepAt.OldAge tail) f = Goes (KeepAt.Cut tail f)
keep_learn (KeepAt.Cut tail age) f = Goes (KeepAt.SetCleaned tail age)
keep_learn (KeepAt.SetCleaned tail age) f = Goes (keep_released tail tail.before)
keep_learn (KeepAt.SetLink items head released) f = Goes (KeepAt.SetAge items released)
keep_learn (KeepAt.SetAge items released) f = Goes (KeepAt.SetHead items released)
keep_learn (KeepAt.SetHead items released) f = Goes (KeepAt.SetItems items released)
keep_learn (KeepAt.SetItems items released) f = Goes (KeepAt.Used released)
keep_learn (KeepAt.Used released) f = Goes (KeepAt.SetUsed released f)
keep_learn (KeepAt.SetUsed released used) f = Goes (KeepAt.Unlock released)
keep_learn (KeepAt.Unlock released) f = Kept released

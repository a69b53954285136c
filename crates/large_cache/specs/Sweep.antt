-- The course of a sweep of a cache bin, and what it learns.
use Rattle.std.specs.Prelude.{ℕ, ◌+◌, ◌-◌, Bool, true, cond, ◌==◌, Option, Some, None}
use Rattle.cache_ages.specs.Times.{regular_threshold, soft_threshold, is_stale}
use Rattle.pool_words.specs.declared.words.Word.{Word}
use Rattle.pool_words.specs.declared.actions.Action.{Action}
use Rattle.pool_words.specs.declared.actions.Action.TheVariants.{Load, Store, Exchange}
use Rattle.word_codes.specs.Links.{link_of}
use Rattle.word_codes.specs.Locks.{lock_word}
use Rattle.pool_types.specs.Sums.{capped}
use Rattle.large_cache.specs.List.{cut_behind}
use Rattle.large_cache.specs.declared.sweep.Cleanup.{Cleanup}
use Rattle.large_cache.specs.declared.sweep.Cleanup.TheVariants.{Regular, Soft, Hard}
use Rattle.large_cache.specs.declared.sweep.SweepCall.{SweepCall}
use Rattle.large_cache.specs.declared.sweep.Walk.{Walk}
use Rattle.large_cache.specs.declared.sweep.JudgeAt.{JudgeAt}
use Rattle.large_cache.specs.declared.sweep.SweepAt.{SweepAt}
use Rattle.large_cache.specs.declared.sweep.SweepNext.{SweepNext}
use Rattle.large_cache.specs.declared.sweep.SweepNext.TheVariants.{Goes, Stays, Stale, Waits, Began, Passed, Swept}

abbrev pub judge_course : ℕ → JudgeAt → Action
judge_course granules (JudgeAt.Threshold count) = Load (Word.CacheThreshold granules)
judge_course granules (JudgeAt.Mean count threshold) = Load (Word.CacheMean granules)
judge_course granules (JudgeAt.Get count threshold mean) = Load (Word.CacheGet granules)
judge_course granules (JudgeAt.Used count threshold mean get) = Load (Word.CacheUsed granules)

abbrev pub sweep_course : SweepCall → SweepAt → Action
sweep_course c SweepAt.Clock = Load Word.Clock
sweep_course c SweepAt.Peek = Load (Word.CacheItems c.granules)
sweep_course c SweepAt.Lock = Exchange (Word.CacheLock c.granules) 0 (lock_word c.seat)
sweep_course c SweepAt.Items = Load (Word.CacheItems c.granules)
sweep_course c (SweepAt.Judge at) = judge_course c.granules at
sweep_course c (SweepAt.SetThreshold count threshold) = Store (Word.CacheThreshold c.granules) threshold
sweep_course c (SweepAt.Head count threshold) = Load (Word.CacheHead c.granules)
sweep_course c (SweepAt.Age walk) = Load (Word.CacheAge walk.block)
sweep_course c (SweepAt.Link walk) = Load (Word.CacheLink walk.block)
sweep_course c (SweepAt.Cut walk) = cut_behind c.granules walk.kept
sweep_course c (SweepAt.SetItems walk) = Store (Word.CacheItems c.granules) (walk.count - walk.stale)
sweep_course c (SweepAt.SetCleaned walk) = Store (Word.CacheCleaned c.granules) walk.newest
sweep_course c SweepAt.Unlock = Store (Word.CacheLock c.granules) 0

-- what a cleanup looks at first of a bin with blocks; a hard one asks for no number
abbrev pub sweep_begun : Cleanup → ℕ → SweepAt
sweep_begun Regular count = SweepAt.Judge (JudgeAt.Threshold count)
sweep_begun Soft count = SweepAt.Judge (JudgeAt.Threshold count)
sweep_begun Hard count = SweepAt.Head count 0

abbrev pub sweep_counted : Cleanup → ℕ → SweepAt
sweep_counted cleanup count = cond (count == 0) SweepAt.Unlock (sweep_begun cleanup count)

-- the threshold is stored where it changes
abbrev pub sweep_set : ℕ → ℕ → ℕ → SweepAt
sweep_set count old threshold =
    cond (threshold == old) (SweepAt.Head count threshold) (SweepAt.SetThreshold count threshold)

abbrev pub sweep_meant : Cleanup → ℕ → ℕ → ℕ → SweepAt
sweep_meant Regular count threshold mean = SweepAt.Judge (JudgeAt.Get count threshold mean)
sweep_meant Soft count threshold mean = sweep_set count threshold (soft_threshold threshold mean)
sweep_meant Hard count threshold mean = SweepAt.Head count threshold

abbrev pub judge_learn : SweepCall → JudgeAt → ℕ → SweepAt
judge_learn c (JudgeAt.Threshold count) f = SweepAt.Judge (JudgeAt.Mean count f)
judge_learn c (JudgeAt.Mean count threshold) f = sweep_meant c.cleanup count threshold f
judge_learn c (JudgeAt.Get count threshold mean) f = SweepAt.Judge (JudgeAt.Used count threshold mean f)
judge_learn c (JudgeAt.Used count threshold mean get) f = sweep_set count threshold (regular_threshold (record {
  count = count;
  used = f;
  mean = mean;
  threshold = threshold;
  get = get;
}) c.time)

-- the walk from the newest block on
abbrev pub sweep_headed : ℕ → ℕ → Option ℕ → SweepAt
sweep_headed count threshold (Some block) = SweepAt.Age (record {
  count = count;
  threshold = threshold;
  block = block;
  kept = None;
  stale = 0;
  newest = 0;
})
sweep_headed count threshold None = SweepAt.Unlock

-- a block that came then goes; in a hard cleanup each does
abbrev pub sweep_is_stale : Cleanup → ℕ → ℕ → ℕ → Bool
sweep_is_stale Regular time threshold age = is_stale threshold time age
sweep_is_stale Soft time threshold age = is_stale threshold time age
sweep_is_stale Hard time threshold age = true

-- one more that goes; the first of them is the newest
abbrev pub with_stale : Walk → ℕ → Walk
with_stale walk age = record walk { stale = capped (walk.stale + 1); newest = cond (walk.stale == 0) age walk.newest }

-- one that stays, and so do all before it
abbrev pub with_kept : Walk → Walk
with_kept walk = record walk { kept = Some walk.block; stale = 0 }

abbrev pub sweep_aged : SweepCall → Walk → ℕ → SweepNext
sweep_aged c walk age = cond (sweep_is_stale c.cleanup c.time walk.threshold age)
    (Stale walk.block (SweepAt.Link (with_stale walk age)))
    (Stays (SweepAt.Link (with_kept walk)))

abbrev pub sweep_walked : Walk → Option ℕ → SweepAt
sweep_walked walk (Some block) = SweepAt.Age (record walk { block = block })
sweep_walked walk None = cond (walk.stale == 0) SweepAt.Unlock (SweepAt.Cut walk)

abbrev pub sweep_learn : SweepCall → SweepAt → ℕ → SweepNext
sweep_learn c SweepAt.Clock f = Began f
sweep_learn c SweepAt.Peek f = cond (f == 0) Passed (Goes SweepAt.Lock)
sweep_learn c SweepAt.Lock f = cond (f == 0) (Goes SweepAt.Items) Waits
sweep_learn c SweepAt.Items f = Goes (sweep_counted c.cleanup f)
sweep_learn c (SweepAt.Judge at) f = Goes (judge_learn c at f)
sweep_learn c (SweepAt.SetThreshold count threshold) f = Goes (SweepAt.Head count threshold)
sweep_learn c (SweepAt.Head count threshold) f = Goes (sweep_headed count threshold (link_of f))
sweep_learn c (SweepAt.Age walk) f = sweep_aged c walk f
sweep_learn c (SweepAt.Link walk) f = Goes (sweep_walked walk (link_of f))
sweep_learn c (SweepAt.Cut walk) f = Goes (SweepAt.SetItems walk)
sweep_learn c (SweepAt.SetItems walk) f = Goes (SweepAt.SetCleaned walk)
sweep_learn c (SweepAt.SetCleaned walk) f = Goes SweepAt.Unlock
sweep_learn c SweepAt.Unlock f = Swept

-- What each operation does to a cache bin, as arithmetic on its numbers and on the list of its ages.
use Rattle.std.specs.Prelude.{ℕ, ◌+◌, ◌-◌, ◌^◌, ◌<◌, ◌==◌, if◌then◌else◌, true, false, List, [], ◌∷◌, length, take, slice_index}
use Rattle.std.specs.List.{suffix_len}
use Rattle.arrayvec.specs.ArrayVec.{ArrayVec}
use Rattle.cache_ages.specs.declared.CacheNumbers.{CacheNumbers}
use Rattle.cache_ages.specs.declared.CacheOp.{CacheOp}
use Rattle.cache_ages.specs.declared.CacheOp.TheVariants.{Get, Put, Undo, Regular, Soft, Hard}
use Rattle.cache_ages.specs.declared.CacheStep.{CacheStep}
use Rattle.cache_ages.specs.declared.times.Usage.{Usage}
use Rattle.cache_ages.specs.Times.{span_between, mean_after_hit, threshold_after_miss, regular_threshold, soft_threshold, is_stale}

-- these ages, newest first
abbrev pub copied : List ℕ → ArrayVec ℕ
copied ages = record { items = ages }

-- the numbers, where nothing was taken and nothing released
abbrev pub unchanged : CacheNumbers → CacheStep
unchanged numbers = record { numbers = numbers; taken = false; released = 0 }

-- a Get takes the newest item; the mean follows how long it lay there
abbrev pub after_hit : CacheNumbers → ℕ → ℕ → List ℕ → CacheStep
after_hit numbers time newest older = record {
  numbers = record numbers {
    used = numbers.used + 1;
    mean = mean_after_hit numbers.mean (span_between newest time);
    get = time;
    ages = copied older;
  };
  taken = true;
  released = 0;
}

-- a Get that finds no item; where one was released before, the threshold follows how long ago
abbrev pub after_miss : CacheNumbers → ℕ → CacheStep
after_miss numbers time = unchanged (record numbers {
  used = numbers.used + 1;
  threshold = threshold_after_miss numbers.threshold numbers.cleaned time;
  get = time;
  cleaned = 0;
})

-- a Get, at these ages
abbrev pub after_get : CacheNumbers → ℕ → List ℕ → CacheStep
after_get numbers time (newest ∷ older) = after_hit numbers time newest older
after_get numbers time [] = after_miss numbers time

-- a Put where there is room: the item goes in front
abbrev pub after_put_in : CacheNumbers → ℕ → List ℕ → CacheStep
after_put_in numbers time ages =
    unchanged (record numbers { used = numbers.used - 1; ages = copied (time ∷ ages) })

-- a Put into a full bin: the oldest is released first
abbrev pub after_put_over : CacheNumbers → ℕ → List ℕ → CacheStep
after_put_over numbers time ages = record {
  numbers = record numbers {
    used = numbers.used - 1;
    cleaned = slice_index ages 63;
    ages = copied (time ∷ take 63 ages);
  };
  taken = false;
  released = 1;
}

-- a Put, at these ages
abbrev pub after_put : CacheNumbers → ℕ → List ℕ → CacheStep
after_put numbers time ages =
    if length ages == 64 then after_put_over numbers time ages else after_put_in numbers time ages

-- a Get that missed is taken back
abbrev pub after_undo : CacheNumbers → CacheStep
after_undo numbers = unchanged (record numbers { used = numbers.used - 1 })

-- what a regular cleanup judges the bin by, at these ages
abbrev pub usage_of : CacheNumbers → List ℕ → Usage
usage_of numbers ages = record {
  count = length ages;
  used = numbers.used;
  mean = numbers.mean;
  threshold = numbers.threshold;
  get = numbers.get;
}

-- how many of the oldest are above the threshold, up to the first from the end that is not
abbrev pub count_stale : ℕ → ℕ → List ℕ → ℕ
count_stale threshold time ages = suffix_len (λ age. is_stale threshold time age) ages

-- the `count` oldest are released; `cleaned` becomes the age of the one of them nearest the front
abbrev pub after_release : CacheNumbers → ℕ → List ℕ → CacheStep
after_release numbers count ages = record {
  numbers = record numbers {
    cleaned = if count == 0 then numbers.cleaned else slice_index ages (length ages - count);
    ages = copied (take (length ages - count) ages);
  };
  taken = false;
  released = count;
}

-- a cleanup that comes to this threshold releases what is above it
abbrev pub after_cleanup : CacheNumbers → ℕ → ℕ → List ℕ → CacheStep
after_cleanup numbers threshold time ages =
    after_release (record numbers { threshold = threshold }) (count_stale threshold time ages) ages

-- a regular cleanup, at these ages
abbrev pub after_regular : CacheNumbers → ℕ → List ℕ → CacheStep
after_regular numbers time (newest ∷ older) =
    after_cleanup numbers (regular_threshold (usage_of numbers (newest ∷ older)) time) time (newest ∷ older)
after_regular numbers time [] = unchanged numbers

-- a soft cleanup, at these ages
abbrev pub after_soft : CacheNumbers → ℕ → List ℕ → CacheStep
after_soft numbers time (newest ∷ older) =
    after_cleanup numbers (soft_threshold numbers.threshold numbers.mean) time (newest ∷ older)
after_soft numbers time [] = unchanged numbers

-- a hard cleanup releases all; `cleaned` becomes the age of the newest
abbrev pub after_hard : CacheNumbers → List ℕ → CacheStep
after_hard numbers (newest ∷ older) = record {
  numbers = record numbers { cleaned = newest; ages = copied [] };
  taken = false;
  released = length older + 1;
}
after_hard numbers [] = unchanged numbers

-- what an operation at a time does to a bin
abbrev pub cache_step : CacheNumbers → CacheOp → ℕ → CacheStep
cache_step numbers Get time = after_get numbers time numbers.ages.items
cache_step numbers Put time = after_put numbers time numbers.ages.items
cache_step numbers Undo time = after_undo numbers
cache_step numbers Regular time = after_regular numbers time numbers.ages.items
cache_step numbers Soft time = after_soft numbers time numbers.ages.items
cache_step numbers Hard time = after_hard numbers numbers.ages.items

-- what an operation needs of the number of blocks in use: that it can rise, or that it can fall
abbrev pub CanStep : CacheOp → ℕ → Type 0
CanStep Get used = used < 2 ^ 64 - 1
CanStep Put used = 0 < used
CanStep Undo used = 0 < used
CanStep Regular used = Unit {0}
CanStep Soft used = Unit {0}
CanStep Hard used = Unit {0}

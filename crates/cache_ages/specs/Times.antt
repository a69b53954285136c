-- The arithmetic of ages, means and thresholds, on plain numbers. Times and their differences wrap; means, thresholds
-- and products are numbers without bound, and a threshold that is set ends at 2 ^ 64 - 1.
use Rattle.std.specs.Prelude.{ℕ, ◌+◌, ◌-◌, ◌*◌, ◌/◌, ◌%◌, ◌^◌, ◌==◌, nat_lt, min, Bool, if◌then◌else◌}
use Rattle.cache_ages.specs.declared.times.Usage.{Usage}

-- how many items a bin has at most
abbrev pub most_items : ℕ
most_items = 64

-- how many times the time since a release the threshold becomes at a Get that misses
abbrev pub miss_factor : ℕ
miss_factor = 2

-- at more items than this many times the blocks in use a bin is large
abbrev pub large_factor : ℕ
large_factor = 2

-- after more than this many times the threshold without a Get a bin has waited long
abbrev pub wait_factor : ℕ
wait_factor = 16

-- the time from `earlier` to `time`, which wraps
abbrev pub span_between : ℕ → ℕ → ℕ
span_between earlier time = (time + (2 ^ 64 - earlier)) % 2 ^ 64

-- the half of a sum, rounded down
abbrev pub half_of_sum : ℕ → ℕ → ℕ
half_of_sum a b = (a + b) / 2

-- the mean, where an item was taken that lay here for so long; 0 says that none was taken before
abbrev pub mean_after_hit : ℕ → ℕ → ℕ
mean_after_hit mean lay = if mean == 0 then lay else half_of_sum mean lay

-- the threshold, where a Get missed; `cleaned` is the age of the item released last, and 0 says that there was none
abbrev pub threshold_after_miss : ℕ → ℕ → ℕ → ℕ
threshold_after_miss threshold cleaned time =
    if cleaned == 0 then threshold else min (miss_factor * span_between cleaned time) (2 ^ 64 - 1)

-- a regular cleanup forgets the threshold of a bin that has waited long
abbrev pub waited_threshold : Usage → ℕ → ℕ
waited_threshold usage time =
    if nat_lt (wait_factor * usage.threshold) (span_between usage.get time) then 0 else usage.threshold

-- and then brings that of a large bin halfway to the mean
abbrev pub regular_threshold : Usage → ℕ → ℕ
regular_threshold usage time =
    if nat_lt (large_factor * usage.used) usage.count
    then half_of_sum (waited_threshold usage time) usage.mean
    else waited_threshold usage time

-- a soft cleanup brings the threshold halfway to the mean
abbrev pub soft_threshold : ℕ → ℕ → ℕ
soft_threshold threshold mean = half_of_sum threshold mean

-- an item of this age has lain here for longer than the threshold
abbrev pub is_stale : ℕ → ℕ → ℕ → Bool
is_stale threshold time age = nat_lt threshold (span_between age time)

-- The cache of empty slabs.
use Rattle.std.specs.Prelude.{ℕ, ◌-◌, ◌+◌, cond, ltb, length}
use Rattle.heap_slabs.specs.Rolls.{Rolled, empty_roll}

-- a cache with more slabs than the high mark gives up its oldest ones, down to the low mark
abbrev pub low_mark : ℕ
low_mark = 8

abbrev pub high_mark : ℕ
high_mark = 32

abbrev pub empty_cache : Rolled ℕ
empty_cache = empty_roll (high_mark + 1)

-- how many of its oldest slabs a cache has to give up
abbrev pub surplus_of : Rolled ℕ → ℕ
surplus_of cached = cond (ltb high_mark (length cached.items)) (length cached.items - low_mark) 0

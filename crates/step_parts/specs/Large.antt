-- Large objects, and blocks that go into the cache of large blocks and out of it.
use Rattle.std.specs.Prelude.{ℕ}
use Rattle.part_model.specs.declared.holders.Holder.{Holder}
use Rattle.backend_bins.specs.Blocks.{block}
use Rattle.large_cache.specs.declared.get.GetAt.{GetAt}
use Rattle.large_cache.specs.declared.get.HitAt.{HitAt}
use Rattle.large_cache.specs.declared.keep.KeepAt.{KeepAt}
use Rattle.large_cache.specs.declared.sweep.SweepAt.{SweepAt}
use Rattle.step_local.specs.declared.frames.LargeAt.{LargeAt}
use Rattle.step_local.specs.declared.frames.Local.{Local}
use Rattle.step_local.specs.Large.{cache_call}
use Rattle.word_parts.specs.declared.shifts.Moved.{Moved}
use Rattle.word_parts.specs.Shifts.{block_moved, cached_in}
use Rattle.step_parts.specs.Objects.{large_granted}

-- a block of a cache bin comes into the hand
abbrev pub uncached : ℕ → ℕ → ℕ → Moved
uncached first granules seat = block_moved (block first granules) (cached_in granules) (Holder.Hand seat)

-- a large object is granted
abbrev pub large_moved : Local → LargeAt → Moved
large_moved l LargeAt.Tick = Moved.Nothing
large_moved l (LargeAt.Kind unit) = Moved.Nothing
large_moved l (LargeAt.Grant unit) = large_granted l unit

abbrev pub hit_moved : Local → HitAt → Moved
hit_moved l (HitAt.Link items first) = Moved.Nothing
hit_moved l (HitAt.Age items first link) = Moved.Nothing
hit_moved l (HitAt.Mean items first link age) = Moved.Nothing
hit_moved l (HitAt.Pop newest) = uncached newest.block (cache_call l).granules l.seat
hit_moved l (HitAt.SetItems newest) = Moved.Nothing
hit_moved l (HitAt.SetMean newest) = Moved.Nothing

-- the newest block of a cache bin is taken
abbrev pub get_moved : Local → GetAt → Moved
get_moved l GetAt.Lock = Moved.Nothing
get_moved l GetAt.Items = Moved.Nothing
get_moved l (GetAt.Head items) = Moved.Nothing
get_moved l (GetAt.Hit at) = hit_moved l at
get_moved l GetAt.Cleaned = Moved.Nothing
get_moved l (GetAt.SetThreshold cleaned) = Moved.Nothing
get_moved l GetAt.ClearCleaned = Moved.Nothing
get_moved l (GetAt.SetTime got) = Moved.Nothing
get_moved l (GetAt.Used got) = Moved.Nothing
get_moved l (GetAt.SetUsed got used) = Moved.Nothing
get_moved l (GetAt.Unlock got) = Moved.Nothing

-- a block is cached, and the oldest one is released where there are too many
abbrev pub keep_moved : Local → KeepAt → Moved
keep_moved l KeepAt.Lock = Moved.Nothing
keep_moved l KeepAt.Items = Moved.Nothing
keep_moved l (KeepAt.Head items) = Moved.Nothing
keep_moved l (KeepAt.Walk tail) = Moved.Nothing
keep_moved l (KeepAt.OldAge tail) = Moved.Nothing
keep_moved l (KeepAt.Cut tail age) = uncached tail.block l.call.block.granules l.seat
keep_moved l (KeepAt.SetCleaned tail age) = Moved.Nothing
keep_moved l (KeepAt.SetLink items head released) = Moved.Nothing
keep_moved l (KeepAt.SetAge items released) = Moved.Nothing
keep_moved l (KeepAt.SetHead items released) =
    block_moved l.call.block (Holder.Hand l.seat) (cached_in l.call.block.granules)
keep_moved l (KeepAt.SetItems items released) = Moved.Nothing
keep_moved l (KeepAt.Used released) = Moved.Nothing
keep_moved l (KeepAt.SetUsed released used) = Moved.Nothing
keep_moved l (KeepAt.Unlock released) = Moved.Nothing

-- the blocks of a cache bin that have lain there too long are cut off
abbrev pub sweep_moved : Local → SweepAt → Moved
sweep_moved l SweepAt.Clock = Moved.Nothing
sweep_moved l SweepAt.Peek = Moved.Nothing
sweep_moved l SweepAt.Lock = Moved.Nothing
sweep_moved l SweepAt.Items = Moved.Nothing
sweep_moved l (SweepAt.Judge at) = Moved.Nothing
sweep_moved l (SweepAt.SetThreshold count threshold) = Moved.Nothing
sweep_moved l (SweepAt.Head count threshold) = Moved.Nothing
sweep_moved l (SweepAt.Age walk) = Moved.Nothing
sweep_moved l (SweepAt.Link walk) = Moved.Nothing
sweep_moved l (SweepAt.Cut walk) = Moved.Cut l.sweep.granules walk.kept
sweep_moved l (SweepAt.SetItems walk) = Moved.Nothing
sweep_moved l (SweepAt.SetCleaned walk) = Moved.Nothing
sweep_moved l SweepAt.Unlock = Moved.Nothing

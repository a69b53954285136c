-- Large objects: ticks, the cache, cleanups, and where an object lies in its block.
use Rattle.std.specs.Prelude.{ℕ, ◌+◌, ◌-◌, ◌*◌, ◌/◌, ◌%◌, ◌^◌, true, false, cond, eqb, ltb, [], Option, Some, None}
use Rattle.pool_types.specs.Geometry.{line_bytes}
use Rattle.pool_types.specs.declared.values.Awaited.{Awaited}
use Rattle.pool_types.specs.declared.values.NullCause.{NullCause}
use Rattle.pool_types.specs.declared.values.Answer.{Answer}
use Rattle.pool_types.specs.declared.values.Turn.{Turn}
use Rattle.word_codes.specs.RegionWords.{region_of, has_granule, large_unit}
use Rattle.backend_bins.specs.declared.blocks.Block.{Block}
use Rattle.coalescer.specs.declared.drain.DrainAt.{DrainAt}
use Rattle.heap_slabs.specs.declared.records.HeapSlab.{HeapSlab}
use Rattle.heap_slabs.specs.declared.slabs.Wanted.{Wanted}
use Rattle.heap_slabs.specs.Records.{unit_of}
use Rattle.heap_slabs.specs.Rolls.{Rolled, after_push, newest_of, without_newest}
use Rattle.heap_slabs.specs.Slabs.{record_at, first_from}
use Rattle.large_cache.specs.declared.get.CacheCall.{CacheCall}
use Rattle.large_cache.specs.declared.get.GetAt.{GetAt}
use Rattle.large_cache.specs.declared.get.GetNext.{GetNext}
use Rattle.large_cache.specs.Get.{get_learn}
use Rattle.large_cache.specs.declared.keep.KeepAt.{KeepAt}
use Rattle.large_cache.specs.declared.keep.KeepCall.{KeepCall}
use Rattle.large_cache.specs.declared.keep.KeepNext.{KeepNext}
use Rattle.large_cache.specs.Keep.{keep_learn}
use Rattle.large_cache.specs.declared.undo.UndoAt.{UndoAt}
use Rattle.large_cache.specs.declared.undo.UndoNext.{UndoNext}
use Rattle.large_cache.specs.Undo.{undo_learn}
use Rattle.large_cache.specs.declared.sweep.Cleanup.{Cleanup}
use Rattle.large_cache.specs.declared.sweep.SweepAt.{SweepAt}
use Rattle.large_cache.specs.declared.sweep.SweepCall.{SweepCall}
use Rattle.large_cache.specs.declared.sweep.SweepNext.{SweepNext}
use Rattle.large_cache.specs.Sweep.{sweep_learn}
use Rattle.step_local.specs.declared.frames.At.{At}
use Rattle.step_local.specs.declared.frames.LargeAt.{LargeAt}
use Rattle.step_local.specs.declared.frames.Local.{Local}
use Rattle.step_local.specs.declared.frames.LocateAt.{LocateAt}
use Rattle.step_local.specs.declared.frames.PutFor.{PutFor}
use Rattle.step_local.specs.declared.frames.Served.{Served}
use Rattle.step_local.specs.declared.frames.SmallAt.{SmallAt}
use Rattle.step_local.specs.declared.frames.Stage.{Stage}
use Rattle.step_local.specs.Frames.{last_cache_bin}
use Rattle.step_local.specs.Answers.{gone, waiting, answered, ended, got}
use Rattle.step_local.specs.Leaving.{putting, asking}
use Rattle.step_local.specs.Slabs.{locating}

-- the granules of the block that is got, and the alignment of its object
abbrev pub granules_of_served : Served → ℕ
granules_of_served (Served.Small class) = 0
granules_of_served (Served.Large granules alignment) = granules

abbrev pub alignment_of_served : Served → ℕ
alignment_of_served (Served.Small class) = line_bytes
alignment_of_served (Served.Large granules alignment) = alignment

-- at each tick that is a multiple of this a regular cleanup is made
abbrev pub cleanup_ticks : ℕ
cleanup_ticks = 256

-- all blocks of the cache are looked through, from the bin of one granule on
abbrev pub sweeping : Local → Cleanup → SweepAt → Local × Turn
sweeping l cleanup at = gone (record l {
  sweep = record { cleanup = cleanup; granules = 1; time = l.call.time };
}) (At.Sweep at)

-- the cache has been asked, or has taken a block, with the cleanup that was due
abbrev pub got_block : Local → Local × Turn
got_block l = cond l.call.missed
    (asking l (record { granules = granules_of_served l.call.served; slab = false }))
    (locating l)

abbrev pub cached_at : Local → Stage → Local × Turn
cached_at l Stage.Getting = got_block l
cached_at l Stage.Idle = ended l
cached_at l Stage.Looking = ended l
cached_at l Stage.Ending = ended l
cached_at l Stage.Replacing = ended l
cached_at l Stage.Undoing = ended l
cached_at l Stage.Leaving = ended l
cached_at l (Stage.Resetting stage) = ended l

abbrev pub cached : Local → Local × Turn
cached l = cached_at l l.call.stage

-- a regular cleanup, where it is due
abbrev pub ticked : Local → Local × Turn
ticked l = cond (eqb (l.call.time % cleanup_ticks) 0) (sweeping l Cleanup.Regular SweepAt.Peek) (cached l)

-- a cleanup is done: a call that could not have a block empties the queue, and scans again
abbrev pub swept : Local → Cleanup → Local × Turn
swept l Cleanup.Regular = cached l
swept l Cleanup.Soft = gone l (At.Drain DrainAt.Swap)
swept l Cleanup.Hard = gone l (At.Drain DrainAt.Swap)

abbrev pub unused_next : Local → Option HeapSlab → Local × Turn
unused_next l (Some kept) = gone l (At.Small (SmallAt.Empty kept.slab))
unused_next l None = swept l l.sweep.cleanup

-- a hard cleanup goes on with the heap's cached slabs, and then with its slabs without a held object
abbrev pub emptying_by : Local → Option ℕ → Local × Turn
emptying_by l (Some slab) = gone l (At.Small (SmallAt.Newest slab))
emptying_by l None = unused_next l (first_from Wanted.Unused l.heap.slabs 0)

abbrev pub emptying : Local → Local × Turn
emptying l = emptying_by l (newest_of l.heap.cached)

abbrev pub bins_swept : Local → Cleanup → Local × Turn
bins_swept l Cleanup.Regular = swept l Cleanup.Regular
bins_swept l Cleanup.Soft = swept l Cleanup.Soft
bins_swept l Cleanup.Hard = emptying l

-- the next bin
abbrev pub next_bin : Local → Local × Turn
next_bin l = cond (ltb l.sweep.granules last_cache_bin)
    (gone (record l { sweep = record l.sweep { granules = l.sweep.granules + 1 } }) (At.Sweep SweepAt.Peek))
    (bins_swept l l.sweep.cleanup)

-- what was released is put, the oldest first, before the next bin is looked at
abbrev pub releasing_by : Local → Option ℕ → Local × Turn
releasing_by l (Some block) = putting (record l { released = without_newest l.released }) PutFor.Swept
    (record { first = block; granules = l.sweep.granules })
releasing_by l None = next_bin l

abbrev pub releasing : Local → Local × Turn
releasing l = releasing_by l (newest_of l.released)

abbrev pub sweep_call : Local → SweepCall
sweep_call l = record {
  seat = l.seat;
  granules = l.sweep.granules;
  time = l.sweep.time;
  cleanup = l.sweep.cleanup;
}

-- no block is released
abbrev pub none_released : Rolled ℕ → Rolled ℕ
none_released released = record released { items = [] }

abbrev pub swept_as : Local → SweepAt → SweepNext → Local × Turn
swept_as l at (SweepNext.Goes next) = gone l (At.Sweep next)
swept_as l at (SweepNext.Stays next) = gone (record l { released = none_released l.released }) (At.Sweep next)
swept_as l at (SweepNext.Stale block next) =
    gone (record l { released = after_push l.released block }) (At.Sweep next)
swept_as l at SweepNext.Waits = waiting l (At.Sweep at) (Awaited.CacheLock (l.sweep.granules % 2 ^ 16))
swept_as l at (SweepNext.Began time) =
    gone (record l { sweep = record l.sweep { time = time } }) (At.Sweep SweepAt.Peek)
swept_as l at SweepNext.Passed = next_bin l
swept_as l at SweepNext.Swept = releasing l

abbrev pub sweep_learn_of : Local → SweepAt → ℕ → Local × Turn
sweep_learn_of l at f = swept_as l at (sweep_learn (sweep_call l) at f)

-- a get of a block, and its undoing
abbrev pub cache_call : Local → CacheCall
cache_call l = record { seat = l.seat; granules = granules_of_served l.call.served; time = l.call.time }

abbrev pub get_as : Local → GetAt → GetNext → Local × Turn
get_as l at (GetNext.Goes next) = gone l (At.Get next)
get_as l at GetNext.Waits =
    waiting l (At.Get at) (Awaited.CacheLock (granules_of_served l.call.served % 2 ^ 16))
get_as l at (GetNext.Took block) = ticked (record l {
  call = record l.call {
    missed = false;
    block = record { first = block; granules = granules_of_served l.call.served };
  };
})
get_as l at GetNext.Missed = ticked (record l { call = record l.call { missed = true } })

abbrev pub get_learn_of : Local → GetAt → ℕ → Local × Turn
get_learn_of l at f = get_as l at (get_learn at f)

abbrev pub undo_as : Local → NullCause → UndoAt → UndoNext → Local × Turn
undo_as l cause at (UndoNext.Goes next) = gone l (At.Undo cause next)
undo_as l cause at UndoNext.Waits =
    waiting l (At.Undo cause at) (Awaited.CacheLock (granules_of_served l.call.served % 2 ^ 16))
undo_as l cause at UndoNext.Undone = answered l (Answer.Null cause)

abbrev pub undo_learn_of : Local → NullCause → UndoAt → ℕ → Local × Turn
undo_learn_of l cause at f = undo_as l cause at (undo_learn at f)

-- the put of the block of an object that was freed
abbrev pub keep_call : Local → KeepCall
keep_call l = record {
  seat = l.seat;
  granules = l.call.block.granules;
  time = l.call.time;
  block = l.call.block.first;
}

abbrev pub kept_as : Local → Option ℕ → Local × Turn
kept_as l (Some block) = putting l PutFor.Released (record { first = block; granules = l.call.block.granules })
kept_as l None = ticked l

abbrev pub keep_as : Local → KeepAt → KeepNext → Local × Turn
keep_as l at (KeepNext.Goes next) = gone l (At.Keep next)
keep_as l at KeepNext.Waits = waiting l (At.Keep at) (Awaited.CacheLock (l.call.block.granules % 2 ^ 16))
keep_as l at (KeepNext.Kept released) = kept_as l released

abbrev pub keep_learn_of : Local → KeepAt → ℕ → Local × Turn
keep_learn_of l at f = keep_as l at (keep_learn at f)

abbrev pub tick_at : Local → Stage → Local × Turn
tick_at l Stage.Getting = gone l (At.Get GetAt.Lock)
tick_at l Stage.Idle = gone l (At.Keep KeepAt.Lock)
tick_at l Stage.Looking = gone l (At.Keep KeepAt.Lock)
tick_at l Stage.Ending = gone l (At.Keep KeepAt.Lock)
tick_at l Stage.Replacing = gone l (At.Keep KeepAt.Lock)
tick_at l Stage.Undoing = gone l (At.Keep KeepAt.Lock)
tick_at l Stage.Leaving = gone l (At.Keep KeepAt.Lock)
tick_at l (Stage.Resetting stage) = gone l (At.Keep KeepAt.Lock)

abbrev pub large_learn : Local → LargeAt → ℕ → Local × Turn
large_learn l LargeAt.Tick f =
    tick_at (record l { call = record l.call { time = (f + 1) % 2 ^ 64 } }) l.call.stage
large_learn l (LargeAt.Kind unit) f = gone l (At.Large (LargeAt.Grant unit))
large_learn l (LargeAt.Grant unit) f = got l unit

-- where a slab's next object is: its newest private one, or in its rest
abbrev pub object_at : Local → ℕ → Option ℕ → ℕ → Local × Turn
object_at l slab (Some head) unit = gone l (At.Small (SmallAt.Behind slab head))
object_at l slab None unit = gone l (At.Small (SmallAt.Rest slab unit))

abbrev pub object_in : Local → ℕ → Option HeapSlab → Local × Turn
object_in l slab (Some kept) = object_at l slab kept.head (unit_of slab kept.class kept.handed)
object_in l slab None = object_at l slab None 0

-- the index of which the region is looked up
abbrev pub located_index : Local → Served → ℕ
located_index l (Served.Small class) = l.call.slab
located_index l (Served.Large granules alignment) = l.call.block.first

abbrev pub located_as : Local → ℕ → ℕ → Served → Local × Turn
located_as l region base (Served.Small class) =
    object_in l l.call.slab (record_at l.heap.slabs.records l.call.slab)
located_as l region base (Served.Large granules alignment) =
    gone l (At.Large (LargeAt.Kind (large_unit (region_of region) base l.call.block.first alignment)))

-- the last slot of a region
abbrev pub last_slot : ℕ
last_slot = 63

abbrev pub slot_looked : Local → ℕ → ℕ → Local × Turn
slot_looked l slot region =
    cond (has_granule (region_of region) (located_index l l.call.served))
    (gone l (At.Locate (LocateAt.Base slot region)))
    (cond (ltb slot last_slot)
    (gone l (At.Locate (LocateAt.Region (slot + 1))))
    (gone l (At.Locate (LocateAt.Base slot region))))

abbrev pub locate_learn : Local → LocateAt → ℕ → Local × Turn
locate_learn l (LocateAt.Region slot) f = slot_looked l slot f
locate_learn l (LocateAt.Base slot region) f =
    located_as (record l { call = record l.call { region = region } }) region f l.call.served

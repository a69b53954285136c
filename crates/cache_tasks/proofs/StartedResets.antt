-- Where a reset goes on, a job may begin.
use Rattle.std.proofs.Common.{Bool, true, false, cond, eqb, ℕ}
use Rattle.std.specs.Prelude.{None, Option, Some, ltb, ◌+◌, ◌-◌, ⊤}
use Rattle.pool_types.specs.Sums.{capped}
use Rattle.word_codes.specs.declared.region_words.RegionWord.{RegionWord}
use Rattle.heap_slabs.specs.Rolls.{newest_of}
use Rattle.heap_slabs.specs.Slabs.{after_free_of, first_from}
use Rattle.heap_slabs.specs.declared.records.HeapSlab.{HeapSlab}
use Rattle.heap_slabs.specs.declared.slabs.Wanted.{Wanted}
use Rattle.reset_steps.specs.Evict.{evict_from}
use Rattle.reset_steps.specs.Strip.{strip_from}
use Rattle.reset_steps.specs.Unqueue.{unqueue_from}
use Rattle.reset_steps.specs.declared.evict.EvictNext.{EvictNext}
use Rattle.reset_steps.specs.declared.seek.Seek.{Seek}
use Rattle.reset_steps.specs.declared.seek.SeekNext.{SeekNext}
use Rattle.reset_steps.specs.declared.strip.StripAt.{StripAt}
use Rattle.reset_steps.specs.declared.strip.StripNext.{StripNext}
use Rattle.reset_steps.specs.declared.unite.UniteAt.{UniteAt}
use Rattle.reset_steps.specs.declared.unite.UniteNext.{UniteNext}
use Rattle.reset_steps.specs.declared.unqueue.UnqueueNext.{UnqueueNext}
use Rattle.step_local.specs.Leaving.{with_slabs}
use Rattle.step_local.specs.Frames.{last_cache_bin}
use Rattle.step_local.specs.Resetting.{resetting, stripping, stripping_from, strip_call, stripped_as}
use Rattle.step_local.specs.Resetting.{class_begun, slab_given, first_fetched, heap_given, heap_on, last_class}
use Rattle.step_local.specs.Resetting.{next_class, orphans_on, orphan_adopted, evict_call, evicting, evicting_from}
use Rattle.step_local.specs.Resetting.{bin_cleared, uncached_by, uncaching, unqueuing}
use Rattle.step_local.specs.Resetting.{unite_call, uniting, uniting_from, region_found, regions_passed, sought_as}
use Rattle.step_local.specs.Resetting.{reset_on, binned_at}
use Rattle.step_local.specs.declared.frames.Local.{Local}
use Rattle.step_local.specs.declared.frames.ResetStage.{ResetStage}
use Rattle.step_local.specs.declared.frames.Stage.{Stage}
use Rattle.backend_bins.specs.Blocks.{block, block_end}
use Rattle.backend_bins.specs.declared.blocks.Block.{Block}
use Rattle.reset_steps.specs.Unite.{united}
use Rattle.step_local.specs.Resetting.{region_block}
use Rattle.backend_bins.specs.Bin.{bin_learn}
use Rattle.backend_bins.specs.declared.bin.BinAt.{BinAt}
use Rattle.backend_bins.specs.declared.bin.BinNext.{BinNext}
use Rattle.reset_steps.specs.Evict.{evict_learn}
use Rattle.reset_steps.specs.Seek.{seek_learn}
use Rattle.reset_steps.specs.Strip.{strip_learn}
use Rattle.reset_steps.specs.Unite.{unite_learn}
use Rattle.reset_steps.specs.Unqueue.{unqueue_learn}
use Rattle.reset_steps.specs.declared.clear.ClearAt.{ClearAt}
use Rattle.reset_steps.specs.declared.clear.ClearNext.{ClearNext}
use Rattle.step_local.specs.declared.frames.ResetAt.{ResetAt}
use Rattle.step_local.specs.Resetting.{binned_as, binning_call, cleared_as, reset_learn_of}
use Rattle.cache_tasks.specs.Cache.{CacheStarts}
use Rattle.cache_tasks.proofs.Started.{IsStarted, either, kept_oldest, same}

starts-stripping : (l : Local) (slab : ℕ) (one : Option StripAt) → IsStarted l (stripping l slab one)
starts-stripping l slab (Some at) = (tt, same l.released)
starts-stripping l slab None = (tt, same l.released)

starts-stripping_from : (l : Local) (slab object : ℕ) → IsStarted l (stripping_from l slab object)
starts-stripping_from l slab object = starts-stripping l slab (strip_from (strip_call l slab) object)

starts-stripped_as : (l : Local) (slab : ℕ) (next : StripNext) → IsStarted l (stripped_as l slab next)
starts-stripped_as l slab (StripNext.Goes at) = (tt, same l.released)
starts-stripped_as l slab (StripNext.Freed object unit) =
    starts-stripping_from (with_slabs l (after_free_of l.heap.slabs slab unit)) slab (capped (object + 1))
starts-stripped_as l slab StripNext.Stripped = (tt, same l.released)

starts-class_begun : (l : Local) (found : Option HeapSlab) → IsStarted l (class_begun l found)
starts-class_begun l (Some kept) = (tt, same l.released)
starts-class_begun l None = (tt, same l.released)

starts-slab_given : (l : Local) (found : Option HeapSlab) → IsStarted l (slab_given l found)
starts-slab_given l (Some kept) = starts-stripping_from l kept.slab 0
starts-slab_given l None = starts-class_begun l (first_from Wanted.Any l.heap.slabs 0)

starts-heap_given : (l : Local) (class one : Option ℕ) → IsStarted l (heap_given l class one)
starts-heap_given l class (Some slab) = (tt, same l.released)
starts-heap_given l class None = starts-slab_given l (first_fetched l class)

pub starts-heap_on : (l : Local) (class : Option ℕ) → IsStarted l (heap_on l class)
starts-heap_on l class = starts-heap_given l class (newest_of l.heap.cached)

starts-next_class : (l : Local) → IsStarted l (next_class l)
starts-next_class l = either l (ltb l.fetch.class last_class) _ _ (tt, same l.released) (tt, same l.released)

starts-orphans_on : (l : Local) (rest : Option ℕ) → IsStarted l (orphans_on l rest)
starts-orphans_on l (Some slab) = (tt, same l.released)
starts-orphans_on l None = starts-next_class l

pub starts-orphan_adopted : (l : Local) (slab : ℕ) (rest : Option ℕ) → IsStarted l (orphan_adopted l slab rest)
starts-orphan_adopted l slab rest = starts-stripping_from (resetting l (ResetStage.Orphans rest)) slab 0

starts-evicting : (l : Local) (region : RegionWord) (next : EvictNext) → IsStarted l (evicting l region next)
starts-evicting l region (EvictNext.Goes at) = (tt, same l.released)
starts-evicting l region (EvictNext.Ended b granule) = (tt, same l.released)
starts-evicting l region EvictNext.Passed = (tt, same l.released)

starts-evicting_from : (l : Local) (region : RegionWord) (granule : ℕ) → IsStarted l (evicting_from l region granule)
starts-evicting_from l region granule = starts-evicting l region (evict_from (evict_call l region) granule)

pub starts-bin_cleared : (l : Local) (granules : ℕ) → IsStarted l (bin_cleared l granules)
starts-bin_cleared l granules = either l (ltb granules last_cache_bin) _ _ (tt, same l.released) (tt, same l.released)

starts-uncached_by : (l : Local) (granules : ℕ) (one : Option ℕ) → IsStarted l (uncached_by l granules one)
starts-uncached_by l granules (Some first) = (tt, kept_oldest l.released)
starts-uncached_by l granules None = starts-bin_cleared l granules

pub starts-uncaching : (l : Local) (granules : ℕ) → IsStarted l (uncaching l granules)
starts-uncaching l granules = starts-uncached_by l granules (newest_of l.released)

starts-unqueuing : (l : Local) (next : UnqueueNext) → IsStarted l (unqueuing l next)
starts-unqueuing l (UnqueueNext.Goes at) = (tt, same l.released)
starts-unqueuing l (UnqueueNext.Out b rest) = (tt, same l.released)
starts-unqueuing l UnqueueNext.Emptied = (tt, same l.released)

starts-united : (l : Local) (region : RegionWord) (at : UniteAt) (b : Block)
    → IsStarted l (uniting l region at (UniteNext.United b))
starts-united l region at b = either l (eqb b.granules 0) _ _ (tt, same l.released) (tt, same l.released)

starts-uniting_from : (l : Local) (region : RegionWord) → IsStarted l (uniting_from l region)
starts-uniting_from l region = by (ltb region.first (block_end (region_block region)))
  where
    by : (b : Bool) → IsStarted l (uniting l region (UniteAt.Size region.first)
        (cond b (UniteNext.Goes (UniteAt.Size region.first)) (united (unite_call l region) region.first)))
    by true = (tt, same l.released)
    by false = starts-united l region (UniteAt.Size region.first)
        (block region.first (region.first - region.first))

starts-region_found : (l : Local) (region : RegionWord) (seek : Seek) → IsStarted l (region_found l region seek)
starts-region_found l region (Seek.From least) = starts-evicting_from l region region.first
starts-region_found l region (Seek.Under end) = starts-uniting_from l region

starts-regions_passed : (l : Local) (seek : Seek) → IsStarted l (regions_passed l seek)
starts-regions_passed l (Seek.From least) = (tt, same l.released)
starts-regions_passed l (Seek.Under end) = (tt, same l.released)

starts-sought_as : (l : Local) (seek : Seek) (next : SeekNext) → IsStarted l (sought_as l seek next)
starts-sought_as l seek (SeekNext.Goes at) = (tt, same l.released)
starts-sought_as l seek (SeekNext.Found region) = starts-region_found l region seek
starts-sought_as l seek SeekNext.Nothing = starts-regions_passed l seek

pub starts-reset_on : (l : Local) (stage : ResetStage) → IsStarted l (reset_on l stage)
unfolding reset_on
starts-reset_on l (ResetStage.Heap class) = starts-heap_on l class
starts-reset_on l (ResetStage.Orphans rest) = starts-orphans_on l rest
starts-reset_on l (ResetStage.Large region granule) = starts-evicting_from l region granule
starts-reset_on l (ResetStage.Cache granules) = starts-uncaching l granules
starts-reset_on l (ResetStage.Queue rest) = starts-unqueuing l (unqueue_from rest)
starts-reset_on l (ResetStage.Regions below) = (tt, same l.released)

pub starts-binned_at : (l : Local) (stage : Stage) → IsStarted l (binned_at l stage)
starts-binned_at l (Stage.Resetting stage) = starts-reset_on l stage
starts-binned_at l Stage.Idle = (tt, same l.released)
starts-binned_at l Stage.Looking = (tt, same l.released)
starts-binned_at l Stage.Getting = (tt, same l.released)
starts-binned_at l Stage.Ending = (tt, same l.released)
starts-binned_at l Stage.Replacing = (tt, same l.released)
starts-binned_at l Stage.Undoing = (tt, same l.released)
starts-binned_at l Stage.Leaving = (tt, same l.released)

pub starts-cleared_as : (l : Local) (granules : ℕ) (at : ClearAt) (next : ClearNext)
    → CacheStarts (cleared_as l granules at next).0
starts-cleared_as l granules at (ClearNext.Goes next) = tt
starts-cleared_as l granules at (ClearNext.Taken taken next) = tt
starts-cleared_as l granules at ClearNext.Waits = tt
starts-cleared_as l granules at ClearNext.Passed = (starts-bin_cleared l granules).0
starts-cleared_as l granules at ClearNext.Cleared = (starts-uncaching l granules).0

starts-uniting : (l : Local) (region : RegionWord) (at : UniteAt) (next : UniteNext)
    → IsStarted l (uniting l region at next)
starts-uniting l region at (UniteNext.Goes next) = (tt, same l.released)
starts-uniting l region at (UniteNext.Waits bin) = (tt, same l.released)
starts-uniting l region at (UniteNext.United b) = starts-united l region at b

starts-binned_as : (l : Local) (at : BinAt) (next : BinNext) → IsStarted l (binned_as l at next)
starts-binned_as l at (BinNext.Goes next) = (tt, same l.released)
starts-binned_as l at BinNext.Waits = (tt, same l.released)
starts-binned_as l at BinNext.Done = starts-binned_at l l.call.stage

-- a reset that clears a bin of the cache takes blocks out of it
abbrev pub ClearsNone : ResetAt → Type 0
ClearsNone (ResetAt.Clear granules at) = ⊥
ClearsNone _ = ⊤

pub starts-reset_learn_of : (l : Local) (at : ResetAt) (f : ℕ) → ClearsNone at → IsStarted l (reset_learn_of l at f)
starts-reset_learn_of l (ResetAt.Strip slab at) f none =
    starts-stripped_as l slab (strip_learn (strip_call l slab) at f)
starts-reset_learn_of l (ResetAt.Seek at) f none = starts-sought_as l at.seek (seek_learn at f)
starts-reset_learn_of l (ResetAt.Evict region at) f none =
    starts-evicting l region (evict_learn (evict_call l region) at f)
starts-reset_learn_of l (ResetAt.Clear granules at) f none = absurd none
starts-reset_learn_of l (ResetAt.Unqueue at) f none = starts-unqueuing l (unqueue_learn at f)
starts-reset_learn_of l (ResetAt.Unite region at) f none =
    starts-uniting l region at (unite_learn (unite_call l region) at f)
starts-reset_learn_of l (ResetAt.Bin at) f none = starts-binned_as l at (bin_learn (binning_call l) at f)

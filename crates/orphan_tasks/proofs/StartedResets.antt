-- Where a reset goes on with nothing of orphans left, a task of orphans may start.
use Rattle.std.proofs.Common.{◌≡◌, Bool, true, false, cond, eqb, refl, subst, sym, ℕ}
use Rattle.std.specs.Prelude.{None, Option, Some, ltb, ◌-◌}
use Rattle.word_codes.specs.declared.region_words.RegionWord.{RegionWord}
use Rattle.heap_slabs.specs.Rolls.{newest_of}
use Rattle.heap_slabs.specs.Slabs.{first_from}
use Rattle.heap_slabs.specs.declared.records.HeapSlab.{HeapSlab}
use Rattle.heap_slabs.specs.declared.slabs.Wanted.{Wanted}
use Rattle.reset_steps.specs.Evict.{evict_from}
use Rattle.reset_steps.specs.Strip.{strip_from}
use Rattle.reset_steps.specs.Unqueue.{unqueue_from}
use Rattle.reset_steps.specs.declared.evict.EvictNext.{EvictNext}
use Rattle.reset_steps.specs.declared.seek.Seek.{Seek}
use Rattle.reset_steps.specs.declared.seek.SeekNext.{SeekNext}
use Rattle.reset_steps.specs.declared.strip.StripAt.{StripAt}
use Rattle.reset_steps.specs.declared.unite.UniteAt.{UniteAt}
use Rattle.reset_steps.specs.declared.unite.UniteNext.{UniteNext}
use Rattle.reset_steps.specs.declared.unqueue.UnqueueNext.{UnqueueNext}
use Rattle.step_local.specs.Frames.{last_cache_bin}
use Rattle.step_local.specs.Resetting.{stripping, stripping_from, strip_call}
use Rattle.step_local.specs.Resetting.{class_begun, slab_given, first_fetched, heap_given, heap_on, last_class}
use Rattle.step_local.specs.Resetting.{next_class, evict_call, evicting, evicting_from}
use Rattle.step_local.specs.Resetting.{bin_cleared, uncached_by, uncaching, unqueuing}
use Rattle.step_local.specs.Resetting.{unite_call, uniting, uniting_from, region_found, regions_passed, sought_as}
use Rattle.step_local.specs.Resetting.{reset_on}
use Rattle.step_local.specs.declared.frames.Local.{Local}
use Rattle.step_local.specs.declared.frames.ResetStage.{ResetStage}
use Rattle.step_local.specs.declared.frames.Stage.{Stage}
use Rattle.backend_bins.specs.Blocks.{block, block_end}
use Rattle.backend_bins.specs.declared.blocks.Block.{Block}
use Rattle.reset_steps.specs.Unite.{united}
use Rattle.step_local.specs.Resetting.{region_block}
use Rattle.reset_steps.specs.declared.clear.ClearAt.{ClearAt}
use Rattle.reset_steps.specs.declared.clear.ClearNext.{ClearNext}
use Rattle.step_local.specs.Resetting.{cleared_as}
use Rattle.orphan_tasks.proofs.Started.{IsStarted, either}
use Rattle.orphan_tasks.specs.Starts.{NoOrphans, NoneBehind}

starts-stripping : (l : Local) (slab : ℕ) (one : Option StripAt)
    → NoOrphans l.call.stage → IsStarted l (stripping l slab one)
starts-stripping l slab (Some at) free = (free, refl)
starts-stripping l slab None free = (free, refl)

starts-stripping_from : (l : Local) (slab object : ℕ)
    → NoOrphans l.call.stage → IsStarted l (stripping_from l slab object)
starts-stripping_from l slab object free = starts-stripping l slab (strip_from (strip_call l slab) object) free

starts-class_begun : (l : Local) (found : Option HeapSlab)
    → NoOrphans l.call.stage → IsStarted l (class_begun l found)
starts-class_begun l (Some kept) free = (tt, refl)
starts-class_begun l None free = (tt, refl)

starts-slab_given : (l : Local) (found : Option HeapSlab) → NoOrphans l.call.stage → IsStarted l (slab_given l found)
starts-slab_given l (Some kept) free = starts-stripping_from l kept.slab 0 free
starts-slab_given l None free = starts-class_begun l (first_from Wanted.Any l.heap.slabs 0) free

starts-heap_given : (l : Local) (class one : Option ℕ) → NoOrphans l.call.stage → IsStarted l (heap_given l class one)
starts-heap_given l class (Some slab) free = (free, refl)
starts-heap_given l class None free = starts-slab_given l (first_fetched l class) free

pub starts-heap_on : (l : Local) (class : Option ℕ) → NoOrphans l.call.stage → IsStarted l (heap_on l class)
starts-heap_on l class free = starts-heap_given l class (newest_of l.heap.cached) free

starts-next_class : (l : Local) → NoneBehind l.call.stage → IsStarted l (next_class l)
starts-next_class l free = either l (ltb l.fetch.class last_class) _ _ ((refl, free), refl) (free, refl)

pub starts-evicting : (l : Local) (region : RegionWord) (next : EvictNext)
    → NoneBehind l.call.stage → IsStarted l (evicting l region next)
starts-evicting l region (EvictNext.Goes at) free = (free, refl)
starts-evicting l region (EvictNext.Ended b granule) free = (tt, refl)
starts-evicting l region EvictNext.Passed free = (free, refl)

starts-evicting_from : (l : Local) (region : RegionWord) (granule : ℕ)
    → NoneBehind l.call.stage → IsStarted l (evicting_from l region granule)
starts-evicting_from l region granule free = starts-evicting l region (evict_from (evict_call l region) granule) free

pub starts-bin_cleared : (l : Local) (granules : ℕ) → NoneBehind l.call.stage → IsStarted l (bin_cleared l granules)
starts-bin_cleared l granules free = either l (ltb granules last_cache_bin) _ _ (free, refl) (free, refl)

starts-uncached_by : (l : Local) (granules : ℕ) (one : Option ℕ)
    → NoneBehind l.call.stage → IsStarted l (uncached_by l granules one)
starts-uncached_by l granules (Some first) free = (tt, refl)
starts-uncached_by l granules None free = starts-bin_cleared l granules free

pub starts-uncaching : (l : Local) (granules : ℕ) → NoneBehind l.call.stage → IsStarted l (uncaching l granules)
starts-uncaching l granules free = starts-uncached_by l granules (newest_of l.released) free

pub starts-unqueuing : (l : Local) (next : UnqueueNext) → NoneBehind l.call.stage → IsStarted l (unqueuing l next)
starts-unqueuing l (UnqueueNext.Goes at) free = (free, refl)
starts-unqueuing l (UnqueueNext.Out b rest) free = (tt, refl)
starts-unqueuing l UnqueueNext.Emptied free = (free, refl)

starts-united : (l : Local) (region : RegionWord) (at : UniteAt) (b : Block)
    → NoneBehind l.call.stage → IsStarted l (uniting l region at (UniteNext.United b))
starts-united l region at b free = either l (eqb b.granules 0) _ _ (free, refl) (tt, refl)

starts-uniting_from : (l : Local) (region : RegionWord)
    → NoneBehind l.call.stage → IsStarted l (uniting_from l region)
starts-uniting_from l region free = by (ltb region.first (block_end (region_block region)))
  where
    by : (b : Bool) → IsStarted l (uniting l region (UniteAt.Size region.first)
        (cond b (UniteNext.Goes (UniteAt.Size region.first)) (united (unite_call l region) region.first)))
    by true = (free, refl)
    by false = starts-united l region (UniteAt.Size region.first)
        (block region.first (region.first - region.first)) free

starts-region_found : (l : Local) (region : RegionWord) (seek : Seek)
    → NoneBehind l.call.stage → IsStarted l (region_found l region seek)
starts-region_found l region (Seek.From least) free = starts-evicting_from l region region.first free
starts-region_found l region (Seek.Under end) free = starts-uniting_from l region free

starts-regions_passed : (l : Local) (seek : Seek) → NoneBehind l.call.stage → IsStarted l (regions_passed l seek)
starts-regions_passed l (Seek.From least) free = (free, refl)
starts-regions_passed l (Seek.Under end) free = (tt, refl)

pub starts-sought_as : (l : Local) (seek : Seek) (next : SeekNext)
    → NoneBehind l.call.stage → IsStarted l (sought_as l seek next)
starts-sought_as l seek (SeekNext.Goes at) free = (free, refl)
starts-sought_as l seek (SeekNext.Found region) free = starts-region_found l region seek free
starts-sought_as l seek SeekNext.Nothing free = starts-regions_passed l seek free

-- the stage is that of the reset; an orphan that is behind is one that the seat has in hand, and no start
pub starts-reset_on : (l : Local) (stage : ResetStage) → l.call.stage ≡ Stage.Resetting stage
    → NoneBehind (Stage.Resetting stage) → IsStarted l (reset_on l stage)
unfolding reset_on
starts-reset_on l (ResetStage.Heap class) here free = starts-heap_on l class (subst NoOrphans (sym here) tt)
starts-reset_on l (ResetStage.Orphans (Some slab)) here free = absurd free
starts-reset_on l (ResetStage.Orphans None) here free = starts-next_class l (subst NoneBehind (sym here) tt)
starts-reset_on l (ResetStage.Large region granule) here free =
    starts-evicting_from l region granule (subst NoneBehind (sym here) tt)
starts-reset_on l (ResetStage.Cache granules) here free =
    starts-uncaching l granules (subst NoneBehind (sym here) tt)
starts-reset_on l (ResetStage.Queue rest) here free =
    starts-unqueuing l (unqueue_from rest) (subst NoneBehind (sym here) tt)
starts-reset_on l (ResetStage.Regions below) here free = (subst NoneBehind (sym here) tt, refl)

pub starts-cleared_as : (l : Local) (granules : ℕ) (at : ClearAt) (next : ClearNext)
    → NoneBehind l.call.stage → IsStarted l (cleared_as l granules at next)
starts-cleared_as l granules at (ClearNext.Goes next) free = (free, refl)
starts-cleared_as l granules at (ClearNext.Taken taken next) free = (free, refl)
starts-cleared_as l granules at ClearNext.Waits free = (free, refl)
starts-cleared_as l granules at ClearNext.Passed free = starts-bin_cleared l granules free
starts-cleared_as l granules at ClearNext.Cleared free = starts-uncaching l granules free

pub starts-uniting : (l : Local) (region : RegionWord) (at : UniteAt) (next : UniteNext)
    → NoneBehind l.call.stage → IsStarted l (uniting l region at next)
starts-uniting l region at (UniteNext.Goes next) free = (free, refl)
starts-uniting l region at (UniteNext.Waits bin) free = (free, refl)
starts-uniting l region at (UniteNext.United b) free = starts-united l region at b free

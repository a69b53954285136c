-- Where a reset goes on, its seat has no lock, but for the jobs that take one.
use Rattle.std.proofs.Common.{Bool, true, false, cond, eqb, refl, ℕ}
use Rattle.std.specs.Prelude.{None, Option, Some, ltb, ◌+◌, ◌-◌}
use Rattle.pool_types.specs.Sums.{capped}
use Rattle.word_codes.specs.declared.region_words.RegionWord.{RegionWord}
use Rattle.heap_slabs.specs.Rolls.{newest_of}
use Rattle.heap_slabs.specs.Slabs.{after_free_of, first_from}
use Rattle.heap_slabs.specs.declared.records.HeapSlab.{HeapSlab}
use Rattle.heap_slabs.specs.declared.slabs.Wanted.{Wanted}
use Rattle.reset_steps.specs.Evict.{evict_from}
use Rattle.reset_steps.specs.Strip.{strip_from}
use Rattle.reset_steps.specs.Unqueue.{unqueue_from}
use Rattle.reset_steps.specs.declared.evict.EvictNext.{EvictNext}
use Rattle.reset_steps.specs.declared.seek.Seek.{Seek}
use Rattle.reset_steps.specs.declared.seek.SeekNext.{SeekNext}
use Rattle.reset_steps.specs.declared.strip.StripAt.{StripAt}
use Rattle.reset_steps.specs.declared.strip.StripNext.{StripNext}
use Rattle.reset_steps.specs.declared.unite.UniteAt.{UniteAt}
use Rattle.reset_steps.specs.declared.unite.UniteNext.{UniteNext}
use Rattle.reset_steps.specs.declared.unqueue.UnqueueNext.{UnqueueNext}
use Rattle.step_local.specs.Leaving.{with_slabs}
use Rattle.step_local.specs.Frames.{last_cache_bin}
use Rattle.step_local.specs.Resetting.{resetting, stripping, stripping_from, strip_call, stripped_as}
use Rattle.step_local.specs.Resetting.{class_begun, slab_given, first_fetched, heap_given, heap_on, last_class}
use Rattle.step_local.specs.Resetting.{next_class, orphans_on, orphan_adopted, evict_call, evicting, evicting_from}
use Rattle.step_local.specs.Resetting.{bin_cleared, uncached_by, uncaching, unqueuing}
use Rattle.step_local.specs.Resetting.{unite_call, uniting, uniting_from, region_found, regions_passed, sought_as}
use Rattle.step_local.specs.Resetting.{reset_on, binned_at}
use Rattle.step_local.specs.declared.frames.Local.{Local}
use Rattle.step_local.specs.declared.frames.ResetStage.{ResetStage}
use Rattle.step_local.specs.declared.frames.Stage.{Stage}
use Rattle.backend_bins.specs.Blocks.{block, block_end}
use Rattle.backend_bins.specs.declared.blocks.Block.{Block}
use Rattle.reset_steps.specs.Unite.{united}
use Rattle.step_local.specs.Resetting.{region_block}
use Rattle.step_locks.proofs.Free.{IsFree, either}

free-stripping : (l : Local) (slab : ℕ) (one : Option StripAt) → IsFree (stripping l slab one)
free-stripping l slab (Some at) = refl
free-stripping l slab None = refl

free-stripping_from : (l : Local) (slab object : ℕ) → IsFree (stripping_from l slab object)
free-stripping_from l slab object = free-stripping l slab (strip_from (strip_call l slab) object)

pub free-stripped_as : (l : Local) (slab : ℕ) (next : StripNext) → IsFree (stripped_as l slab next)
free-stripped_as l slab (StripNext.Goes at) = refl
free-stripped_as l slab (StripNext.Freed object unit) =
    free-stripping_from (with_slabs l (after_free_of l.heap.slabs slab unit)) slab (capped (object + 1))
free-stripped_as l slab StripNext.Stripped = refl

free-class_begun : (l : Local) (found : Option HeapSlab) → IsFree (class_begun l found)
free-class_begun l (Some kept) = refl
free-class_begun l None = refl

free-slab_given : (l : Local) (found : Option HeapSlab) → IsFree (slab_given l found)
free-slab_given l (Some kept) = free-stripping_from l kept.slab 0
free-slab_given l None = free-class_begun l (first_from Wanted.Any l.heap.slabs 0)

free-heap_given : (l : Local) (class one : Option ℕ) → IsFree (heap_given l class one)
free-heap_given l class (Some slab) = refl
free-heap_given l class None = free-slab_given l (first_fetched l class)

pub free-heap_on : (l : Local) (class : Option ℕ) → IsFree (heap_on l class)
free-heap_on l class = free-heap_given l class (newest_of l.heap.cached)

free-next_class : (l : Local) → IsFree (next_class l)
free-next_class l = either (ltb l.fetch.class last_class) _ _ refl refl

free-orphans_on : (l : Local) (rest : Option ℕ) → IsFree (orphans_on l rest)
free-orphans_on l (Some slab) = refl
free-orphans_on l None = free-next_class l

pub free-orphan_adopted : (l : Local) (slab : ℕ) (rest : Option ℕ) → IsFree (orphan_adopted l slab rest)
free-orphan_adopted l slab rest = free-stripping_from (resetting l (ResetStage.Orphans rest)) slab 0

pub free-evicting : (l : Local) (region : RegionWord) (next : EvictNext) → IsFree (evicting l region next)
free-evicting l region (EvictNext.Goes at) = refl
free-evicting l region (EvictNext.Ended b granule) = refl
free-evicting l region EvictNext.Passed = refl

free-evicting_from : (l : Local) (region : RegionWord) (granule : ℕ) → IsFree (evicting_from l region granule)
free-evicting_from l region granule = free-evicting l region (evict_from (evict_call l region) granule)

pub free-bin_cleared : (l : Local) (granules : ℕ) → IsFree (bin_cleared l granules)
free-bin_cleared l granules = either (ltb granules last_cache_bin) _ _ refl refl

free-uncached_by : (l : Local) (granules : ℕ) (one : Option ℕ) → IsFree (uncached_by l granules one)
free-uncached_by l granules (Some first) = refl
free-uncached_by l granules None = free-bin_cleared l granules

pub free-uncaching : (l : Local) (granules : ℕ) → IsFree (uncaching l granules)
free-uncaching l granules = free-uncached_by l granules (newest_of l.released)

pub free-unqueuing : (l : Local) (next : UnqueueNext) → IsFree (unqueuing l next)
free-unqueuing l (UnqueueNext.Goes at) = refl
free-unqueuing l (UnqueueNext.Out b rest) = refl
free-unqueuing l UnqueueNext.Emptied = refl

pub free-united : (l : Local) (region : RegionWord) (at : UniteAt) (b : Block)
    → IsFree (uniting l region at (UniteNext.United b))
free-united l region at b = either (eqb b.granules 0) _ _ refl refl

free-uniting_from : (l : Local) (region : RegionWord) → IsFree (uniting_from l region)
free-uniting_from l region = by (ltb region.first (block_end (region_block region)))
  where
    by : (b : Bool) → IsFree (uniting l region (UniteAt.Size region.first)
        (cond b (UniteNext.Goes (UniteAt.Size region.first)) (united (unite_call l region) region.first)))
    by true = refl
    by false = free-united l region (UniteAt.Size region.first)
        (block region.first (region.first - region.first))

free-region_found : (l : Local) (region : RegionWord) (seek : Seek) → IsFree (region_found l region seek)
free-region_found l region (Seek.From least) = free-evicting_from l region region.first
free-region_found l region (Seek.Under end) = free-uniting_from l region

free-regions_passed : (l : Local) (seek : Seek) → IsFree (regions_passed l seek)
free-regions_passed l (Seek.From least) = refl
free-regions_passed l (Seek.Under end) = refl

pub free-sought_as : (l : Local) (seek : Seek) (next : SeekNext) → IsFree (sought_as l seek next)
free-sought_as l seek (SeekNext.Goes at) = refl
free-sought_as l seek (SeekNext.Found region) = free-region_found l region seek
free-sought_as l seek SeekNext.Nothing = free-regions_passed l seek

pub free-reset_on : (l : Local) (stage : ResetStage) → IsFree (reset_on l stage)
unfolding reset_on
free-reset_on l (ResetStage.Heap class) = free-heap_on l class
free-reset_on l (ResetStage.Orphans rest) = free-orphans_on l rest
free-reset_on l (ResetStage.Large region granule) = free-evicting_from l region granule
free-reset_on l (ResetStage.Cache granules) = free-uncaching l granules
free-reset_on l (ResetStage.Queue rest) = free-unqueuing l (unqueue_from rest)
free-reset_on l (ResetStage.Regions below) = refl

pub free-binned_at : (l : Local) (stage : Stage) → IsFree (binned_at l stage)
free-binned_at l (Stage.Resetting stage) = free-reset_on l stage
free-binned_at l Stage.Idle = refl
free-binned_at l Stage.Looking = refl
free-binned_at l Stage.Getting = refl
free-binned_at l Stage.Ending = refl
free-binned_at l Stage.Replacing = refl
free-binned_at l Stage.Undoing = refl
free-binned_at l Stage.Leaving = refl

-- Where a reset goes on, nothing is under way.
use Rattle.std.proofs.Common.{◌≡◌, Bool, true, false, cond, eqb, ℕ}
use Rattle.std.specs.Prelude.{None, Option, Some, ltb, ◌+◌, ◌-◌}
use Rattle.pool_types.specs.Sums.{capped}
use Rattle.word_codes.specs.declared.region_words.RegionWord.{RegionWord}
use Rattle.heap_slabs.specs.Rolls.{newest_of}
use Rattle.heap_slabs.specs.Slabs.{after_free_of, first_from}
use Rattle.heap_slabs.specs.declared.records.HeapSlab.{HeapSlab}
use Rattle.heap_slabs.specs.declared.slabs.Wanted.{Wanted}
use Rattle.reset_steps.specs.Evict.{evict_from}
use Rattle.reset_steps.specs.Strip.{strip_from}
use Rattle.reset_steps.specs.Unqueue.{unqueue_from}
use Rattle.reset_steps.specs.declared.evict.EvictNext.{EvictNext}
use Rattle.reset_steps.specs.declared.seek.Seek.{Seek}
use Rattle.reset_steps.specs.declared.seek.SeekNext.{SeekNext}
use Rattle.reset_steps.specs.declared.strip.StripAt.{StripAt}
use Rattle.reset_steps.specs.declared.strip.StripNext.{StripNext}
use Rattle.reset_steps.specs.declared.unite.UniteAt.{UniteAt}
use Rattle.reset_steps.specs.declared.unite.UniteNext.{UniteNext}
use Rattle.reset_steps.specs.declared.unqueue.UnqueueNext.{UnqueueNext}
use Rattle.step_local.specs.Leaving.{with_slabs}
use Rattle.step_local.specs.Frames.{last_cache_bin}
use Rattle.step_local.specs.Resetting.{resetting, stripping, stripping_from, strip_call, stripped_as}
use Rattle.step_local.specs.Resetting.{class_begun, slab_given, first_fetched, heap_given, heap_on, last_class}
use Rattle.step_local.specs.Resetting.{next_class, orphans_on, orphan_adopted, evict_call, evicting, evicting_from}
use Rattle.step_local.specs.Resetting.{bin_cleared, uncached_by, uncaching, unqueuing}
use Rattle.step_local.specs.Resetting.{unite_call, uniting, uniting_from, region_found, regions_passed, sought_as}
use Rattle.step_local.specs.Resetting.{reset_on, binned_at}
use Rattle.step_local.specs.declared.frames.Local.{Local}
use Rattle.step_local.specs.declared.frames.ResetStage.{ResetStage}
use Rattle.step_local.specs.declared.frames.Stage.{Stage}
use Rattle.backend_bins.specs.Blocks.{block, block_end}
use Rattle.backend_bins.specs.declared.blocks.Block.{Block}
use Rattle.reset_steps.specs.Unite.{united}
use Rattle.step_local.specs.Resetting.{region_block}
use Rattle.reset_steps.specs.Clear.{clear_learn}
use Rattle.reset_steps.specs.Evict.{evict_learn}
use Rattle.reset_steps.specs.Seek.{seek_learn}
use Rattle.reset_steps.specs.Strip.{strip_learn}
use Rattle.reset_steps.specs.Unqueue.{unqueue_learn}
use Rattle.reset_steps.specs.declared.clear.ClearAt.{ClearAt}
use Rattle.reset_steps.specs.declared.clear.ClearNext.{ClearNext}
use Rattle.step_local.specs.declared.frames.ResetAt.{ResetAt}
use Rattle.step_local.specs.Resetting.{cleared_as, reset_learn_of}
use Rattle.backend_tasks.proofs.Bare.{IsBare, either}

bare-stripping : (l : Local) (slab : ℕ) (one : Option StripAt) → IsBare (stripping l slab one)
bare-stripping l slab (Some at) = tt
bare-stripping l slab None = tt

bare-stripping_from : (l : Local) (slab object : ℕ) → IsBare (stripping_from l slab object)
bare-stripping_from l slab object = bare-stripping l slab (strip_from (strip_call l slab) object)

bare-stripped_as : (l : Local) (slab : ℕ) (next : StripNext) → IsBare (stripped_as l slab next)
bare-stripped_as l slab (StripNext.Goes at) = tt
bare-stripped_as l slab (StripNext.Freed object unit) =
    bare-stripping_from (with_slabs l (after_free_of l.heap.slabs slab unit)) slab (capped (object + 1))
bare-stripped_as l slab StripNext.Stripped = tt

bare-class_begun : (l : Local) (found : Option HeapSlab) → IsBare (class_begun l found)
bare-class_begun l (Some kept) = tt
bare-class_begun l None = tt

bare-slab_given : (l : Local) (found : Option HeapSlab) → IsBare (slab_given l found)
bare-slab_given l (Some kept) = bare-stripping_from l kept.slab 0
bare-slab_given l None = bare-class_begun l (first_from Wanted.Any l.heap.slabs 0)

bare-heap_given : (l : Local) (class one : Option ℕ) → IsBare (heap_given l class one)
bare-heap_given l class (Some slab) = tt
bare-heap_given l class None = bare-slab_given l (first_fetched l class)

pub bare-heap_on : (l : Local) (class : Option ℕ) → IsBare (heap_on l class)
bare-heap_on l class = bare-heap_given l class (newest_of l.heap.cached)

bare-next_class : (l : Local) → IsBare (next_class l)
bare-next_class l = either (ltb l.fetch.class last_class) _ _ tt tt

bare-orphans_on : (l : Local) (rest : Option ℕ) → IsBare (orphans_on l rest)
bare-orphans_on l (Some slab) = tt
bare-orphans_on l None = bare-next_class l

pub bare-orphan_adopted : (l : Local) (slab : ℕ) (rest : Option ℕ) → IsBare (orphan_adopted l slab rest)
bare-orphan_adopted l slab rest = bare-stripping_from (resetting l (ResetStage.Orphans rest)) slab 0

bare-evicting : (l : Local) (region : RegionWord) (next : EvictNext) → IsBare (evicting l region next)
bare-evicting l region (EvictNext.Goes at) = tt
bare-evicting l region (EvictNext.Ended b granule) = tt
bare-evicting l region EvictNext.Passed = tt

bare-evicting_from : (l : Local) (region : RegionWord) (granule : ℕ) → IsBare (evicting_from l region granule)
bare-evicting_from l region granule = bare-evicting l region (evict_from (evict_call l region) granule)

pub bare-bin_cleared : (l : Local) (granules : ℕ) → IsBare (bin_cleared l granules)
bare-bin_cleared l granules = either (ltb granules last_cache_bin) _ _ tt tt

bare-uncached_by : (l : Local) (granules : ℕ) (one : Option ℕ) → IsBare (uncached_by l granules one)
bare-uncached_by l granules (Some first) = tt
bare-uncached_by l granules None = bare-bin_cleared l granules

pub bare-uncaching : (l : Local) (granules : ℕ) → IsBare (uncaching l granules)
bare-uncaching l granules = bare-uncached_by l granules (newest_of l.released)

bare-unqueuing : (l : Local) (next : UnqueueNext) → IsBare (unqueuing l next)
bare-unqueuing l (UnqueueNext.Goes at) = tt
bare-unqueuing l (UnqueueNext.Out b rest) = tt
bare-unqueuing l UnqueueNext.Emptied = tt

pub bare-united : (l : Local) (region : RegionWord) (at : UniteAt) (b : Block)
    → IsBare (uniting l region at (UniteNext.United b))
bare-united l region at b = either (eqb b.granules 0) _ _ tt tt

bare-uniting_from : (l : Local) (region : RegionWord) → IsBare (uniting_from l region)
bare-uniting_from l region = by (ltb region.first (block_end (region_block region)))
  where
    by : (b : Bool) → IsBare (uniting l region (UniteAt.Size region.first)
        (cond b (UniteNext.Goes (UniteAt.Size region.first)) (united (unite_call l region) region.first)))
    by true = tt
    by false = bare-united l region (UniteAt.Size region.first)
        (block region.first (region.first - region.first))

bare-region_found : (l : Local) (region : RegionWord) (seek : Seek) → IsBare (region_found l region seek)
bare-region_found l region (Seek.From least) = bare-evicting_from l region region.first
bare-region_found l region (Seek.Under end) = bare-uniting_from l region

bare-regions_passed : (l : Local) (seek : Seek) → IsBare (regions_passed l seek)
bare-regions_passed l (Seek.From least) = tt
bare-regions_passed l (Seek.Under end) = tt

bare-sought_as : (l : Local) (seek : Seek) (next : SeekNext) → IsBare (sought_as l seek next)
bare-sought_as l seek (SeekNext.Goes at) = tt
bare-sought_as l seek (SeekNext.Found region) = bare-region_found l region seek
bare-sought_as l seek SeekNext.Nothing = bare-regions_passed l seek

pub bare-reset_on : (l : Local) (stage : ResetStage) → IsBare (reset_on l stage)
unfolding reset_on
bare-reset_on l (ResetStage.Heap class) = bare-heap_on l class
bare-reset_on l (ResetStage.Orphans rest) = bare-orphans_on l rest
bare-reset_on l (ResetStage.Large region granule) = bare-evicting_from l region granule
bare-reset_on l (ResetStage.Cache granules) = bare-uncaching l granules
bare-reset_on l (ResetStage.Queue rest) = bare-unqueuing l (unqueue_from rest)
bare-reset_on l (ResetStage.Regions below) = tt

pub bare-binned_at : (l : Local) (stage : Stage) → IsBare (binned_at l stage)
bare-binned_at l (Stage.Resetting stage) = bare-reset_on l stage
bare-binned_at l Stage.Idle = tt
bare-binned_at l Stage.Looking = tt
bare-binned_at l Stage.Getting = tt
bare-binned_at l Stage.Ending = tt
bare-binned_at l Stage.Replacing = tt
bare-binned_at l Stage.Undoing = tt
bare-binned_at l Stage.Leaving = tt

bare-cleared_as : (l : Local) (granules : ℕ) (at : ClearAt) (next : ClearNext)
    → IsBare (cleared_as l granules at next)
bare-cleared_as l granules at (ClearNext.Goes next) = tt
bare-cleared_as l granules at (ClearNext.Taken taken next) = tt
bare-cleared_as l granules at ClearNext.Waits = tt
bare-cleared_as l granules at ClearNext.Passed = bare-bin_cleared l granules
bare-cleared_as l granules at ClearNext.Cleared = bare-uncaching l granules

-- the positions of a reset at which it does nothing with guards and bins
abbrev pub is_apart : ResetAt → Bool
is_apart (ResetAt.Unite region at) = false
is_apart (ResetAt.Bin at) = false
is_apart _ = true

pub bare-reset_learn_of : (l : Local) (at : ResetAt) (f : ℕ) → is_apart at ≡ true → IsBare (reset_learn_of l at f)
bare-reset_learn_of l (ResetAt.Strip slab at) f is = bare-stripped_as l slab (strip_learn (strip_call l slab) at f)
bare-reset_learn_of l (ResetAt.Seek at) f is = bare-sought_as l at.seek (seek_learn at f)
bare-reset_learn_of l (ResetAt.Evict region at) f is =
    bare-evicting l region (evict_learn (evict_call l region) at f)
bare-reset_learn_of l (ResetAt.Clear granules at) f is = bare-cleared_as l granules at (clear_learn at f)
bare-reset_learn_of l (ResetAt.Unqueue at) f is = bare-unqueuing l (unqueue_learn at f)
bare-reset_learn_of l _ f is = absurd (cc)

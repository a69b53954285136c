-- Where a reset goes on, its seat has not taken the office.
use Rattle.std.proofs.Common.{eqb, refl, ℕ}
use Rattle.std.specs.Prelude.{None, Option, Some, ltb, ◌+◌}
use Rattle.pool_types.specs.Sums.{capped}
use Rattle.word_codes.specs.declared.region_words.RegionWord.{RegionWord}
use Rattle.backend_bins.specs.Bin.{bin_learn}
use Rattle.backend_bins.specs.declared.bin.BinAt.{BinAt}
use Rattle.backend_bins.specs.declared.bin.BinNext.{BinNext}
use Rattle.heap_slabs.specs.Rolls.{newest_of}
use Rattle.heap_slabs.specs.Slabs.{after_free_of, first_from}
use Rattle.heap_slabs.specs.declared.records.HeapSlab.{HeapSlab}
use Rattle.heap_slabs.specs.declared.slabs.Wanted.{Wanted}
use Rattle.reset_steps.specs.Clear.{clear_learn}
use Rattle.reset_steps.specs.Evict.{evict_from, evict_learn}
use Rattle.reset_steps.specs.Seek.{seek_learn}
use Rattle.reset_steps.specs.Strip.{strip_from, strip_learn}
use Rattle.reset_steps.specs.Unite.{unite_from, unite_learn}
use Rattle.reset_steps.specs.Unqueue.{unqueue_from, unqueue_learn}
use Rattle.reset_steps.specs.declared.clear.ClearAt.{ClearAt}
use Rattle.reset_steps.specs.declared.clear.ClearNext.{ClearNext}
use Rattle.reset_steps.specs.declared.evict.EvictNext.{EvictNext}
use Rattle.reset_steps.specs.declared.seek.Seek.{Seek}
use Rattle.reset_steps.specs.declared.seek.SeekNext.{SeekNext}
use Rattle.reset_steps.specs.declared.strip.StripAt.{StripAt}
use Rattle.reset_steps.specs.declared.strip.StripNext.{StripNext}
use Rattle.reset_steps.specs.declared.unite.UniteAt.{UniteAt}
use Rattle.reset_steps.specs.declared.unite.UniteNext.{UniteNext}
use Rattle.reset_steps.specs.declared.unqueue.UnqueueNext.{UnqueueNext}
use Rattle.step_local.specs.Leaving.{with_slabs}
use Rattle.step_local.specs.Frames.{last_cache_bin}
use Rattle.step_local.specs.Resetting.{resetting, binning_call, stripping, stripping_from, strip_call, stripped_as}
use Rattle.step_local.specs.Resetting.{class_begun, slab_given, first_fetched, heap_given, heap_on, last_class}
use Rattle.step_local.specs.Resetting.{next_class, orphans_on, orphan_adopted, evict_call, evicting, evicting_from}
use Rattle.step_local.specs.Resetting.{bin_cleared, uncached_by, uncaching, cleared_as, unqueuing}
use Rattle.step_local.specs.Resetting.{unite_call, uniting, uniting_from, region_found, regions_passed, sought_as}
use Rattle.step_local.specs.Resetting.{reset_on, binned_at, binned_as, reset_learn_of}
use Rattle.step_local.specs.declared.frames.Local.{Local}
use Rattle.step_local.specs.declared.frames.ResetAt.{ResetAt}
use Rattle.step_local.specs.declared.frames.ResetStage.{ResetStage}
use Rattle.step_local.specs.declared.frames.Stage.{Stage}
use Rattle.step_runs.proofs.Away.{IsAway, either}

carry-stripping : (l : Local) (slab : ℕ) (one : Option StripAt) → IsAway (stripping l slab one)
carry-stripping l slab (Some at) = refl
carry-stripping l slab None = refl

carry-stripping_from : (l : Local) (slab object : ℕ) → IsAway (stripping_from l slab object)
carry-stripping_from l slab object = carry-stripping l slab (strip_from (strip_call l slab) object)

carry-stripped_as : (l : Local) (slab : ℕ) (next : StripNext) → IsAway (stripped_as l slab next)
carry-stripped_as l slab (StripNext.Goes at) = refl
carry-stripped_as l slab (StripNext.Freed object unit) =
    carry-stripping_from (with_slabs l (after_free_of l.heap.slabs slab unit)) slab (capped (object + 1))
carry-stripped_as l slab StripNext.Stripped = refl

carry-class_begun : (l : Local) (found : Option HeapSlab) → IsAway (class_begun l found)
carry-class_begun l (Some kept) = refl
carry-class_begun l None = refl

carry-slab_given : (l : Local) (found : Option HeapSlab) → IsAway (slab_given l found)
carry-slab_given l (Some kept) = carry-stripping_from l kept.slab 0
carry-slab_given l None = carry-class_begun l (first_from Wanted.Any l.heap.slabs 0)

carry-heap_given : (l : Local) (class one : Option ℕ) → IsAway (heap_given l class one)
carry-heap_given l class (Some slab) = refl
carry-heap_given l class None = carry-slab_given l (first_fetched l class)

pub carry-heap_on : (l : Local) (class : Option ℕ) → IsAway (heap_on l class)
carry-heap_on l class = carry-heap_given l class (newest_of l.heap.cached)

carry-next_class : (l : Local) → IsAway (next_class l)
carry-next_class l = either (ltb l.fetch.class last_class) _ _ refl refl

carry-orphans_on : (l : Local) (rest : Option ℕ) → IsAway (orphans_on l rest)
carry-orphans_on l (Some slab) = refl
carry-orphans_on l None = carry-next_class l

pub carry-orphan_adopted : (l : Local) (slab : ℕ) (rest : Option ℕ) → IsAway (orphan_adopted l slab rest)
carry-orphan_adopted l slab rest = carry-stripping_from (resetting l (ResetStage.Orphans rest)) slab 0

carry-evicting : (l : Local) (region : RegionWord) (next : EvictNext) → IsAway (evicting l region next)
carry-evicting l region (EvictNext.Goes at) = refl
carry-evicting l region (EvictNext.Ended b granule) = refl
carry-evicting l region EvictNext.Passed = refl

carry-evicting_from : (l : Local) (region : RegionWord) (granule : ℕ) → IsAway (evicting_from l region granule)
carry-evicting_from l region granule = carry-evicting l region (evict_from (evict_call l region) granule)

carry-bin_cleared : (l : Local) (granules : ℕ) → IsAway (bin_cleared l granules)
carry-bin_cleared l granules = either (ltb granules last_cache_bin) _ _ refl refl

carry-uncached_by : (l : Local) (granules : ℕ) (one : Option ℕ) → IsAway (uncached_by l granules one)
carry-uncached_by l granules (Some first) = refl
carry-uncached_by l granules None = carry-bin_cleared l granules

carry-uncaching : (l : Local) (granules : ℕ) → IsAway (uncaching l granules)
carry-uncaching l granules = carry-uncached_by l granules (newest_of l.released)

carry-cleared_as : (l : Local) (granules : ℕ) (at : ClearAt) (next : ClearNext) → IsAway (cleared_as l granules at next)
carry-cleared_as l granules at (ClearNext.Goes next) = refl
carry-cleared_as l granules at (ClearNext.Taken taken next) = refl
carry-cleared_as l granules at ClearNext.Waits = refl
carry-cleared_as l granules at ClearNext.Passed = carry-bin_cleared l granules
carry-cleared_as l granules at ClearNext.Cleared = carry-uncaching l granules

carry-unqueuing : (l : Local) (next : UnqueueNext) → IsAway (unqueuing l next)
carry-unqueuing l (UnqueueNext.Goes at) = refl
carry-unqueuing l (UnqueueNext.Out b rest) = refl
carry-unqueuing l UnqueueNext.Emptied = refl

carry-uniting : (l : Local) (region : RegionWord) (at : UniteAt) (next : UniteNext) → IsAway (uniting l region at next)
carry-uniting l region at (UniteNext.Goes next) = refl
carry-uniting l region at (UniteNext.Waits bin) = refl
carry-uniting l region at (UniteNext.United b) = either (eqb b.granules 0) _ _ refl refl

carry-uniting_from : (l : Local) (region : RegionWord) → IsAway (uniting_from l region)
carry-uniting_from l region =
    carry-uniting l region (UniteAt.Size region.first) (unite_from (unite_call l region) region.first)

carry-region_found : (l : Local) (region : RegionWord) (seek : Seek) → IsAway (region_found l region seek)
carry-region_found l region (Seek.From least) = carry-evicting_from l region region.first
carry-region_found l region (Seek.Under end) = carry-uniting_from l region

carry-regions_passed : (l : Local) (seek : Seek) → IsAway (regions_passed l seek)
carry-regions_passed l (Seek.From least) = refl
carry-regions_passed l (Seek.Under end) = refl

carry-sought_as : (l : Local) (seek : Seek) (next : SeekNext) → IsAway (sought_as l seek next)
carry-sought_as l seek (SeekNext.Goes at) = refl
carry-sought_as l seek (SeekNext.Found region) = carry-region_found l region seek
carry-sought_as l seek SeekNext.Nothing = carry-regions_passed l seek

pub carry-reset_on : (l : Local) (stage : ResetStage) → IsAway (reset_on l stage)
unfolding reset_on
carry-reset_on l (ResetStage.Heap class) = carry-heap_on l class
carry-reset_on l (ResetStage.Orphans rest) = carry-orphans_on l rest
carry-reset_on l (ResetStage.Large region granule) = carry-evicting_from l region granule
carry-reset_on l (ResetStage.Cache granules) = carry-uncaching l granules
carry-reset_on l (ResetStage.Queue rest) = carry-unqueuing l (unqueue_from rest)
carry-reset_on l (ResetStage.Regions below) = refl

carry-binned_at : (l : Local) (stage : Stage) → IsAway (binned_at l stage)
carry-binned_at l (Stage.Resetting stage) = carry-reset_on l stage
carry-binned_at l Stage.Idle = refl
carry-binned_at l Stage.Looking = refl
carry-binned_at l Stage.Getting = refl
carry-binned_at l Stage.Ending = refl
carry-binned_at l Stage.Replacing = refl
carry-binned_at l Stage.Undoing = refl
carry-binned_at l Stage.Leaving = refl

carry-binned_as : (l : Local) (at : BinAt) (next : BinNext) → IsAway (binned_as l at next)
carry-binned_as l at (BinNext.Goes next) = refl
carry-binned_as l at BinNext.Waits = refl
carry-binned_as l at BinNext.Done = carry-binned_at l l.call.stage

pub carry-reset_learn_of : (l : Local) (at : ResetAt) (f : ℕ) → IsAway (reset_learn_of l at f)
carry-reset_learn_of l (ResetAt.Strip slab at) f = carry-stripped_as l slab (strip_learn (strip_call l slab) at f)
carry-reset_learn_of l (ResetAt.Seek at) f = carry-sought_as l at.seek (seek_learn at f)
carry-reset_learn_of l (ResetAt.Evict region at) f =
    carry-evicting l region (evict_learn (evict_call l region) at f)
carry-reset_learn_of l (ResetAt.Clear granules at) f = carry-cleared_as l granules at (clear_learn at f)
carry-reset_learn_of l (ResetAt.Unqueue at) f = carry-unqueuing l (unqueue_learn at f)
carry-reset_learn_of l (ResetAt.Unite region at) f =
    carry-uniting l region at (unite_learn (unite_call l region) at f)
carry-reset_learn_of l (ResetAt.Bin at) f = carry-binned_as l at (bin_learn (binning_call l) at f)

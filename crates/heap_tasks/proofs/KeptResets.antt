-- A reset that goes on changes no slab, but where a slab gets an object back.
use Rattle.std.proofs.Common.{Bool, true, false, cond, eqb, refl, ℕ}
use Rattle.std.specs.Prelude.{None, Option, Some, ltb, ◌+◌, ◌-◌}
use Rattle.pool_types.specs.Sums.{capped}
use Rattle.word_codes.specs.declared.region_words.RegionWord.{RegionWord}
use Rattle.heap_slabs.specs.Rolls.{newest_of}
use Rattle.heap_slabs.specs.Slabs.{after_free_of, first_from}
use Rattle.heap_slabs.specs.declared.records.HeapSlab.{HeapSlab}
use Rattle.heap_slabs.specs.declared.slabs.Wanted.{Wanted}
use Rattle.reset_steps.specs.Evict.{evict_from}
use Rattle.reset_steps.specs.Strip.{object_unit, strip_from, strip_goes, strip_marked}
use Rattle.reset_steps.specs.Unqueue.{unqueue_from}
use Rattle.reset_steps.specs.declared.evict.EvictNext.{EvictNext}
use Rattle.reset_steps.specs.declared.seek.Seek.{Seek}
use Rattle.reset_steps.specs.declared.seek.SeekNext.{SeekNext}
use Rattle.reset_steps.specs.declared.strip.StripAt.{StripAt}
use Rattle.reset_steps.specs.declared.strip.StripNext.{StripNext}
use Rattle.reset_steps.specs.declared.unite.UniteAt.{UniteAt}
use Rattle.reset_steps.specs.declared.unite.UniteNext.{UniteNext}
use Rattle.reset_steps.specs.declared.unqueue.UnqueueNext.{UnqueueNext}
use Rattle.step_local.specs.Leaving.{with_slabs}
use Rattle.word_codes.specs.declared.marks.Mark.{Mark}
use Rattle.word_codes.specs.Marks.{mark_of}
use Rattle.step_local.specs.Frames.{last_cache_bin}
use Rattle.step_local.specs.Resetting.{resetting, stripping, stripping_from, strip_call, stripped_as}
use Rattle.step_local.specs.Resetting.{class_begun, slab_given, first_fetched, heap_given, heap_on, last_class}
use Rattle.step_local.specs.Resetting.{next_class, orphans_on, orphan_adopted, evict_call, evicting, evicting_from}
use Rattle.step_local.specs.Resetting.{bin_cleared, uncached_by, uncaching, unqueuing}
use Rattle.step_local.specs.Resetting.{unite_call, uniting, uniting_from, region_found, regions_passed, sought_as}
use Rattle.step_local.specs.Resetting.{reset_on, binned_at}
use Rattle.step_local.specs.declared.frames.Local.{Local}
use Rattle.step_local.specs.declared.frames.ResetStage.{ResetStage}
use Rattle.step_local.specs.declared.frames.Stage.{Stage}
use Rattle.backend_bins.specs.Blocks.{block, block_end}
use Rattle.backend_bins.specs.declared.blocks.Block.{Block}
use Rattle.reset_steps.specs.Unite.{united}
use Rattle.step_local.specs.Resetting.{region_block}
use Rattle.backend_bins.specs.Bin.{bin_learn}
use Rattle.backend_bins.specs.declared.bin.BinAt.{BinAt}
use Rattle.backend_bins.specs.declared.bin.BinNext.{BinNext}
use Rattle.reset_steps.specs.Clear.{clear_learn}
use Rattle.reset_steps.specs.Evict.{evict_learn}
use Rattle.reset_steps.specs.Seek.{seek_learn}
use Rattle.reset_steps.specs.Unite.{unite_learn}
use Rattle.reset_steps.specs.Unqueue.{unqueue_learn}
use Rattle.reset_steps.specs.declared.clear.ClearAt.{ClearAt}
use Rattle.reset_steps.specs.declared.clear.ClearNext.{ClearNext}
use Rattle.step_local.specs.declared.frames.ResetAt.{ResetAt}
use Rattle.step_local.specs.Resetting.{binned_as, binning_call, cleared_as, reset_learn_of, strip_learn_of}
use Rattle.heap_tasks.specs.Heaps.{HeapIs, cached_of, kept_of, kept_reset, kept_stripped, last_of}
use Rattle.heap_tasks.proofs.Kept.{Keeps, either}

keeps-stripping : (l : Local) (slab : ℕ) (one : Option StripAt) → Keeps l (stripping l slab one)
keeps-stripping l slab (Some at) = (refl, refl, refl)
keeps-stripping l slab None = (refl, refl, refl)

keeps-stripping_from : (l : Local) (slab object : ℕ) → Keeps l (stripping_from l slab object)
keeps-stripping_from l slab object = keeps-stripping l slab (strip_from (strip_call l slab) object)

keeps-class_begun : (l : Local) (found : Option HeapSlab) → Keeps l (class_begun l found)
keeps-class_begun l (Some kept) = (refl, refl, refl)
keeps-class_begun l None = (refl, refl, refl)

keeps-slab_given : (l : Local) (found : Option HeapSlab) → Keeps l (slab_given l found)
keeps-slab_given l (Some kept) = keeps-stripping_from l kept.slab 0
keeps-slab_given l None = keeps-class_begun l (first_from Wanted.Any l.heap.slabs 0)

keeps-heap_given : (l : Local) (class one : Option ℕ) → Keeps l (heap_given l class one)
keeps-heap_given l class (Some slab) = (refl, refl, refl)
keeps-heap_given l class None = keeps-slab_given l (first_fetched l class)

pub keeps-heap_on : (l : Local) (class : Option ℕ) → Keeps l (heap_on l class)
keeps-heap_on l class = keeps-heap_given l class (newest_of l.heap.cached)

keeps-next_class : (l : Local) → Keeps l (next_class l)
keeps-next_class l = either l (ltb l.fetch.class last_class) _ _ (refl, refl, refl) (refl, refl, refl)

keeps-orphans_on : (l : Local) (rest : Option ℕ) → Keeps l (orphans_on l rest)
keeps-orphans_on l (Some slab) = (refl, refl, refl)
keeps-orphans_on l None = keeps-next_class l

pub keeps-orphan_adopted : (l : Local) (slab : ℕ) (rest : Option ℕ) → Keeps l (orphan_adopted l slab rest)
keeps-orphan_adopted l slab rest = keeps-stripping_from (resetting l (ResetStage.Orphans rest)) slab 0

keeps-evicting : (l : Local) (region : RegionWord) (next : EvictNext) → Keeps l (evicting l region next)
keeps-evicting l region (EvictNext.Goes at) = (refl, refl, refl)
keeps-evicting l region (EvictNext.Ended b granule) = (refl, refl, refl)
keeps-evicting l region EvictNext.Passed = (refl, refl, refl)

keeps-evicting_from : (l : Local) (region : RegionWord) (granule : ℕ) → Keeps l (evicting_from l region granule)
keeps-evicting_from l region granule = keeps-evicting l region (evict_from (evict_call l region) granule)

pub keeps-bin_cleared : (l : Local) (granules : ℕ) → Keeps l (bin_cleared l granules)
keeps-bin_cleared l granules = either l (ltb granules last_cache_bin) _ _ (refl, refl, refl) (refl, refl, refl)

keeps-uncached_by : (l : Local) (granules : ℕ) (one : Option ℕ) → Keeps l (uncached_by l granules one)
keeps-uncached_by l granules (Some first) = (refl, refl, refl)
keeps-uncached_by l granules None = keeps-bin_cleared l granules

pub keeps-uncaching : (l : Local) (granules : ℕ) → Keeps l (uncaching l granules)
keeps-uncaching l granules = keeps-uncached_by l granules (newest_of l.released)

keeps-unqueuing : (l : Local) (next : UnqueueNext) → Keeps l (unqueuing l next)
keeps-unqueuing l (UnqueueNext.Goes at) = (refl, refl, refl)
keeps-unqueuing l (UnqueueNext.Out b rest) = (refl, refl, refl)
keeps-unqueuing l UnqueueNext.Emptied = (refl, refl, refl)

keeps-united : (l : Local) (region : RegionWord) (at : UniteAt) (b : Block)
    → Keeps l (uniting l region at (UniteNext.United b))
keeps-united l region at b = either l (eqb b.granules 0) _ _ (refl, refl, refl) (refl, refl, refl)

keeps-uniting_from : (l : Local) (region : RegionWord) → Keeps l (uniting_from l region)
keeps-uniting_from l region = by (ltb region.first (block_end (region_block region)))
  where
    by : (b : Bool) → Keeps l (uniting l region (UniteAt.Size region.first)
        (cond b (UniteNext.Goes (UniteAt.Size region.first)) (united (unite_call l region) region.first)))
    by true = (refl, refl, refl)
    by false = keeps-united l region (UniteAt.Size region.first)
        (block region.first (region.first - region.first))

keeps-region_found : (l : Local) (region : RegionWord) (seek : Seek) → Keeps l (region_found l region seek)
keeps-region_found l region (Seek.From least) = keeps-evicting_from l region region.first
keeps-region_found l region (Seek.Under end) = keeps-uniting_from l region

keeps-regions_passed : (l : Local) (seek : Seek) → Keeps l (regions_passed l seek)
keeps-regions_passed l (Seek.From least) = (refl, refl, refl)
keeps-regions_passed l (Seek.Under end) = (refl, refl, refl)

keeps-sought_as : (l : Local) (seek : Seek) (next : SeekNext) → Keeps l (sought_as l seek next)
keeps-sought_as l seek (SeekNext.Goes at) = (refl, refl, refl)
keeps-sought_as l seek (SeekNext.Found region) = keeps-region_found l region seek
keeps-sought_as l seek SeekNext.Nothing = keeps-regions_passed l seek

pub keeps-reset_on : (l : Local) (stage : ResetStage) → Keeps l (reset_on l stage)
unfolding reset_on
keeps-reset_on l (ResetStage.Heap class) = keeps-heap_on l class
keeps-reset_on l (ResetStage.Orphans rest) = keeps-orphans_on l rest
keeps-reset_on l (ResetStage.Large region granule) = keeps-evicting_from l region granule
keeps-reset_on l (ResetStage.Cache granules) = keeps-uncaching l granules
keeps-reset_on l (ResetStage.Queue rest) = keeps-unqueuing l (unqueue_from rest)
keeps-reset_on l (ResetStage.Regions below) = (refl, refl, refl)

keeps-binned_at : (l : Local) (stage : Stage) → Keeps l (binned_at l stage)
keeps-binned_at l (Stage.Resetting stage) = keeps-reset_on l stage
keeps-binned_at l _ = (refl, refl, refl)

keeps-cleared_as : (l : Local) (granules : ℕ) (at : ClearAt) (next : ClearNext)
    → Keeps l (cleared_as l granules at next)
keeps-cleared_as l granules at (ClearNext.Goes next) = (refl, refl, refl)
keeps-cleared_as l granules at (ClearNext.Taken taken next) = (refl, refl, refl)
keeps-cleared_as l granules at ClearNext.Waits = (refl, refl, refl)
keeps-cleared_as l granules at ClearNext.Passed = keeps-bin_cleared l granules
keeps-cleared_as l granules at ClearNext.Cleared = keeps-uncaching l granules

keeps-uniting : (l : Local) (region : RegionWord) (at : UniteAt) (next : UniteNext)
    → Keeps l (uniting l region at next)
keeps-uniting l region at (UniteNext.Goes next) = (refl, refl, refl)
keeps-uniting l region at (UniteNext.Waits bin) = (refl, refl, refl)
keeps-uniting l region at (UniteNext.United b) = keeps-united l region at b

keeps-binned_as : (l : Local) (at : BinAt) (next : BinNext) → Keeps l (binned_as l at next)
keeps-binned_as l at (BinNext.Goes next) = (refl, refl, refl)
keeps-binned_as l at BinNext.Waits = (refl, refl, refl)
keeps-binned_as l at BinNext.Done = keeps-binned_at l l.call.stage

stripped : (l : Local) (slab object unit : ℕ) (is : Bool)
    → HeapIs
    (stripped_as l slab (cond is (StripNext.Freed object unit) (StripNext.Goes (StripAt.Mark object)))).0
    (cond is (after_free_of (kept_of l) slab unit) (kept_of l)) (cached_of l) (last_of l)
stripped l slab object unit true = keeps-stripping_from
    (with_slabs l (after_free_of l.heap.slabs slab unit)) slab (capped (object + 1))
stripped l slab object unit false = (refl, refl, refl)

marked : (l : Local) (slab : ℕ) (one : Option StripAt) → Keeps l (stripped_as l slab (strip_goes one))
marked l slab (Some at) = (refl, refl, refl)
marked l slab None = (refl, refl, refl)

strip_marks : (l : Local) (slab object f : ℕ) (mark : Mark)
    → Keeps l (stripped_as l slab (strip_marked (strip_call l slab) object f mark))
strip_marks l slab object f (Mark.Granted grant) = (refl, refl, refl)
strip_marks l slab object f _ = marked l slab (strip_from (strip_call l slab) (capped (object + 1)))

strip_turn : (l : Local) (slab : ℕ) (at : StripAt) (f : ℕ) → HeapIs (strip_learn_of l slab at f).0
    (kept_stripped l slab at f) (cached_of l) (last_of l)
strip_turn l slab (StripAt.Mark object) f = strip_marks l slab object f (mark_of f)
strip_turn l slab (StripAt.End object mark) f =
    stripped l slab object (object_unit (strip_call l slab) object) (eqb f mark)

pub reset_turn : (l : Local) (at : ResetAt) (f : ℕ)
    → HeapIs (reset_learn_of l at f).0 (kept_reset l at f) (cached_of l) (last_of l)
reset_turn l (ResetAt.Strip slab at) f = strip_turn l slab at f
reset_turn l (ResetAt.Seek at) f = keeps-sought_as l at.seek (seek_learn at f)
reset_turn l (ResetAt.Evict region at) f =
    keeps-evicting l region (evict_learn (evict_call l region) at f)
reset_turn l (ResetAt.Clear granules at) f = keeps-cleared_as l granules at (clear_learn at f)
reset_turn l (ResetAt.Unqueue at) f = keeps-unqueuing l (unqueue_learn at f)
reset_turn l (ResetAt.Unite region at) f =
    keeps-uniting l region at (unite_learn (unite_call l region) at f)
reset_turn l (ResetAt.Bin at) f = keeps-binned_as l at (bin_learn (binning_call l) at f)

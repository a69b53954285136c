-- A reset goes on at its stage, and has noted nothing.
use Rattle.std.proofs.Common.{Bool, true, false, cond, eqb, ℕ}
use Rattle.std.specs.Prelude.{None, Option, Some, ltb, ◌+◌, ◌-◌}
use Rattle.pool_types.specs.Sums.{capped}
use Rattle.word_codes.specs.declared.region_words.RegionWord.{RegionWord}
use Rattle.heap_slabs.specs.Rolls.{newest_of}
use Rattle.heap_slabs.specs.Slabs.{after_free_of, first_from}
use Rattle.heap_slabs.specs.declared.records.HeapSlab.{HeapSlab}
use Rattle.heap_slabs.specs.declared.slabs.Wanted.{Wanted}
use Rattle.reset_steps.specs.Evict.{evict_from}
use Rattle.reset_steps.specs.Strip.{strip_from}
use Rattle.reset_steps.specs.Unqueue.{unqueue_from}
use Rattle.reset_steps.specs.declared.evict.EvictNext.{EvictNext}
use Rattle.reset_steps.specs.declared.seek.Seek.{Seek}
use Rattle.reset_steps.specs.declared.seek.SeekNext.{SeekNext}
use Rattle.reset_steps.specs.declared.strip.StripAt.{StripAt}
use Rattle.reset_steps.specs.declared.strip.StripNext.{StripNext}
use Rattle.reset_steps.specs.declared.unite.UniteAt.{UniteAt}
use Rattle.reset_steps.specs.declared.unite.UniteNext.{UniteNext}
use Rattle.reset_steps.specs.declared.unqueue.UnqueueNext.{UnqueueNext}
use Rattle.step_local.specs.Leaving.{with_slabs}
use Rattle.step_local.specs.Frames.{last_cache_bin}
use Rattle.step_local.specs.Resetting.{resetting, stripping, stripping_from, strip_call, stripped_as}
use Rattle.step_local.specs.Resetting.{class_begun, slab_given, first_fetched, heap_given, heap_on, last_class}
use Rattle.step_local.specs.Resetting.{next_class, orphans_on, orphan_adopted, evict_call, evicting, evicting_from}
use Rattle.step_local.specs.Resetting.{bin_cleared, uncached_by, uncaching, unqueuing}
use Rattle.step_local.specs.Resetting.{unite_call, uniting, uniting_from, region_found, regions_passed, sought_as}
use Rattle.step_local.specs.Resetting.{reset_on, binned_at}
use Rattle.step_local.specs.declared.frames.Local.{Local}
use Rattle.step_local.specs.declared.frames.ResetStage.{ResetStage}
use Rattle.step_local.specs.declared.frames.Stage.{Stage}
use Rattle.backend_bins.specs.Blocks.{block, block_end}
use Rattle.backend_bins.specs.declared.blocks.Block.{Block}
use Rattle.reset_steps.specs.Unite.{united}
use Rattle.step_local.specs.Resetting.{region_block}
use Rattle.backend_bins.specs.Bin.{bin_learn}
use Rattle.backend_bins.specs.declared.bin.BinAt.{BinAt}
use Rattle.backend_bins.specs.declared.bin.BinNext.{BinNext}
use Rattle.reset_steps.specs.Clear.{clear_learn}
use Rattle.reset_steps.specs.Evict.{evict_learn}
use Rattle.reset_steps.specs.Seek.{seek_learn}
use Rattle.reset_steps.specs.Strip.{strip_learn}
use Rattle.reset_steps.specs.Unite.{unite_learn}
use Rattle.reset_steps.specs.Unqueue.{unqueue_learn}
use Rattle.reset_steps.specs.declared.clear.ClearAt.{ClearAt}
use Rattle.reset_steps.specs.declared.clear.ClearNext.{ClearNext}
use Rattle.step_local.specs.declared.frames.ResetAt.{ResetAt}
use Rattle.step_local.specs.Resetting.{binned_as, binning_call, cleared_as, reset_learn_of}
use Rattle.heap_tasks.specs.Notes.{IsTail, notes_of}
use Rattle.heap_tasks.specs.Stages.{IsResetting}
use Rattle.heap_tasks.proofs.Staged.{Goes, either, none_left}
use Rattle.heap_tasks.proofs.Staged.{resetting_adopts, resetting_empties, resetting_fetches, tails}

goes-stripping : (l : Local) (slab : ℕ) (one : Option StripAt) → IsResetting l.call.stage
    → Goes l (stripping l slab one)
goes-stripping l slab (Some at) is = (is, IsTail.all)
goes-stripping l slab None is = (resetting_empties l.call.stage is, IsTail.all)

goes-stripping_from : (l : Local) (slab object : ℕ) → IsResetting l.call.stage → Goes l (stripping_from l slab object)
goes-stripping_from l slab object is = goes-stripping l slab (strip_from (strip_call l slab) object) is

goes-class_begun : (l : Local) (found : Option HeapSlab) → IsResetting l.call.stage → Goes l (class_begun l found)
goes-class_begun l (Some kept) is = (tt, none_left (notes_of l))
goes-class_begun l None is = (tt, none_left (notes_of l))

goes-slab_given : (l : Local) (found : Option HeapSlab) → IsResetting l.call.stage → Goes l (slab_given l found)
goes-slab_given l (Some kept) is = goes-stripping_from l kept.slab 0 is
goes-slab_given l None is = goes-class_begun l (first_from Wanted.Any l.heap.slabs 0) is

goes-heap_given : (l : Local) (class one : Option ℕ) → IsResetting l.call.stage → Goes l (heap_given l class one)
goes-heap_given l class (Some slab) is = (resetting_fetches l.call.stage is, IsTail.all)
goes-heap_given l class None is = goes-slab_given l (first_fetched l class) is

pub goes-heap_on : (l : Local) (class : Option ℕ) → IsResetting l.call.stage → Goes l (heap_on l class)
goes-heap_on l class is = goes-heap_given l class (newest_of l.heap.cached) is

goes-next_class : (l : Local) → IsResetting l.call.stage → Goes l (next_class l)
goes-next_class l is =
    either l (ltb l.fetch.class last_class) _ _ (resetting_adopts l.call.stage is, IsTail.all) (is, IsTail.all)

goes-orphans_on : (l : Local) (rest : Option ℕ) → IsResetting l.call.stage → Goes l (orphans_on l rest)
goes-orphans_on l (Some slab) is = (resetting_adopts l.call.stage is, IsTail.all)
goes-orphans_on l None is = goes-next_class l is

pub goes-orphan_adopted : (l : Local) (slab : ℕ) (rest : Option ℕ) → Goes l (orphan_adopted l slab rest)
goes-orphan_adopted l slab rest =
    let step : Goes (resetting l (ResetStage.Orphans rest)) (orphan_adopted l slab rest) =
    goes-stripping_from (resetting l (ResetStage.Orphans rest)) slab 0 tt in
    (step.0, tails step.1 (none_left (notes_of l)))

goes-evicting : (l : Local) (region : RegionWord) (next : EvictNext) → IsResetting l.call.stage
    → Goes l (evicting l region next)
goes-evicting l region (EvictNext.Goes at) is = (is, IsTail.all)
goes-evicting l region (EvictNext.Ended b granule) is = (tt, none_left (notes_of l))
goes-evicting l region EvictNext.Passed is = (is, IsTail.all)

goes-evicting_from : (l : Local) (region : RegionWord) (granule : ℕ) → IsResetting l.call.stage
    → Goes l (evicting_from l region granule)
goes-evicting_from l region granule is = goes-evicting l region (evict_from (evict_call l region) granule) is

pub goes-bin_cleared : (l : Local) (granules : ℕ) → IsResetting l.call.stage → Goes l (bin_cleared l granules)
goes-bin_cleared l granules is = either l (ltb granules last_cache_bin) _ _ (is, IsTail.all) (is, IsTail.all)

goes-uncached_by : (l : Local) (granules : ℕ) (one : Option ℕ) → IsResetting l.call.stage
    → Goes l (uncached_by l granules one)
goes-uncached_by l granules (Some first) is = (tt, none_left (notes_of l))
goes-uncached_by l granules None is = goes-bin_cleared l granules is

pub goes-uncaching : (l : Local) (granules : ℕ) → IsResetting l.call.stage → Goes l (uncaching l granules)
goes-uncaching l granules is = goes-uncached_by l granules (newest_of l.released) is

goes-unqueuing : (l : Local) (next : UnqueueNext) → IsResetting l.call.stage → Goes l (unqueuing l next)
goes-unqueuing l (UnqueueNext.Goes at) is = (is, IsTail.all)
goes-unqueuing l (UnqueueNext.Out b rest) is = (tt, none_left (notes_of l))
goes-unqueuing l UnqueueNext.Emptied is = (is, IsTail.all)

goes-united : (l : Local) (region : RegionWord) (at : UniteAt) (b : Block) → IsResetting l.call.stage
    → Goes l (uniting l region at (UniteNext.United b))
goes-united l region at b is = either l (eqb b.granules 0) _ _ (is, IsTail.all) (tt, none_left (notes_of l))

goes-uniting_from : (l : Local) (region : RegionWord) → IsResetting l.call.stage → Goes l (uniting_from l region)
goes-uniting_from l region is = by (ltb region.first (block_end (region_block region)))
  where
    by : (b : Bool) → Goes l (uniting l region (UniteAt.Size region.first)
        (cond b (UniteNext.Goes (UniteAt.Size region.first)) (united (unite_call l region) region.first)))
    by true = (is, IsTail.all)
    by false = goes-united l region (UniteAt.Size region.first)
        (block region.first (region.first - region.first)) is

goes-region_found : (l : Local) (region : RegionWord) (seek : Seek) → IsResetting l.call.stage
    → Goes l (region_found l region seek)
goes-region_found l region (Seek.From least) is = goes-evicting_from l region region.first is
goes-region_found l region (Seek.Under end) is = goes-uniting_from l region is

goes-regions_passed : (l : Local) (seek : Seek) → IsResetting l.call.stage → Goes l (regions_passed l seek)
goes-regions_passed l (Seek.From least) is = (is, IsTail.all)
goes-regions_passed l (Seek.Under end) is = (tt, none_left (notes_of l))

goes-sought_as : (l : Local) (seek : Seek) (next : SeekNext) → IsResetting l.call.stage
    → Goes l (sought_as l seek next)
goes-sought_as l seek (SeekNext.Goes at) is = (is, IsTail.all)
goes-sought_as l seek (SeekNext.Found region) is = goes-region_found l region seek is
goes-sought_as l seek SeekNext.Nothing is = goes-regions_passed l seek is

pub goes-reset_on : (l : Local) (stage : ResetStage) → IsResetting l.call.stage → Goes l (reset_on l stage)
unfolding reset_on
goes-reset_on l (ResetStage.Heap class) is = goes-heap_on l class is
goes-reset_on l (ResetStage.Orphans rest) is = goes-orphans_on l rest is
goes-reset_on l (ResetStage.Large region granule) is = goes-evicting_from l region granule is
goes-reset_on l (ResetStage.Cache granules) is = goes-uncaching l granules is
goes-reset_on l (ResetStage.Queue rest) is = goes-unqueuing l (unqueue_from rest) is
goes-reset_on l (ResetStage.Regions below) is = (is, IsTail.all)

goes-binned_at : (l : Local) (stage : Stage) → IsResetting l.call.stage → Goes l (binned_at l stage)
goes-binned_at l (Stage.Resetting stage) is = goes-reset_on l stage is
goes-binned_at l _ is = (tt, none_left (notes_of l))

goes-cleared_as : (l : Local) (granules : ℕ) (at : ClearAt) (next : ClearNext) → IsResetting l.call.stage
    → Goes l (cleared_as l granules at next)
goes-cleared_as l granules at (ClearNext.Goes next) is = (is, IsTail.all)
goes-cleared_as l granules at (ClearNext.Taken taken next) is = (is, IsTail.all)
goes-cleared_as l granules at ClearNext.Waits is = (is, IsTail.all)
goes-cleared_as l granules at ClearNext.Passed is = goes-bin_cleared l granules is
goes-cleared_as l granules at ClearNext.Cleared is = goes-uncaching l granules is

goes-uniting : (l : Local) (region : RegionWord) (at : UniteAt) (next : UniteNext) → IsResetting l.call.stage
    → Goes l (uniting l region at next)
goes-uniting l region at (UniteNext.Goes next) is = (is, IsTail.all)
goes-uniting l region at (UniteNext.Waits bin) is = (is, IsTail.all)
goes-uniting l region at (UniteNext.United b) is = goes-united l region at b is

goes-binned_as : (l : Local) (at : BinAt) (next : BinNext) → IsResetting l.call.stage → Goes l (binned_as l at next)
goes-binned_as l at (BinNext.Goes next) is = (is, IsTail.all)
goes-binned_as l at BinNext.Waits is = (is, IsTail.all)
goes-binned_as l at BinNext.Done is = goes-binned_at l l.call.stage is

goes-stripped_as : (l : Local) (slab : ℕ) (next : StripNext) → IsResetting l.call.stage
    → Goes l (stripped_as l slab next)
goes-stripped_as l slab (StripNext.Goes at) is = (is, IsTail.all)
goes-stripped_as l slab (StripNext.Freed object unit) is =
    goes-stripping_from (with_slabs l (after_free_of l.heap.slabs slab unit)) slab (capped (object + 1)) is
goes-stripped_as l slab StripNext.Stripped is = goes-stripping l slab None is

pub goes-reset_learn_of : (l : Local) (at : ResetAt) (f : ℕ) → IsResetting l.call.stage
    → Goes l (reset_learn_of l at f)
goes-reset_learn_of l (ResetAt.Strip slab at) f is = goes-stripped_as l slab (strip_learn (strip_call l slab) at f) is
goes-reset_learn_of l (ResetAt.Seek at) f is = goes-sought_as l at.seek (seek_learn at f) is
goes-reset_learn_of l (ResetAt.Evict region at) f is =
    goes-evicting l region (evict_learn (evict_call l region) at f) is
goes-reset_learn_of l (ResetAt.Clear granules at) f is = goes-cleared_as l granules at (clear_learn at f) is
goes-reset_learn_of l (ResetAt.Unqueue at) f is = goes-unqueuing l (unqueue_learn at f) is
goes-reset_learn_of l (ResetAt.Unite region at) f is =
    goes-uniting l region at (unite_learn (unite_call l region) at f) is
goes-reset_learn_of l (ResetAt.Bin at) f is = goes-binned_as l at (bin_learn (binning_call l) at f) is

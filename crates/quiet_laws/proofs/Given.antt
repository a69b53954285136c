-- A reset goes on: what it gives up, frees and unites.
use Rattle.std.proofs.Common.{◌≡◌, eqb, refl, ℕ, true}
use Rattle.std.specs.Prelude.{None, Option, Some, ltb, ◌+◌}
use Rattle.pool_types.specs.Sums.{capped}
use Rattle.word_codes.specs.declared.region_words.RegionWord.{RegionWord}
use Rattle.backend_bins.specs.Bin.{bin_learn}
use Rattle.backend_bins.specs.declared.bin.BinAt.{BinAt}
use Rattle.backend_bins.specs.declared.bin.BinNext.{BinNext}
use Rattle.heap_slabs.specs.Rolls.{newest_of}
use Rattle.heap_slabs.specs.Slabs.{after_free_of, first_from}
use Rattle.heap_slabs.specs.declared.records.HeapSlab.{HeapSlab}
use Rattle.heap_slabs.specs.declared.slabs.Wanted.{Wanted}
use Rattle.reset_steps.specs.Clear.{clear_learn}
use Rattle.reset_steps.specs.Evict.{evict_from, evict_learn}
use Rattle.reset_steps.specs.Seek.{seek_learn}
use Rattle.reset_steps.specs.Strip.{strip_from, strip_learn}
use Rattle.reset_steps.specs.Unite.{unite_from, unite_learn}
use Rattle.reset_steps.specs.Unqueue.{unqueue_from, unqueue_learn}
use Rattle.reset_steps.specs.declared.clear.ClearAt.{ClearAt}
use Rattle.reset_steps.specs.declared.clear.ClearNext.{ClearNext}
use Rattle.reset_steps.specs.declared.evict.EvictNext.{EvictNext}
use Rattle.reset_steps.specs.declared.seek.Seek.{Seek}
use Rattle.reset_steps.specs.declared.seek.SeekNext.{SeekNext}
use Rattle.reset_steps.specs.declared.strip.StripAt.{StripAt}
use Rattle.reset_steps.specs.declared.strip.StripNext.{StripNext}
use Rattle.reset_steps.specs.declared.unite.UniteAt.{UniteAt}
use Rattle.reset_steps.specs.declared.unite.UniteNext.{UniteNext}
use Rattle.reset_steps.specs.declared.unqueue.UnqueueNext.{UnqueueNext}
use Rattle.step_local.specs.Leaving.{with_slabs}
use Rattle.step_local.specs.Frames.{last_cache_bin}
use Rattle.step_local.specs.Resetting.{resetting, binning_call, stripping, stripping_from, strip_call, stripped_as}
use Rattle.step_local.specs.Resetting.{class_begun, slab_given, first_fetched, heap_given, heap_on, last_class}
use Rattle.step_local.specs.Resetting.{next_class, orphans_on, orphan_adopted, evict_call, evicting, evicting_from}
use Rattle.step_local.specs.Resetting.{bin_cleared, uncached_by, uncaching, cleared_as, unqueuing}
use Rattle.step_local.specs.Resetting.{unite_call, uniting, uniting_from, region_found, regions_passed, sought_as}
use Rattle.step_local.specs.Resetting.{reset_on, binned_at, binned_as, reset_learn_of}
use Rattle.step_local.specs.declared.frames.Local.{Local}
use Rattle.step_local.specs.declared.frames.ResetAt.{ResetAt}
use Rattle.step_local.specs.declared.frames.ResetStage.{ResetStage}
use Rattle.step_local.specs.declared.frames.Stage.{Stage}
use Rattle.call_laws.specs.Calls.{is_resetting}
use Rattle.quiet_laws.specs.Resets.{GoesOn}
use Rattle.quiet_laws.proofs.Either.{either}

-- a reset is begun
abbrev pub IsOn : Local → Type 0
IsOn l = is_resetting l.call.stage ≡ true

on-stripping : (l : Local) (e : IsOn l) (slab : ℕ) (one : Option StripAt) → GoesOn l (stripping l slab one)
on-stripping l e slab (Some at) = cc
on-stripping l e slab None = cc

on-stripping_from : (l : Local) (e : IsOn l) (slab object : ℕ) → GoesOn l (stripping_from l slab object)
on-stripping_from l e slab object = on-stripping l e slab (strip_from (strip_call l slab) object)

on-stripped_as : (l : Local) (e : IsOn l) (slab : ℕ) (next : StripNext) → GoesOn l (stripped_as l slab next)
on-stripped_as l e slab (StripNext.Goes at) = cc
on-stripped_as l e slab (StripNext.Freed object unit) =
    on-stripping_from (with_slabs l (after_free_of l.heap.slabs slab unit)) e slab (capped (object + 1))
on-stripped_as l e slab StripNext.Stripped = cc

on-class_begun : (l : Local) (e : IsOn l) (found : Option HeapSlab) → GoesOn l (class_begun l found)
on-class_begun l e (Some kept) = cc
on-class_begun l e None = cc

on-slab_given : (l : Local) (e : IsOn l) (found : Option HeapSlab) → GoesOn l (slab_given l found)
on-slab_given l e (Some kept) = on-stripping_from l e kept.slab 0
on-slab_given l e None = on-class_begun l e (first_from Wanted.Any l.heap.slabs 0)

on-heap_given : (l : Local) (e : IsOn l) (class one : Option ℕ) → GoesOn l (heap_given l class one)
on-heap_given l e class (Some slab) = cc
on-heap_given l e class None = on-slab_given l e (first_fetched l class)

on-heap_on : (l : Local) (e : IsOn l) (class : Option ℕ) → GoesOn l (heap_on l class)
on-heap_on l e class = on-heap_given l e class (newest_of l.heap.cached)

on-next_class : (l : Local) (e : IsOn l) → GoesOn l (next_class l)
on-next_class l e = either l (ltb l.fetch.class last_class) _ _ (cc) (cc)

on-orphans_on : (l : Local) (e : IsOn l) (rest : Option ℕ) → GoesOn l (orphans_on l rest)
on-orphans_on l e (Some slab) = cc
on-orphans_on l e None = on-next_class l e

pub on-orphan_adopted : (l : Local) (slab : ℕ) (rest : Option ℕ) → GoesOn l (orphan_adopted l slab rest)
on-orphan_adopted l slab rest = on-stripping_from (resetting l (ResetStage.Orphans rest)) refl slab 0

on-evicting : (l : Local) (e : IsOn l) (region : RegionWord) (next : EvictNext) → GoesOn l (evicting l region next)
on-evicting l e region (EvictNext.Goes at) = cc
on-evicting l e region (EvictNext.Ended b granule) = cc
on-evicting l e region EvictNext.Passed = cc

on-evicting_from : (l : Local) (e : IsOn l) (region : RegionWord) (granule : ℕ)
    → GoesOn l (evicting_from l region granule)
on-evicting_from l e region granule = on-evicting l e region (evict_from (evict_call l region) granule)

on-bin_cleared : (l : Local) (e : IsOn l) (granules : ℕ) → GoesOn l (bin_cleared l granules)
on-bin_cleared l e granules = either l (ltb granules last_cache_bin) _ _ (cc) (cc)

on-uncached_by : (l : Local) (e : IsOn l) (granules : ℕ) (one : Option ℕ) → GoesOn l (uncached_by l granules one)
on-uncached_by l e granules (Some first) = cc
on-uncached_by l e granules None = on-bin_cleared l e granules

on-uncaching : (l : Local) (e : IsOn l) (granules : ℕ) → GoesOn l (uncaching l granules)
on-uncaching l e granules = on-uncached_by l e granules (newest_of l.released)

on-cleared_as : (l : Local) (e : IsOn l) (granules : ℕ) (at : ClearAt) (next : ClearNext)
    → GoesOn l (cleared_as l granules at next)
on-cleared_as l e granules at (ClearNext.Goes next) = cc
on-cleared_as l e granules at (ClearNext.Taken taken next) = cc
on-cleared_as l e granules at ClearNext.Waits = cc
on-cleared_as l e granules at ClearNext.Passed = on-bin_cleared l e granules
on-cleared_as l e granules at ClearNext.Cleared = on-uncaching l e granules

on-unqueuing : (l : Local) (e : IsOn l) (next : UnqueueNext) → GoesOn l (unqueuing l next)
on-unqueuing l e (UnqueueNext.Goes at) = cc
on-unqueuing l e (UnqueueNext.Out b rest) = cc
on-unqueuing l e UnqueueNext.Emptied = cc

on-uniting : (l : Local) (e : IsOn l) (region : RegionWord) (at : UniteAt) (next : UniteNext)
    → GoesOn l (uniting l region at next)
on-uniting l e region at (UniteNext.Goes next) = cc
on-uniting l e region at (UniteNext.Waits bin) = cc
on-uniting l e region at (UniteNext.United b) = either l (eqb b.granules 0) _ _ (cc) (cc)

on-uniting_from : (l : Local) (e : IsOn l) (region : RegionWord) → GoesOn l (uniting_from l region)
on-uniting_from l e region =
    on-uniting l e region (UniteAt.Size region.first) (unite_from (unite_call l region) region.first)

on-region_found : (l : Local) (e : IsOn l) (region : RegionWord) (seek : Seek) → GoesOn l (region_found l region seek)
on-region_found l e region (Seek.From least) = on-evicting_from l e region region.first
on-region_found l e region (Seek.Under end) = on-uniting_from l e region

on-regions_passed : (l : Local) (e : IsOn l) (seek : Seek) → GoesOn l (regions_passed l seek)
on-regions_passed l e (Seek.From least) = cc
on-regions_passed l e (Seek.Under end) = cc

on-sought_as : (l : Local) (e : IsOn l) (seek : Seek) (next : SeekNext) → GoesOn l (sought_as l seek next)
on-sought_as l e seek (SeekNext.Goes at) = cc
on-sought_as l e seek (SeekNext.Found region) = on-region_found l e region seek
on-sought_as l e seek SeekNext.Nothing = on-regions_passed l e seek

pub on-reset_on : (l : Local) (e : IsOn l) (stage : ResetStage) → GoesOn l (reset_on l stage)
unfolding reset_on
on-reset_on l e (ResetStage.Heap class) = on-heap_on l e class
on-reset_on l e (ResetStage.Orphans rest) = on-orphans_on l e rest
on-reset_on l e (ResetStage.Large region granule) = on-evicting_from l e region granule
on-reset_on l e (ResetStage.Cache granules) = on-uncaching l e granules
on-reset_on l e (ResetStage.Queue rest) = on-unqueuing l e (unqueue_from rest)
on-reset_on l e (ResetStage.Regions below) = cc

on-binned_at : (l : Local) (e : IsOn l) (stage : Stage) → GoesOn l (binned_at l stage)
on-binned_at l e (Stage.Resetting stage) = on-reset_on l e stage
on-binned_at l e Stage.Idle = cc
on-binned_at l e Stage.Looking = cc
on-binned_at l e Stage.Getting = cc
on-binned_at l e Stage.Ending = cc
on-binned_at l e Stage.Replacing = cc
on-binned_at l e Stage.Undoing = cc
on-binned_at l e Stage.Leaving = cc

on-binned_as : (l : Local) (e : IsOn l) (at : BinAt) (next : BinNext) → GoesOn l (binned_as l at next)
on-binned_as l e at (BinNext.Goes next) = cc
on-binned_as l e at BinNext.Waits = cc
on-binned_as l e at BinNext.Done = on-binned_at l e l.call.stage

pub on-reset_learn_of : (l : Local) (e : IsOn l) (at : ResetAt) (f : ℕ) → GoesOn l (reset_learn_of l at f)
on-reset_learn_of l e (ResetAt.Strip slab at) f = on-stripped_as l e slab (strip_learn (strip_call l slab) at f)
on-reset_learn_of l e (ResetAt.Seek at) f = on-sought_as l e at.seek (seek_learn at f)
on-reset_learn_of l e (ResetAt.Evict region at) f =
    on-evicting l e region (evict_learn (evict_call l region) at f)
on-reset_learn_of l e (ResetAt.Clear granules at) f = on-cleared_as l e granules at (clear_learn at f)
on-reset_learn_of l e (ResetAt.Unqueue at) f = on-unqueuing l e (unqueue_learn at f)
on-reset_learn_of l e (ResetAt.Unite region at) f =
    on-uniting l e region at (unite_learn (unite_call l region) at f)
on-reset_learn_of l e (ResetAt.Bin at) f = on-binned_as l e at (bin_learn (binning_call l) at f)

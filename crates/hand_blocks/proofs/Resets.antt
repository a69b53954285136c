-- What is in hand where a reset goes on.
use Rattle.std.proofs.Common.{◌≡◌, ◌+◌, ◌-◌, ◌≤◌, ℕ, Bool, true, false, cond, List, [], ◌∷◌, ◌++◌, eqb, ltb, refl}
use Rattle.std.proofs.Common.{sym, ap, subst, arith}
use Rattle.std.specs.Prelude.{None, Option, Some}
use Rattle.std.proofs.lemmas.List.{append-nil}
use Rattle.pool_types.specs.Sums.{capped}
use Rattle.word_codes.specs.declared.region_words.RegionWord.{RegionWord}
use Rattle.heap_slabs.specs.Rolls.{newest_of}
use Rattle.heap_slabs.specs.Slabs.{after_free_of, first_from}
use Rattle.heap_slabs.specs.declared.records.HeapSlab.{HeapSlab}
use Rattle.heap_slabs.specs.declared.slabs.Wanted.{Wanted}
use Rattle.reset_steps.specs.Strip.{strip_from}
use Rattle.reset_steps.specs.Unite.{unite_from, united}
use Rattle.reset_steps.specs.Unqueue.{unqueue_from}
use Rattle.reset_steps.specs.declared.evict.EvictAt.{EvictAt}
use Rattle.reset_steps.specs.declared.evict.EvictNext.{EvictNext}
use Rattle.reset_steps.specs.declared.seek.Seek.{Seek}
use Rattle.reset_steps.specs.declared.seek.SeekNext.{SeekNext}
use Rattle.reset_steps.specs.declared.strip.StripAt.{StripAt}
use Rattle.reset_steps.specs.declared.strip.StripNext.{StripNext}
use Rattle.reset_steps.specs.declared.unite.UniteAt.{UniteAt}
use Rattle.reset_steps.specs.declared.unite.UniteNext.{UniteNext}
use Rattle.reset_steps.specs.declared.unqueue.UnqueueNext.{UnqueueNext}
use Rattle.backend_bins.specs.Blocks.{block, block_end}
use Rattle.step_local.specs.Frames.{last_cache_bin}
use Rattle.step_local.specs.Leaving.{with_slabs}
use Rattle.step_local.specs.Resetting.{resetting, stripping, stripping_from, strip_call, stripped_as}
use Rattle.step_local.specs.Resetting.{class_begun, slab_given, first_fetched, heap_given, heap_on, last_class}
use Rattle.step_local.specs.Resetting.{next_class, orphans_on, orphan_adopted, evicting, evicting_from}
use Rattle.step_local.specs.Resetting.{bin_cleared, region_block, uncached_by, uncaching, unqueuing}
use Rattle.step_local.specs.Resetting.{binning, unite_call, uniting, uniting_from, region_found, regions_passed}
use Rattle.step_local.specs.Resetting.{seeking}
use Rattle.step_local.specs.Resetting.{reset_on, binned_at, sought_as}
use Rattle.step_local.specs.declared.frames.Local.{Local}
use Rattle.step_local.specs.declared.frames.ResetStage.{ResetStage}
use Rattle.step_local.specs.declared.frames.Stage.{Stage}
use Rattle.hand_blocks.specs.Fits.{EmptyFits, IsStripping, NewestFits, SlabsFit}
use Rattle.hand_blocks.specs.Hands.{Hand, beside_bin, joining, released_hands, united_hands}
use Rattle.hand_blocks.proofs.Lands.{LandsOn, either, lands_as}
use Rattle.hand_blocks.proofs.Lists.{newest_hand, none_in_hand}
use Rattle.hand_blocks.proofs.Numbers.{eqb_self_minus}

empty_stripping : (l : Local) (stage : Stage) → IsStripping stage → EmptyFits l stage
empty_stripping l (Stage.Resetting stage) is = is
empty_stripping l _ is = absurd is

newest_stripping : (l : Local) (stage : Stage) → IsStripping stage → NewestFits l stage
newest_stripping l (Stage.Resetting stage) is = is
newest_stripping l _ is = absurd is

slabs_stripping : (l : Local) (stage : Stage) → IsStripping stage → SlabsFit l.call.served stage
slabs_stripping l (Stage.Resetting stage) is = is
slabs_stripping l _ is = absurd is

pub lands-stripping : (l : Local) (slab : ℕ) (one : Option StripAt) → IsStripping l.call.stage
    → LandsOn (stripping l slab one) []
lands-stripping l slab (Some at) is = record { has = refl; fits = is }
lands-stripping l slab None is = record { has = refl; fits = empty_stripping l l.call.stage is }

lands-stripping_from : (l : Local) (slab object : ℕ) → IsStripping l.call.stage
    → LandsOn (stripping_from l slab object) []
lands-stripping_from l slab object is = lands-stripping l slab (strip_from (strip_call l slab) object) is

pub lands-stripped_as : (l : Local) (slab : ℕ) (next : StripNext) → IsStripping l.call.stage
    → LandsOn (stripped_as l slab next) []
lands-stripped_as l slab (StripNext.Goes at) is = record { has = refl; fits = is }
lands-stripped_as l slab (StripNext.Freed object unit) is =
    lands-stripping_from (with_slabs l (after_free_of l.heap.slabs slab unit)) slab (capped (object + 1)) is
lands-stripped_as l slab StripNext.Stripped is = lands-stripping l slab None is

lands-class_begun : (l : Local) (found : Option HeapSlab) → LandsOn (class_begun l found) []
lands-class_begun l (Some kept) = record { has = refl; fits = tt }
lands-class_begun l None = record { has = refl; fits = tt }

lands-slab_given : (l : Local) (found : Option HeapSlab) → IsStripping l.call.stage → LandsOn (slab_given l found) []
lands-slab_given l (Some kept) is = lands-stripping_from l kept.slab 0 is
lands-slab_given l None is = lands-class_begun l (first_from Wanted.Any l.heap.slabs 0)

lands-heap_given : (l : Local) (class one : Option ℕ) → IsStripping l.call.stage → LandsOn (heap_given l class one) []
lands-heap_given l class (Some slab) is = record { has = refl; fits = newest_stripping l l.call.stage is }
lands-heap_given l class None is = lands-slab_given l (first_fetched l class) is

pub lands-heap_on : (l : Local) (class : Option ℕ) → IsStripping l.call.stage → LandsOn (heap_on l class) []
lands-heap_on l class is = lands-heap_given l class (newest_of l.heap.cached) is

lands-seeking : (l : Local) (seek : Seek) → LandsOn (seeking l seek) []
lands-seeking l seek = record { has = refl; fits = tt }

lands-next_class : (l : Local) → IsStripping l.call.stage → LandsOn (next_class l) []
lands-next_class l is = either (ltb l.fetch.class last_class) _ _ []
    (record { has = refl; fits = slabs_stripping l l.call.stage is }) (lands-seeking l (Seek.From 0))

lands-orphans_on : (l : Local) (rest : Option ℕ) → IsStripping l.call.stage → LandsOn (orphans_on l rest) []
lands-orphans_on l (Some slab) is = record { has = refl; fits = slabs_stripping l l.call.stage is }
lands-orphans_on l None is = lands-next_class l is

pub lands-orphan_adopted : (l : Local) (slab : ℕ) (rest : Option ℕ) → LandsOn (orphan_adopted l slab rest) []
lands-orphan_adopted l slab rest = lands-stripping_from (resetting l (ResetStage.Orphans rest)) slab 0 tt

-- a large object that was taken is in hand
abbrev pub evicted_hands : EvictNext → List Hand
evicted_hands (EvictNext.Goes at) = []
evicted_hands (EvictNext.Ended b granule) = joining b ∷ []
evicted_hands EvictNext.Passed = []

pub lands-evicting : (l : Local) (region : RegionWord) (next : EvictNext)
    → LandsOn (evicting l region next) (evicted_hands next)
lands-evicting l region (EvictNext.Goes at) = record { has = refl; fits = tt }
lands-evicting l region (EvictNext.Ended b granule) = record { has = refl; fits = tt }
lands-evicting l region EvictNext.Passed = record { has = refl; fits = tt }

lands-evicting_from : (l : Local) (region : RegionWord) (granule : ℕ) → LandsOn (evicting_from l region granule) []
lands-evicting_from l region granule = by (ltb granule (block_end (region_block region)))
  where
    by : (b : Bool) → LandsOn (evicting l region (cond b (EvictNext.Goes (EvictAt.Kind granule)) EvictNext.Passed)) []
    by true = record { has = refl; fits = tt }
    by false = record { has = refl; fits = tt }

pub lands-bin_cleared : (l : Local) (granules : ℕ) → LandsOn (bin_cleared l granules) []
lands-bin_cleared l granules = either (ltb granules last_cache_bin) _ _ []
    (record { has = refl; fits = tt }) (record { has = refl; fits = tt })

lands-uncached_by : (l : Local) (granules : ℕ) (one : Option ℕ) → newest_of l.released ≡ one
    → LandsOn (uncached_by l granules one) (released_hands granules l.released.items)
lands-uncached_by l granules (Some first) is = record {
  has = sym (newest_hand granules l.released.items first is);
  fits = tt;
}
lands-uncached_by l granules None is = lands_as (bin_cleared l granules).0 []
    (released_hands granules l.released.items)
    (sym (none_in_hand granules l.released.items is)) (lands-bin_cleared l granules)

pub lands-uncaching : (l : Local) (granules : ℕ)
    → LandsOn (uncaching l granules) (released_hands granules l.released.items)
lands-uncaching l granules = lands-uncached_by l granules (newest_of l.released) refl

abbrev pub unqueued_hands : UnqueueNext → List Hand
unqueued_hands (UnqueueNext.Goes at) = []
unqueued_hands (UnqueueNext.Out b rest) = joining b ∷ []
unqueued_hands UnqueueNext.Emptied = []

pub lands-unqueuing : (l : Local) (next : UnqueueNext) → LandsOn (unqueuing l next) (unqueued_hands next)
lands-unqueuing l (UnqueueNext.Goes at) = record { has = refl; fits = tt }
lands-unqueuing l (UnqueueNext.Out b rest) = record { has = refl; fits = tt }
lands-unqueuing l UnqueueNext.Emptied = record { has = refl; fits = tt }

lands-unqueue_from : (l : Local) (rest : Option ℕ) → LandsOn (unqueuing l (unqueue_from rest)) []
lands-unqueue_from l (Some first) = record { has = refl; fits = tt }
lands-unqueue_from l None = record { has = refl; fits = tt }

-- what was united of a region is one block
pub lands-united : (l : Local) (region : RegionWord) (at : UniteAt) (first : ℕ)
    → LandsOn (uniting l region at (united (unite_call l region) first)) (united_hands region first)
lands-united l region at first = by (eqb (first - region.first) 0)
  where
    by : (b : Bool) → LandsOn (cond b (seeking l (Seek.Under region.number))
        (binning l (ResetStage.Regions region.number) (block region.first (first - region.first))))
        (cond b [] (joining (block region.first (first - region.first)) ∷ []))
    by true = record { has = refl; fits = tt }
    by false = record { has = refl; fits = tt }

pub lands-unite_from : (l : Local) (region : RegionWord) (at : UniteAt) (first : ℕ) → region.first ≤ first
    → LandsOn (uniting l region at (unite_from (unite_call l region) first)) (united_hands region first)
lands-unite_from l region at first from = by (ltb first (block_end (region_block region)))
  where
    by : (b : Bool) → LandsOn (uniting l region at
        (cond b (UniteNext.Goes (UniteAt.Size first)) (united (unite_call l region) first)))
        (united_hands region first)
    by true = record { has = refl; fits = from }
    by false = lands-united l region at first

lands-uniting_from : (l : Local) (region : RegionWord) → LandsOn (uniting_from l region) []
lands-uniting_from l region = lands_as (uniting_from l region).0 (united_hands region region.first) []
    (ap (λ b. cond b [] (joining (block region.first (region.first - region.first)) ∷ []))
    (eqb_self_minus region.first))
    (lands-unite_from l region (UniteAt.Size region.first) region.first (omega arith))

lands-region_found : (l : Local) (region : RegionWord) (seek : Seek) → LandsOn (region_found l region seek) []
lands-region_found l region (Seek.From least) = lands-evicting_from l region region.first
lands-region_found l region (Seek.Under end) = lands-uniting_from l region

lands-regions_passed : (l : Local) (seek : Seek) → LandsOn (regions_passed l seek) []
lands-regions_passed l (Seek.From least) = record { has = refl; fits = tt }
lands-regions_passed l (Seek.Under end) = record { has = refl; fits = tt }

pub lands-sought_as : (l : Local) (seek : Seek) (next : SeekNext) → LandsOn (sought_as l seek next) []
lands-sought_as l seek (SeekNext.Goes at) = record { has = refl; fits = tt }
lands-sought_as l seek (SeekNext.Found region) = lands-region_found l region seek
lands-sought_as l seek SeekNext.Nothing = lands-regions_passed l seek

-- once the block in hand is in its bin, what the cache released is still in hand
pub lands-reset_on : (l : Local) (stage : ResetStage) → l.call.stage ≡ Stage.Resetting stage
    → LandsOn (reset_on l stage) (beside_bin l (Stage.Resetting stage) [])
unfolding reset_on
lands-reset_on l (ResetStage.Heap class) is = lands-heap_on l class (subst IsStripping (sym is) tt)
lands-reset_on l (ResetStage.Orphans rest) is = lands-orphans_on l rest (subst IsStripping (sym is) tt)
lands-reset_on l (ResetStage.Large region granule) is = lands-evicting_from l region granule
lands-reset_on l (ResetStage.Cache granules) is = lands_as (uncaching l granules).0
    (released_hands granules l.released.items) (released_hands granules l.released.items ++ [])
    (sym (append-nil (released_hands granules l.released.items))) (lands-uncaching l granules)
lands-reset_on l (ResetStage.Queue rest) is = lands-unqueue_from l rest
lands-reset_on l (ResetStage.Regions below) is = lands-seeking l (Seek.Under below)

pub lands-binned_at : (l : Local) (stage : Stage) → l.call.stage ≡ stage
    → LandsOn (binned_at l stage) (beside_bin l stage [])
lands-binned_at l (Stage.Resetting stage) is = lands-reset_on l stage is
lands-binned_at l Stage.Idle is = record { has = refl; fits = tt }
lands-binned_at l Stage.Looking is = record { has = refl; fits = tt }
lands-binned_at l Stage.Getting is = record { has = refl; fits = tt }
lands-binned_at l Stage.Ending is = record { has = refl; fits = tt }
lands-binned_at l Stage.Replacing is = record { has = refl; fits = tt }
lands-binned_at l Stage.Undoing is = record { has = refl; fits = tt }
lands-binned_at l Stage.Leaving is = record { has = refl; fits = tt }

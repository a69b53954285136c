-- Where the turns of a reset go on.
use Rattle.std.proofs.Common.{List, None, Option, Some, [], arith, eqb, false, ltb, refl, subst, sym, ℕ, ◌+◌}
use Rattle.std.proofs.Common.{◌<◌, ◌≡◌, ◌≤◌}
use Rattle.pool_types.specs.Limits.{region_numbers}
use Rattle.pool_types.specs.Sums.{capped}
use Rattle.pool_types.specs.declared.values.Answer.{Answer}
use Rattle.pool_words.specs.Words.{cache_counts}
use Rattle.pool_words.specs.declared.words.Key.{Key}
use Rattle.word_codes.specs.declared.region_words.RegionWord.{RegionWord}
use Rattle.heap_slabs.specs.Rolls.{after_push, newest_of, without_newest}
use Rattle.heap_slabs.specs.Slabs.{after_free_of, first_from, record_at}
use Rattle.heap_slabs.specs.declared.records.HeapSlab.{HeapSlab}
use Rattle.heap_slabs.specs.declared.slabs.Wanted.{Wanted}
use Rattle.backend_bins.specs.Blocks.{fits}
use Rattle.backend_bins.specs.declared.bin.BinAt.{BinAt}
use Rattle.backend_bins.specs.declared.bin.BinNext.{BinNext}
use Rattle.backend_bins.specs.declared.blocks.Block.{Block}
use Rattle.backend_bins.specs.declared.blocks.Want.{Want}
use Rattle.large_cache.specs.declared.sweep.Cleanup.{Cleanup}
use Rattle.step_local.specs.Frames.{last_cache_bin}
use Rattle.step_local.specs.Leaving.{with_slabs}
use Rattle.step_local.specs.Resetting.{bin_cleared, binned_as, binned_at, binning, class_begun, cleared_as}
use Rattle.step_local.specs.Resetting.{clearing, evict_call, evicting, evicting_from, first_fetched}
use Rattle.step_local.specs.Resetting.{heap_given, heap_on, last_class, next_class, orphan_adopted, orphans_on}
use Rattle.step_local.specs.Resetting.{region_found, regions_passed, reset_on, resetting, seeking, slab_given}
use Rattle.step_local.specs.Resetting.{sought_as, strip_call, strip_call_of, stripped_as, stripping}
use Rattle.step_local.specs.Resetting.{uncached_by, uncaching, unite_call, uniting, unqueuing}
use Rattle.step_local.specs.declared.frames.Call.{Call}
use Rattle.step_local.specs.declared.frames.Local.{Local}
use Rattle.step_local.specs.declared.frames.ResetStage.{ResetStage}
use Rattle.step_local.specs.declared.frames.Stage.{Stage}
use Rattle.reset_steps.specs.Evict.{evict_from}
use Rattle.reset_steps.specs.Strip.{strip_from}
use Rattle.reset_steps.specs.Unite.{unite_from}
use Rattle.reset_steps.specs.Unqueue.{unqueue_from}
use Rattle.reset_steps.specs.declared.clear.ClearAt.{ClearAt}
use Rattle.reset_steps.specs.declared.clear.ClearNext.{ClearNext}
use Rattle.reset_steps.specs.declared.evict.EvictNext.{EvictNext}
use Rattle.reset_steps.specs.declared.seek.Seek.{Seek}
use Rattle.reset_steps.specs.declared.seek.SeekNext.{SeekNext}
use Rattle.reset_steps.specs.declared.strip.StripAt.{StripAt}
use Rattle.reset_steps.specs.declared.strip.StripNext.{StripNext}
use Rattle.reset_steps.specs.declared.unite.UniteAt.{UniteAt}
use Rattle.reset_steps.specs.declared.unite.UniteNext.{UniteNext}
use Rattle.reset_steps.specs.declared.unqueue.UnqueueNext.{UnqueueNext}
use Rattle.step_ranges.proofs.Heaps.{begun_fits, free_kept, from_fits, of_class_fits}
use Rattle.step_ranges.proofs.Lists.{BinNextFits}
use Rattle.step_ranges.proofs.Numbers.{below_by, choose_by, end_last}
use Rattle.step_ranges.proofs.Resets.{ClearGoes, EvictNextFits, SeekNextFits, StripNextFits, UniteNextFits}
use Rattle.step_ranges.proofs.Resets.{UnqueueNextFits, from_next, unite_from_fits, unqueue_from_fits}
use Rattle.step_ranges.proofs.Rolls.{Holds, newest_holds, none_holds, none_newest, push_holds}
use Rattle.step_ranges.proofs.Rolls.{without_newest_holds}
use Rattle.step_ranges.proofs.Turns.{TurnFits, answered_fits, at_stage, other_slabs, with_call, with_fetch}
use Rattle.step_ranges.proofs.Turns.{with_heap}
use Rattle.step_ranges.specs.Jobs.{BinFits, ClearFits, HasBlock, RecordFits, UniteFits}
use Rattle.step_ranges.specs.Locals.{AfterEmpty, AfterFetch, AfterNewest, AreReleased, ClearReleased, Frames}
use Rattle.step_ranges.specs.Locals.{IsReset, KeptFits, NoneReleased, ResetStageFits, StageFits, StageReleased}
use Rattle.step_ranges.specs.Ranges.{IsBlock, IsKey, IsSlab, IsSlabIf, RegionFits, granules_end}
use Rattle.std.proofs.lemmas.Bool.Decides.{nat_tests}
use Rattle.backend_bins.specs.Blocks.{block}

module _ (k : Key) (key : IsKey k) where
  pub binning_fits : (l : Local) (stage : ResetStage) (b : Block) → Frames k l
      → StageReleased k l.released.items (Stage.Resetting stage) → ResetStageFits k stage → HasBlock k b
      → TurnFits k (binning l stage b)
  binning_fits l stage b frames released is has = record {
    frames = with_call frames (record l.call { stage = Stage.Resetting stage; block = b })
        (at_stage frames (Stage.Resetting stage) is);
    at = (released, has, tt);
  }

  -- nothing is released, whatever the reset has come to
  pub none_at_stage : (released : List ℕ) (stage : ResetStage) → released ≡ []
      → StageReleased k released (Stage.Resetting stage)
  none_at_stage released (ResetStage.Cache granules) none = none_holds (IsBlock k granules) released none
  none_at_stage released (ResetStage.Heap class) none = none
  none_at_stage released (ResetStage.Orphans rest) none = none
  none_at_stage released (ResetStage.Large region granule) none = none
  none_at_stage released (ResetStage.Queue rest) none = none
  none_at_stage released (ResetStage.Regions below) none = none

  empty_at_reset : (c : Call) (want : Want) (cleanup : Cleanup) (stage : Stage) → IsReset stage
      → AfterEmpty k c want cleanup stage
  empty_at_reset c want cleanup Stage.Getting is = absurd is
  empty_at_reset c want cleanup _ is = tt

  newest_at_reset : (c : Call) (want : Want) (cleanup : Cleanup) (stage : Stage) → IsReset stage
      → AfterNewest k c want cleanup stage
  newest_at_reset c want cleanup Stage.Leaving is = tt
  newest_at_reset c want cleanup (Stage.Resetting stage) is = tt
  newest_at_reset c want cleanup _ is = absurd is

  fetch_at_reset : (c : Call) (stage : Stage) → IsReset stage → AfterFetch c stage
  fetch_at_reset c Stage.Getting is = absurd is
  fetch_at_reset c _ is = tt

  pub stripping_fits : (l : Local) (slab : ℕ) (at : Option StripAt) → Frames k l → NoneReleased l
      → IsReset l.call.stage → IsSlab k slab → TurnFits k (stripping l slab at)
  stripping_fits l slab (Some at) frames none resets is = record { frames = frames; at = (none, resets, is) }
  stripping_fits l slab None frames none resets is = record {
    frames = frames;
    at = (none, (is, empty_at_reset l.call l.ask.want l.sweep.cleanup l.call.stage resets));
  }

  strip_record : (slab : ℕ) (one : Option HeapSlab) → IsSlab k slab → KeptFits k one
      → RecordFits k (strip_call_of slab one)
  strip_record slab None is fits = begun_fits k slab 0 is (omega arith)
  strip_record slab (Some kept) is fits = fits

  pub strip_call_fits : (l : Local) (slab : ℕ) → Frames k l → IsSlab k slab → RecordFits k (strip_call l slab)
  strip_call_fits l slab frames is =
      strip_record slab (record_at l.heap.slabs.records slab) is (frames.heap.records slab)

  pub stripped_fits : (l : Local) (slab : ℕ) (next : StripNext) → Frames k l → NoneReleased l → IsReset l.call.stage
      → IsSlab k slab → StripNextFits k next → TurnFits k (stripped_as l slab next)
  stripped_fits l slab (StripNext.Goes at) frames none resets is fits =
      record { frames = frames; at = (none, resets, is) }
  stripped_fits l slab (StripNext.Freed object unit) frames none resets is fits =
      let slabs = after_free_of l.heap.slabs slab unit in
      let l' : Local = with_slabs l slabs in
      stripping_fits l' slab (strip_from (strip_call l' slab) (capped (object + 1)))
      (with_heap frames (record l.heap { slabs = slabs })
      (other_slabs frames slabs (free_kept k l.heap.slabs slab unit frames.heap.records fits)))
      none resets is
  stripped_fits l slab StripNext.Stripped frames none resets is fits =
      stripping_fits l slab None frames none resets is

  class_begun_fits : (l : Local) (one : Option HeapSlab) → Frames k l → NoneReleased l → KeptFits k one
      → TurnFits k (class_begun l one)
  class_begun_fits l None frames none fits = answered_fits k l Answer.Exited frames none
  class_begun_fits l (Some kept) frames none fits =
      let stage = Stage.Resetting (ResetStage.Heap (Some kept.class)) in
      record {
        frames = with_fetch (with_call frames (record l.call { stage = stage }) (at_stage frames stage tt))
            (record l.fetch { class = kept.class }) (record { class = fits.class; spare = frames.fetch.spare });
        at = (none, tt, tt);
      }

  slab_given_fits : (l : Local) (one : Option HeapSlab) → Frames k l → NoneReleased l → IsReset l.call.stage
      → KeptFits k one → TurnFits k (slab_given l one)
  slab_given_fits l None frames none resets fits =
      class_begun_fits l (first_from Wanted.Any l.heap.slabs 0) frames none
      (from_fits k Wanted.Any l.heap.slabs 0 frames.heap.records)
  slab_given_fits l (Some kept) frames none resets fits =
      stripping_fits l kept.slab (strip_from (strip_call l kept.slab) 0) frames none resets fits.slab

  first_fetched_fits : (l : Local) (class : Option ℕ) → Frames k l → KeptFits k (first_fetched l class)
  first_fetched_fits l None frames = tt
  first_fetched_fits l (Some class) frames = of_class_fits k Wanted.Any l.heap.slabs class frames.heap.records

  heap_given_fits : (l : Local) (class one : Option ℕ) → Frames k l → NoneReleased l → IsReset l.call.stage
      → Holds (IsSlab k) one → TurnFits k (heap_given l class one)
  heap_given_fits l class (Some slab) frames none resets is = record {
    frames = frames;
    at = (none, (is, newest_at_reset l.call l.ask.want l.sweep.cleanup l.call.stage resets));
  }
  heap_given_fits l class None frames none resets is =
      slab_given_fits l (first_fetched l class) frames none resets (first_fetched_fits l class frames)

  pub heap_on_fits : (l : Local) (class : Option ℕ) → Frames k l → NoneReleased l → IsReset l.call.stage
      → TurnFits k (heap_on l class)
  heap_on_fits l class frames none resets = heap_given_fits l class (newest_of l.heap.cached) frames none resets
      (newest_holds (IsSlab k) l.heap.cached frames.heap.cached)

  pub seeking_fits : (l : Local) (seek : Seek) → Frames k l → NoneReleased l → TurnFits k (seeking l seek)
  seeking_fits l seek frames none =
      record { frames = frames; at = (none, record { slot = omega arith; best = tt }) }

  next_class_fits : (l : Local) → Frames k l → NoneReleased l → IsReset l.call.stage → TurnFits k (next_class l)
  next_class_fits l frames none resets = choose_by (TurnFits k) (ltb l.fetch.class last_class) _ _
      (λ more. record {
        frames = with_fetch frames (record l.fetch { class = l.fetch.class + 1 }) (record {
          class = let low = below_by l.fetch.class last_class more in omega arith;
          spare = frames.fetch.spare;
        });
        at = (none, fetch_at_reset l.call l.call.stage resets, tt);
      })
      (λ last. seeking_fits l (Seek.From 0) frames none)

  orphans_on_fits : (l : Local) (rest : Option ℕ) → Frames k l → NoneReleased l → IsReset l.call.stage
      → IsSlabIf k rest → TurnFits k (orphans_on l rest)
  orphans_on_fits l None frames none resets is = next_class_fits l frames none resets
  orphans_on_fits l (Some slab) frames none resets is =
      record { frames = frames; at = (none, fetch_at_reset l.call l.call.stage resets, is) }

  pub orphan_adopted_fits : (l : Local) (slab : ℕ) (rest : Option ℕ) → Frames k l → NoneReleased l → IsSlab k slab
      → IsSlabIf k rest → TurnFits k (orphan_adopted l slab rest)
  orphan_adopted_fits l slab rest frames none is below =
      let stage = Stage.Resetting (ResetStage.Orphans rest) in
      let l' : Local = resetting l (ResetStage.Orphans rest) in
      stripping_fits l' slab (strip_from (strip_call l' slab) 0)
      (with_call frames (record l.call { stage = stage }) (at_stage frames stage below)) none tt is

  pub evicting_fits : (l : Local) (region : RegionWord) (next : EvictNext) → Frames k l → NoneReleased l
      → RegionFits k region → EvictNextFits k next → TurnFits k (evicting l region next)
  evicting_fits l region (EvictNext.Goes at) frames none is fits =
      record { frames = frames; at = (none, is, fits) }
  evicting_fits l region (EvictNext.Ended b granule) frames none is fits =
      binning_fits l (ResetStage.Large region granule) b frames none is fits
  evicting_fits l region EvictNext.Passed frames none is fits =
      seeking_fits l (Seek.From (capped (region.number + 1))) frames none

  evicting_from_fits : (l : Local) (region : RegionWord) (granule : ℕ) → Frames k l → NoneReleased l
      → RegionFits k region → TurnFits k (evicting_from l region granule)
  evicting_from_fits l region granule frames none is =
      evicting_fits l region (evict_from (evict_call l region) granule) frames none is
      (from_next k key (evict_call l region) granule is)

  clearing_fits : (l : Local) (granules : ℕ) → Frames k l → NoneReleased l → granules < cache_counts
      → TurnFits k (clearing l granules)
  clearing_fits l granules frames none low = record { frames = frames; at = (none, low, tt) }

  bin_cleared_fits : (l : Local) (granules : ℕ) → Frames k l → NoneReleased l → TurnFits k (bin_cleared l granules)
  bin_cleared_fits l granules frames none = choose_by (TurnFits k) (ltb granules last_cache_bin) _ _
      (λ more. clearing_fits l (granules + 1) frames none
      (let low = below_by granules last_cache_bin more in omega arith))
      (λ last. record { frames = frames; at = (none, tt) })

  uncached_fits : (l : Local) (granules : ℕ) (one : Option ℕ) → newest_of l.released ≡ one → Frames k l
      → AreReleased k granules l.released.items → granules < cache_counts → TurnFits k (uncached_by l granules one)
  uncached_fits l granules None e frames released low = bin_cleared_fits l granules frames (none_newest l.released e)
  uncached_fits l granules (Some first) e frames released low =
      binning_fits (record l { released = without_newest l.released }) (ResetStage.Cache granules)
      (block first granules) frames (without_newest_holds (IsBlock k granules) l.released released) low
      (subst (Holds (IsBlock k granules)) e (newest_holds (IsBlock k granules) l.released released))

  pub uncaching_fits : (l : Local) (granules : ℕ) → Frames k l → AreReleased k granules l.released.items
      → granules < cache_counts → TurnFits k (uncaching l granules)
  uncaching_fits l granules frames released low =
      uncached_fits l granules (newest_of l.released) refl frames released low

  pub unqueuing_fits : (l : Local) (next : UnqueueNext) → Frames k l → NoneReleased l → UnqueueNextFits k next
      → TurnFits k (unqueuing l next)
  unqueuing_fits l (UnqueueNext.Goes at) frames none fits = record { frames = frames; at = (none, fits) }
  unqueuing_fits l (UnqueueNext.Out b rest) frames none fits =
      binning_fits l (ResetStage.Queue rest) b frames none fits.1 fits.0
  unqueuing_fits l UnqueueNext.Emptied frames none fits = seeking_fits l (Seek.Under region_numbers) frames none

  some_united : (b : Block) → b.first + b.granules ≤ granules_end k → eqb b.granules 0 ≡ false → HasBlock k b
  some_united b fits some =
      let more : 0 < b.granules = grind (arith, nat_tests) in record { begins = omega arith; ends = fits }

  pub uniting_fits : (l : Local) (region : RegionWord) (at : UniteAt) (next : UniteNext) → Frames k l
      → NoneReleased l → RegionFits k region → UniteFits k at → UniteNextFits k next
      → TurnFits k (uniting l region at next)
  uniting_fits l region at (UniteNext.Goes on) frames none is fits next =
      record { frames = frames; at = (none, is, next) }
  uniting_fits l region at (UniteNext.Waits bin) frames none is fits next =
      record { frames = frames; at = (none, is, fits) }
  uniting_fits l region at (UniteNext.United b) frames none is fits next =
      choose_by (TurnFits k) (eqb b.granules 0) _ _
      (λ nothing. seeking_fits l (Seek.Under region.number) frames none)
      (λ some. binning_fits l (ResetStage.Regions region.number) b frames none tt (some_united b next some))

  region_begin : (region : RegionWord) → RegionFits k region → region.first ≤ granules_end k
  region_begin region is = let last = end_last k key in omega arith

  region_found_fits : (l : Local) (region : RegionWord) (seek : Seek) → Frames k l → NoneReleased l
      → RegionFits k region → TurnFits k (region_found l region seek)
  region_found_fits l region (Seek.From least) frames none is = evicting_from_fits l region region.first frames none is
  region_found_fits l region (Seek.Under end) frames none is =
      uniting_fits l region (UniteAt.Size region.first) (unite_from (unite_call l region) region.first) frames none is
      (region_begin region is)
      (unite_from_fits k key (unite_call l region) region.first is (region_begin region is))

  regions_passed_fits : (l : Local) (seek : Seek) → Frames k l → NoneReleased l → TurnFits k (regions_passed l seek)
  regions_passed_fits l (Seek.From least) frames none = clearing_fits l 1 frames none (omega arith)
  regions_passed_fits l (Seek.Under end) frames none = answered_fits k l Answer.Exited frames none

  pub sought_fits : (l : Local) (seek : Seek) (next : SeekNext) → Frames k l → NoneReleased l → SeekNextFits k next
      → TurnFits k (sought_as l seek next)
  sought_fits l seek (SeekNext.Goes at) frames none fits = record { frames = frames; at = (none, fits) }
  sought_fits l seek (SeekNext.Found region) frames none fits = region_found_fits l region seek frames none fits
  sought_fits l seek SeekNext.Nothing frames none fits = regions_passed_fits l seek frames none

  -- the reset goes on
  pub reset_on_fits : (l : Local) (stage : ResetStage) → Frames k l
      → StageReleased k l.released.items (Stage.Resetting stage) → IsReset l.call.stage → ResetStageFits k stage
      → TurnFits k (reset_on l stage)
  unfolding reset_on
  reset_on_fits l (ResetStage.Heap class) frames none resets is = heap_on_fits l class frames none resets
  reset_on_fits l (ResetStage.Orphans rest) frames none resets is = orphans_on_fits l rest frames none resets is
  reset_on_fits l (ResetStage.Large region granule) frames none resets is =
      evicting_from_fits l region granule frames none is
  reset_on_fits l (ResetStage.Cache granules) frames released resets is = uncaching_fits l granules frames released is
  reset_on_fits l (ResetStage.Queue rest) frames none resets is =
      unqueuing_fits l (unqueue_from rest) frames none (unqueue_from_fits k key rest is)
  reset_on_fits l (ResetStage.Regions below) frames none resets is = seeking_fits l (Seek.Under below) frames none

  binned_at_fits : (l : Local) (stage : Stage) → l.call.stage ≡ stage → Frames k l
      → StageReleased k l.released.items stage → TurnFits k (binned_at l stage)
  binned_at_fits l (Stage.Resetting stage) e frames released =
      reset_on_fits l stage frames released (subst IsReset (sym e) tt) (subst (StageFits k) e frames.call.stage)
  binned_at_fits l Stage.Idle e frames none = answered_fits k l Answer.Exited frames none
  binned_at_fits l Stage.Looking e frames none = answered_fits k l Answer.Exited frames none
  binned_at_fits l Stage.Getting e frames none = answered_fits k l Answer.Exited frames none
  binned_at_fits l Stage.Ending e frames none = answered_fits k l Answer.Exited frames none
  binned_at_fits l Stage.Replacing e frames none = answered_fits k l Answer.Exited frames none
  binned_at_fits l Stage.Undoing e frames none = answered_fits k l Answer.Exited frames none
  binned_at_fits l Stage.Leaving e frames none = answered_fits k l Answer.Exited frames none

  pub binned_fits : (l : Local) (at : BinAt) (next : BinNext) → Frames k l
      → StageReleased k l.released.items l.call.stage → HasBlock k l.call.block → BinFits k at → BinNextFits k next
      → TurnFits k (binned_as l at next)
  binned_fits l at (BinNext.Goes on) frames released has fits next =
      record { frames = frames; at = (released, has, next) }
  binned_fits l at BinNext.Waits frames released has fits next =
      record { frames = frames; at = (released, has, fits) }
  binned_fits l at BinNext.Done frames released has fits next = binned_at_fits l l.call.stage refl frames released

  pub cleared_fits : (l : Local) (granules : ℕ) (at : ClearAt) (next : ClearNext) → Frames k l
      → ClearReleased k l.released.items granules at → granules < cache_counts → ClearFits k granules at
      → ClearGoes k l.released.items granules next → TurnFits k (cleared_as l granules at next)
  cleared_fits l granules at (ClearNext.Goes on) frames released low fits next =
      record { frames = frames; at = (next.0, low, next.1) }
  cleared_fits l granules at (ClearNext.Taken taken on) frames released low fits next = record {
    frames = frames;
    at = (
      next.2 (after_push l.released taken).items
          (push_holds (IsBlock k granules) l.released taken next.0 next.1),
      low,
      next.3,
    );
  }
  cleared_fits l granules at ClearNext.Waits frames released low fits next =
      record { frames = frames; at = (released, low, fits) }
  cleared_fits l granules at ClearNext.Passed frames released low fits next =
      bin_cleared_fits l granules frames next
  cleared_fits l granules at ClearNext.Cleared frames released low fits next =
      uncaching_fits l granules frames next low

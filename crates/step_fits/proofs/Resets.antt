-- What a local says where a reset goes on.
use Rattle.std.proofs.Common.{◌≡◌, ℕ, ◌+◌, Bool, true, false, cond, eqb, ltb, Option, Some, None, refl, sym}
use Rattle.std.proofs.Common.{subst, arith, ◌-◌, ◌∙◌}
use Rattle.std.proofs.lemmas.Bool.Decides.{nat_tests}
use Rattle.pool_types.specs.Sums.{capped}
use Rattle.pool_words.specs.declared.words.Key.{Key}
use Rattle.word_codes.specs.declared.region_words.RegionWord.{RegionWord}
use Rattle.backend_bins.specs.Bin.{bin_learn}
use Rattle.backend_bins.specs.Blocks.{block, block_end}
use Rattle.backend_bins.specs.declared.bin.BinAt.{BinAt}
use Rattle.backend_bins.specs.declared.bin.BinNext.{BinNext}
use Rattle.backend_bins.specs.declared.blocks.Block.{Block}
use Rattle.heap_slabs.specs.declared.records.HeapSlab.{HeapSlab}
use Rattle.heap_slabs.specs.declared.slabs.Wanted.{Wanted}
use Rattle.heap_slabs.specs.Rolls.{after_push, newest_of, without_newest}
use Rattle.heap_slabs.specs.Slabs.{after_free_of, first_from}
use Rattle.reset_steps.specs.Clear.{clear_learn}
use Rattle.reset_steps.specs.Evict.{evict_from, evict_learn}
use Rattle.reset_steps.specs.Seek.{seek_learn}
use Rattle.reset_steps.specs.Strip.{strip_from, strip_learn}
use Rattle.reset_steps.specs.Unite.{unite_learn, united}
use Rattle.reset_steps.specs.Unqueue.{unqueue_from, unqueue_learn}
use Rattle.reset_steps.specs.declared.clear.ClearAt.{ClearAt}
use Rattle.reset_steps.specs.declared.clear.ClearNext.{ClearNext}
use Rattle.reset_steps.specs.declared.evict.EvictNext.{EvictNext}
use Rattle.reset_steps.specs.declared.seek.Seek.{Seek}
use Rattle.reset_steps.specs.declared.seek.SeekNext.{SeekNext}
use Rattle.reset_steps.specs.declared.strip.StripAt.{StripAt}
use Rattle.reset_steps.specs.declared.strip.StripNext.{StripNext}
use Rattle.reset_steps.specs.declared.unite.UniteAt.{UniteAt}
use Rattle.reset_steps.specs.declared.unite.UniteNext.{UniteNext}
use Rattle.reset_steps.specs.declared.unqueue.UnqueueNext.{UnqueueNext}
use Rattle.step_local.specs.declared.frames.Local.{Local}
use Rattle.step_local.specs.declared.frames.ResetAt.{ResetAt}
use Rattle.step_local.specs.declared.frames.ResetStage.{ResetStage}
use Rattle.step_local.specs.declared.frames.Stage.{Stage}
use Rattle.step_local.specs.Frames.{last_cache_bin, most_released}
use Rattle.step_local.specs.Leaving.{with_slabs}
use Rattle.step_local.specs.Resetting.{bin_cleared, binned_as, binned_at, binning, binning_call, class_begun}
use Rattle.step_local.specs.Resetting.{cleared_as}
use Rattle.step_local.specs.Resetting.{evict_call, evicting, evicting_from, first_fetched, heap_given, heap_on}
use Rattle.step_local.specs.Resetting.{last_class, next_class, orphan_adopted, orphans_on, region_block, region_found}
use Rattle.step_local.specs.Resetting.{regions_passed, reset_learn_of, reset_on, resetting, slab_given}
use Rattle.step_local.specs.Resetting.{sought_as, strip_call, stripped_as, stripping, stripping_from, uncached_by}
use Rattle.step_local.specs.Resetting.{uncaching, unite_call, uniting, uniting_from, unqueuing}
use Rattle.pool_types.specs.declared.values.Answer.{Answer}
use Rattle.step_fits.specs.Frames.{Frames, plain_rooms}
use Rattle.step_fits.specs.Mail.{Adopts}
use Rattle.step_fits.specs.Resets.{Bins, IsCacheBin, ResetFits, ResetsPool, StageBins, Strips}
use Rattle.step_fits.specs.Small.{EndsSlab, GivesUp, KeepsOf, ResetEnds}
use Rattle.step_fits.proofs.Framed.{Fits, either, fits-answered, other_call, other_class, other_released, other_slabs}
use Rattle.step_fits.proofs.Heaps.{class-found, class-low, free-fits, free-stays, from-found}
use Rattle.step_fits.proofs.Rolls.{newest-room, push-room}

strips-ends : (l : Local) (slab : ℕ) (stage : Stage) → Strips l slab stage → EndsSlab l slab stage
strips-ends l slab (Stage.Resetting stage) is = is
strips-ends l slab _ is = absurd is

ends-if : (l next : Local) (slab : ℕ) (stage : ResetStage)
    → ((class : ℕ) → KeepsOf l slab class → KeepsOf next slab class) → ResetEnds l slab stage
    → ResetEnds next slab stage
ends-if l next slab (ResetStage.Heap (Some class)) each is = each class is
ends-if l next slab (ResetStage.Heap None) each is = is
ends-if l next slab (ResetStage.Orphans rest) each is = is
ends-if l next slab _ each is = absurd is

strips-if : (l next : Local) (slab : ℕ) (stage : Stage)
    → ((class : ℕ) → KeepsOf l slab class → KeepsOf next slab class) → Strips l slab stage
    → Strips next slab stage
strips-if l next slab (Stage.Resetting stage) each is = ends-if l next slab stage each is
strips-if l next slab _ each is = absurd is

-- the cache bin that a reset goes on with
abbrev pub GoesOn : ResetStage → Type 0
GoesOn (ResetStage.Cache granules) = IsCacheBin granules
GoesOn _ = Unit {0}

bins-goes : (l : Local) (stage : ResetStage) → StageBins l stage → GoesOn stage
bins-goes l (ResetStage.Cache granules) is = is.0
bins-goes l _ is = tt

module _ (sure : Bool) {k : Key} {seat : ℕ} where
  pub fits-binning : (l : Local) (stage : ResetStage) (b : Block) → Frames k seat plain_rooms l
      → StageBins (record l { call = record l.call { stage = Stage.Resetting stage; block = b } }) stage
      → Fits k seat sure (binning l stage b)
  fits-binning l stage b frames bins =
      (other_call frames l.call.request l.call.old l.call.served (Stage.Resetting stage) tt, bins)

  fits-stripping : (l : Local) (slab : ℕ) (one : Option StripAt) → Frames k seat plain_rooms l
      → Strips l slab l.call.stage → Fits k seat sure (stripping l slab one)
  fits-stripping l slab (Some at) frames is = (frames, is)
  fits-stripping l slab None frames is = (frames, strips-ends l slab l.call.stage is)

  pub fits-stripping_from : (l : Local) (slab object : ℕ) → Frames k seat plain_rooms l
      → Strips l slab l.call.stage → Fits k seat sure (stripping_from l slab object)
  fits-stripping_from l slab object frames is =
      fits-stripping l slab (strip_from (strip_call l slab) object) frames is

  fits-stripped_as : (l : Local) (slab : ℕ) (next : StripNext) → Frames k seat plain_rooms l
      → Strips l slab l.call.stage → Fits k seat sure (stripped_as l slab next)
  fits-stripped_as l slab (StripNext.Goes at) frames is = (frames, is)
  fits-stripped_as l slab (StripNext.Freed object unit) frames is =
      let slabs = after_free_of l.heap.slabs slab unit in
      let next : Local = with_slabs l slabs in
      fits-stripping_from next slab (capped (object + 1))
      (other_slabs frames slabs (free-fits k l.heap.slabs slab unit frames.slabs))
      (strips-if l next slab l.call.stage (λ (class : ℕ) (keeps : KeepsOf l slab class).
      let now = free-stays k l.heap.slabs slab unit slab keeps.0 frames.slabs keeps.1.there in
      (now.0, record { there = now.1.there; class' = now.1.class' ∙ keeps.1.class' })) is)
  fits-stripped_as l slab StripNext.Stripped frames is = fits-stripping l slab None frames is

  -- the heap gives up its slabs class by class
  fits-class_begun : (l : Local) (found : Option HeapSlab) → Frames k seat plain_rooms l
      → first_from Wanted.Any l.heap.slabs 0 ≡ found → Fits k seat sure (class_begun l found)
  fits-class_begun l (Some kept) frames is =
      let found = from-found k Wanted.Any l.heap.slabs 0 kept frames.slabs is in (
        other_class
            (other_call frames l.call.request l.call.old l.call.served
            (Stage.Resetting (ResetStage.Heap (Some kept.class))) tt)
            kept.class (class-low l.heap.slabs kept.slab kept frames.slabs found.there),
        refl,
      )
  fits-class_begun l None frames is = fits-answered sure l Answer.Exited frames

  fits-slab_given : (l : Local) (class : Option ℕ) (found : Option HeapSlab) → Frames k seat plain_rooms l
      → l.call.stage ≡ Stage.Resetting (ResetStage.Heap class) → first_fetched l class ≡ found
      → Fits k seat sure (slab_given l found)
  fits-slab_given l (Some class) (Some kept) frames stage is =
      let found = class-found k Wanted.Any l.heap.slabs class kept frames.slabs is in
      fits-stripping_from l kept.slab 0 frames
      (subst (Strips l kept.slab) (sym stage) (kept, record { there = found.0.there; class' = found.1 }))
  fits-slab_given l None (Some kept) frames stage is = absurd (cc)
  fits-slab_given l class None frames stage is =
      fits-class_begun l (first_from Wanted.Any l.heap.slabs 0) frames refl

  fits-heap_given : (l : Local) (class one : Option ℕ) → Frames k seat plain_rooms l
      → l.call.stage ≡ Stage.Resetting (ResetStage.Heap class) → newest_of l.heap.cached ≡ one
      → Fits k seat sure (heap_given l class one)
  fits-heap_given l class (Some slab) frames stage is = (frames, (is, subst (GivesUp l) (sym stage) tt))
  fits-heap_given l class None frames stage is =
      fits-slab_given l class (first_fetched l class) frames stage refl

  pub fits-heap_on : (l : Local) (class : Option ℕ) → Frames k seat plain_rooms l
      → l.call.stage ≡ Stage.Resetting (ResetStage.Heap class) → Fits k seat sure (heap_on l class)
  fits-heap_on l class frames stage = fits-heap_given l class (newest_of l.heap.cached) frames stage refl

  -- slabs that nobody keeps, of each class
  fits-next_class : (l : Local) (rest : Option ℕ) → Frames k seat plain_rooms l
      → l.call.stage ≡ Stage.Resetting (ResetStage.Orphans rest) → Fits k seat sure (next_class l)
  fits-next_class l rest frames stage = either sure (ltb l.fetch.class last_class) _ _
      (λ (more : ltb l.fetch.class last_class ≡ true). (
        other_class frames (l.fetch.class + 1) (grind (arith, nat_tests)),
        (
          subst (λ (x : Stage). Adopts (record l { fetch = record l.fetch { class = l.fetch.class + 1 } }) x)
              (sym stage) tt,
          tt,
        ),
      ))
      (λ _. (frames, subst ResetsPool (sym stage) tt))

  fits-orphans_on : (l : Local) (rest one : Option ℕ) → Frames k seat plain_rooms l
      → l.call.stage ≡ Stage.Resetting (ResetStage.Orphans rest) → Fits k seat sure (orphans_on l one)
  fits-orphans_on l rest (Some slab) frames stage = (frames, (subst (Adopts l) (sym stage) tt, tt))
  fits-orphans_on l rest None frames stage = fits-next_class l rest frames stage

  pub fits-orphan_adopted : (l : Local) (slab : ℕ) (rest : Option ℕ) → Frames k seat plain_rooms l
      → Fits k seat sure (orphan_adopted l slab rest)
  fits-orphan_adopted l slab rest frames = fits-stripping_from (resetting l (ResetStage.Orphans rest)) slab 0
      (other_call frames l.call.request l.call.old l.call.served (Stage.Resetting (ResetStage.Orphans rest)) tt) tt

  -- large objects, region by region
  fits-evicting : (l : Local) (region : RegionWord) (next : EvictNext) → Frames k seat plain_rooms l
      → ResetsPool l.call.stage → Fits k seat sure (evicting l region next)
  fits-evicting l region (EvictNext.Goes at) frames pool = (frames, pool)
  fits-evicting l region (EvictNext.Ended b granule) frames pool =
      fits-binning l (ResetStage.Large region granule) b frames tt
  fits-evicting l region EvictNext.Passed frames pool = (frames, pool)

  fits-evicting_from : (l : Local) (region : RegionWord) (granule : ℕ) → Frames k seat plain_rooms l
      → ResetsPool l.call.stage → Fits k seat sure (evicting_from l region granule)
  fits-evicting_from l region granule frames pool =
      fits-evicting l region (evict_from (evict_call l region) granule) frames pool

  -- the cache bins
  fits-bin_cleared : (l : Local) (granules : ℕ) → Frames k seat plain_rooms l → ResetsPool l.call.stage
      → IsCacheBin granules → Fits k seat sure (bin_cleared l granules)
  fits-bin_cleared l granules frames pool bin = either sure (ltb granules last_cache_bin) _ _
      (λ (more : ltb granules last_cache_bin ≡ true). (
        frames,
        (
          pool,
          record {
            least = omega arith;
            most = grind (arith, nat_tests);
          },
        ),
      ))
      (λ _. (frames, pool))

  fits-uncached_by : (l : Local) (granules : ℕ) (one : Option ℕ) → Frames k seat plain_rooms l
      → ResetsPool l.call.stage → IsCacheBin granules → Fits k seat sure (uncached_by l granules one)
  fits-uncached_by l granules (Some first) frames pool bin =
      fits-binning (record l { released = without_newest l.released }) (ResetStage.Cache granules)
      (block first granules)
      (other_released frames (without_newest l.released) (newest-room most_released l.released frames.released))
      (bin, refl)
  fits-uncached_by l granules None frames pool bin = fits-bin_cleared l granules frames pool bin

  fits-uncaching : (l : Local) (granules : ℕ) → Frames k seat plain_rooms l → ResetsPool l.call.stage
      → IsCacheBin granules → Fits k seat sure (uncaching l granules)
  fits-uncaching l granules frames pool bin =
      fits-uncached_by l granules (newest_of l.released) frames pool bin

  fits-cleared_as : (l : Local) (granules : ℕ) (at : ClearAt) (next : ClearNext) → Frames k seat plain_rooms l
      → ResetsPool l.call.stage → IsCacheBin granules → Fits k seat sure (cleared_as l granules at next)
  fits-cleared_as l granules at (ClearNext.Goes next) frames pool bin = (frames, (pool, bin))
  fits-cleared_as l granules at (ClearNext.Taken taken next) frames pool bin = (
    other_released frames (after_push l.released taken) (push-room most_released l.released taken frames.released),
    (pool, bin),
  )
  fits-cleared_as l granules at ClearNext.Waits frames pool bin = (frames, (pool, bin))
  fits-cleared_as l granules at ClearNext.Passed frames pool bin = fits-bin_cleared l granules frames pool bin
  fits-cleared_as l granules at ClearNext.Cleared frames pool bin = fits-uncaching l granules frames pool bin

  -- the queue, and the regions
  fits-unqueuing : (l : Local) (next : UnqueueNext) → Frames k seat plain_rooms l → ResetsPool l.call.stage
      → Fits k seat sure (unqueuing l next)
  fits-unqueuing l (UnqueueNext.Goes at) frames pool = (frames, pool)
  fits-unqueuing l (UnqueueNext.Out b rest) frames pool = fits-binning l (ResetStage.Queue rest) b frames tt
  fits-unqueuing l UnqueueNext.Emptied frames pool = (frames, pool)

  fits-united : (l : Local) (region : RegionWord) (at : UniteAt) (b : Block) → Frames k seat plain_rooms l
      → ResetsPool l.call.stage → Fits k seat sure (uniting l region at (UniteNext.United b))
  fits-united l region at b frames pool = either sure (eqb b.granules 0) _ _
      (λ _. (frames, pool))
      (λ _. fits-binning l (ResetStage.Regions region.number) b frames tt)

  fits-uniting : (l : Local) (region : RegionWord) (at : UniteAt) (next : UniteNext) → Frames k seat plain_rooms l
      → ResetsPool l.call.stage → Fits k seat sure (uniting l region at next)
  fits-uniting l region at (UniteNext.Goes next) frames pool = (frames, pool)
  fits-uniting l region at (UniteNext.Waits bin) frames pool = (frames, pool)
  fits-uniting l region at (UniteNext.United b) frames pool = fits-united l region at b frames pool

  fits-uniting_from : (l : Local) (region : RegionWord) → Frames k seat plain_rooms l → ResetsPool l.call.stage
      → Fits k seat sure (uniting_from l region)
  fits-uniting_from l region frames pool = by (ltb region.first (block_end (region_block region)))
    where
      by : (b : Bool) → Fits k seat sure (uniting l region (UniteAt.Size region.first)
          (cond b (UniteNext.Goes (UniteAt.Size region.first)) (united (unite_call l region) region.first)))
      by true = (frames, pool)
      by false = fits-united l region (UniteAt.Size region.first)
          (block region.first (region.first - region.first)) frames pool

  fits-region_found : (l : Local) (region : RegionWord) (seek : Seek) → Frames k seat plain_rooms l
      → ResetsPool l.call.stage → Fits k seat sure (region_found l region seek)
  fits-region_found l region (Seek.From least) frames pool =
      fits-evicting_from l region region.first frames pool
  fits-region_found l region (Seek.Under end) frames pool = fits-uniting_from l region frames pool

  fits-regions_passed : (l : Local) (seek : Seek) → Frames k seat plain_rooms l → ResetsPool l.call.stage
      → Fits k seat sure (regions_passed l seek)
  fits-regions_passed l (Seek.From least) frames pool =
      (frames, (pool, record { least = omega arith; most = omega arith }))
  fits-regions_passed l (Seek.Under end) frames pool = fits-answered sure l Answer.Exited frames

  fits-sought_as : (l : Local) (seek : Seek) (next : SeekNext) → Frames k seat plain_rooms l
      → ResetsPool l.call.stage → Fits k seat sure (sought_as l seek next)
  fits-sought_as l seek (SeekNext.Goes at) frames pool = (frames, pool)
  fits-sought_as l seek (SeekNext.Found region) frames pool = fits-region_found l region seek frames pool
  fits-sought_as l seek SeekNext.Nothing frames pool = fits-regions_passed l seek frames pool

  -- what comes next
  pub fits-reset_on : (l : Local) (stage : ResetStage) → Frames k seat plain_rooms l
      → l.call.stage ≡ Stage.Resetting stage → GoesOn stage → Fits k seat sure (reset_on l stage)
  unfolding reset_on
  fits-reset_on l (ResetStage.Heap class) frames is goes = fits-heap_on l class frames is
  fits-reset_on l (ResetStage.Orphans rest) frames is goes = fits-orphans_on l rest rest frames is
  fits-reset_on l (ResetStage.Large region granule) frames is goes =
      fits-evicting_from l region granule frames (subst ResetsPool (sym is) tt)
  fits-reset_on l (ResetStage.Cache granules) frames is goes =
      fits-uncaching l granules frames (subst ResetsPool (sym is) tt) goes
  fits-reset_on l (ResetStage.Queue rest) frames is goes =
      fits-unqueuing l (unqueue_from rest) frames (subst ResetsPool (sym is) tt)
  fits-reset_on l (ResetStage.Regions below) frames is goes = (frames, subst ResetsPool (sym is) tt)

  fits-binned_at : (l : Local) (stage : Stage) → Frames k seat plain_rooms l → l.call.stage ≡ stage
      → Bins l stage → Fits k seat sure (binned_at l stage)
  fits-binned_at l (Stage.Resetting stage) frames is bins =
      fits-reset_on l stage frames is (bins-goes l stage bins)
  fits-binned_at l _ frames is bins = absurd bins

  fits-binned_as : (l : Local) (at : BinAt) (next : BinNext) → Frames k seat plain_rooms l
      → Bins l l.call.stage → Fits k seat sure (binned_as l at next)
  fits-binned_as l at (BinNext.Goes next) frames bins = (frames, bins)
  fits-binned_as l at BinNext.Waits frames bins = (frames, bins)
  fits-binned_as l at BinNext.Done frames bins = fits-binned_at l l.call.stage frames refl bins

  pub fits-reset_learn_of : (l : Local) (at : ResetAt) (f : ℕ) → Frames k seat plain_rooms l → ResetFits l at
      → Fits k seat sure (reset_learn_of l at f)
  fits-reset_learn_of l (ResetAt.Strip slab at) f frames is =
      fits-stripped_as l slab (strip_learn (strip_call l slab) at f) frames is
  fits-reset_learn_of l (ResetAt.Seek at) f frames is = fits-sought_as l at.seek (seek_learn at f) frames is
  fits-reset_learn_of l (ResetAt.Evict region at) f frames is =
      fits-evicting l region (evict_learn (evict_call l region) at f) frames is
  fits-reset_learn_of l (ResetAt.Clear granules at) f frames is =
      fits-cleared_as l granules at (clear_learn at f) frames is.0 is.1
  fits-reset_learn_of l (ResetAt.Unqueue at) f frames is = fits-unqueuing l (unqueue_learn at f) frames is
  fits-reset_learn_of l (ResetAt.Unite region at) f frames is =
      fits-uniting l region at (unite_learn (unite_call l region) at f) frames is
  fits-reset_learn_of l (ResetAt.Bin at) f frames is =
      fits-binned_as l at (bin_learn (binning_call l) at f) frames is

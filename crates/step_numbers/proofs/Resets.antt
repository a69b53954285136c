-- Where a reset goes on it grants nothing, and notes a mark that it is to end only where that names a grant.
use Rattle.std.proofs.Common.{◌≡◌, ◌∙◌, Bool, true, false, cond, eqb, refl, sym, ap, ℕ}
use Rattle.std.specs.Prelude.{None, Option, Some, ltb, ◌+◌, ◌&&◌, ⊤}
use Rattle.pool_types.specs.Sums.{capped}
use Rattle.word_codes.specs.declared.marks.Mark.{Mark}
use Rattle.word_codes.specs.Marks.{mark_of}
use Rattle.word_codes.specs.declared.kinds.Kind.{Kind}
use Rattle.word_codes.specs.Kinds.{kind_of}
use Rattle.word_codes.specs.declared.region_words.RegionWord.{RegionWord}
use Rattle.backend_bins.specs.Bin.{bin_learn}
use Rattle.backend_bins.specs.Blocks.{block_end}
use Rattle.backend_bins.specs.declared.bin.BinAt.{BinAt}
use Rattle.backend_bins.specs.declared.bin.BinNext.{BinNext}
use Rattle.backend_bins.specs.declared.blocks.Block.{Block}
use Rattle.heap_slabs.specs.Rolls.{newest_of}
use Rattle.heap_slabs.specs.Slabs.{after_free_of, first_from}
use Rattle.heap_slabs.specs.declared.records.HeapSlab.{HeapSlab}
use Rattle.heap_slabs.specs.declared.slabs.Wanted.{Wanted}
use Rattle.reset_steps.specs.Clear.{clear_learn}
use Rattle.reset_steps.specs.Evict.{evict_from, evict_kinded, evict_learn, evict_lined, evict_marked, last_line}
use Rattle.reset_steps.specs.Seek.{seek_learn}
use Rattle.reset_steps.specs.Strip.{object_unit, strip_behind, strip_from, strip_goes, strip_learn, strip_marked}
use Rattle.reset_steps.specs.Unite.{unite_from, unite_learn}
use Rattle.reset_steps.specs.Unqueue.{unqueue_from, unqueue_learn}
use Rattle.reset_steps.specs.declared.clear.ClearAt.{ClearAt}
use Rattle.reset_steps.specs.declared.clear.ClearNext.{ClearNext}
use Rattle.reset_steps.specs.declared.evict.EvictAt.{EvictAt}
use Rattle.reset_steps.specs.declared.evict.EvictCall.{EvictCall}
use Rattle.reset_steps.specs.declared.evict.EvictNext.{EvictNext}
use Rattle.reset_steps.specs.declared.seek.Seek.{Seek}
use Rattle.reset_steps.specs.declared.seek.SeekNext.{SeekNext}
use Rattle.reset_steps.specs.declared.strip.StripAt.{StripAt}
use Rattle.reset_steps.specs.declared.strip.StripNext.{StripNext}
use Rattle.reset_steps.specs.declared.unite.UniteAt.{UniteAt}
use Rattle.reset_steps.specs.declared.unite.UniteNext.{UniteNext}
use Rattle.reset_steps.specs.declared.unqueue.UnqueueNext.{UnqueueNext}
use Rattle.step_local.specs.Leaving.{with_slabs}
use Rattle.step_local.specs.Frames.{last_cache_bin}
use Rattle.step_local.specs.Resetting.{resetting, binning_call, stripping, stripping_from, strip_call, stripped_as}
use Rattle.step_local.specs.Resetting.{class_begun, slab_given, first_fetched, heap_given, heap_on, last_class}
use Rattle.step_local.specs.Resetting.{next_class, orphans_on, orphan_adopted, evict_call, evicting, evicting_from}
use Rattle.step_local.specs.Resetting.{bin_cleared, uncached_by, uncaching, cleared_as, unqueuing}
use Rattle.step_local.specs.Resetting.{unite_call, uniting, uniting_from, region_found, regions_passed, sought_as}
use Rattle.step_local.specs.Resetting.{reset_on, binned_at, binned_as, reset_learn_of}
use Rattle.step_local.specs.declared.frames.Local.{Local}
use Rattle.step_local.specs.declared.frames.ResetAt.{ResetAt}
use Rattle.step_local.specs.declared.frames.ResetStage.{ResetStage}
use Rattle.step_local.specs.declared.frames.Stage.{Stage}
use Rattle.step_numbers.specs.Positions.{keeps_heap, StageFits, StripFits, EvictFits}
use Rattle.step_numbers.proofs.Kept.{Fits, HeapFits, either, never, stage_of}

abbrev OptionFits : Option StripAt → Type 0
OptionFits (Some at) = StripFits at
OptionFits None = ⊤

abbrev StripNextFits : StripNext → Type 0
StripNextFits (StripNext.Goes at) = StripFits at
StripNextFits (StripNext.Freed object unit) = ⊤
StripNextFits StripNext.Stripped = ⊤

from_fits : (object : ℕ) (b : Bool) → OptionFits (cond b (Some (StripAt.Mark object)) None)
from_fits object true = tt
from_fits object false = tt

goes_fits : (object : ℕ) (b : Bool) → StripNextFits (strip_goes (cond b (Some (StripAt.Mark object)) None))
goes_fits object true = tt
goes_fits object false = tt

behind_fits : (s : HeapSlab) (object : ℕ) → StripNextFits (strip_behind s object)
behind_fits s object = goes_fits (capped (object + 1)) (ltb 0 s.count && ltb (capped (object + 1)) s.handed)

marked_fits : (s : HeapSlab) (object m : ℕ) (mark : Mark) → mark_of m ≡ mark
    → StripNextFits (strip_marked s object m mark)
marked_fits s object m (Mark.Granted grant) e = (grant, e)
marked_fits s object m Mark.Unmarked e = behind_fits s object
marked_fits s object m (Mark.Hand seat) e = behind_fits s object
marked_fits s object m (Mark.Link unit) e = behind_fits s object
marked_fits s object m Mark.End e = behind_fits s object
marked_fits s object m Mark.EndUnusable e = behind_fits s object

strip_fits : (s : HeapSlab) (at : StripAt) (f : ℕ) → StripNextFits (strip_learn s at f)
strip_fits s (StripAt.Mark object) f = marked_fits s object f (mark_of f) refl
strip_fits s (StripAt.End object mark) f = by (eqb f mark)
  where
    by : (b : Bool) → StripNextFits (cond b (StripNext.Freed object (object_unit s object))
        (StripNext.Goes (StripAt.Mark object)))
    by true = tt
    by false = tt

abbrev EvictNextFits : EvictNext → Type 0
EvictNextFits (EvictNext.Goes at) = EvictFits at
EvictNextFits (EvictNext.Ended b granule) = ⊤
EvictNextFits EvictNext.Passed = ⊤

evicted_fits : (b : Bool) (x y : EvictNext) → EvictNextFits x → EvictNextFits y → EvictNextFits (cond b x y)
evicted_fits true x y one other = one
evicted_fits false x y one other = other

evict_from_fits : (c : EvictCall) (granule : ℕ) → EvictNextFits (evict_from c granule)
evict_from_fits c granule = evicted_fits (ltb granule (block_end c.region)) _ _ tt tt

lined_fits : (c : EvictCall) (granule : ℕ) (b : Block) (line : ℕ) → EvictNextFits (evict_lined c granule b line)
lined_fits c granule b line =
    evicted_fits (ltb line last_line) _ _ tt (evict_from_fits c (capped (granule + 1)))

kinded_fits : (c : EvictCall) (granule : ℕ) (kind : Kind) → EvictNextFits (evict_kinded c granule kind)
kinded_fits c granule (Kind.Large first granules) = tt
kinded_fits c granule (Kind.Slab class) = evict_from_fits c (capped (granule + 1))
kinded_fits c granule Kind.Nothing = evict_from_fits c (capped (granule + 1))
kinded_fits c granule Kind.CachedSlab = evict_from_fits c (capped (granule + 1))

evict_marked_fits : (c : EvictCall) (granule : ℕ) (b : Block) (line m : ℕ) (mark : Mark) → mark_of m ≡ mark
    → EvictNextFits (evict_marked c granule b line m mark)
evict_marked_fits c granule b line m (Mark.Granted grant) e = (grant, e)
evict_marked_fits c granule b line m Mark.Unmarked e = lined_fits c granule b line
evict_marked_fits c granule b line m (Mark.Hand seat) e = lined_fits c granule b line
evict_marked_fits c granule b line m (Mark.Link unit) e = lined_fits c granule b line
evict_marked_fits c granule b line m Mark.End e = lined_fits c granule b line
evict_marked_fits c granule b line m Mark.EndUnusable e = lined_fits c granule b line

evict_fits : (c : EvictCall) (at : EvictAt) (f : ℕ) → EvictNextFits (evict_learn c at f)
evict_fits c (EvictAt.Kind granule) f = kinded_fits c granule (kind_of f)
evict_fits c (EvictAt.Mark granule b line) f = evict_marked_fits c granule b line f (mark_of f) refl
evict_fits c (EvictAt.End granule b line mark) f = evicted_fits (eqb f mark) _ _ tt tt

fits-stripping : (l : Local) (slab : ℕ) (one : Option StripAt) → StageFits l → OptionFits one
    → Fits l.last (stripping l slab one)
fits-stripping l slab (Some at) stage noted = (refl, (noted, stage))
fits-stripping l slab None stage noted = (refl, stage)

fits-stripping_from : (l : Local) (slab object : ℕ) → StageFits l → Fits l.last (stripping_from l slab object)
fits-stripping_from l slab object stage =
    let s = strip_call l slab in
    fits-stripping l slab (strip_from s object) stage (from_fits object (ltb 0 s.count && ltb object s.handed))

fits-stripped_as : (l : Local) (slab : ℕ) (next : StripNext) → StageFits l → StripNextFits next
    → Fits l.last (stripped_as l slab next)
fits-stripped_as l slab (StripNext.Goes at) stage noted = (refl, (noted, stage))
fits-stripped_as l slab (StripNext.Freed object unit) stage noted =
    fits-stripping_from (with_slabs l (after_free_of l.heap.slabs slab unit)) slab (capped (object + 1)) stage
fits-stripped_as l slab StripNext.Stripped stage noted = (refl, stage)

fits-class_begun : (l : Local) (found : Option HeapSlab) → Fits l.last (class_begun l found)
fits-class_begun l (Some kept) = (refl, never)
fits-class_begun l None = (refl, tt)

fits-slab_given : (l : Local) (found : Option HeapSlab) → StageFits l → Fits l.last (slab_given l found)
fits-slab_given l (Some kept) stage = fits-stripping_from l kept.slab 0 stage
fits-slab_given l None stage = fits-class_begun l (first_from Wanted.Any l.heap.slabs 0)

fits-heap_given : (l : Local) (class one : Option ℕ) → HeapFits l → Fits l.last (heap_given l class one)
fits-heap_given l class (Some slab) heap = (refl, heap)
fits-heap_given l class None heap = fits-slab_given l (first_fetched l class) (stage_of l heap)

pub fits-heap_on : (l : Local) (class : Option ℕ) → HeapFits l → Fits l.last (heap_on l class)
fits-heap_on l class heap = fits-heap_given l class (newest_of l.heap.cached) heap

fits-next_class : (l : Local) → StageFits l → Fits l.last (next_class l)
fits-next_class l stage = either (ltb l.fetch.class last_class) _ _ (refl, stage) (refl, (tt, stage))

fits-orphans_on : (l : Local) (rest : Option ℕ) → StageFits l → Fits l.last (orphans_on l rest)
fits-orphans_on l (Some slab) stage = (refl, stage)
fits-orphans_on l None stage = fits-next_class l stage

pub fits-orphan_adopted : (l : Local) (slab : ℕ) (rest : Option ℕ) → Fits l.last (orphan_adopted l slab rest)
fits-orphan_adopted l slab rest = fits-stripping_from (resetting l (ResetStage.Orphans rest)) slab 0 never

fits-evicting : (l : Local) (region : RegionWord) (next : EvictNext) → StageFits l → EvictNextFits next
    → Fits l.last (evicting l region next)
fits-evicting l region (EvictNext.Goes at) stage noted = (refl, (noted, stage))
fits-evicting l region (EvictNext.Ended b granule) stage noted = (refl, (tt, never))
fits-evicting l region EvictNext.Passed stage noted = (refl, (tt, stage))

fits-evicting_from : (l : Local) (region : RegionWord) (granule : ℕ) → StageFits l
    → Fits l.last (evicting_from l region granule)
fits-evicting_from l region granule stage =
    let c = evict_call l region in
    fits-evicting l region (evict_from c granule) stage (evict_from_fits c granule)

fits-bin_cleared : (l : Local) (granules : ℕ) → StageFits l → Fits l.last (bin_cleared l granules)
fits-bin_cleared l granules stage =
    either (ltb granules last_cache_bin) _ _ (refl, (tt, stage)) (refl, (tt, stage))

fits-uncached_by : (l : Local) (granules : ℕ) (one : Option ℕ) → StageFits l → Fits l.last (uncached_by l granules one)
fits-uncached_by l granules (Some first) stage = (refl, (tt, never))
fits-uncached_by l granules None stage = fits-bin_cleared l granules stage

fits-uncaching : (l : Local) (granules : ℕ) → StageFits l → Fits l.last (uncaching l granules)
fits-uncaching l granules stage = fits-uncached_by l granules (newest_of l.released) stage

fits-cleared_as : (l : Local) (granules : ℕ) (at : ClearAt) (next : ClearNext) → StageFits l
    → Fits l.last (cleared_as l granules at next)
fits-cleared_as l granules at (ClearNext.Goes next) stage = (refl, (tt, stage))
fits-cleared_as l granules at (ClearNext.Taken taken next) stage = (refl, (tt, stage))
fits-cleared_as l granules at ClearNext.Waits stage = (refl, (tt, stage))
fits-cleared_as l granules at ClearNext.Passed stage = fits-bin_cleared l granules stage
fits-cleared_as l granules at ClearNext.Cleared stage = fits-uncaching l granules stage

fits-unqueuing : (l : Local) (next : UnqueueNext) → StageFits l → Fits l.last (unqueuing l next)
fits-unqueuing l (UnqueueNext.Goes at) stage = (refl, (tt, stage))
fits-unqueuing l (UnqueueNext.Out b rest) stage = (refl, (tt, never))
fits-unqueuing l UnqueueNext.Emptied stage = (refl, (tt, stage))

fits-uniting : (l : Local) (region : RegionWord) (at : UniteAt) (next : UniteNext) → StageFits l
    → Fits l.last (uniting l region at next)
fits-uniting l region at (UniteNext.Goes next) stage = (refl, (tt, stage))
fits-uniting l region at (UniteNext.Waits bin) stage = (refl, (tt, stage))
fits-uniting l region at (UniteNext.United b) stage =
    either (eqb b.granules 0) _ _ (refl, (tt, stage)) (refl, (tt, never))

fits-uniting_from : (l : Local) (region : RegionWord) → StageFits l → Fits l.last (uniting_from l region)
fits-uniting_from l region stage =
    fits-uniting l region (UniteAt.Size region.first) (unite_from (unite_call l region) region.first) stage

fits-region_found : (l : Local) (region : RegionWord) (seek : Seek) → StageFits l
    → Fits l.last (region_found l region seek)
fits-region_found l region (Seek.From least) stage = fits-evicting_from l region region.first stage
fits-region_found l region (Seek.Under end) stage = fits-uniting_from l region stage

fits-regions_passed : (l : Local) (seek : Seek) → StageFits l → Fits l.last (regions_passed l seek)
fits-regions_passed l (Seek.From least) stage = (refl, (tt, stage))
fits-regions_passed l (Seek.Under end) stage = (refl, tt)

fits-sought_as : (l : Local) (seek : Seek) (next : SeekNext) → StageFits l → Fits l.last (sought_as l seek next)
fits-sought_as l seek (SeekNext.Goes at) stage = (refl, (tt, stage))
fits-sought_as l seek (SeekNext.Found region) stage = fits-region_found l region seek stage
fits-sought_as l seek SeekNext.Nothing stage = fits-regions_passed l seek stage

pub fits-reset_on : (l : Local) (stage : ResetStage) → HeapFits l → Fits l.last (reset_on l stage)
unfolding reset_on
fits-reset_on l (ResetStage.Heap class) heap = fits-heap_on l class heap
fits-reset_on l (ResetStage.Orphans rest) heap = fits-orphans_on l rest (stage_of l heap)
fits-reset_on l (ResetStage.Large region granule) heap = fits-evicting_from l region granule (stage_of l heap)
fits-reset_on l (ResetStage.Cache granules) heap = fits-uncaching l granules (stage_of l heap)
fits-reset_on l (ResetStage.Queue rest) heap = fits-unqueuing l (unqueue_from rest) (stage_of l heap)
fits-reset_on l (ResetStage.Regions below) heap = (refl, (tt, stage_of l heap))

-- a heap that is reset gives up all that it keeps
pub heap_resets : (l : Local) (stage : ResetStage) → l.call.stage ≡ Stage.Resetting stage → HeapFits l
heap_resets l stage is e = never (sym (ap keeps_heap is) ∙ e)

fits-binned_at : (l : Local) (stage : Stage) → l.call.stage ≡ stage → Fits l.last (binned_at l stage)
fits-binned_at l (Stage.Resetting stage) is = fits-reset_on l stage (heap_resets l stage is)
fits-binned_at l Stage.Idle is = (refl, tt)
fits-binned_at l Stage.Looking is = (refl, tt)
fits-binned_at l Stage.Getting is = (refl, tt)
fits-binned_at l Stage.Ending is = (refl, tt)
fits-binned_at l Stage.Replacing is = (refl, tt)
fits-binned_at l Stage.Undoing is = (refl, tt)
fits-binned_at l Stage.Leaving is = (refl, tt)

fits-binned_as : (l : Local) (at : BinAt) (next : BinNext) → StageFits l → Fits l.last (binned_as l at next)
fits-binned_as l at (BinNext.Goes next) stage = (refl, (tt, stage))
fits-binned_as l at BinNext.Waits stage = (refl, (tt, stage))
fits-binned_as l at BinNext.Done stage = fits-binned_at l l.call.stage refl

pub fits-reset_learn_of : (l : Local) (at : ResetAt) (f : ℕ) → StageFits l → Fits l.last (reset_learn_of l at f)
fits-reset_learn_of l (ResetAt.Strip slab at) f stage =
    let s = strip_call l slab in fits-stripped_as l slab (strip_learn s at f) stage (strip_fits s at f)
fits-reset_learn_of l (ResetAt.Seek at) f stage = fits-sought_as l at.seek (seek_learn at f) stage
fits-reset_learn_of l (ResetAt.Evict region at) f stage =
    let c = evict_call l region in fits-evicting l region (evict_learn c at f) stage (evict_fits c at f)
fits-reset_learn_of l (ResetAt.Clear granules at) f stage = fits-cleared_as l granules at (clear_learn at f) stage
fits-reset_learn_of l (ResetAt.Unqueue at) f stage = fits-unqueuing l (unqueue_learn at f) stage
fits-reset_learn_of l (ResetAt.Unite region at) f stage =
    fits-uniting l region at (unite_learn (unite_call l region) at f) stage
fits-reset_learn_of l (ResetAt.Bin at) f stage = fits-binned_as l at (bin_learn (binning_call l) at f) stage

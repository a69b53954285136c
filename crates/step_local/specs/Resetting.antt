-- A reset: what is held is freed, what keeps blocks is emptied, and each region becomes one free block.
use Rattle.std.specs.Prelude.{ℕ, ◌+◌, ◌-◌, ◌%◌, ◌^◌, cond, eqb, ltb, Option, Some, None}
use Rattle.pool_types.specs.Geometry.{class_count}
use Rattle.pool_types.specs.Limits.{region_numbers}
use Rattle.pool_types.specs.Sums.{capped}
use Rattle.pool_types.specs.declared.values.Answer.{Answer}
use Rattle.pool_types.specs.declared.values.Awaited.{Awaited}
use Rattle.pool_types.specs.declared.values.Turn.{Turn}
use Rattle.pool_words.specs.declared.actions.Action.{Action}
use Rattle.word_codes.specs.declared.region_words.RegionWord.{RegionWord}
use Rattle.backend_bins.specs.declared.bin.BinAt.{BinAt}
use Rattle.backend_bins.specs.declared.bin.BinCall.{BinCall}
use Rattle.backend_bins.specs.declared.bin.BinJob.{BinJob}
use Rattle.backend_bins.specs.declared.bin.BinNext.{BinNext}
use Rattle.backend_bins.specs.declared.blocks.Block.{Block}
use Rattle.backend_bins.specs.Bin.{bin_call, bin_course, bin_learn}
use Rattle.backend_bins.specs.Blocks.{block, bin_of}
use Rattle.heap_slabs.specs.declared.records.HeapSlab.{HeapSlab}
use Rattle.heap_slabs.specs.declared.slabs.Wanted.{Wanted}
use Rattle.heap_slabs.specs.Records.{begun}
use Rattle.heap_slabs.specs.Rolls.{after_push, newest_of, without_newest}
use Rattle.heap_slabs.specs.Slabs.{record_at, first_of_class, first_from, after_free_of}
use Rattle.mailbox.specs.declared.boxes.BoxAt.{BoxAt}
use Rattle.orphans.specs.declared.adopting.AdoptAt.{AdoptAt}
use Rattle.reset_steps.specs.declared.clear.ClearAt.{ClearAt}
use Rattle.reset_steps.specs.declared.clear.ClearCall.{ClearCall}
use Rattle.reset_steps.specs.declared.clear.ClearNext.{ClearNext}
use Rattle.reset_steps.specs.declared.clear.Number.{Number}
use Rattle.reset_steps.specs.declared.evict.EvictAt.{EvictAt}
use Rattle.reset_steps.specs.declared.evict.EvictCall.{EvictCall}
use Rattle.reset_steps.specs.declared.evict.EvictNext.{EvictNext}
use Rattle.reset_steps.specs.declared.seek.Seek.{Seek}
use Rattle.reset_steps.specs.declared.seek.SeekAt.{SeekAt}
use Rattle.reset_steps.specs.declared.seek.SeekNext.{SeekNext}
use Rattle.reset_steps.specs.declared.strip.StripAt.{StripAt}
use Rattle.reset_steps.specs.declared.strip.StripNext.{StripNext}
use Rattle.reset_steps.specs.declared.unite.UniteAt.{UniteAt}
use Rattle.reset_steps.specs.declared.unite.UniteCall.{UniteCall}
use Rattle.reset_steps.specs.declared.unite.UniteNext.{UniteNext}
use Rattle.reset_steps.specs.declared.unqueue.UnqueueAt.{UnqueueAt}
use Rattle.reset_steps.specs.declared.unqueue.UnqueueNext.{UnqueueNext}
use Rattle.reset_steps.specs.Clear.{clear_course, clear_learn}
use Rattle.reset_steps.specs.Evict.{evict_from, evict_course, evict_learn}
use Rattle.reset_steps.specs.Seek.{seek_begins, seek_course, seek_learn}
use Rattle.reset_steps.specs.Strip.{strip_from, strip_course, strip_learn}
use Rattle.reset_steps.specs.Unite.{unite_from, unite_course, unite_learn}
use Rattle.reset_steps.specs.Unqueue.{unqueue_from, unqueue_course, unqueue_learn}
use Rattle.step_local.specs.declared.frames.At.{At}
use Rattle.step_local.specs.declared.frames.Local.{Local}
use Rattle.step_local.specs.declared.frames.ResetAt.{ResetAt}
use Rattle.step_local.specs.declared.frames.ResetStage.{ResetStage}
use Rattle.step_local.specs.declared.frames.SmallAt.{SmallAt}
use Rattle.step_local.specs.declared.frames.Stage.{Stage}
use Rattle.step_local.specs.Frames.{last_cache_bin}
use Rattle.step_local.specs.Answers.{gone, waiting, bin_waits, answered}
use Rattle.step_local.specs.Leaving.{with_slabs}

-- the reset has come so far
abbrev pub resetting : Local → ResetStage → Local
resetting l stage = record l { call = record l.call { stage = Stage.Resetting stage } }

abbrev pub reset_gone : Local → ResetAt → Local × Turn
reset_gone l at = gone l (At.Reset at)

-- a block in hand is put into its bin, and then comes this
abbrev pub binning : Local → ResetStage → Block → Local × Turn
binning l stage b = reset_gone (record l {
  call = record l.call { stage = Stage.Resetting stage; block = b };
}) (ResetAt.Bin BinAt.Lock)

abbrev pub binning_call : Local → BinCall
binning_call l = bin_call l.seat l.call.block BinJob.Insert

-- the objects of a slab that are held are freed, and then the slab ends
abbrev pub stripping : Local → ℕ → Option StripAt → Local × Turn
stripping l slab (Some at) = reset_gone l (ResetAt.Strip slab at)
stripping l slab None = gone l (At.Small (SmallAt.Empty slab))

abbrev pub strip_call_of : ℕ → Option HeapSlab → HeapSlab
strip_call_of slab (Some kept) = kept
strip_call_of slab None = begun slab 0

abbrev pub strip_call : Local → ℕ → HeapSlab
strip_call l slab = strip_call_of slab (record_at l.heap.slabs.records slab)

abbrev pub stripping_from : Local → ℕ → ℕ → Local × Turn
stripping_from l slab object = stripping l slab (strip_from (strip_call l slab) object)

abbrev pub stripped_as : Local → ℕ → StripNext → Local × Turn
stripped_as l slab (StripNext.Goes at) = stripping l slab (Some at)
stripped_as l slab (StripNext.Freed object unit) =
    stripping_from (with_slabs l (after_free_of l.heap.slabs slab unit)) slab (capped (object + 1))
stripped_as l slab StripNext.Stripped = stripping l slab None

abbrev pub strip_learn_of : Local → ℕ → StripAt → ℕ → Local × Turn
strip_learn_of l slab at f = stripped_as l slab (strip_learn (strip_call l slab) at f)

-- the mailbox of a slab's class is taken before its slabs are given up
abbrev pub class_begun : Local → Option HeapSlab → Local × Turn
class_begun l (Some kept) = gone (record (resetting l (ResetStage.Heap (Some kept.class))) {
  fetch = record l.fetch { class = kept.class };
}) (At.Mailbox BoxAt.Take)
class_begun l None = answered l Answer.Exited

abbrev pub slab_given : Local → Option HeapSlab → Local × Turn
slab_given l (Some kept) = stripping_from l kept.slab 0
slab_given l None = class_begun l (first_from Wanted.Any l.heap.slabs 0)

abbrev pub first_fetched : Local → Option ℕ → Option HeapSlab
first_fetched l (Some class) = first_of_class Wanted.Any l.heap.slabs class
first_fetched l None = None

abbrev pub heap_given : Local → Option ℕ → Option ℕ → Local × Turn
heap_given l class (Some slab) = gone l (At.Small (SmallAt.Newest slab))
heap_given l class None = slab_given l (first_fetched l class)

-- the heap gives up one more slab, the cached ones first, or keeps none
abbrev pub heap_on : Local → Option ℕ → Local × Turn
heap_on l class = heap_given l class (newest_of l.heap.cached)

-- a region is looked for
abbrev pub seeking : Local → Seek → Local × Turn
seeking l seek = reset_gone l (ResetAt.Seek (seek_begins seek))

abbrev pub last_class : ℕ
last_class = class_count - 1

-- the slabs of the next class that nobody keeps; after the last one, large objects
abbrev pub next_class : Local → Local × Turn
next_class l = cond (ltb l.fetch.class last_class)
    (gone (record l { fetch = record l.fetch { class = l.fetch.class + 1 } }) (At.Adopt AdoptAt.Take))
    (seeking l (Seek.From 0))

abbrev pub orphans_on : Local → Option ℕ → Local × Turn
orphans_on l (Some slab) = gone l (At.Adopt (AdoptAt.Header slab))
orphans_on l None = next_class l

-- a slab that nobody kept was adopted, and is given up before the one behind it
abbrev pub orphan_adopted : Local → ℕ → Option ℕ → Local × Turn
orphan_adopted l slab rest = stripping_from (resetting l (ResetStage.Orphans rest)) slab 0

-- the granules of a region
abbrev pub region_block : RegionWord → Block
region_block region = block region.first region.granules

-- a large object comes into the seat's hand; after a region's last one the next region is looked for
abbrev pub evict_call : Local → RegionWord → EvictCall
evict_call l region = record { seat = l.seat; region = region_block region }

abbrev pub evicting : Local → RegionWord → EvictNext → Local × Turn
evicting l region (EvictNext.Goes at) = reset_gone l (ResetAt.Evict region at)
evicting l region (EvictNext.Ended b granule) = binning l (ResetStage.Large region granule) b
evicting l region EvictNext.Passed = seeking l (Seek.From (capped (region.number + 1)))

abbrev pub evicting_from : Local → RegionWord → ℕ → Local × Turn
evicting_from l region granule = evicting l region (evict_from (evict_call l region) granule)

abbrev pub evict_learn_of : Local → RegionWord → EvictAt → ℕ → Local × Turn
evict_learn_of l region at f = evicting l region (evict_learn (evict_call l region) at f)

-- the cache bins, and behind the last one the queue
abbrev pub clearing : Local → ℕ → Local × Turn
clearing l granules = reset_gone l (ResetAt.Clear granules (ClearAt.Peek Number.Items))

abbrev pub bin_cleared : Local → ℕ → Local × Turn
bin_cleared l granules = cond (ltb granules last_cache_bin)
    (clearing l (granules + 1))
    (reset_gone l (ResetAt.Unqueue UnqueueAt.Take))

-- the blocks that were taken out of a cache bin, the oldest first
abbrev pub uncached_by : Local → ℕ → Option ℕ → Local × Turn
uncached_by l granules (Some first) =
    binning (record l { released = without_newest l.released }) (ResetStage.Cache granules) (block first granules)
uncached_by l granules None = bin_cleared l granules

abbrev pub uncaching : Local → ℕ → Local × Turn
uncaching l granules = uncached_by l granules (newest_of l.released)

abbrev pub clear_call : Local → ℕ → ClearCall
clear_call l granules = record { seat = l.seat; granules = granules }

abbrev pub cleared_as : Local → ℕ → ClearAt → ClearNext → Local × Turn
cleared_as l granules at (ClearNext.Goes next) = reset_gone l (ResetAt.Clear granules next)
cleared_as l granules at (ClearNext.Taken taken next) =
    reset_gone (record l { released = after_push l.released taken }) (ResetAt.Clear granules next)
cleared_as l granules at ClearNext.Waits =
    waiting l (At.Reset (ResetAt.Clear granules at)) (Awaited.CacheLock (granules % 2 ^ 16))
cleared_as l granules at ClearNext.Passed = bin_cleared l granules
cleared_as l granules at ClearNext.Cleared = uncaching l granules

abbrev pub clear_learn_of : Local → ℕ → ClearAt → ℕ → Local × Turn
clear_learn_of l granules at f = cleared_as l granules at (clear_learn at f)

-- the queue's blocks, and behind the last one the regions, of which the highest number comes first
abbrev pub unqueuing : Local → UnqueueNext → Local × Turn
unqueuing l (UnqueueNext.Goes at) = reset_gone l (ResetAt.Unqueue at)
unqueuing l (UnqueueNext.Out b rest) = binning l (ResetStage.Queue rest) b
unqueuing l UnqueueNext.Emptied = seeking l (Seek.Under region_numbers)

-- what was united of a region is put into its bin as one block
abbrev pub unite_call : Local → RegionWord → UniteCall
unite_call l region = record { seat = l.seat; region = region_block region }

abbrev pub uniting : Local → RegionWord → UniteAt → UniteNext → Local × Turn
uniting l region at (UniteNext.Goes next) = reset_gone l (ResetAt.Unite region next)
uniting l region at (UniteNext.Waits bin) = bin_waits l (At.Reset (ResetAt.Unite region at)) bin
uniting l region at (UniteNext.United b) = cond (eqb b.granules 0)
    (seeking l (Seek.Under region.number))
    (binning l (ResetStage.Regions region.number) b)

abbrev pub uniting_from : Local → RegionWord → Local × Turn
uniting_from l region =
    uniting l region (UniteAt.Size region.first) (unite_from (unite_call l region) region.first)

abbrev pub unite_learn_of : Local → RegionWord → UniteAt → ℕ → Local × Turn
unite_learn_of l region at f = uniting l region at (unite_learn (unite_call l region) at f)

-- large objects are looked for from the lowest number on, and regions are united from the highest on
abbrev pub region_found : Local → RegionWord → Seek → Local × Turn
region_found l region (Seek.From least) = evicting_from l region region.first
region_found l region (Seek.Under end) = uniting_from l region

abbrev pub regions_passed : Local → Seek → Local × Turn
regions_passed l (Seek.From least) = clearing l 1
regions_passed l (Seek.Under end) = answered l Answer.Exited

abbrev pub sought_as : Local → Seek → SeekNext → Local × Turn
sought_as l seek (SeekNext.Goes at) = reset_gone l (ResetAt.Seek at)
sought_as l seek (SeekNext.Found region) = region_found l region seek
sought_as l seek SeekNext.Nothing = regions_passed l seek

-- what comes next
unfoldable pub reset_on : Local → ResetStage → Local × Turn
reset_on l (ResetStage.Heap class) = heap_on l class
reset_on l (ResetStage.Orphans rest) = orphans_on l rest
reset_on l (ResetStage.Large region granule) = evicting_from l region granule
reset_on l (ResetStage.Cache granules) = uncaching l granules
reset_on l (ResetStage.Queue rest) = unqueuing l (unqueue_from rest)
reset_on l (ResetStage.Regions below) = seeking l (Seek.Under below)

-- the block in hand is in its bin
abbrev pub binned_at : Local → Stage → Local × Turn
binned_at l (Stage.Resetting stage) = reset_on l stage
binned_at l Stage.Idle = answered l Answer.Exited
binned_at l Stage.Looking = answered l Answer.Exited
binned_at l Stage.Getting = answered l Answer.Exited
binned_at l Stage.Ending = answered l Answer.Exited
binned_at l Stage.Replacing = answered l Answer.Exited
binned_at l Stage.Undoing = answered l Answer.Exited
binned_at l Stage.Leaving = answered l Answer.Exited

abbrev pub binned_as : Local → BinAt → BinNext → Local × Turn
binned_as l at (BinNext.Goes next) = reset_gone l (ResetAt.Bin next)
binned_as l at BinNext.Waits = bin_waits l (At.Reset (ResetAt.Bin at)) (bin_of l.call.block.granules)
binned_as l at BinNext.Done = binned_at l l.call.stage

abbrev pub reset_course : Local → ResetAt → Action
reset_course l (ResetAt.Strip slab at) = strip_course (strip_call l slab) at
reset_course l (ResetAt.Seek at) = seek_course at
reset_course l (ResetAt.Evict region at) = evict_course (evict_call l region) at
reset_course l (ResetAt.Clear granules at) = clear_course (clear_call l granules) at
reset_course l (ResetAt.Unqueue at) = unqueue_course at
reset_course l (ResetAt.Unite region at) = unite_course (unite_call l region) at
reset_course l (ResetAt.Bin at) = bin_course (binning_call l) at

abbrev pub reset_learn_of : Local → ResetAt → ℕ → Local × Turn
reset_learn_of l (ResetAt.Strip slab at) f = strip_learn_of l slab at f
reset_learn_of l (ResetAt.Seek at) f = sought_as l at.seek (seek_learn at f)
reset_learn_of l (ResetAt.Evict region at) f = evict_learn_of l region at f
reset_learn_of l (ResetAt.Clear granules at) f = clear_learn_of l granules at f
reset_learn_of l (ResetAt.Unqueue at) f = unqueuing l (unqueue_learn at f)
reset_learn_of l (ResetAt.Unite region at) f = unite_learn_of l region at f
reset_learn_of l (ResetAt.Bin at) f = binned_as l at (bin_learn (binning_call l) at f)

-- Where turns go on: answers, ends of grants, scans, puts and what a leaving heap gives up.
use Rattle.std.proofs.Common.{All, None, Option, Some, arith, false, ℕ, ◌+◌, ◌<◌}
use Rattle.std.specs.Prelude.{⊤}
use Rattle.pool_types.specs.Geometry.{class_count}
use Rattle.pool_types.specs.Sums.{capped}
use Rattle.pool_types.specs.declared.values.Answer.{Answer}
use Rattle.pool_types.specs.declared.values.Found.{Found}
use Rattle.pool_types.specs.declared.values.Turn.{Turn}
use Rattle.pool_words.specs.Words.{cache_counts}
use Rattle.pool_words.specs.declared.words.Key.{Key}
use Rattle.word_codes.specs.declared.kinds.Kind.{Kind}
use Rattle.heap_slabs.specs.Heaps.{leaving_by, leaving_slab, next_to_leave}
use Rattle.heap_slabs.specs.Records.{is_unused}
use Rattle.heap_slabs.specs.Rolls.{Rolled, newest_of}
use Rattle.heap_slabs.specs.Slabs.{Kept, after_remove, first_from, record_at}
use Rattle.heap_slabs.specs.declared.heap.Heap.{Heap}
use Rattle.heap_slabs.specs.declared.heap.Leaving.{Leaving}
use Rattle.heap_slabs.specs.declared.records.HeapSlab.{HeapSlab}
use Rattle.heap_slabs.specs.declared.slabs.Wanted.{Wanted}
use Rattle.orphans.specs.declared.leaving.LeaveNext.{LeaveNext}
use Rattle.backend_bins.specs.Blocks.{fits}
use Rattle.backend_bins.specs.declared.blocks.Block.{Block}
use Rattle.backend_bins.specs.declared.blocks.Want.{Want}
use Rattle.large_cache.specs.declared.sweep.Cleanup.{Cleanup}
use Rattle.step_local.specs.Answers.{answered, end_by, end_in, ended, ended_as, ended_at, ending, got}
use Rattle.step_local.specs.Answers.{got_after, got_of, lost_at, object_got, replaces, slab_of}
use Rattle.step_local.specs.Leaving.{asking, class_at, class_in, leaving, leaving_as, left_as, putting}
use Rattle.step_local.specs.Leaving.{scanning}
use Rattle.step_local.specs.declared.frames.Call.{Call}
use Rattle.step_local.specs.declared.frames.Fetch.{Fetch}
use Rattle.step_local.specs.declared.frames.Local.{Local}
use Rattle.step_local.specs.declared.frames.Object.{Object}
use Rattle.step_local.specs.declared.frames.PutFor.{PutFor}
use Rattle.step_local.specs.declared.frames.Stage.{Stage}
use Rattle.step_ranges.proofs.Heaps.{AllKept, from_fits, remove_kept}
use Rattle.step_ranges.proofs.Lists.{bin_low}
use Rattle.step_ranges.proofs.Numbers.{choose}
use Rattle.step_ranges.proofs.Rolls.{Holds, newest_holds}
use Rattle.step_ranges.proofs.Slabs.{LeaveNextFits}
use Rattle.step_ranges.specs.Jobs.{HasBlock, RecordFits}
use Rattle.step_ranges.specs.Locals.{AfterEmpty, AfterFetch, AfterNewest, AfterPut, AfterSweep, AskFits}
use Rattle.step_ranges.specs.Locals.{CallFits, EndFits, FetchFits, Frames, FramesFit, GrantFits, HeapFits}
use Rattle.step_ranges.specs.Locals.{IsEnding, IsLeaving, KeptFits, LocalFits, NoneReleased, ObjectFits}
use Rattle.step_ranges.specs.Locals.{StageFits}
use Rattle.step_ranges.specs.Ranges.{IsSlab}

-- what a turn leaves is in its range
abbrev pub TurnFits : Key → Local × Turn → Type 0
TurnFits k turn = LocalFits k turn.0

module _ {k known : Key} {own : ℕ} {h : Heap} {c : Call} {f : Fetch} {bin : ℕ}
    (fits : FramesFit k known own h c f bin) where
  pub with_heap : (next : Heap) → HeapFits k next → FramesFit k known own next c f bin
  with_heap next is = record {
    key = fits.key;
    seat = fits.seat;
    heap = is;
    call = fits.call;
    fetch = fits.fetch;
    bin = fits.bin;
  }

  pub with_call : (next : Call) → CallFits k next.old next.new next.served next.stage
      → FramesFit k known own h next f bin
  with_call next is = record {
    key = fits.key;
    seat = fits.seat;
    heap = fits.heap;
    call = is;
    fetch = fits.fetch;
    bin = fits.bin;
  }

  pub with_fetch : (next : Fetch) → FetchFits k next.class next.spare → FramesFit k known own h c next bin
  with_fetch next is = record {
    key = fits.key;
    seat = fits.seat;
    heap = fits.heap;
    call = fits.call;
    fetch = is;
    bin = fits.bin;
  }

  pub with_bin : (next : ℕ) → next < cache_counts → FramesFit k known own h c f next
  with_bin next is = record {
    key = fits.key;
    seat = fits.seat;
    heap = fits.heap;
    call = fits.call;
    fetch = fits.fetch;
    bin = is;
  }

  -- the same call at another stage
  pub at_stage : (stage : Stage) → StageFits k stage → CallFits k c.old c.new c.served stage
  at_stage stage is = record { old = fits.call.old; new = fits.call.new; served = fits.call.served; stage = is }

  -- a heap with other slabs, cached slabs or spares
  pub other_slabs : (slabs : Kept) → AllKept k slabs.records → HeapFits k (record h { slabs = slabs })
  other_slabs slabs is = record { records = is; cached = fits.heap.cached; spares = fits.heap.spares }

  pub other_cached : (cached : Rolled ℕ) → All (IsSlab k) cached.items → HeapFits k (record h { cached = cached })
  other_cached cached is = record { records = fits.heap.records; cached = is; spares = fits.heap.spares }

  pub other_spares : (spares : Rolled ℕ) → All (IsSlab k) spares.items → HeapFits k (record h { spares = spares })
  other_spares spares is = record { records = fits.heap.records; cached = fits.heap.cached; spares = is }

module _ (k : Key) where
  pub answered_fits : (l : Local) (answer : Answer) → Frames k l → NoneReleased l → TurnFits k (answered l answer)
  answered_fits l answer frames none = record {
    frames = with_call frames (record l.call { stage = Stage.Idle }) (at_stage frames Stage.Idle tt);
    at = none;
  }

  pub ended_fits : (l : Local) → Frames k l → NoneReleased l → TurnFits k (ended l)
  ended_fits l frames none = answered_fits l (ended_as l l.call.stage) frames none

  pub ended_at_fits : (c : Call) (stage : Stage) → ObjectFits k c.old → ObjectFits k c.new
      → ObjectFits k (ended_at c stage)
  ended_at_fits c Stage.Undoing old new = new
  ended_at_fits c Stage.Idle old new = old
  ended_at_fits c Stage.Looking old new = old
  ended_at_fits c Stage.Getting old new = old
  ended_at_fits c Stage.Ending old new = old
  ended_at_fits c Stage.Replacing old new = old
  ended_at_fits c Stage.Leaving old new = old
  ended_at_fits c (Stage.Resetting stage) old new = old

  end_in_fits : (kind : Kind) (one : Option HeapSlab) → EndFits kind (end_in one)
  end_in_fits kind None = tt
  end_in_fits kind (Some kept) = tt

  end_by_fits : (l : Local) (unit : ℕ) (kind : Kind) → EndFits kind (end_by l unit kind)
  end_by_fits l unit (Kind.Slab class) = end_in_fits (Kind.Slab class) (record_at l.heap.slabs.records (slab_of unit))
  end_by_fits l unit (Kind.Large first granules) = tt
  end_by_fits l unit Kind.Nothing = tt
  end_by_fits l unit Kind.CachedSlab = tt

  pub ending_fits : (l : Local) (stage : Stage) → Frames k l → NoneReleased l → StageFits k stage → IsEnding stage
      → TurnFits k (ending l stage)
  ending_fits l stage frames none is ends =
      let object = ended_at (record l.call { stage = stage }) stage in
      record {
        frames = with_call frames (record l.call { stage = stage }) (at_stage frames stage is);
        at = (none, ends, end_by_fits (record l { call = record l.call { stage = stage } }) object.unit object.kind);
      }

  pub lost_at_fits : (l : Local) (found : Found) (stage : Stage) → Frames k l → NoneReleased l
      → TurnFits k (lost_at l found stage)
  lost_at_fits l found Stage.Replacing frames none =
      let l' : Local = record l { call = record l.call { lost = found } } in
      ending_fits l' Stage.Undoing (with_call frames (record l.call { lost = found }) frames.call) none tt tt
  lost_at_fits l found Stage.Undoing frames none = answered_fits l (Answer.NotHeld l.call.lost) frames none
  lost_at_fits l found Stage.Ending frames none = answered_fits l (Answer.NotHeld found) frames none
  lost_at_fits l found Stage.Idle frames none = answered_fits l (Answer.NotHeld found) frames none
  lost_at_fits l found Stage.Looking frames none = answered_fits l (Answer.NotHeld found) frames none
  lost_at_fits l found Stage.Getting frames none = answered_fits l (Answer.NotHeld found) frames none
  lost_at_fits l found Stage.Leaving frames none = answered_fits l (Answer.NotHeld found) frames none
  lost_at_fits l found (Stage.Resetting stage) frames none = answered_fits l (Answer.NotHeld found) frames none

  got_after_fits : (l : Local) (object : Object) → Frames k l → NoneReleased l → ObjectFits k object
      → TurnFits k (got_after l object)
  got_after_fits l object frames none is =
      let c : Call = record l.call { new = object } in
      choose (TurnFits k) (replaces l.call.request) _ _
      (ending_fits (record l { call = c }) Stage.Replacing
      (with_call frames c (record {
        old = frames.call.old;
        new = is;
        served = frames.call.served;
        stage = frames.call.stage;
      })) none tt tt)
      (answered_fits l (got_of l object) frames none)

  -- an object is granted
  pub got_fits : (l : Local) (unit : ℕ) → Frames k l → NoneReleased l → GrantFits k l.call unit
      → TurnFits k (got l unit)
  got_fits l unit frames none is = got_after_fits (record l { last = capped (l.last + 1) }) (object_got l unit) frames
      none (record { unit = is.unit; kind = is.kind })

  -- a block is put
  pub putting_fits : (l : Local) (why : PutFor) (b : Block) → Frames k l
      → AfterPut k l.call l.ask.want l.sweep l.released.items why → HasBlock k b → TurnFits k (putting l why b)
  putting_fits l why b frames after is = record { frames = frames; at = (after, record { block = is; step = tt }) }

  pub scanning_fits : (l : Local) → Frames k l → NoneReleased l → AskFits l.ask.want l.call.served
      → TurnFits k (scanning l)
  scanning_fits l frames none ask = record {
    frames = frames;
    at = (none, ask, record { bin = bin_low l.ask.want.granules; step = tt });
  }

  pub asking_fits : (l : Local) (want : Want) → Frames k l → NoneReleased l → AskFits want l.call.served
      → TurnFits k (asking l want)
  asking_fits l want frames none ask = record {
    frames = frames;
    at = (none, ask, record { bin = bin_low want.granules; step = tt });
  }

  pub empty_by_sweep : (c : Call) (want : Want) (cleanup : Cleanup) (stage : Stage) → AfterSweep k c want cleanup
      → AfterEmpty k c want cleanup stage
  empty_by_sweep c want cleanup Stage.Getting after = after
  empty_by_sweep c want cleanup _ after = tt

  pub newest_by_sweep : (c : Call) (want : Want) (cleanup : Cleanup) (stage : Stage) → AfterSweep k c want cleanup
      → AfterNewest k c want cleanup stage
  newest_by_sweep c want cleanup Stage.Leaving after = tt
  newest_by_sweep c want cleanup (Stage.Resetting stage) after = tt
  newest_by_sweep c want cleanup _ after = after

  pub after_leaving : (c : Call) (stage : Stage) → IsLeaving stage → AfterFetch c stage
  after_leaving c Stage.Getting is = absurd is
  after_leaving c _ is = tt

  empty_by_leaving : (c : Call) (want : Want) (cleanup : Cleanup) (stage : Stage) → IsLeaving stage
      → AfterEmpty k c want cleanup stage
  empty_by_leaving c want cleanup Stage.Getting is = absurd is
  empty_by_leaving c want cleanup _ is = tt

  newest_by_leaving : (c : Call) (want : Want) (cleanup : Cleanup) (stage : Stage) → IsLeaving stage
      → AfterNewest k c want cleanup stage
  newest_by_leaving c want cleanup Stage.Leaving is = tt
  newest_by_leaving c want cleanup (Stage.Resetting stage) is = tt
  newest_by_leaving c want cleanup _ is = absurd is

  -- what a heap gives up next
  abbrev pub LeavingFits : Leaving → Type 0
  LeavingFits Leaving.Nothing = ⊤
  LeavingFits (Leaving.Cached slab) = IsSlab k slab
  LeavingFits (Leaving.Unused kept) = RecordFits k kept
  LeavingFits (Leaving.Held kept) = RecordFits k kept

  leaving_slab_fits : (one : Option HeapSlab) → KeptFits k one → LeavingFits (leaving_slab one)
  leaving_slab_fits None fits = tt
  leaving_slab_fits (Some kept) fits = choose LeavingFits (is_unused kept) _ _ fits fits

  leaving_by_fits : (heap : Heap) (one : Option ℕ) → HeapFits k heap → Holds (IsSlab k) one
      → LeavingFits (leaving_by heap one)
  leaving_by_fits heap None fits is =
      leaving_slab_fits (first_from Wanted.Any heap.slabs 0) (from_fits k Wanted.Any heap.slabs 0 fits.records)
  leaving_by_fits heap (Some slab) fits is = is

  pub next_to_leave_fits : (heap : Heap) → HeapFits k heap → LeavingFits (next_to_leave heap)
  next_to_leave_fits heap fits =
      leaving_by_fits heap (newest_of heap.cached) fits (newest_holds (IsSlab k) heap.cached fits.cached)

  pub leaving_as_fits : (l : Local) (what : Leaving) → Frames k l → NoneReleased l → IsLeaving l.call.stage
      → LeavingFits what → TurnFits k (leaving_as l what)
  leaving_as_fits l (Leaving.Cached slab) frames none leaves is = record {
    frames = frames;
    at = (none, (is, newest_by_leaving l.call l.ask.want l.sweep.cleanup l.call.stage leaves));
  }
  leaving_as_fits l (Leaving.Unused kept) frames none leaves is = record {
    frames = frames;
    at = (none, (is.slab, empty_by_leaving l.call l.ask.want l.sweep.cleanup l.call.stage leaves));
  }
  leaving_as_fits l (Leaving.Held kept) frames none leaves is =
      record { frames = frames; at = (none, leaves, is.slab, tt) }
  leaving_as_fits l Leaving.Nothing frames none leaves is = answered_fits l Answer.Exited frames none

  pub leaving_fits : (l : Local) → Frames k l → NoneReleased l → IsLeaving l.call.stage → TurnFits k (leaving l)
  leaving_fits l frames none leaves = leaving_as_fits l (next_to_leave l.heap) frames none leaves
      (next_to_leave_fits l.heap frames.heap)

  pub class_of_kept : (one : Option HeapSlab) → KeptFits k one → class_in one < class_count
  class_of_kept None fits = omega arith
  class_of_kept (Some kept) fits = fits.class

  pub left_as_fits : (l : Local) (slab : ℕ) (next : LeaveNext) → Frames k l → NoneReleased l → IsLeaving l.call.stage
      → IsSlab k slab → LeaveNextFits k next → TurnFits k (left_as l slab next)
  left_as_fits l slab (LeaveNext.Goes at) frames none leaves is fits =
      record { frames = frames; at = (none, leaves, is, fits) }
  left_as_fits l slab LeaveNext.Filled frames none leaves is fits = record {
    frames = with_fetch frames (record l.fetch { class = class_at l slab; awaited = slab; came = false }) (record {
      class = class_of_kept (record_at l.heap.slabs.records slab) (frames.heap.records slab);
      spare = frames.fetch.spare;
    });
    at = (none, after_leaving l.call l.call.stage leaves, tt);
  }
  left_as_fits l slab LeaveNext.Left frames none leaves is fits =
      let slabs = after_remove l.heap.slabs slab in
      leaving_fits (record l { heap = record l.heap { slabs = slabs } })
      (with_heap frames (record l.heap { slabs = slabs })
      (other_slabs frames slabs (remove_kept k l.heap.slabs slab frames.heap.records))) none leaves

-- Where a call goes on with large objects, with looks and with ends of grants, its seat has not taken the office.
use Rattle.std.proofs.Common.{eqb, false, refl, true, ℕ, ◌≡◌}
use Rattle.std.specs.Prelude.{None, Option, Some, ltb, ◌%◌, ◌+◌, ◌^◌}
use Rattle.heap_slabs.specs.Records.{after_free, is_unused, unit_of}
use Rattle.heap_slabs.specs.Rolls.{newest_of}
use Rattle.heap_slabs.specs.Slabs.{after_replace, first_from, record_at}
use Rattle.heap_slabs.specs.declared.records.HeapSlab.{HeapSlab}
use Rattle.heap_slabs.specs.declared.slabs.Wanted.{Wanted}
use Rattle.large_cache.specs.Get.{get_learn}
use Rattle.large_cache.specs.Keep.{keep_learn}
use Rattle.large_cache.specs.Sweep.{sweep_learn}
use Rattle.large_cache.specs.Undo.{undo_learn}
use Rattle.large_cache.specs.declared.get.GetAt.{GetAt}
use Rattle.large_cache.specs.declared.get.GetNext.{GetNext}
use Rattle.large_cache.specs.declared.keep.KeepAt.{KeepAt}
use Rattle.large_cache.specs.declared.keep.KeepNext.{KeepNext}
use Rattle.large_cache.specs.declared.sweep.Cleanup.{Cleanup}
use Rattle.large_cache.specs.declared.sweep.SweepAt.{SweepAt}
use Rattle.large_cache.specs.declared.sweep.SweepNext.{SweepNext}
use Rattle.large_cache.specs.declared.undo.UndoAt.{UndoAt}
use Rattle.large_cache.specs.declared.undo.UndoNext.{UndoNext}
use Rattle.mailbox.specs.Mailing.{mail_learn}
use Rattle.mailbox.specs.declared.mailing.MailAt.{MailAt}
use Rattle.mailbox.specs.declared.mailing.MailNext.{MailNext}
use Rattle.pool_types.specs.declared.values.NullCause.{NullCause}
use Rattle.pool_types.specs.declared.values.Request.{Request}
use Rattle.public_list.specs.Ending.{end_learn}
use Rattle.public_list.specs.Looking.{look_learn}
use Rattle.public_list.specs.Posting.{post_learn}
use Rattle.public_list.specs.declared.ending.EndAt.{EndAt}
use Rattle.public_list.specs.declared.ending.EndNext.{EndNext}
use Rattle.public_list.specs.declared.looking.LookAt.{LookAt}
use Rattle.public_list.specs.declared.looking.LookNext.{LookNext}
use Rattle.public_list.specs.declared.posting.PostAt.{PostAt}
use Rattle.public_list.specs.declared.posting.PostNext.{PostNext}
use Rattle.step_local.specs.Answers.{end_call, ended_object, slab_of}
use Rattle.step_local.specs.Getting.{decided, get_or, getting, getting_as, getting_or_null, refusal_of, served_as}
use Rattle.step_local.specs.Getting.{stays}
use Rattle.step_local.specs.Large.{bins_swept, cached, cached_at, cleanup_ticks, emptying, emptying_by, get_as}
use Rattle.step_local.specs.Large.{get_learn_of}
use Rattle.step_local.specs.Large.{got_block, granules_of_served, keep_as, keep_learn_of, kept_as, large_learn}
use Rattle.step_local.specs.Frames.{last_cache_bin}
use Rattle.step_local.specs.Large.{last_slot, locate_learn, located_as, located_index, next_bin}
use Rattle.step_local.specs.Large.{object_at, object_in, releasing, releasing_by, slot_looked, sweep_call}
use Rattle.step_local.specs.Large.{sweep_learn_of, swept, swept_as, tick_at, ticked, undo_as, undo_learn_of}
use Rattle.step_local.specs.Large.{unused_next}
use Rattle.step_local.specs.Objects.{end_as, end_learn_of, freed_at, freed_in, freed_own, freed_slab, held, held_as}
use Rattle.step_local.specs.Objects.{look_call, look_learn_of, looked_as, mail_as, mail_learn_of, post_as}
use Rattle.step_local.specs.Objects.{post_learn_of}
use Rattle.step_local.specs.declared.frames.LargeAt.{LargeAt}
use Rattle.step_local.specs.declared.frames.Local.{Local}
use Rattle.step_local.specs.declared.frames.LocateAt.{LocateAt}
use Rattle.step_local.specs.declared.frames.Served.{Served}
use Rattle.step_local.specs.declared.frames.Stage.{Stage}
use Rattle.call_laws.proofs.Small.{kept-getting_small, kept-got, kept-lost_end, either}
use Rattle.word_codes.specs.RegionWords.{has_granule, region_of}
use Rattle.call_laws.specs.Calls.{IsCalling, IsKept, is_resetting, is_outside}

pub kept-getting : (l : Local) (e : IsCalling l) (served : Served) → IsKept l (getting l served)
kept-getting l e (Served.Small class) = kept-getting_small (getting_as l (Served.Small class)) refl class
kept-getting l e (Served.Large granules alignment) = cc

pub kept-get_or : (l : Local) (e : IsCalling l) (wanted : Option Served) (cause : Option NullCause)
    → IsKept l (get_or l wanted cause)
kept-get_or l e wanted (Some cause) = cc
kept-get_or l e (Some served) None = kept-getting l e served
kept-get_or l e None None = cc

pub kept-getting_or_null : (l : Local) (e : IsCalling l) (wanted : Option Served) → IsKept l (getting_or_null l wanted)
kept-getting_or_null l e wanted = kept-get_or l e wanted (refusal_of l wanted)

pub kept-decided : (l : Local) (e : IsCalling l) (size : ℕ) (alignment : Option ℕ) (base : ℕ)
    → IsKept l (decided l size alignment base)
kept-decided l e size alignment base = either l (eqb size 0) _ _ (cc)
    (either l (stays l size alignment base) _ _ (cc) (kept-getting_or_null l e (served_as size alignment)))

pub kept-got_block : (l : Local) (e : IsCalling l) → IsKept l (got_block l)
kept-got_block l e = either l l.call.missed _ _ (cc) (cc)

pub kept-cached_at : (l : Local) (e : IsCalling l) (stage : Stage) (s : is_resetting stage ≡ false)
    → IsKept l (cached_at l stage)
kept-cached_at l e Stage.Getting s = kept-got_block l e
kept-cached_at l e Stage.Idle s = cc
kept-cached_at l e Stage.Looking s = cc
kept-cached_at l e Stage.Ending s = cc
kept-cached_at l e Stage.Replacing s = cc
kept-cached_at l e Stage.Undoing s = cc
kept-cached_at l e Stage.Leaving s = cc
kept-cached_at l e (Stage.Resetting stage) s = absurd (cc)

pub kept-cached : (l : Local) (e : IsCalling l) → IsKept l (cached l)
kept-cached l e = kept-cached_at l e l.call.stage e

pub kept-ticked : (l : Local) (e : IsCalling l) → IsKept l (ticked l)
kept-ticked l e = either l (eqb (l.call.time % cleanup_ticks) 0) _ _ (cc) (kept-cached l e)

pub kept-swept : (l : Local) (e : IsCalling l) (cleanup : Cleanup) → IsKept l (swept l cleanup)
kept-swept l e Cleanup.Regular = kept-cached l e
kept-swept l e Cleanup.Soft = cc
kept-swept l e Cleanup.Hard = cc

pub kept-unused_next : (l : Local) (e : IsCalling l) (found : Option HeapSlab) → IsKept l (unused_next l found)
kept-unused_next l e (Some kept) = cc
kept-unused_next l e None = kept-swept l e l.sweep.cleanup

pub kept-emptying_by : (l : Local) (e : IsCalling l) (one : Option ℕ) → IsKept l (emptying_by l one)
kept-emptying_by l e (Some slab) = cc
kept-emptying_by l e None = kept-unused_next l e (first_from Wanted.Unused l.heap.slabs 0)

pub kept-emptying : (l : Local) (e : IsCalling l) → IsKept l (emptying l)
kept-emptying l e = kept-emptying_by l e (newest_of l.heap.cached)

pub kept-bins_swept : (l : Local) (e : IsCalling l) (cleanup : Cleanup) → IsKept l (bins_swept l cleanup)
kept-bins_swept l e Cleanup.Regular = kept-swept l e Cleanup.Regular
kept-bins_swept l e Cleanup.Soft = kept-swept l e Cleanup.Soft
kept-bins_swept l e Cleanup.Hard = kept-emptying l e

pub kept-next_bin : (l : Local) (e : IsCalling l) → IsKept l (next_bin l)
kept-next_bin l e = either l (ltb l.sweep.granules last_cache_bin) _ _ (cc) (kept-bins_swept l e l.sweep.cleanup)

pub kept-releasing_by : (l : Local) (e : IsCalling l) (one : Option ℕ) → IsKept l (releasing_by l one)
kept-releasing_by l e (Some block) = cc
kept-releasing_by l e None = kept-next_bin l e

pub kept-releasing : (l : Local) (e : IsCalling l) → IsKept l (releasing l)
kept-releasing l e = kept-releasing_by l e (newest_of l.released)

pub kept-swept_as : (l : Local) (e : IsCalling l) (at : SweepAt) (next : SweepNext) → IsKept l (swept_as l at next)
kept-swept_as l e at (SweepNext.Goes next) = cc
kept-swept_as l e at (SweepNext.Stays next) = cc
kept-swept_as l e at (SweepNext.Stale block next) = cc
kept-swept_as l e at SweepNext.Waits = cc
kept-swept_as l e at (SweepNext.Began time) = cc
kept-swept_as l e at SweepNext.Passed = kept-next_bin l e
kept-swept_as l e at SweepNext.Swept = kept-releasing l e

pub kept-sweep_learn_of : (l : Local) (e : IsCalling l) (at : SweepAt) (f : ℕ) → IsKept l (sweep_learn_of l at f)
kept-sweep_learn_of l e at f = kept-swept_as l e at (sweep_learn (sweep_call l) at f)

pub kept-get_as : (l : Local) (e : IsCalling l) (at : GetAt) (next : GetNext) → IsKept l (get_as l at next)
kept-get_as l e at (GetNext.Goes next) = cc
kept-get_as l e at GetNext.Waits = cc
kept-get_as l e at (GetNext.Took block) = kept-ticked
    (record l {
      call = record l.call
          { missed = false; block = record { first = block; granules = granules_of_served l.call.served } };
    }) e
kept-get_as l e at GetNext.Missed = kept-ticked (record l { call = record l.call { missed = true } }) e

pub kept-get_learn_of : (l : Local) (e : IsCalling l) (at : GetAt) (f : ℕ) → IsKept l (get_learn_of l at f)
kept-get_learn_of l e at f = kept-get_as l e at (get_learn at f)

pub kept-undo_as : (l : Local) (e : IsCalling l) (cause : NullCause) (at : UndoAt) (next : UndoNext)
    → IsKept l (undo_as l cause at next)
kept-undo_as l e cause at (UndoNext.Goes next) = cc
kept-undo_as l e cause at UndoNext.Waits = cc
kept-undo_as l e cause at UndoNext.Undone = cc

pub kept-undo_learn_of : (l : Local) (e : IsCalling l) (cause : NullCause) (at : UndoAt) (f : ℕ)
    → IsKept l (undo_learn_of l cause at f)
kept-undo_learn_of l e cause at f = kept-undo_as l e cause at (undo_learn at f)

pub kept-kept_as : (l : Local) (e : IsCalling l) (one : Option ℕ) → IsKept l (kept_as l one)
kept-kept_as l e (Some block) = cc
kept-kept_as l e None = kept-ticked l e

pub kept-keep_as : (l : Local) (e : IsCalling l) (at : KeepAt) (next : KeepNext) → IsKept l (keep_as l at next)
kept-keep_as l e at (KeepNext.Goes next) = cc
kept-keep_as l e at KeepNext.Waits = cc
kept-keep_as l e at (KeepNext.Kept released) = kept-kept_as l e released

pub kept-keep_learn_of : (l : Local) (e : IsCalling l) (at : KeepAt) (f : ℕ) → IsKept l (keep_learn_of l at f)
kept-keep_learn_of l e at f = kept-keep_as l e at (keep_learn at f)

pub kept-tick_at : (l : Local) (e : IsCalling l) (stage : Stage) (s : is_resetting stage ≡ false)
    → IsKept l (tick_at l stage)
kept-tick_at l e Stage.Getting s = cc
kept-tick_at l e Stage.Idle s = cc
kept-tick_at l e Stage.Looking s = cc
kept-tick_at l e Stage.Ending s = cc
kept-tick_at l e Stage.Replacing s = cc
kept-tick_at l e Stage.Undoing s = cc
kept-tick_at l e Stage.Leaving s = cc
kept-tick_at l e (Stage.Resetting stage) s = absurd (cc)

pub kept-large_learn : (l : Local) (e : IsCalling l) (at : LargeAt) (f : ℕ) → IsKept l (large_learn l at f)
kept-large_learn l e LargeAt.Tick f = kept-tick_at (record l { call = record l.call { time = (f + 1) % 2 ^ 64 } }) e
    l.call.stage e
kept-large_learn l e (LargeAt.Kind unit) f = cc
kept-large_learn l e (LargeAt.Grant unit) f = kept-got l e unit

pub kept-object_at : (l : Local) (e : IsCalling l) (slab : ℕ) (one : Option ℕ) (unit : ℕ)
    → IsKept l (object_at l slab one unit)
kept-object_at l e slab (Some head) unit = cc
kept-object_at l e slab None unit = cc

pub kept-object_in : (l : Local) (e : IsCalling l) (slab : ℕ) (found : Option HeapSlab)
    → IsKept l (object_in l slab found)
kept-object_in l e slab (Some kept) = kept-object_at l e slab kept.head (unit_of slab kept.class kept.handed)
kept-object_in l e slab None = kept-object_at l e slab None 0

pub kept-located_as : (l : Local) (e : IsCalling l) (region : ℕ) (base : ℕ) (served : Served)
    → IsKept l (located_as l region base served)
kept-located_as l e region base (Served.Small class) = kept-object_in l e l.call.slab
    (record_at l.heap.slabs.records l.call.slab)
kept-located_as l e region base (Served.Large granules alignment) = cc

pub kept-slot_looked : (l : Local) (e : IsCalling l) (slot : ℕ) (region : ℕ) → IsKept l (slot_looked l slot region)
kept-slot_looked l e slot region = either l (has_granule (region_of region) (located_index l l.call.served)) _ _ (cc)
    (either l (ltb slot last_slot) _ _ (cc) (cc))

pub kept-locate_learn : (l : Local) (e : IsCalling l) (at : LocateAt) (f : ℕ) → IsKept l (locate_learn l at f)
kept-locate_learn l e (LocateAt.Region slot) f = kept-slot_looked l e slot f
kept-locate_learn l e (LocateAt.Base slot region) f = kept-located_as
    (record l { call = record l.call { region = region } }) e region f l.call.served

pub kept-held_as : (l : Local) (e : IsCalling l) (base : ℕ) (request : Request) → IsKept l (held_as l base request)
kept-held_as l e base (Request.Msize place) = cc
kept-held_as l e base (Request.Identify place) = cc
kept-held_as l e base (Request.Realloc place size) = kept-decided l e size None base
kept-held_as l e base (Request.AlignedRealloc place size alignment) = kept-decided l e size (Some alignment) base
kept-held_as l e base (Request.Malloc size) = cc
kept-held_as l e base (Request.Aligned size alignment) = cc
kept-held_as l e base (Request.Free place) = cc
kept-held_as l e base Request.Exit = cc

pub kept-held : (l : Local) (e : IsCalling l) (base : ℕ) → IsKept l (held l base)
kept-held l e base = kept-held_as l e base l.call.request

pub kept-looked_as : (l : Local) (e : IsCalling l) (next : LookNext) → IsKept l (looked_as l next)
kept-looked_as l e (LookNext.Goes at) = cc
kept-looked_as l e (LookNext.Held unit mark kind base) = kept-held
    (record l { call = record l.call { old = record l.call.old { unit = unit; mark = mark; kind = kind } } }) e base
kept-looked_as l e LookNext.Differs = cc
kept-looked_as l e (LookNext.NotHeld found) = cc

pub kept-look_learn_of : (l : Local) (e : IsCalling l) (at : LookAt) (f : ℕ) → IsKept l (look_learn_of l at f)
kept-look_learn_of l e at f = kept-looked_as l e (look_learn (look_call l) at f)

pub kept-freed_slab : (l : Local) (e : IsCalling l) (slab : ℕ) (kept : HeapSlab) → IsKept l (freed_slab l slab kept)
kept-freed_slab l e slab kept = let l' : Local = record l
    { heap = record l.heap { slabs = after_replace l.heap.slabs kept } } in either l (is_unused kept) _ _ (cc) (cc)

pub kept-freed_in : (l : Local) (e : IsCalling l) (unit : ℕ) (slab : ℕ) (found : Option HeapSlab)
    → IsKept l (freed_in l unit slab found)
kept-freed_in l e unit slab (Some kept) = kept-freed_slab l e slab (after_free kept unit)
kept-freed_in l e unit slab None = cc

pub kept-freed_at : (l : Local) (e : IsCalling l) (unit : ℕ) (slab : ℕ) → IsKept l (freed_at l unit slab)
kept-freed_at l e unit slab = kept-freed_in l e unit slab (record_at l.heap.slabs.records slab)

pub kept-freed_own : (l : Local) (e : IsCalling l) → IsKept l (freed_own l)
kept-freed_own l e = kept-freed_at l e (ended_object l).unit (slab_of (ended_object l).unit)

pub kept-end_as : (l : Local) (e : IsCalling l) (next : EndNext) → IsKept l (end_as l next)
kept-end_as l e (EndNext.Goes at) = cc
kept-end_as l e EndNext.Own = kept-freed_own l e
kept-end_as l e EndNext.Other = cc
kept-end_as l e EndNext.Large = cc
kept-end_as l e (EndNext.NotHeld found) = kept-lost_end l e found

pub kept-end_learn_of : (l : Local) (e : IsCalling l) (at : EndAt) (f : ℕ) → IsKept l (end_learn_of l at f)
kept-end_learn_of l e at f = kept-end_as l e (end_learn (end_call l) at f)

pub kept-post_as : (l : Local) (e : IsCalling l) (next : PostNext) → IsKept l (post_as l next)
kept-post_as l e (PostNext.Goes at) = cc
kept-post_as l e PostNext.Listed = cc
kept-post_as l e PostNext.Owed = cc

pub kept-post_learn_of : (l : Local) (e : IsCalling l) (at : PostAt) (f : ℕ) → IsKept l (post_learn_of l at f)
kept-post_learn_of l e at f = kept-post_as l e (post_learn at f)

pub kept-mail_as : (l : Local) (e : IsCalling l) (next : MailNext) → IsKept l (mail_as l next)
kept-mail_as l e (MailNext.Goes at) = cc
kept-mail_as l e MailNext.Mailed = cc

pub kept-mail_learn_of : (l : Local) (e : IsCalling l) (at : MailAt) (f : ℕ) → IsKept l (mail_learn_of l at f)
kept-mail_learn_of l e at f = kept-mail_as l e (mail_learn at f)

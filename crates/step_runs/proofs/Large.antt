-- Where a call goes on with large objects, with looks and with ends of grants, its seat has not taken the office.
use Rattle.std.proofs.Common.{eqb, false, refl, true, ℕ}
use Rattle.std.specs.Prelude.{None, Option, Some, ltb, ◌%◌, ◌+◌, ◌^◌}
use Rattle.heap_slabs.specs.Records.{after_free, is_unused, unit_of}
use Rattle.heap_slabs.specs.Rolls.{newest_of}
use Rattle.heap_slabs.specs.Slabs.{after_replace, first_from, record_at}
use Rattle.heap_slabs.specs.declared.records.HeapSlab.{HeapSlab}
use Rattle.heap_slabs.specs.declared.slabs.Wanted.{Wanted}
use Rattle.large_cache.specs.Get.{get_learn}
use Rattle.large_cache.specs.Keep.{keep_learn}
use Rattle.large_cache.specs.Sweep.{sweep_learn}
use Rattle.large_cache.specs.Undo.{undo_learn}
use Rattle.large_cache.specs.declared.get.GetAt.{GetAt}
use Rattle.large_cache.specs.declared.get.GetNext.{GetNext}
use Rattle.large_cache.specs.declared.keep.KeepAt.{KeepAt}
use Rattle.large_cache.specs.declared.keep.KeepNext.{KeepNext}
use Rattle.large_cache.specs.declared.sweep.Cleanup.{Cleanup}
use Rattle.large_cache.specs.declared.sweep.SweepAt.{SweepAt}
use Rattle.large_cache.specs.declared.sweep.SweepNext.{SweepNext}
use Rattle.large_cache.specs.declared.undo.UndoAt.{UndoAt}
use Rattle.large_cache.specs.declared.undo.UndoNext.{UndoNext}
use Rattle.mailbox.specs.Mailing.{mail_learn}
use Rattle.mailbox.specs.declared.mailing.MailAt.{MailAt}
use Rattle.mailbox.specs.declared.mailing.MailNext.{MailNext}
use Rattle.pool_types.specs.declared.values.NullCause.{NullCause}
use Rattle.pool_types.specs.declared.values.Request.{Request}
use Rattle.public_list.specs.Ending.{end_learn}
use Rattle.public_list.specs.Looking.{look_learn}
use Rattle.public_list.specs.Posting.{post_learn}
use Rattle.public_list.specs.declared.ending.EndAt.{EndAt}
use Rattle.public_list.specs.declared.ending.EndNext.{EndNext}
use Rattle.public_list.specs.declared.looking.LookAt.{LookAt}
use Rattle.public_list.specs.declared.looking.LookNext.{LookNext}
use Rattle.public_list.specs.declared.posting.PostAt.{PostAt}
use Rattle.public_list.specs.declared.posting.PostNext.{PostNext}
use Rattle.step_local.specs.Answers.{end_call, ended_object, slab_of}
use Rattle.step_local.specs.Getting.{decided, get_or, getting, getting_as, getting_or_null, refusal_of, served_as}
use Rattle.step_local.specs.Getting.{stays}
use Rattle.step_local.specs.Large.{bins_swept, cached, cached_at, cleanup_ticks, emptying, emptying_by, get_as}
use Rattle.step_local.specs.Large.{get_learn_of}
use Rattle.step_local.specs.Large.{got_block, granules_of_served, keep_as, keep_learn_of, kept_as, large_learn}
use Rattle.step_local.specs.Frames.{last_cache_bin}
use Rattle.step_local.specs.Large.{last_slot, locate_learn, located_as, located_index, next_bin}
use Rattle.step_local.specs.Large.{object_at, object_in, releasing, releasing_by, slot_looked, sweep_call}
use Rattle.step_local.specs.Large.{sweep_learn_of, swept, swept_as, tick_at, ticked, undo_as, undo_learn_of}
use Rattle.step_local.specs.Large.{unused_next}
use Rattle.step_local.specs.Objects.{end_as, end_learn_of, freed_at, freed_in, freed_own, freed_slab, held, held_as}
use Rattle.step_local.specs.Objects.{look_call, look_learn_of, looked_as, mail_as, mail_learn_of, post_as}
use Rattle.step_local.specs.Objects.{post_learn_of}
use Rattle.step_local.specs.declared.frames.LargeAt.{LargeAt}
use Rattle.step_local.specs.declared.frames.Local.{Local}
use Rattle.step_local.specs.declared.frames.LocateAt.{LocateAt}
use Rattle.step_local.specs.declared.frames.Served.{Served}
use Rattle.step_local.specs.declared.frames.Stage.{Stage}
use Rattle.step_runs.proofs.Small.{IsAway, carry-getting_small, carry-got, carry-lost_end, either}
use Rattle.word_codes.specs.RegionWords.{has_granule, region_of}

pub carry-getting : (l : Local) (served : Served) → IsAway (getting l served)
carry-getting l (Served.Small class) = carry-getting_small (getting_as l (Served.Small class)) class
carry-getting l (Served.Large granules alignment) = refl

pub carry-get_or : (l : Local) (wanted : Option Served) (cause : Option NullCause) → IsAway (get_or l wanted cause)
carry-get_or l wanted (Some cause) = refl
carry-get_or l (Some served) None = carry-getting l served
carry-get_or l None None = refl

pub carry-getting_or_null : (l : Local) (wanted : Option Served) → IsAway (getting_or_null l wanted)
carry-getting_or_null l wanted = carry-get_or l wanted (refusal_of l wanted)

pub carry-decided : (l : Local) (size : ℕ) (alignment : Option ℕ) (base : ℕ) → IsAway (decided l size alignment base)
carry-decided l size alignment base = either (eqb size 0) _ _ refl
    (either (stays l size alignment base) _ _ refl (carry-getting_or_null l (served_as size alignment)))

pub carry-got_block : (l : Local) → IsAway (got_block l)
carry-got_block l = either l.call.missed _ _ refl refl

pub carry-cached_at : (l : Local) (stage : Stage) → IsAway (cached_at l stage)
carry-cached_at l Stage.Getting = carry-got_block l
carry-cached_at l Stage.Idle = refl
carry-cached_at l Stage.Looking = refl
carry-cached_at l Stage.Ending = refl
carry-cached_at l Stage.Replacing = refl
carry-cached_at l Stage.Undoing = refl
carry-cached_at l Stage.Leaving = refl
carry-cached_at l (Stage.Resetting stage) = refl

pub carry-cached : (l : Local) → IsAway (cached l)
carry-cached l = carry-cached_at l l.call.stage

pub carry-ticked : (l : Local) → IsAway (ticked l)
carry-ticked l = either (eqb (l.call.time % cleanup_ticks) 0) _ _ refl (carry-cached l)

pub carry-swept : (l : Local) (cleanup : Cleanup) → IsAway (swept l cleanup)
carry-swept l Cleanup.Regular = carry-cached l
carry-swept l Cleanup.Soft = refl
carry-swept l Cleanup.Hard = refl

pub carry-unused_next : (l : Local) (found : Option HeapSlab) → IsAway (unused_next l found)
carry-unused_next l (Some kept) = refl
carry-unused_next l None = carry-swept l l.sweep.cleanup

pub carry-emptying_by : (l : Local) (one : Option ℕ) → IsAway (emptying_by l one)
carry-emptying_by l (Some slab) = refl
carry-emptying_by l None = carry-unused_next l (first_from Wanted.Unused l.heap.slabs 0)

pub carry-emptying : (l : Local) → IsAway (emptying l)
carry-emptying l = carry-emptying_by l (newest_of l.heap.cached)

pub carry-bins_swept : (l : Local) (cleanup : Cleanup) → IsAway (bins_swept l cleanup)
carry-bins_swept l Cleanup.Regular = carry-swept l Cleanup.Regular
carry-bins_swept l Cleanup.Soft = carry-swept l Cleanup.Soft
carry-bins_swept l Cleanup.Hard = carry-emptying l

pub carry-next_bin : (l : Local) → IsAway (next_bin l)
carry-next_bin l = either (ltb l.sweep.granules last_cache_bin) _ _ refl (carry-bins_swept l l.sweep.cleanup)

pub carry-releasing_by : (l : Local) (one : Option ℕ) → IsAway (releasing_by l one)
carry-releasing_by l (Some block) = refl
carry-releasing_by l None = carry-next_bin l

pub carry-releasing : (l : Local) → IsAway (releasing l)
carry-releasing l = carry-releasing_by l (newest_of l.released)

pub carry-swept_as : (l : Local) (at : SweepAt) (next : SweepNext) → IsAway (swept_as l at next)
carry-swept_as l at (SweepNext.Goes next) = refl
carry-swept_as l at (SweepNext.Stays next) = refl
carry-swept_as l at (SweepNext.Stale block next) = refl
carry-swept_as l at SweepNext.Waits = refl
carry-swept_as l at (SweepNext.Began time) = refl
carry-swept_as l at SweepNext.Passed = carry-next_bin l
carry-swept_as l at SweepNext.Swept = carry-releasing l

pub carry-sweep_learn_of : (l : Local) (at : SweepAt) (f : ℕ) → IsAway (sweep_learn_of l at f)
carry-sweep_learn_of l at f = carry-swept_as l at (sweep_learn (sweep_call l) at f)

pub carry-get_as : (l : Local) (at : GetAt) (next : GetNext) → IsAway (get_as l at next)
carry-get_as l at (GetNext.Goes next) = refl
carry-get_as l at GetNext.Waits = refl
carry-get_as l at (GetNext.Took block) = carry-ticked
    (record l {
      call = record l.call
          { missed = false; block = record { first = block; granules = granules_of_served l.call.served } };
    })
carry-get_as l at GetNext.Missed = carry-ticked (record l { call = record l.call { missed = true } })

pub carry-get_learn_of : (l : Local) (at : GetAt) (f : ℕ) → IsAway (get_learn_of l at f)
carry-get_learn_of l at f = carry-get_as l at (get_learn at f)

pub carry-undo_as : (l : Local) (cause : NullCause) (at : UndoAt) (next : UndoNext) → IsAway (undo_as l cause at next)
carry-undo_as l cause at (UndoNext.Goes next) = refl
carry-undo_as l cause at UndoNext.Waits = refl
carry-undo_as l cause at UndoNext.Undone = refl

pub carry-undo_learn_of : (l : Local) (cause : NullCause) (at : UndoAt) (f : ℕ) → IsAway (undo_learn_of l cause at f)
carry-undo_learn_of l cause at f = carry-undo_as l cause at (undo_learn at f)

pub carry-kept_as : (l : Local) (one : Option ℕ) → IsAway (kept_as l one)
carry-kept_as l (Some block) = refl
carry-kept_as l None = carry-ticked l

pub carry-keep_as : (l : Local) (at : KeepAt) (next : KeepNext) → IsAway (keep_as l at next)
carry-keep_as l at (KeepNext.Goes next) = refl
carry-keep_as l at KeepNext.Waits = refl
carry-keep_as l at (KeepNext.Kept released) = carry-kept_as l released

pub carry-keep_learn_of : (l : Local) (at : KeepAt) (f : ℕ) → IsAway (keep_learn_of l at f)
carry-keep_learn_of l at f = carry-keep_as l at (keep_learn at f)

pub carry-tick_at : (l : Local) (stage : Stage) → IsAway (tick_at l stage)
carry-tick_at l Stage.Getting = refl
carry-tick_at l Stage.Idle = refl
carry-tick_at l Stage.Looking = refl
carry-tick_at l Stage.Ending = refl
carry-tick_at l Stage.Replacing = refl
carry-tick_at l Stage.Undoing = refl
carry-tick_at l Stage.Leaving = refl
carry-tick_at l (Stage.Resetting stage) = refl

pub carry-large_learn : (l : Local) (at : LargeAt) (f : ℕ) → IsAway (large_learn l at f)
carry-large_learn l LargeAt.Tick f = carry-tick_at (record l { call = record l.call { time = (f + 1) % 2 ^ 64 } })
    l.call.stage
carry-large_learn l (LargeAt.Kind unit) f = refl
carry-large_learn l (LargeAt.Grant unit) f = carry-got l unit

pub carry-object_at : (l : Local) (slab : ℕ) (one : Option ℕ) (unit : ℕ) → IsAway (object_at l slab one unit)
carry-object_at l slab (Some head) unit = refl
carry-object_at l slab None unit = refl

pub carry-object_in : (l : Local) (slab : ℕ) (found : Option HeapSlab) → IsAway (object_in l slab found)
carry-object_in l slab (Some kept) = carry-object_at l slab kept.head (unit_of slab kept.class kept.handed)
carry-object_in l slab None = carry-object_at l slab None 0

pub carry-located_as : (l : Local) (region : ℕ) (base : ℕ) (served : Served) → IsAway (located_as l region base served)
carry-located_as l region base (Served.Small class) = carry-object_in l l.call.slab
    (record_at l.heap.slabs.records l.call.slab)
carry-located_as l region base (Served.Large granules alignment) = refl

pub carry-slot_looked : (l : Local) (slot : ℕ) (region : ℕ) → IsAway (slot_looked l slot region)
carry-slot_looked l slot region = either (has_granule (region_of region) (located_index l l.call.served)) _ _ refl
    (either (ltb slot last_slot) _ _ refl refl)

pub carry-locate_learn : (l : Local) (at : LocateAt) (f : ℕ) → IsAway (locate_learn l at f)
carry-locate_learn l (LocateAt.Region slot) f = carry-slot_looked l slot f
carry-locate_learn l (LocateAt.Base slot region) f = carry-located_as
    (record l { call = record l.call { region = region } }) region f l.call.served

pub carry-held_as : (l : Local) (base : ℕ) (request : Request) → IsAway (held_as l base request)
carry-held_as l base (Request.Msize place) = refl
carry-held_as l base (Request.Identify place) = refl
carry-held_as l base (Request.Realloc place size) = carry-decided l size None base
carry-held_as l base (Request.AlignedRealloc place size alignment) = carry-decided l size (Some alignment) base
carry-held_as l base (Request.Malloc size) = refl
carry-held_as l base (Request.Aligned size alignment) = refl
carry-held_as l base (Request.Free place) = refl
carry-held_as l base Request.Exit = refl

pub carry-held : (l : Local) (base : ℕ) → IsAway (held l base)
carry-held l base = carry-held_as l base l.call.request

pub carry-looked_as : (l : Local) (next : LookNext) → IsAway (looked_as l next)
carry-looked_as l (LookNext.Goes at) = refl
carry-looked_as l (LookNext.Held unit mark kind base) = carry-held
    (record l { call = record l.call { old = record l.call.old { unit = unit; mark = mark; kind = kind } } }) base
carry-looked_as l LookNext.Differs = refl
carry-looked_as l (LookNext.NotHeld found) = refl

pub carry-look_learn_of : (l : Local) (at : LookAt) (f : ℕ) → IsAway (look_learn_of l at f)
carry-look_learn_of l at f = carry-looked_as l (look_learn (look_call l) at f)

pub carry-freed_slab : (l : Local) (slab : ℕ) (kept : HeapSlab) → IsAway (freed_slab l slab kept)
carry-freed_slab l slab kept = let l' : Local = record l
    { heap = record l.heap { slabs = after_replace l.heap.slabs kept } } in either (is_unused kept) _ _ refl refl

pub carry-freed_in : (l : Local) (unit : ℕ) (slab : ℕ) (found : Option HeapSlab) → IsAway (freed_in l unit slab found)
carry-freed_in l unit slab (Some kept) = carry-freed_slab l slab (after_free kept unit)
carry-freed_in l unit slab None = refl

pub carry-freed_at : (l : Local) (unit : ℕ) (slab : ℕ) → IsAway (freed_at l unit slab)
carry-freed_at l unit slab = carry-freed_in l unit slab (record_at l.heap.slabs.records slab)

pub carry-freed_own : (l : Local) → IsAway (freed_own l)
carry-freed_own l = carry-freed_at l (ended_object l).unit (slab_of (ended_object l).unit)

pub carry-end_as : (l : Local) (next : EndNext) → IsAway (end_as l next)
carry-end_as l (EndNext.Goes at) = refl
carry-end_as l EndNext.Own = carry-freed_own l
carry-end_as l EndNext.Other = refl
carry-end_as l EndNext.Large = refl
carry-end_as l (EndNext.NotHeld found) = carry-lost_end l found

pub carry-end_learn_of : (l : Local) (at : EndAt) (f : ℕ) → IsAway (end_learn_of l at f)
carry-end_learn_of l at f = carry-end_as l (end_learn (end_call l) at f)

pub carry-post_as : (l : Local) (next : PostNext) → IsAway (post_as l next)
carry-post_as l (PostNext.Goes at) = refl
carry-post_as l PostNext.Listed = refl
carry-post_as l PostNext.Owed = refl

pub carry-post_learn_of : (l : Local) (at : PostAt) (f : ℕ) → IsAway (post_learn_of l at f)
carry-post_learn_of l at f = carry-post_as l (post_learn at f)

pub carry-mail_as : (l : Local) (next : MailNext) → IsAway (mail_as l next)
carry-mail_as l (MailNext.Goes at) = refl
carry-mail_as l MailNext.Mailed = refl

pub carry-mail_learn_of : (l : Local) (at : MailAt) (f : ℕ) → IsAway (mail_learn_of l at f)
carry-mail_learn_of l at f = carry-mail_as l (mail_learn at f)

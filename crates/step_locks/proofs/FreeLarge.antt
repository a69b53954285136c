-- Where a call goes on with large objects, with looks and with ends of grants, its seat has no lock.
use Rattle.std.proofs.Common.{eqb, refl, ℕ}
use Rattle.std.specs.Prelude.{None, Option, Some, ltb, ◌%◌, ◌+◌, ◌^◌}
use Rattle.heap_slabs.specs.Records.{after_free, is_unused, unit_of}
use Rattle.heap_slabs.specs.Rolls.{newest_of}
use Rattle.heap_slabs.specs.Slabs.{after_replace, first_from, record_at}
use Rattle.heap_slabs.specs.declared.records.HeapSlab.{HeapSlab}
use Rattle.heap_slabs.specs.declared.slabs.Wanted.{Wanted}
use Rattle.large_cache.specs.declared.sweep.Cleanup.{Cleanup}
use Rattle.mailbox.specs.Mailing.{mail_learn}
use Rattle.mailbox.specs.declared.mailing.MailAt.{MailAt}
use Rattle.mailbox.specs.declared.mailing.MailNext.{MailNext}
use Rattle.pool_types.specs.declared.values.NullCause.{NullCause}
use Rattle.pool_types.specs.declared.values.Request.{Request}
use Rattle.public_list.specs.Ending.{end_learn}
use Rattle.public_list.specs.Looking.{look_learn}
use Rattle.public_list.specs.Posting.{post_learn}
use Rattle.public_list.specs.declared.ending.EndAt.{EndAt}
use Rattle.public_list.specs.declared.ending.EndNext.{EndNext}
use Rattle.public_list.specs.declared.looking.LookAt.{LookAt}
use Rattle.public_list.specs.declared.looking.LookNext.{LookNext}
use Rattle.public_list.specs.declared.posting.PostAt.{PostAt}
use Rattle.public_list.specs.declared.posting.PostNext.{PostNext}
use Rattle.step_local.specs.Answers.{end_call, ended_object, slab_of}
use Rattle.step_local.specs.Getting.{decided, get_or, getting, getting_as, getting_or_null, refusal_of, served_as}
use Rattle.step_local.specs.Getting.{stays}
use Rattle.step_local.specs.Large.{bins_swept, cached, cached_at, cleanup_ticks, emptying, emptying_by}
use Rattle.step_local.specs.Large.{got_block, kept_as, large_learn}
use Rattle.step_local.specs.Frames.{last_cache_bin}
use Rattle.step_local.specs.Large.{last_slot, locate_learn, located_as, located_index, next_bin}
use Rattle.step_local.specs.Large.{object_at, object_in, releasing, releasing_by, slot_looked}
use Rattle.step_local.specs.Large.{swept, tick_at, ticked}
use Rattle.step_local.specs.Large.{unused_next}
use Rattle.step_local.specs.Objects.{end_as, end_learn_of, freed_at, freed_in, freed_own, freed_slab, held, held_as}
use Rattle.step_local.specs.Objects.{look_call, look_learn_of, looked_as, mail_as, mail_learn_of, post_as}
use Rattle.step_local.specs.Objects.{post_learn_of}
use Rattle.step_local.specs.declared.frames.LargeAt.{LargeAt}
use Rattle.step_local.specs.declared.frames.Local.{Local}
use Rattle.step_local.specs.declared.frames.LocateAt.{LocateAt}
use Rattle.step_local.specs.declared.frames.Served.{Served}
use Rattle.step_local.specs.declared.frames.Stage.{Stage}
use Rattle.step_locks.proofs.FreeSmall.{IsFree, free-getting_small, free-got, free-lost_end, either}
use Rattle.word_codes.specs.RegionWords.{has_granule, region_of}

pub free-getting : (l : Local) (served : Served) → IsFree (getting l served)
free-getting l (Served.Small class) = free-getting_small (getting_as l (Served.Small class)) class
free-getting l (Served.Large granules alignment) = refl

pub free-get_or : (l : Local) (wanted : Option Served) (cause : Option NullCause) → IsFree (get_or l wanted cause)
free-get_or l wanted (Some cause) = refl
free-get_or l (Some served) None = free-getting l served
free-get_or l None None = refl

pub free-getting_or_null : (l : Local) (wanted : Option Served) → IsFree (getting_or_null l wanted)
free-getting_or_null l wanted = free-get_or l wanted (refusal_of l wanted)

pub free-decided : (l : Local) (size : ℕ) (alignment : Option ℕ) (base : ℕ) → IsFree (decided l size alignment base)
free-decided l size alignment base = either (eqb size 0) _ _ refl
    (either (stays l size alignment base) _ _ refl (free-getting_or_null l (served_as size alignment)))

pub free-got_block : (l : Local) → IsFree (got_block l)
free-got_block l = either l.call.missed _ _ refl refl

pub free-cached_at : (l : Local) (stage : Stage) → IsFree (cached_at l stage)
free-cached_at l Stage.Getting = free-got_block l
free-cached_at l Stage.Idle = refl
free-cached_at l Stage.Looking = refl
free-cached_at l Stage.Ending = refl
free-cached_at l Stage.Replacing = refl
free-cached_at l Stage.Undoing = refl
free-cached_at l Stage.Leaving = refl
free-cached_at l (Stage.Resetting stage) = refl

pub free-cached : (l : Local) → IsFree (cached l)
free-cached l = free-cached_at l l.call.stage

pub free-ticked : (l : Local) → IsFree (ticked l)
free-ticked l = either (eqb (l.call.time % cleanup_ticks) 0) _ _ refl (free-cached l)

pub free-swept : (l : Local) (cleanup : Cleanup) → IsFree (swept l cleanup)
free-swept l Cleanup.Regular = free-cached l
free-swept l Cleanup.Soft = refl
free-swept l Cleanup.Hard = refl

pub free-unused_next : (l : Local) (found : Option HeapSlab) → IsFree (unused_next l found)
free-unused_next l (Some kept) = refl
free-unused_next l None = free-swept l l.sweep.cleanup

pub free-emptying_by : (l : Local) (one : Option ℕ) → IsFree (emptying_by l one)
free-emptying_by l (Some slab) = refl
free-emptying_by l None = free-unused_next l (first_from Wanted.Unused l.heap.slabs 0)

pub free-emptying : (l : Local) → IsFree (emptying l)
free-emptying l = free-emptying_by l (newest_of l.heap.cached)

pub free-bins_swept : (l : Local) (cleanup : Cleanup) → IsFree (bins_swept l cleanup)
free-bins_swept l Cleanup.Regular = free-swept l Cleanup.Regular
free-bins_swept l Cleanup.Soft = free-swept l Cleanup.Soft
free-bins_swept l Cleanup.Hard = free-emptying l

pub free-next_bin : (l : Local) → IsFree (next_bin l)
free-next_bin l = either (ltb l.sweep.granules last_cache_bin) _ _ refl (free-bins_swept l l.sweep.cleanup)

pub free-releasing_by : (l : Local) (one : Option ℕ) → IsFree (releasing_by l one)
free-releasing_by l (Some block) = refl
free-releasing_by l None = free-next_bin l

pub free-releasing : (l : Local) → IsFree (releasing l)
free-releasing l = free-releasing_by l (newest_of l.released)

pub free-kept_as : (l : Local) (one : Option ℕ) → IsFree (kept_as l one)
free-kept_as l (Some block) = refl
free-kept_as l None = free-ticked l

pub free-tick_at : (l : Local) (stage : Stage) → IsFree (tick_at l stage)
free-tick_at l Stage.Getting = refl
free-tick_at l Stage.Idle = refl
free-tick_at l Stage.Looking = refl
free-tick_at l Stage.Ending = refl
free-tick_at l Stage.Replacing = refl
free-tick_at l Stage.Undoing = refl
free-tick_at l Stage.Leaving = refl
free-tick_at l (Stage.Resetting stage) = refl

pub free-large_learn : (l : Local) (at : LargeAt) (f : ℕ) → IsFree (large_learn l at f)
free-large_learn l LargeAt.Tick f = free-tick_at (record l { call = record l.call { time = (f + 1) % 2 ^ 64 } })
    l.call.stage
free-large_learn l (LargeAt.Kind unit) f = refl
free-large_learn l (LargeAt.Grant unit) f = free-got l unit

pub free-object_at : (l : Local) (slab : ℕ) (one : Option ℕ) (unit : ℕ) → IsFree (object_at l slab one unit)
free-object_at l slab (Some head) unit = refl
free-object_at l slab None unit = refl

pub free-object_in : (l : Local) (slab : ℕ) (found : Option HeapSlab) → IsFree (object_in l slab found)
free-object_in l slab (Some kept) = free-object_at l slab kept.head (unit_of slab kept.class kept.handed)
free-object_in l slab None = free-object_at l slab None 0

pub free-located_as : (l : Local) (region : ℕ) (base : ℕ) (served : Served) → IsFree (located_as l region base served)
free-located_as l region base (Served.Small class) = free-object_in l l.call.slab
    (record_at l.heap.slabs.records l.call.slab)
free-located_as l region base (Served.Large granules alignment) = refl

pub free-slot_looked : (l : Local) (slot : ℕ) (region : ℕ) → IsFree (slot_looked l slot region)
free-slot_looked l slot region = either (has_granule (region_of region) (located_index l l.call.served)) _ _ refl
    (either (ltb slot last_slot) _ _ refl refl)

pub free-locate_learn : (l : Local) (at : LocateAt) (f : ℕ) → IsFree (locate_learn l at f)
free-locate_learn l (LocateAt.Region slot) f = free-slot_looked l slot f
free-locate_learn l (LocateAt.Base slot region) f = free-located_as
    (record l { call = record l.call { region = region } }) region f l.call.served

pub free-held_as : (l : Local) (base : ℕ) (request : Request) → IsFree (held_as l base request)
free-held_as l base (Request.Msize place) = refl
free-held_as l base (Request.Identify place) = refl
free-held_as l base (Request.Realloc place size) = free-decided l size None base
free-held_as l base (Request.AlignedRealloc place size alignment) = free-decided l size (Some alignment) base
free-held_as l base (Request.Malloc size) = refl
free-held_as l base (Request.Aligned size alignment) = refl
free-held_as l base (Request.Free place) = refl
free-held_as l base Request.Exit = refl

pub free-held : (l : Local) (base : ℕ) → IsFree (held l base)
free-held l base = free-held_as l base l.call.request

pub free-looked_as : (l : Local) (next : LookNext) → IsFree (looked_as l next)
free-looked_as l (LookNext.Goes at) = refl
free-looked_as l (LookNext.Held unit mark kind base) = free-held
    (record l { call = record l.call { old = record l.call.old { unit = unit; mark = mark; kind = kind } } }) base
free-looked_as l LookNext.Differs = refl
free-looked_as l (LookNext.NotHeld found) = refl

pub free-look_learn_of : (l : Local) (at : LookAt) (f : ℕ) → IsFree (look_learn_of l at f)
free-look_learn_of l at f = free-looked_as l (look_learn (look_call l) at f)

pub free-freed_slab : (l : Local) (slab : ℕ) (kept : HeapSlab) → IsFree (freed_slab l slab kept)
free-freed_slab l slab kept = let l' : Local = record l
    { heap = record l.heap { slabs = after_replace l.heap.slabs kept } } in either (is_unused kept) _ _ refl refl

pub free-freed_in : (l : Local) (unit : ℕ) (slab : ℕ) (found : Option HeapSlab) → IsFree (freed_in l unit slab found)
free-freed_in l unit slab (Some kept) = free-freed_slab l slab (after_free kept unit)
free-freed_in l unit slab None = refl

pub free-freed_at : (l : Local) (unit : ℕ) (slab : ℕ) → IsFree (freed_at l unit slab)
free-freed_at l unit slab = free-freed_in l unit slab (record_at l.heap.slabs.records slab)

pub free-freed_own : (l : Local) → IsFree (freed_own l)
free-freed_own l = free-freed_at l (ended_object l).unit (slab_of (ended_object l).unit)

pub free-end_as : (l : Local) (next : EndNext) → IsFree (end_as l next)
free-end_as l (EndNext.Goes at) = refl
free-end_as l EndNext.Own = free-freed_own l
free-end_as l EndNext.Other = refl
free-end_as l EndNext.Large = refl
free-end_as l (EndNext.NotHeld found) = free-lost_end l found

pub free-end_learn_of : (l : Local) (at : EndAt) (f : ℕ) → IsFree (end_learn_of l at f)
free-end_learn_of l at f = free-end_as l (end_learn (end_call l) at f)

pub free-post_as : (l : Local) (next : PostNext) → IsFree (post_as l next)
free-post_as l (PostNext.Goes at) = refl
free-post_as l PostNext.Listed = refl
free-post_as l PostNext.Owed = refl

pub free-post_learn_of : (l : Local) (at : PostAt) (f : ℕ) → IsFree (post_learn_of l at f)
free-post_learn_of l at f = free-post_as l (post_learn at f)

pub free-mail_as : (l : Local) (next : MailNext) → IsFree (mail_as l next)
free-mail_as l (MailNext.Goes at) = refl
free-mail_as l MailNext.Mailed = refl

pub free-mail_learn_of : (l : Local) (at : MailAt) (f : ℕ) → IsFree (mail_learn_of l at f)
free-mail_learn_of l at f = free-mail_as l (mail_learn at f)

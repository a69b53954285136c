-- Where a call goes on with small objects, or leaves, a task of orphans may start.
use Rattle.std.proofs.Common.{◌≡◌, Bool, eqb, false, refl, subst, sym, true, ℕ}
use Rattle.std.specs.Prelude.{None, Option, Some, ◌+◌}
use Rattle.heap_slabs.specs.Cached.{surplus_of}
use Rattle.heap_slabs.specs.Heaps.{next_to_leave}
use Rattle.heap_slabs.specs.Rolls.{after_push, newest_of, oldest_of}
use Rattle.heap_slabs.specs.Slabs.{first_of_class}
use Rattle.heap_slabs.specs.declared.heap.Leaving.{Leaving}
use Rattle.heap_slabs.specs.declared.records.HeapSlab.{HeapSlab}
use Rattle.heap_slabs.specs.declared.slabs.Wanted.{Wanted}
use Rattle.pool_types.specs.Sums.{capped}
use Rattle.pool_types.specs.declared.values.Found.{Found}
use Rattle.step_local.specs.Answers.{got, got_after, lost_at, lost_end, object_got, replaces}
use Rattle.step_local.specs.Leaving.{leaving, leaving_as}
use Rattle.step_local.specs.Slabs.{cached_or_asked}
use Rattle.step_local.specs.Slabs.{class_of_served, emptied_at, fetched, fetched_at, found_slab, getting_small}
use Rattle.step_local.specs.Slabs.{left_or_waits, looking_on}
use Rattle.step_local.specs.Slabs.{slab_cached}
use Rattle.step_local.specs.Slabs.{surplus_left}
use Rattle.step_local.specs.Slabs.{surplus_next, newest_given}
use Rattle.step_local.specs.declared.frames.Local.{Local}
use Rattle.step_local.specs.declared.frames.Object.{Object}
use Rattle.step_local.specs.declared.frames.Stage.{Stage}
use Rattle.step_local.specs.declared.frames.Tried.{Tried}
use Rattle.orphan_tasks.proofs.Started.{IsStarted, IsMoved, either, moves, none_behind}
use Rattle.orphan_tasks.proofs.StartedResets.{starts-reset_on}
use Rattle.orphan_tasks.specs.Starts.{NoOrphans, NoneBehind}

pub starts-lost_at : (l : Local) (found : Found) (stage : Stage) → IsStarted l (lost_at l found stage)
starts-lost_at l found Stage.Replacing = (tt, refl)
starts-lost_at l found Stage.Undoing = (tt, refl)
starts-lost_at l found Stage.Ending = (tt, refl)
starts-lost_at l found Stage.Idle = (tt, refl)
starts-lost_at l found Stage.Looking = (tt, refl)
starts-lost_at l found Stage.Getting = (tt, refl)
starts-lost_at l found Stage.Leaving = (tt, refl)
starts-lost_at l found (Stage.Resetting stage) = (tt, refl)

pub starts-lost_end : (l : Local) (found : Found) → IsStarted l (lost_end l found)
starts-lost_end l found = starts-lost_at l found l.call.stage

pub starts-got_after : (l : Local) (object : Object) → IsStarted l (got_after l object)
starts-got_after l object = either l (replaces l.call.request) _ _ (tt, refl) (tt, refl)

pub starts-got : (l : Local) (unit : ℕ) → IsStarted l (got l unit)
starts-got l unit = starts-got_after (record l { last = capped (l.last + 1) }) (object_got l unit)

pub starts-leaving_as : (l : Local) (what : Leaving) → NoOrphans l.call.stage → IsStarted l (leaving_as l what)
starts-leaving_as l (Leaving.Cached slab) free = (free, refl)
starts-leaving_as l (Leaving.Unused kept) free = (free, refl)
starts-leaving_as l (Leaving.Held kept) free = ((refl, free), refl)
starts-leaving_as l Leaving.Nothing free = (tt, refl)

pub starts-leaving : (l : Local) → NoOrphans l.call.stage → IsStarted l (leaving l)
starts-leaving l free = starts-leaving_as l (next_to_leave l.heap) free

pub starts-cached_or_asked : (l : Local) (one : Option ℕ)
    → NoOrphans l.call.stage → IsStarted l (cached_or_asked l one)
starts-cached_or_asked l (Some slab) free = (free, refl)
starts-cached_or_asked l None free = (free, refl)

pub starts-looking_on : (l : Local) (class : ℕ) (tried : Tried)
    → NoOrphans l.call.stage → IsStarted l (looking_on l class tried)
starts-looking_on l class Tried.Nothing free = (free, refl)
starts-looking_on l class Tried.Mailbox free = ((refl, none_behind l.call.stage free), refl)
starts-looking_on l class Tried.Orphans free = starts-cached_or_asked l (newest_of l.heap.cached) free

pub starts-found_slab : (l : Local) (class : ℕ) (found : Option HeapSlab)
    → NoOrphans l.call.stage → IsStarted l (found_slab l class found)
starts-found_slab l class (Some kept) free = (free, refl)
starts-found_slab l class None free = starts-looking_on l class l.call.tried free

pub starts-getting_small : (l : Local) (class : ℕ) → NoOrphans l.call.stage → IsStarted l (getting_small l class)
starts-getting_small l class free =
    starts-found_slab l class (first_of_class Wanted.WithObject l.heap.slabs class) free

pub starts-left_or_waits : (l : Local) (b : Bool) → NoOrphans l.call.stage → IsStarted l (left_or_waits l b)
starts-left_or_waits l true free = starts-leaving l free
starts-left_or_waits l false free = (free, refl)

-- the stage is the local's
starts-fetched_at : (l : Local) (stage : Stage) → l.call.stage ≡ stage → NoneBehind stage
    → IsStarted l (fetched_at l stage)
starts-fetched_at l Stage.Getting here free =
    starts-getting_small l (class_of_served l.call.served) (subst NoOrphans (sym here) tt)
starts-fetched_at l Stage.Leaving here free =
    starts-left_or_waits l l.fetch.came (subst NoOrphans (sym here) tt)
starts-fetched_at l Stage.Idle here free = (tt, refl)
starts-fetched_at l Stage.Looking here free = (tt, refl)
starts-fetched_at l Stage.Ending here free = (tt, refl)
starts-fetched_at l Stage.Replacing here free = (tt, refl)
starts-fetched_at l Stage.Undoing here free = (tt, refl)
starts-fetched_at l (Stage.Resetting stage) here free = starts-reset_on l stage here free

pub starts-fetched : (l : Local) → NoneBehind l.call.stage → IsStarted l (fetched l)
starts-fetched l free = starts-fetched_at l l.call.stage refl free

pub starts-surplus_next : (l : Local) (one : Option ℕ) → NoOrphans l.call.stage → IsStarted l (surplus_next l one)
starts-surplus_next l (Some slab) free = (free, refl)
starts-surplus_next l None free = (tt, refl)

pub starts-surplus_left : (l : Local) → NoOrphans l.call.stage → IsStarted l (surplus_left l)
starts-surplus_left l free = either l (eqb l.call.surplus 0) _ _ (tt, refl)
    (starts-surplus_next l (oldest_of l.heap.cached) free)

pub starts-slab_cached : (l : Local) (slab : ℕ) → NoOrphans l.call.stage → IsMoved l (slab_cached l slab)
starts-slab_cached l slab free =
    let l' : Local = record l {
      heap = record l.heap { cached = after_push l.heap.cached slab };
      call = record l.call { surplus = surplus_of (after_push l.heap.cached slab) };
    } in
    moves l' l (surplus_left l') refl (starts-surplus_left l' free)

pub starts-emptied_at : (l : Local) (slab : ℕ) (stage : Stage) → NoOrphans stage
    → NoOrphans l.call.stage → IsStarted l (emptied_at l slab stage)
starts-emptied_at l slab Stage.Getting here free = (free, refl)
starts-emptied_at l slab Stage.Leaving here free = (free, refl)
starts-emptied_at l slab Stage.Idle here free = (free, refl)
starts-emptied_at l slab Stage.Looking here free = (free, refl)
starts-emptied_at l slab Stage.Ending here free = (free, refl)
starts-emptied_at l slab Stage.Replacing here free = (free, refl)
starts-emptied_at l slab Stage.Undoing here free = (free, refl)
starts-emptied_at l slab (Stage.Resetting stage) here free = (here, refl)

pub starts-newest_given : (l : Local) (slab : ℕ) (stage : Stage) → NoOrphans stage
    → NoOrphans l.call.stage → IsStarted l (newest_given l slab stage)
starts-newest_given l slab Stage.Getting here free = (free, refl)
starts-newest_given l slab Stage.Leaving here free = (free, refl)
starts-newest_given l slab Stage.Idle here free = (free, refl)
starts-newest_given l slab Stage.Looking here free = (free, refl)
starts-newest_given l slab Stage.Ending here free = (free, refl)
starts-newest_given l slab Stage.Replacing here free = (free, refl)
starts-newest_given l slab Stage.Undoing here free = (free, refl)
starts-newest_given l slab (Stage.Resetting stage) here free = (here, refl)

-- Where a call goes on with small objects, or leaves, a job may begin.
use Rattle.std.proofs.Common.{Bool, eqb, false, true, ℕ}
use Rattle.std.specs.Prelude.{None, Option, Some, ◌+◌}
use Rattle.heap_slabs.specs.Cached.{surplus_of}
use Rattle.heap_slabs.specs.Heaps.{next_to_leave}
use Rattle.heap_slabs.specs.Rolls.{after_push, newest_of, oldest_of}
use Rattle.heap_slabs.specs.Slabs.{after_remove, first_of_class}
use Rattle.heap_slabs.specs.declared.heap.Leaving.{Leaving}
use Rattle.heap_slabs.specs.declared.records.HeapSlab.{HeapSlab}
use Rattle.heap_slabs.specs.declared.slabs.Wanted.{Wanted}
use Rattle.orphans.specs.Adopting.{adopt_learn}
use Rattle.orphans.specs.Leaving.{leave_learn}
use Rattle.orphans.specs.declared.adopting.AdoptAt.{AdoptAt}
use Rattle.orphans.specs.declared.adopting.AdoptNext.{AdoptNext}
use Rattle.orphans.specs.declared.leaving.LeaveAt.{LeaveAt}
use Rattle.orphans.specs.declared.leaving.LeaveNext.{LeaveNext}
use Rattle.pool_types.specs.Sums.{capped}
use Rattle.pool_types.specs.declared.values.Found.{Found}
use Rattle.step_local.specs.Answers.{got, got_after, lost_at, lost_end, object_got, replaces}
use Rattle.step_local.specs.Leaving.{leave_learn_of, leaving, leaving_as, left_as}
use Rattle.step_local.specs.Slabs.{adopt_learn_of, adopted_as, adopting_on}
use Rattle.step_local.specs.Slabs.{cached_or_asked}
use Rattle.step_local.specs.Slabs.{class_of_served, emptied_at, fetched, fetched_at, found_slab, getting_small}
use Rattle.step_local.specs.Slabs.{left_or_waits, looking_on}
use Rattle.step_local.specs.Slabs.{slab_adopted, slab_cached, slab_emptied}
use Rattle.step_local.specs.Slabs.{spare_learn_of, spared_as, spared_on, spares_back, sparing, surplus_left}
use Rattle.step_local.specs.Slabs.{surplus_next, adopted_at, adopts_enough, newest_given}
use Rattle.step_local.specs.Leaving.{with_slabs}
use Rattle.step_local.specs.declared.frames.Local.{Local}
use Rattle.step_local.specs.declared.frames.Object.{Object}
use Rattle.step_local.specs.declared.frames.Stage.{Stage}
use Rattle.step_local.specs.declared.frames.Tried.{Tried}
pub use Rattle.cache_tasks.proofs.Started.{IsStarted, either, kept_oldest, same}
use Rattle.cache_tasks.proofs.StartedResets.{starts-orphan_adopted, starts-reset_on}

pub starts-lost_at : (l : Local) (found : Found) (stage : Stage) → IsStarted l (lost_at l found stage)
starts-lost_at l found Stage.Replacing = (tt, same l.released)
starts-lost_at l found Stage.Undoing = (tt, same l.released)
starts-lost_at l found Stage.Ending = (tt, same l.released)
starts-lost_at l found Stage.Idle = (tt, same l.released)
starts-lost_at l found Stage.Looking = (tt, same l.released)
starts-lost_at l found Stage.Getting = (tt, same l.released)
starts-lost_at l found Stage.Leaving = (tt, same l.released)
starts-lost_at l found (Stage.Resetting stage) = (tt, same l.released)

pub starts-lost_end : (l : Local) (found : Found) → IsStarted l (lost_end l found)
starts-lost_end l found = starts-lost_at l found l.call.stage

pub starts-got_after : (l : Local) (object : Object) → IsStarted l (got_after l object)
starts-got_after l object = either l (replaces l.call.request) _ _ (tt, same l.released) (tt, same l.released)

pub starts-got : (l : Local) (unit : ℕ) → IsStarted l (got l unit)
starts-got l unit = starts-got_after (record l { last = capped (l.last + 1) }) (object_got l unit)

pub starts-leaving_as : (l : Local) (what : Leaving) → IsStarted l (leaving_as l what)
starts-leaving_as l (Leaving.Cached slab) = (tt, same l.released)
starts-leaving_as l (Leaving.Unused kept) = (tt, same l.released)
starts-leaving_as l (Leaving.Held kept) = (tt, same l.released)
starts-leaving_as l Leaving.Nothing = (tt, same l.released)

pub starts-leaving : (l : Local) → IsStarted l (leaving l)
starts-leaving l = starts-leaving_as l (next_to_leave l.heap)

pub starts-left_as : (l : Local) (slab : ℕ) (next : LeaveNext) → IsStarted l (left_as l slab next)
starts-left_as l slab (LeaveNext.Goes at) = (tt, same l.released)
starts-left_as l slab LeaveNext.Filled = (tt, same l.released)
starts-left_as l slab LeaveNext.Left = starts-leaving
    (record l { heap = record l.heap { slabs = after_remove l.heap.slabs slab } })

pub starts-leave_learn_of : (l : Local) (slab : ℕ) (at : LeaveAt) (f : ℕ) → IsStarted l (leave_learn_of l slab at f)
starts-leave_learn_of l slab at f = starts-left_as l slab (leave_learn at f)

pub starts-cached_or_asked : (l : Local) (one : Option ℕ) → IsStarted l (cached_or_asked l one)
starts-cached_or_asked l (Some slab) = (tt, same l.released)
starts-cached_or_asked l None = (tt, same l.released)

pub starts-looking_on : (l : Local) (class : ℕ) (tried : Tried) → IsStarted l (looking_on l class tried)
starts-looking_on l class Tried.Nothing = (tt, same l.released)
starts-looking_on l class Tried.Mailbox = (tt, same l.released)
starts-looking_on l class Tried.Orphans = starts-cached_or_asked l (newest_of l.heap.cached)

pub starts-found_slab : (l : Local) (class : ℕ) (found : Option HeapSlab) → IsStarted l (found_slab l class found)
starts-found_slab l class (Some kept) = (tt, same l.released)
starts-found_slab l class None = starts-looking_on l class l.call.tried

pub starts-getting_small : (l : Local) (class : ℕ) → IsStarted l (getting_small l class)
starts-getting_small l class = starts-found_slab l class (first_of_class Wanted.WithObject l.heap.slabs class)

pub starts-left_or_waits : (l : Local) (b : Bool) → IsStarted l (left_or_waits l b)
starts-left_or_waits l true = starts-leaving l
starts-left_or_waits l false = (tt, same l.released)

pub starts-fetched_at : (l : Local) (stage : Stage) → IsStarted l (fetched_at l stage)
starts-fetched_at l Stage.Getting = starts-getting_small l (class_of_served l.call.served)
starts-fetched_at l Stage.Leaving = starts-left_or_waits l l.fetch.came
starts-fetched_at l Stage.Idle = (tt, same l.released)
starts-fetched_at l Stage.Looking = (tt, same l.released)
starts-fetched_at l Stage.Ending = (tt, same l.released)
starts-fetched_at l Stage.Replacing = (tt, same l.released)
starts-fetched_at l Stage.Undoing = (tt, same l.released)
starts-fetched_at l (Stage.Resetting stage) = starts-reset_on l stage

pub starts-fetched : (l : Local) → IsStarted l (fetched l)
starts-fetched l = starts-fetched_at l l.call.stage

pub starts-sparing : (l : Local) (one : Option ℕ) → IsStarted l (sparing l one)
starts-sparing l (Some slab) = (tt, same l.released)
starts-sparing l None = starts-fetched l

pub starts-spares_back : (l : Local) → IsStarted l (spares_back l)
starts-spares_back l = starts-sparing l (newest_of l.heap.spares)

pub starts-spared_on : (l : Local) (one : Option ℕ) → IsStarted l (spared_on l one)
starts-spared_on l (Some slab) = (tt, same l.released)
starts-spared_on l None = starts-spares_back l

pub starts-adopted_as : (l : Local) (next : AdoptNext) → IsStarted l (adopted_as l next)
starts-adopted_as l (AdoptNext.Goes at) = (tt, same l.released)
starts-adopted_as l AdoptNext.Empty = starts-fetched l
starts-adopted_as l (AdoptNext.Adopted slab header rest) = (tt, same l.released)
starts-adopted_as l (AdoptNext.Spared slab rest) = starts-spared_on
    (record l { heap = record l.heap { spares = after_push l.heap.spares slab } }) rest

pub starts-adopt_learn_of : (l : Local) (at : AdoptAt) (f : ℕ) → IsStarted l (adopt_learn_of l at f)
starts-adopt_learn_of l at f = starts-adopted_as l (adopt_learn at f)

pub starts-adopting_on : (l : Local) (enough : Bool) (one : Option ℕ) → IsStarted l (adopting_on l enough one)
starts-adopting_on l enough None = starts-fetched l
starts-adopting_on l enough (Some slab) = (tt, same l.released)

starts-adopted_at : (l : Local) (slab : ℕ) (rest : Option ℕ) (stage : Stage)
    → IsStarted l (adopted_at l slab rest stage)
starts-adopted_at l slab rest (Stage.Resetting stage) = starts-orphan_adopted l slab rest
starts-adopted_at l slab rest Stage.Idle = starts-adopting_on l (adopts_enough l slab) rest
starts-adopted_at l slab rest Stage.Looking = starts-adopting_on l (adopts_enough l slab) rest
starts-adopted_at l slab rest Stage.Getting = starts-adopting_on l (adopts_enough l slab) rest
starts-adopted_at l slab rest Stage.Ending = starts-adopting_on l (adopts_enough l slab) rest
starts-adopted_at l slab rest Stage.Replacing = starts-adopting_on l (adopts_enough l slab) rest
starts-adopted_at l slab rest Stage.Undoing = starts-adopting_on l (adopts_enough l slab) rest
starts-adopted_at l slab rest Stage.Leaving = starts-adopting_on l (adopts_enough l slab) rest

pub starts-slab_adopted : (l : Local) (slab : ℕ) (rest : Option ℕ) → IsStarted l (slab_adopted l slab rest)
starts-slab_adopted l slab rest = starts-adopted_at l slab rest l.call.stage

pub starts-spared_as : (l : Local) (next : LeaveNext) → IsStarted l (spared_as l next)
starts-spared_as l (LeaveNext.Goes at) = (tt, same l.released)
starts-spared_as l LeaveNext.Filled = starts-spares_back l
starts-spared_as l LeaveNext.Left = starts-spares_back l

pub starts-spare_learn_of : (l : Local) (at : LeaveAt) (f : ℕ) → IsStarted l (spare_learn_of l at f)
starts-spare_learn_of l at f = starts-spared_as l (leave_learn at f)

pub starts-surplus_next : (l : Local) (one : Option ℕ) → IsStarted l (surplus_next l one)
starts-surplus_next l (Some slab) = (tt, same l.released)
starts-surplus_next l None = (tt, same l.released)

pub starts-surplus_left : (l : Local) → IsStarted l (surplus_left l)
starts-surplus_left l = either l (eqb l.call.surplus 0) _ _ (tt, same l.released)
    (starts-surplus_next l (oldest_of l.heap.cached))

pub starts-slab_cached : (l : Local) (slab : ℕ) → IsStarted l (slab_cached l slab)
starts-slab_cached l slab = starts-surplus_left
    (record l {
      heap = record l.heap { cached = after_push l.heap.cached slab };
      call = record l.call
          { surplus = surplus_of (after_push l.heap.cached slab) };
    })

pub starts-emptied_at : (l : Local) (slab : ℕ) (stage : Stage) → IsStarted l (emptied_at l slab stage)
starts-emptied_at l slab Stage.Getting = (tt, same l.released)
starts-emptied_at l slab Stage.Leaving = (tt, same l.released)
starts-emptied_at l slab Stage.Idle = (tt, same l.released)
starts-emptied_at l slab Stage.Looking = (tt, same l.released)
starts-emptied_at l slab Stage.Ending = (tt, same l.released)
starts-emptied_at l slab Stage.Replacing = (tt, same l.released)
starts-emptied_at l slab Stage.Undoing = (tt, same l.released)
starts-emptied_at l slab (Stage.Resetting stage) = (tt, same l.released)

pub starts-slab_emptied : (l : Local) (slab : ℕ) → IsStarted l (slab_emptied l slab)
starts-slab_emptied l slab = starts-emptied_at (with_slabs l (after_remove l.heap.slabs slab)) slab l.call.stage

pub starts-newest_given : (l : Local) (slab : ℕ) (stage : Stage) → IsStarted l (newest_given l slab stage)
starts-newest_given l slab Stage.Getting = (tt, same l.released)
starts-newest_given l slab Stage.Leaving = (tt, same l.released)
starts-newest_given l slab Stage.Idle = (tt, same l.released)
starts-newest_given l slab Stage.Looking = (tt, same l.released)
starts-newest_given l slab Stage.Ending = (tt, same l.released)
starts-newest_given l slab Stage.Replacing = (tt, same l.released)
starts-newest_given l slab Stage.Undoing = (tt, same l.released)
starts-newest_given l slab (Stage.Resetting stage) = (tt, same l.released)

-- Where a call goes on with small objects, or leaves, nothing is under way.
use Rattle.std.proofs.Common.{Bool, eqb, false, true, ℕ}
use Rattle.std.specs.Prelude.{None, Option, Some, ◌+◌}
use Rattle.heap_slabs.specs.Cached.{surplus_of}
use Rattle.heap_slabs.specs.Heaps.{next_to_leave}
use Rattle.heap_slabs.specs.Rolls.{after_push, newest_of, oldest_of}
use Rattle.heap_slabs.specs.Slabs.{after_remove, first_of_class}
use Rattle.heap_slabs.specs.declared.heap.Leaving.{Leaving}
use Rattle.heap_slabs.specs.declared.records.HeapSlab.{HeapSlab}
use Rattle.heap_slabs.specs.declared.slabs.Wanted.{Wanted}
use Rattle.orphans.specs.Adopting.{adopt_learn}
use Rattle.orphans.specs.Leaving.{leave_learn}
use Rattle.orphans.specs.declared.adopting.AdoptAt.{AdoptAt}
use Rattle.orphans.specs.declared.adopting.AdoptNext.{AdoptNext}
use Rattle.orphans.specs.declared.leaving.LeaveAt.{LeaveAt}
use Rattle.orphans.specs.declared.leaving.LeaveNext.{LeaveNext}
use Rattle.pool_types.specs.Geometry.{slab_granules}
use Rattle.pool_types.specs.Sums.{capped}
use Rattle.pool_types.specs.declared.values.Found.{Found}
use Rattle.step_local.specs.Answers.{got, got_after, lost_at, lost_end, object_got, replaces}
use Rattle.step_local.specs.Leaving.{leave_learn_of, leaving, leaving_as, left_as}
use Rattle.step_local.specs.Slabs.{adopt_learn_of, adopted_as, adopting_on}
use Rattle.step_local.specs.Slabs.{cached_or_asked}
use Rattle.step_local.specs.Slabs.{class_of_served, emptied_at, fetched, fetched_at, found_slab, getting_small}
use Rattle.step_local.specs.Slabs.{left_or_waits, looking_on}
use Rattle.step_local.specs.Slabs.{slab_adopted, slab_cached, slab_emptied}
use Rattle.step_local.specs.Slabs.{spare_learn_of, spared_as, spared_on, spares_back, sparing, surplus_left}
use Rattle.step_local.specs.Slabs.{surplus_next, adopted_at, adopts_enough, newest_given}
use Rattle.step_local.specs.Leaving.{with_slabs}
use Rattle.step_local.specs.declared.frames.Local.{Local}
use Rattle.step_local.specs.declared.frames.Object.{Object}
use Rattle.step_local.specs.declared.frames.Stage.{Stage}
use Rattle.step_local.specs.declared.frames.Tried.{Tried}
use Rattle.backend_tasks.proofs.Bare.{bin_low}
pub use Rattle.backend_tasks.proofs.Bare.{IsBare, either}
use Rattle.backend_tasks.proofs.BareResets.{bare-orphan_adopted, bare-reset_on}

pub bare-lost_at : (l : Local) (found : Found) (stage : Stage) → IsBare (lost_at l found stage)
bare-lost_at l found Stage.Replacing = tt
bare-lost_at l found Stage.Undoing = tt
bare-lost_at l found Stage.Ending = tt
bare-lost_at l found Stage.Idle = tt
bare-lost_at l found Stage.Looking = tt
bare-lost_at l found Stage.Getting = tt
bare-lost_at l found Stage.Leaving = tt
bare-lost_at l found (Stage.Resetting stage) = tt

pub bare-lost_end : (l : Local) (found : Found) → IsBare (lost_end l found)
bare-lost_end l found = bare-lost_at l found l.call.stage

pub bare-got_after : (l : Local) (object : Object) → IsBare (got_after l object)
bare-got_after l object = either (replaces l.call.request) _ _ tt tt

pub bare-got : (l : Local) (unit : ℕ) → IsBare (got l unit)
bare-got l unit = bare-got_after (record l { last = capped (l.last + 1) }) (object_got l unit)

pub bare-leaving_as : (l : Local) (what : Leaving) → IsBare (leaving_as l what)
bare-leaving_as l (Leaving.Cached slab) = tt
bare-leaving_as l (Leaving.Unused kept) = tt
bare-leaving_as l (Leaving.Held kept) = tt
bare-leaving_as l Leaving.Nothing = tt

pub bare-leaving : (l : Local) → IsBare (leaving l)
bare-leaving l = bare-leaving_as l (next_to_leave l.heap)

pub bare-left_as : (l : Local) (slab : ℕ) (next : LeaveNext) → IsBare (left_as l slab next)
bare-left_as l slab (LeaveNext.Goes at) = tt
bare-left_as l slab LeaveNext.Filled = tt
bare-left_as l slab LeaveNext.Left = bare-leaving
    (record l { heap = record l.heap { slabs = after_remove l.heap.slabs slab } })

pub bare-leave_learn_of : (l : Local) (slab : ℕ) (at : LeaveAt) (f : ℕ) → IsBare (leave_learn_of l slab at f)
bare-leave_learn_of l slab at f = bare-left_as l slab (leave_learn at f)

pub bare-cached_or_asked : (l : Local) (one : Option ℕ) → IsBare (cached_or_asked l one)
bare-cached_or_asked l (Some slab) = tt
bare-cached_or_asked l None = bin_low slab_granules

pub bare-looking_on : (l : Local) (class : ℕ) (tried : Tried) → IsBare (looking_on l class tried)
bare-looking_on l class Tried.Nothing = tt
bare-looking_on l class Tried.Mailbox = tt
bare-looking_on l class Tried.Orphans = bare-cached_or_asked l (newest_of l.heap.cached)

pub bare-found_slab : (l : Local) (class : ℕ) (found : Option HeapSlab) → IsBare (found_slab l class found)
bare-found_slab l class (Some kept) = tt
bare-found_slab l class None = bare-looking_on l class l.call.tried

pub bare-getting_small : (l : Local) (class : ℕ) → IsBare (getting_small l class)
bare-getting_small l class = bare-found_slab l class (first_of_class Wanted.WithObject l.heap.slabs class)

pub bare-left_or_waits : (l : Local) (b : Bool) → IsBare (left_or_waits l b)
bare-left_or_waits l true = bare-leaving l
bare-left_or_waits l false = tt

pub bare-fetched_at : (l : Local) (stage : Stage) → IsBare (fetched_at l stage)
bare-fetched_at l Stage.Getting = bare-getting_small l (class_of_served l.call.served)
bare-fetched_at l Stage.Leaving = bare-left_or_waits l l.fetch.came
bare-fetched_at l Stage.Idle = tt
bare-fetched_at l Stage.Looking = tt
bare-fetched_at l Stage.Ending = tt
bare-fetched_at l Stage.Replacing = tt
bare-fetched_at l Stage.Undoing = tt
bare-fetched_at l (Stage.Resetting stage) = bare-reset_on l stage

pub bare-fetched : (l : Local) → IsBare (fetched l)
bare-fetched l = bare-fetched_at l l.call.stage

pub bare-sparing : (l : Local) (one : Option ℕ) → IsBare (sparing l one)
bare-sparing l (Some slab) = tt
bare-sparing l None = bare-fetched l

pub bare-spares_back : (l : Local) → IsBare (spares_back l)
bare-spares_back l = bare-sparing l (newest_of l.heap.spares)

pub bare-spared_on : (l : Local) (one : Option ℕ) → IsBare (spared_on l one)
bare-spared_on l (Some slab) = tt
bare-spared_on l None = bare-spares_back l

pub bare-adopted_as : (l : Local) (next : AdoptNext) → IsBare (adopted_as l next)
bare-adopted_as l (AdoptNext.Goes at) = tt
bare-adopted_as l AdoptNext.Empty = bare-fetched l
bare-adopted_as l (AdoptNext.Adopted slab header rest) = tt
bare-adopted_as l (AdoptNext.Spared slab rest) = bare-spared_on
    (record l { heap = record l.heap { spares = after_push l.heap.spares slab } }) rest

pub bare-adopt_learn_of : (l : Local) (at : AdoptAt) (f : ℕ) → IsBare (adopt_learn_of l at f)
bare-adopt_learn_of l at f = bare-adopted_as l (adopt_learn at f)

pub bare-adopting_on : (l : Local) (enough : Bool) (one : Option ℕ) → IsBare (adopting_on l enough one)
bare-adopting_on l enough None = bare-fetched l
bare-adopting_on l enough (Some slab) = tt

bare-adopted_at : (l : Local) (slab : ℕ) (rest : Option ℕ) (stage : Stage) → IsBare (adopted_at l slab rest stage)
bare-adopted_at l slab rest (Stage.Resetting stage) = bare-orphan_adopted l slab rest
bare-adopted_at l slab rest Stage.Idle = bare-adopting_on l (adopts_enough l slab) rest
bare-adopted_at l slab rest Stage.Looking = bare-adopting_on l (adopts_enough l slab) rest
bare-adopted_at l slab rest Stage.Getting = bare-adopting_on l (adopts_enough l slab) rest
bare-adopted_at l slab rest Stage.Ending = bare-adopting_on l (adopts_enough l slab) rest
bare-adopted_at l slab rest Stage.Replacing = bare-adopting_on l (adopts_enough l slab) rest
bare-adopted_at l slab rest Stage.Undoing = bare-adopting_on l (adopts_enough l slab) rest
bare-adopted_at l slab rest Stage.Leaving = bare-adopting_on l (adopts_enough l slab) rest

pub bare-slab_adopted : (l : Local) (slab : ℕ) (rest : Option ℕ) → IsBare (slab_adopted l slab rest)
bare-slab_adopted l slab rest = bare-adopted_at l slab rest l.call.stage

pub bare-spared_as : (l : Local) (next : LeaveNext) → IsBare (spared_as l next)
bare-spared_as l (LeaveNext.Goes at) = tt
bare-spared_as l LeaveNext.Filled = bare-spares_back l
bare-spared_as l LeaveNext.Left = bare-spares_back l

pub bare-spare_learn_of : (l : Local) (at : LeaveAt) (f : ℕ) → IsBare (spare_learn_of l at f)
bare-spare_learn_of l at f = bare-spared_as l (leave_learn at f)

pub bare-surplus_next : (l : Local) (one : Option ℕ) → IsBare (surplus_next l one)
bare-surplus_next l (Some slab) = tt
bare-surplus_next l None = tt

pub bare-surplus_left : (l : Local) → IsBare (surplus_left l)
bare-surplus_left l = either (eqb l.call.surplus 0) _ _ tt (bare-surplus_next l (oldest_of l.heap.cached))

pub bare-slab_cached : (l : Local) (slab : ℕ) → IsBare (slab_cached l slab)
bare-slab_cached l slab = bare-surplus_left
    (record l {
      heap = record l.heap { cached = after_push l.heap.cached slab };
      call = record l.call
          { surplus = surplus_of (after_push l.heap.cached slab) };
    })

pub bare-emptied_at : (l : Local) (slab : ℕ) (stage : Stage) → IsBare (emptied_at l slab stage)
bare-emptied_at l slab Stage.Getting = tt
bare-emptied_at l slab Stage.Leaving = tt
bare-emptied_at l slab Stage.Idle = tt
bare-emptied_at l slab Stage.Looking = tt
bare-emptied_at l slab Stage.Ending = tt
bare-emptied_at l slab Stage.Replacing = tt
bare-emptied_at l slab Stage.Undoing = tt
bare-emptied_at l slab (Stage.Resetting stage) = tt

pub bare-slab_emptied : (l : Local) (slab : ℕ) → IsBare (slab_emptied l slab)
bare-slab_emptied l slab = bare-emptied_at (with_slabs l (after_remove l.heap.slabs slab)) slab l.call.stage

pub bare-newest_given : (l : Local) (slab : ℕ) (stage : Stage) → IsBare (newest_given l slab stage)
bare-newest_given l slab Stage.Getting = tt
bare-newest_given l slab Stage.Leaving = tt
bare-newest_given l slab Stage.Idle = tt
bare-newest_given l slab Stage.Looking = tt
bare-newest_given l slab Stage.Ending = tt
bare-newest_given l slab Stage.Replacing = tt
bare-newest_given l slab Stage.Undoing = tt
bare-newest_given l slab (Stage.Resetting stage) = tt

-- A call that goes on with small objects, or leaves, changes no slab by that.
use Rattle.std.proofs.Common.{Bool, eqb, false, refl, true, ℕ}
use Rattle.std.specs.Prelude.{None, Option, Some}
use Rattle.heap_slabs.specs.Heaps.{next_to_leave}
use Rattle.heap_slabs.specs.Rolls.{newest_of, oldest_of}
use Rattle.heap_slabs.specs.Slabs.{first_of_class}
use Rattle.heap_slabs.specs.declared.heap.Leaving.{Leaving}
use Rattle.heap_slabs.specs.declared.records.HeapSlab.{HeapSlab}
use Rattle.heap_slabs.specs.declared.slabs.Wanted.{Wanted}
use Rattle.orphans.specs.Leaving.{leave_learn}
use Rattle.orphans.specs.declared.leaving.LeaveAt.{LeaveAt}
use Rattle.orphans.specs.declared.leaving.LeaveNext.{LeaveNext}
use Rattle.pool_types.specs.declared.values.Found.{Found}
use Rattle.step_local.specs.Answers.{got_after, lost_at, lost_end, replaces}
use Rattle.step_local.specs.Leaving.{leaving, leaving_as}
use Rattle.step_local.specs.Slabs.{adopting_on}
use Rattle.step_local.specs.Slabs.{cached_or_asked}
use Rattle.step_local.specs.Slabs.{class_of_served, emptied_at, fetched, fetched_at, found_slab, getting_small}
use Rattle.step_local.specs.Slabs.{left_or_waits, looking_on}
use Rattle.step_local.specs.Slabs.{slab_adopted}
use Rattle.step_local.specs.Slabs.{spare_learn_of, spared_as, spared_on, spares_back, sparing, surplus_left}
use Rattle.step_local.specs.Slabs.{surplus_next, adopted_at, adopts_enough, newest_given}
use Rattle.step_local.specs.declared.frames.Local.{Local}
use Rattle.step_local.specs.declared.frames.Object.{Object}
use Rattle.step_local.specs.declared.frames.Stage.{Stage}
use Rattle.step_local.specs.declared.frames.Tried.{Tried}
use Rattle.heap_tasks.proofs.Kept.{Keeps, either}
use Rattle.heap_tasks.proofs.KeptResets.{keeps-orphan_adopted, keeps-reset_on}

pub keeps-lost_at : (l : Local) (found : Found) (stage : Stage) → Keeps l (lost_at l found stage)
keeps-lost_at l found Stage.Idle = (refl, refl, refl)
keeps-lost_at l found _ = (refl, refl, refl)

pub keeps-lost_end : (l : Local) (found : Found) → Keeps l (lost_end l found)
keeps-lost_end l found = keeps-lost_at l found l.call.stage

pub keeps-got_after : (l : Local) (object : Object) → Keeps l (got_after l object)
keeps-got_after l object = either l (replaces l.call.request) _ _ (refl, refl, refl) (refl, refl, refl)

pub keeps-leaving_as : (l : Local) (what : Leaving) → Keeps l (leaving_as l what)
keeps-leaving_as l (Leaving.Cached slab) = (refl, refl, refl)
keeps-leaving_as l (Leaving.Unused kept) = (refl, refl, refl)
keeps-leaving_as l (Leaving.Held kept) = (refl, refl, refl)
keeps-leaving_as l Leaving.Nothing = (refl, refl, refl)

pub keeps-leaving : (l : Local) → Keeps l (leaving l)
keeps-leaving l = keeps-leaving_as l (next_to_leave l.heap)

pub keeps-cached_or_asked : (l : Local) (one : Option ℕ) → Keeps l (cached_or_asked l one)
keeps-cached_or_asked l (Some slab) = (refl, refl, refl)
keeps-cached_or_asked l None = (refl, refl, refl)

pub keeps-looking_on : (l : Local) (class : ℕ) (tried : Tried) → Keeps l (looking_on l class tried)
keeps-looking_on l class Tried.Nothing = (refl, refl, refl)
keeps-looking_on l class Tried.Mailbox = (refl, refl, refl)
keeps-looking_on l class Tried.Orphans = keeps-cached_or_asked l (newest_of l.heap.cached)

pub keeps-found_slab : (l : Local) (class : ℕ) (found : Option HeapSlab) → Keeps l (found_slab l class found)
keeps-found_slab l class (Some kept) = (refl, refl, refl)
keeps-found_slab l class None = keeps-looking_on l class l.call.tried

pub keeps-getting_small : (l : Local) (class : ℕ) → Keeps l (getting_small l class)
keeps-getting_small l class = keeps-found_slab l class (first_of_class Wanted.WithObject l.heap.slabs class)

pub keeps-left_or_waits : (l : Local) (b : Bool) → Keeps l (left_or_waits l b)
keeps-left_or_waits l true = keeps-leaving l
keeps-left_or_waits l false = (refl, refl, refl)

pub keeps-fetched_at : (l : Local) (stage : Stage) → Keeps l (fetched_at l stage)
keeps-fetched_at l Stage.Getting = keeps-getting_small l (class_of_served l.call.served)
keeps-fetched_at l Stage.Leaving = keeps-left_or_waits l l.fetch.came
keeps-fetched_at l (Stage.Resetting stage) = keeps-reset_on l stage
keeps-fetched_at l _ = (refl, refl, refl)

pub keeps-fetched : (l : Local) → Keeps l (fetched l)
keeps-fetched l = keeps-fetched_at l l.call.stage

pub keeps-sparing : (l : Local) (one : Option ℕ) → Keeps l (sparing l one)
keeps-sparing l (Some slab) = (refl, refl, refl)
keeps-sparing l None = keeps-fetched l

pub keeps-spares_back : (l : Local) → Keeps l (spares_back l)
keeps-spares_back l = keeps-sparing l (newest_of l.heap.spares)

pub keeps-spared_on : (l : Local) (one : Option ℕ) → Keeps l (spared_on l one)
keeps-spared_on l (Some slab) = (refl, refl, refl)
keeps-spared_on l None = keeps-spares_back l

pub keeps-adopting_on : (l : Local) (enough : Bool) (one : Option ℕ) → Keeps l (adopting_on l enough one)
keeps-adopting_on l enough None = keeps-fetched l
keeps-adopting_on l enough (Some slab) = (refl, refl, refl)

keeps-adopted_at : (l : Local) (slab : ℕ) (rest : Option ℕ) (stage : Stage) → Keeps l (adopted_at l slab rest stage)
keeps-adopted_at l slab rest (Stage.Resetting stage) = keeps-orphan_adopted l slab rest
keeps-adopted_at l slab rest _ = keeps-adopting_on l (adopts_enough l slab) rest

pub keeps-slab_adopted : (l : Local) (slab : ℕ) (rest : Option ℕ) → Keeps l (slab_adopted l slab rest)
keeps-slab_adopted l slab rest = keeps-adopted_at l slab rest l.call.stage

pub keeps-spared_as : (l : Local) (next : LeaveNext) → Keeps l (spared_as l next)
keeps-spared_as l (LeaveNext.Goes at) = (refl, refl, refl)
keeps-spared_as l LeaveNext.Filled = keeps-spares_back l
keeps-spared_as l LeaveNext.Left = keeps-spares_back l

pub keeps-spare_learn_of : (l : Local) (at : LeaveAt) (f : ℕ) → Keeps l (spare_learn_of l at f)
keeps-spare_learn_of l at f = keeps-spared_as l (leave_learn at f)

pub keeps-surplus_next : (l : Local) (one : Option ℕ) → Keeps l (surplus_next l one)
keeps-surplus_next l (Some slab) = (refl, refl, refl)
keeps-surplus_next l None = (refl, refl, refl)

pub keeps-surplus_left : (l : Local) → Keeps l (surplus_left l)
keeps-surplus_left l =
    either l (eqb l.call.surplus 0) _ _ (refl, refl, refl) (keeps-surplus_next l (oldest_of l.heap.cached))

pub keeps-emptied_at : (l : Local) (slab : ℕ) (stage : Stage) → Keeps l (emptied_at l slab stage)
keeps-emptied_at l slab Stage.Idle = (refl, refl, refl)
keeps-emptied_at l slab _ = (refl, refl, refl)

pub keeps-newest_given : (l : Local) (slab : ℕ) (stage : Stage) → Keeps l (newest_given l slab stage)
keeps-newest_given l slab Stage.Idle = (refl, refl, refl)
keeps-newest_given l slab _ = (refl, refl, refl)

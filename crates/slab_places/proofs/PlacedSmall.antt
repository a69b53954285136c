-- Where a call goes on with small objects, or leaves.
use Rattle.std.proofs.Common.{Bool, eqb, false, true, ℕ}
use Rattle.std.specs.Prelude.{None, Option, Some, ◌+◌}
use Rattle.heap_slabs.specs.Cached.{surplus_of}
use Rattle.heap_slabs.specs.Heaps.{next_to_leave}
use Rattle.heap_slabs.specs.Rolls.{after_push, newest_of, oldest_of}
use Rattle.heap_slabs.specs.Slabs.{after_remove, first_of_class}
use Rattle.heap_slabs.specs.declared.heap.Leaving.{Leaving}
use Rattle.heap_slabs.specs.declared.records.HeapSlab.{HeapSlab}
use Rattle.heap_slabs.specs.declared.slabs.Wanted.{Wanted}
use Rattle.orphans.specs.Leaving.{leave_learn}
use Rattle.orphans.specs.declared.adopting.AdoptNext.{AdoptNext}
use Rattle.orphans.specs.declared.leaving.LeaveAt.{LeaveAt}
use Rattle.orphans.specs.declared.leaving.LeaveNext.{LeaveNext}
use Rattle.pool_types.specs.Sums.{capped}
use Rattle.pool_types.specs.declared.values.Found.{Found}
use Rattle.step_local.specs.Answers.{got, got_after, lost_at, lost_end, object_got, replaces}
use Rattle.step_local.specs.Leaving.{leave_learn_of, leaving, leaving_as, left_as}
use Rattle.step_local.specs.Slabs.{adopted_as, adopting_on}
use Rattle.step_local.specs.Slabs.{cached_or_asked}
use Rattle.step_local.specs.Slabs.{class_of_served, emptied_at, fetched, fetched_at, found_slab, getting_small}
use Rattle.step_local.specs.Slabs.{left_or_waits, looking_on}
use Rattle.step_local.specs.Slabs.{slab_adopted, slab_cached, slab_emptied}
use Rattle.step_local.specs.Slabs.{spared_as, spared_on, spares_back, sparing, surplus_left}
use Rattle.step_local.specs.Slabs.{surplus_next, adopted_at, adopts_enough, newest_given}
use Rattle.step_local.specs.Leaving.{with_slabs}
use Rattle.step_local.specs.declared.frames.Local.{Local}
use Rattle.step_local.specs.declared.frames.Object.{Object}
use Rattle.step_local.specs.declared.frames.Stage.{Stage}
use Rattle.step_local.specs.declared.frames.Tried.{Tried}
pub use Rattle.slab_places.proofs.Placed.{IsPlaced, either}
use Rattle.slab_moves.specs.Says.{IsEven}
use Rattle.seat_ties.specs.Turns.{NoReset}

pub placed-lost_at : (l : Local) (found : Found) (stage : Stage) → IsPlaced (lost_at l found stage)
placed-lost_at l found Stage.Replacing = λ low. tt
placed-lost_at l found Stage.Undoing = λ low. tt
placed-lost_at l found Stage.Ending = λ low. tt
placed-lost_at l found Stage.Idle = λ low. tt
placed-lost_at l found Stage.Looking = λ low. tt
placed-lost_at l found Stage.Getting = λ low. tt
placed-lost_at l found Stage.Leaving = λ low. tt
placed-lost_at l found (Stage.Resetting stage) = λ low. tt

pub placed-lost_end : (l : Local) (found : Found) → IsPlaced (lost_end l found)
placed-lost_end l found = placed-lost_at l found l.call.stage

pub placed-got_after : (l : Local) (object : Object) → IsPlaced (got_after l object)
placed-got_after l object = either (replaces l.call.request) _ _ (λ low. tt) (λ low. tt)

pub placed-got : (l : Local) (unit : ℕ) → IsPlaced (got l unit)
placed-got l unit = placed-got_after (record l { last = capped (l.last + 1) }) (object_got l unit)

pub placed-leaving_as : (l : Local) (what : Leaving) → IsPlaced (leaving_as l what)
placed-leaving_as l (Leaving.Cached slab) = λ low. tt
placed-leaving_as l (Leaving.Unused kept) = λ low. tt
placed-leaving_as l (Leaving.Held kept) = λ low. tt
placed-leaving_as l Leaving.Nothing = λ low. tt

pub placed-leaving : (l : Local) → IsPlaced (leaving l)
placed-leaving l = placed-leaving_as l (next_to_leave l.heap)

pub placed-left_as : (l : Local) (slab : ℕ) (next : LeaveNext) → IsPlaced (left_as l slab next)
placed-left_as l slab (LeaveNext.Goes at) = λ low. tt
placed-left_as l slab LeaveNext.Filled = λ low. tt
placed-left_as l slab LeaveNext.Left = placed-leaving
    (record l { heap = record l.heap { slabs = after_remove l.heap.slabs slab } })

pub placed-leave_learn_of : (l : Local) (slab : ℕ) (at : LeaveAt) (f : ℕ) → IsPlaced (leave_learn_of l slab at f)
placed-leave_learn_of l slab at f = placed-left_as l slab (leave_learn at f)

pub placed-cached_or_asked : (l : Local) (one : Option ℕ) → IsPlaced (cached_or_asked l one)
placed-cached_or_asked l (Some slab) = λ low. tt
placed-cached_or_asked l None = λ low. tt

pub placed-looking_on : (l : Local) (class : ℕ) (tried : Tried) → IsPlaced (looking_on l class tried)
placed-looking_on l class Tried.Nothing = λ low. tt
placed-looking_on l class Tried.Mailbox = λ low. tt
placed-looking_on l class Tried.Orphans = placed-cached_or_asked l (newest_of l.heap.cached)

pub placed-found_slab : (l : Local) (class : ℕ) (found : Option HeapSlab) → IsPlaced (found_slab l class found)
placed-found_slab l class (Some kept) = λ low. tt
placed-found_slab l class None = placed-looking_on l class l.call.tried

pub placed-getting_small : (l : Local) (class : ℕ) → IsPlaced (getting_small l class)
placed-getting_small l class = placed-found_slab l class (first_of_class Wanted.WithObject l.heap.slabs class)

pub placed-left_or_waits : (l : Local) (b : Bool) → IsPlaced (left_or_waits l b)
placed-left_or_waits l true = placed-leaving l
placed-left_or_waits l false = λ low. tt

pub placed-fetched_at : (l : Local) (stage : Stage) → NoReset stage → IsPlaced (fetched_at l stage)
placed-fetched_at l Stage.Getting quiet = placed-getting_small l (class_of_served l.call.served)
placed-fetched_at l Stage.Leaving quiet = placed-left_or_waits l l.fetch.came
placed-fetched_at l Stage.Idle quiet = λ low. tt
placed-fetched_at l Stage.Looking quiet = λ low. tt
placed-fetched_at l Stage.Ending quiet = λ low. tt
placed-fetched_at l Stage.Replacing quiet = λ low. tt
placed-fetched_at l Stage.Undoing quiet = λ low. tt
placed-fetched_at l (Stage.Resetting stage) quiet = absurd quiet

pub placed-fetched : (l : Local) → NoReset l.call.stage → IsPlaced (fetched l)
placed-fetched l quiet = placed-fetched_at l l.call.stage quiet

placed-sparing : (l : Local) (one : Option ℕ) → NoReset l.call.stage → IsPlaced (sparing l one)
placed-sparing l (Some slab) quiet = λ low. tt
placed-sparing l None quiet = placed-fetched l quiet

placed-spares_back : (l : Local) → NoReset l.call.stage → IsPlaced (spares_back l)
placed-spares_back l quiet = placed-sparing l (newest_of l.heap.spares) quiet

placed-spared_on : (l : Local) (one : Option ℕ) → NoReset l.call.stage → IsPlaced (spared_on l one)
placed-spared_on l (Some slab) quiet = λ low. tt
placed-spared_on l None quiet = placed-spares_back l quiet

pub placed-adopted_as : (l : Local) (next : AdoptNext) → NoReset l.call.stage → IsPlaced (adopted_as l next)
placed-adopted_as l (AdoptNext.Goes at) quiet = λ low. tt
placed-adopted_as l AdoptNext.Empty quiet = placed-fetched l quiet
placed-adopted_as l (AdoptNext.Adopted slab header rest) quiet = λ low. tt
placed-adopted_as l (AdoptNext.Spared slab rest) quiet = placed-spared_on
    (record l { heap = record l.heap { spares = after_push l.heap.spares slab } }) rest quiet

placed-adopting_on : (l : Local) (enough : Bool) (one : Option ℕ) → NoReset l.call.stage
    → IsPlaced (adopting_on l enough one)
placed-adopting_on l enough None quiet = placed-fetched l quiet
placed-adopting_on l enough (Some slab) quiet = λ low. tt

placed-adopted_at : (l : Local) (slab : ℕ) (rest : Option ℕ) (stage : Stage) → NoReset l.call.stage → NoReset stage
    → IsPlaced (adopted_at l slab rest stage)
placed-adopted_at l slab rest (Stage.Resetting stage) quiet none = absurd none
placed-adopted_at l slab rest Stage.Idle quiet none = placed-adopting_on l (adopts_enough l slab) rest quiet
placed-adopted_at l slab rest Stage.Looking quiet none = placed-adopting_on l (adopts_enough l slab) rest quiet
placed-adopted_at l slab rest Stage.Getting quiet none = placed-adopting_on l (adopts_enough l slab) rest quiet
placed-adopted_at l slab rest Stage.Ending quiet none = placed-adopting_on l (adopts_enough l slab) rest quiet
placed-adopted_at l slab rest Stage.Replacing quiet none = placed-adopting_on l (adopts_enough l slab) rest quiet
placed-adopted_at l slab rest Stage.Undoing quiet none = placed-adopting_on l (adopts_enough l slab) rest quiet
placed-adopted_at l slab rest Stage.Leaving quiet none = placed-adopting_on l (adopts_enough l slab) rest quiet

pub placed-slab_adopted : (l : Local) (slab : ℕ) (rest : Option ℕ) → NoReset l.call.stage
    → IsPlaced (slab_adopted l slab rest)
placed-slab_adopted l slab rest quiet = placed-adopted_at l slab rest l.call.stage quiet quiet

pub placed-spared_as : (l : Local) (next : LeaveNext) → NoReset l.call.stage → IsPlaced (spared_as l next)
placed-spared_as l (LeaveNext.Goes at) quiet = λ low. tt
placed-spared_as l LeaveNext.Filled quiet = placed-spares_back l quiet
placed-spared_as l LeaveNext.Left quiet = placed-spares_back l quiet

pub placed-surplus_next : (l : Local) (one : Option ℕ) → IsPlaced (surplus_next l one)
placed-surplus_next l (Some slab) = λ low. tt
placed-surplus_next l None = λ low. tt

pub placed-surplus_left : (l : Local) → IsPlaced (surplus_left l)
placed-surplus_left l = either (eqb l.call.surplus 0) _ _ (λ low. tt) (placed-surplus_next l (oldest_of l.heap.cached))

pub placed-slab_cached : (l : Local) (slab : ℕ) → IsPlaced (slab_cached l slab)
placed-slab_cached l slab = placed-surplus_left
    (record l {
      heap = record l.heap { cached = after_push l.heap.cached slab };
      call = record l.call
          { surplus = surplus_of (after_push l.heap.cached slab) };
    })

-- an empty slab is cached
placed-emptied_at : (l : Local) (slab : ℕ) (stage : Stage) → IsEven slab → IsPlaced (emptied_at l slab stage)
placed-emptied_at l slab Stage.Getting even = λ low. tt
placed-emptied_at l slab Stage.Leaving even = λ low. tt
placed-emptied_at l slab Stage.Idle even = λ low. even
placed-emptied_at l slab Stage.Looking even = λ low. even
placed-emptied_at l slab Stage.Ending even = λ low. even
placed-emptied_at l slab Stage.Replacing even = λ low. even
placed-emptied_at l slab Stage.Undoing even = λ low. even
placed-emptied_at l slab (Stage.Resetting stage) even = λ low. tt

pub placed-slab_emptied : (l : Local) (slab : ℕ) → IsEven slab → IsPlaced (slab_emptied l slab)
placed-slab_emptied l slab even =
    placed-emptied_at (with_slabs l (after_remove l.heap.slabs slab)) slab l.call.stage even

pub placed-newest_given : (l : Local) (slab : ℕ) (stage : Stage) → IsPlaced (newest_given l slab stage)
placed-newest_given l slab Stage.Getting = λ low. tt
placed-newest_given l slab Stage.Leaving = λ low. tt
placed-newest_given l slab Stage.Idle = λ low. tt
placed-newest_given l slab Stage.Looking = λ low. tt
placed-newest_given l slab Stage.Ending = λ low. tt
placed-newest_given l slab Stage.Replacing = λ low. tt
placed-newest_given l slab Stage.Undoing = λ low. tt
placed-newest_given l slab (Stage.Resetting stage) = λ low. tt

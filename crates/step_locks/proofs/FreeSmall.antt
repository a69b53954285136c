-- Where a call goes on with small objects, or leaves, its seat has no lock.
use Rattle.std.proofs.Common.{Bool, eqb, false, refl, true, ℕ}
use Rattle.std.specs.Prelude.{None, Option, Some, ◌+◌, ◌||◌}
use Rattle.heap_slabs.specs.Cached.{surplus_of}
use Rattle.heap_slabs.specs.Heaps.{next_to_leave}
use Rattle.heap_slabs.specs.Rolls.{without_newest, after_push, newest_of, oldest_of}
use Rattle.heap_slabs.specs.Slabs.{after_remove, first_of_class}
use Rattle.heap_slabs.specs.declared.heap.Leaving.{Leaving}
use Rattle.heap_slabs.specs.declared.records.HeapSlab.{HeapSlab}
use Rattle.heap_slabs.specs.declared.slabs.Wanted.{Wanted}
use Rattle.mailbox.specs.Boxes.{box_learn}
use Rattle.mailbox.specs.declared.boxes.BoxAt.{BoxAt}
use Rattle.mailbox.specs.declared.boxes.BoxNext.{BoxNext}
use Rattle.orphans.specs.Adopting.{adopt_learn}
use Rattle.orphans.specs.Leaving.{leave_learn}
use Rattle.orphans.specs.declared.adopting.AdoptAt.{AdoptAt}
use Rattle.orphans.specs.declared.adopting.AdoptNext.{AdoptNext}
use Rattle.orphans.specs.declared.leaving.LeaveAt.{LeaveAt}
use Rattle.orphans.specs.declared.leaving.LeaveNext.{LeaveNext}
use Rattle.pool_types.specs.Sums.{capped}
use Rattle.pool_types.specs.declared.values.Found.{Found}
use Rattle.public_list.specs.Joining.{join_learn}
use Rattle.public_list.specs.declared.joining.JoinAt.{JoinAt}
use Rattle.public_list.specs.declared.joining.JoinNext.{JoinNext}
use Rattle.step_local.specs.Answers.{got, got_after, lost_at, lost_end, object_got, replaces}
use Rattle.step_local.specs.Leaving.{leave_learn_of, leaving, leaving_as, left_as}
use Rattle.step_local.specs.Slabs.{adopt_learn_of, adopted_as, adopting_on, box_learn_of, boxed_as, cached_or_asked}
use Rattle.step_local.specs.Slabs.{class_of_served, emptied_at, fetched, fetched_at, found_slab, getting_small}
use Rattle.step_local.specs.Slabs.{join_learn_of, joined_as, left_or_waits, looking_on, mailed_on}
use Rattle.step_local.specs.Slabs.{slab_adopted, slab_begun, slab_cached, slab_came, slab_emptied, small_learn}
use Rattle.step_local.specs.Slabs.{spare_learn_of, spared_as, spared_on, spares_back, sparing, surplus_left}
use Rattle.step_local.specs.Slabs.{surplus_next, with_joined, with_taken, adopted_at, adopts_enough, newest_given}
use Rattle.step_local.specs.Leaving.{with_slabs}
use Rattle.step_local.specs.declared.frames.Local.{Local}
use Rattle.step_local.specs.declared.frames.Object.{Object}
use Rattle.step_local.specs.declared.frames.SmallAt.{SmallAt}
use Rattle.step_local.specs.declared.frames.Stage.{Stage}
use Rattle.step_local.specs.declared.frames.Tried.{Tried}
pub use Rattle.step_locks.proofs.Free.{IsFree, either}
use Rattle.step_locks.proofs.FreeResets.{free-orphan_adopted, free-reset_on}

pub free-lost_at : (l : Local) (found : Found) (stage : Stage) → IsFree (lost_at l found stage)
free-lost_at l found Stage.Replacing = refl
free-lost_at l found Stage.Undoing = refl
free-lost_at l found Stage.Ending = refl
free-lost_at l found Stage.Idle = refl
free-lost_at l found Stage.Looking = refl
free-lost_at l found Stage.Getting = refl
free-lost_at l found Stage.Leaving = refl
free-lost_at l found (Stage.Resetting stage) = refl

pub free-lost_end : (l : Local) (found : Found) → IsFree (lost_end l found)
free-lost_end l found = free-lost_at l found l.call.stage

pub free-got_after : (l : Local) (object : Object) → IsFree (got_after l object)
free-got_after l object = either (replaces l.call.request) _ _ refl refl

pub free-got : (l : Local) (unit : ℕ) → IsFree (got l unit)
free-got l unit = free-got_after (record l { last = capped (l.last + 1) }) (object_got l unit)

pub free-leaving_as : (l : Local) (what : Leaving) → IsFree (leaving_as l what)
free-leaving_as l (Leaving.Cached slab) = refl
free-leaving_as l (Leaving.Unused kept) = refl
free-leaving_as l (Leaving.Held kept) = refl
free-leaving_as l Leaving.Nothing = refl

pub free-leaving : (l : Local) → IsFree (leaving l)
free-leaving l = free-leaving_as l (next_to_leave l.heap)

pub free-left_as : (l : Local) (slab : ℕ) (next : LeaveNext) → IsFree (left_as l slab next)
free-left_as l slab (LeaveNext.Goes at) = refl
free-left_as l slab LeaveNext.Filled = refl
free-left_as l slab LeaveNext.Left = free-leaving
    (record l { heap = record l.heap { slabs = after_remove l.heap.slabs slab } })

pub free-leave_learn_of : (l : Local) (slab : ℕ) (at : LeaveAt) (f : ℕ) → IsFree (leave_learn_of l slab at f)
free-leave_learn_of l slab at f = free-left_as l slab (leave_learn at f)

pub free-cached_or_asked : (l : Local) (one : Option ℕ) → IsFree (cached_or_asked l one)
free-cached_or_asked l (Some slab) = refl
free-cached_or_asked l None = refl

pub free-looking_on : (l : Local) (class : ℕ) (tried : Tried) → IsFree (looking_on l class tried)
free-looking_on l class Tried.Nothing = refl
free-looking_on l class Tried.Mailbox = refl
free-looking_on l class Tried.Orphans = free-cached_or_asked l (newest_of l.heap.cached)

pub free-found_slab : (l : Local) (class : ℕ) (found : Option HeapSlab) → IsFree (found_slab l class found)
free-found_slab l class (Some kept) = refl
free-found_slab l class None = free-looking_on l class l.call.tried

pub free-getting_small : (l : Local) (class : ℕ) → IsFree (getting_small l class)
free-getting_small l class = free-found_slab l class (first_of_class Wanted.WithObject l.heap.slabs class)

pub free-left_or_waits : (l : Local) (b : Bool) → IsFree (left_or_waits l b)
free-left_or_waits l true = free-leaving l
free-left_or_waits l false = refl

pub free-fetched_at : (l : Local) (stage : Stage) → IsFree (fetched_at l stage)
free-fetched_at l Stage.Getting = free-getting_small l (class_of_served l.call.served)
free-fetched_at l Stage.Leaving = free-left_or_waits l l.fetch.came
free-fetched_at l Stage.Idle = refl
free-fetched_at l Stage.Looking = refl
free-fetched_at l Stage.Ending = refl
free-fetched_at l Stage.Replacing = refl
free-fetched_at l Stage.Undoing = refl
free-fetched_at l (Stage.Resetting stage) = free-reset_on l stage

pub free-fetched : (l : Local) → IsFree (fetched l)
free-fetched l = free-fetched_at l l.call.stage

pub free-mailed_on : (l : Local) (one : Option ℕ) → IsFree (mailed_on l one)
free-mailed_on l (Some slab) = refl
free-mailed_on l None = free-fetched l

pub free-slab_came : (l : Local) (slab : ℕ) (rest : Option ℕ) → IsFree (slab_came l slab rest)
free-slab_came l slab rest = free-mailed_on
    (record l { fetch = record l.fetch { came = l.fetch.came || eqb slab l.fetch.awaited } }) rest

pub free-boxed_as : (l : Local) (next : BoxNext) → IsFree (boxed_as l next)
free-boxed_as l (BoxNext.Goes at) = refl
free-boxed_as l BoxNext.Empty = free-fetched l
free-boxed_as l (BoxNext.Unchanged slab rest) = free-slab_came l slab rest
free-boxed_as l (BoxNext.Joined slab first count rest) = free-slab_came (with_joined l slab first count) slab rest

pub free-box_learn_of : (l : Local) (at : BoxAt) (f : ℕ) → IsFree (box_learn_of l at f)
free-box_learn_of l at f = free-boxed_as l (box_learn at f)

pub free-sparing : (l : Local) (one : Option ℕ) → IsFree (sparing l one)
free-sparing l (Some slab) = refl
free-sparing l None = free-fetched l

pub free-spares_back : (l : Local) → IsFree (spares_back l)
free-spares_back l = free-sparing l (newest_of l.heap.spares)

pub free-spared_on : (l : Local) (one : Option ℕ) → IsFree (spared_on l one)
free-spared_on l (Some slab) = refl
free-spared_on l None = free-spares_back l

pub free-adopted_as : (l : Local) (next : AdoptNext) → IsFree (adopted_as l next)
free-adopted_as l (AdoptNext.Goes at) = refl
free-adopted_as l AdoptNext.Empty = free-fetched l
free-adopted_as l (AdoptNext.Adopted slab header rest) = refl
free-adopted_as l (AdoptNext.Spared slab rest) = free-spared_on
    (record l { heap = record l.heap { spares = after_push l.heap.spares slab } }) rest

pub free-adopt_learn_of : (l : Local) (at : AdoptAt) (f : ℕ) → IsFree (adopt_learn_of l at f)
free-adopt_learn_of l at f = free-adopted_as l (adopt_learn at f)

pub free-adopting_on : (l : Local) (enough : Bool) (one : Option ℕ) → IsFree (adopting_on l enough one)
free-adopting_on l enough None = free-fetched l
free-adopting_on l enough (Some slab) = refl

free-adopted_at : (l : Local) (slab : ℕ) (rest : Option ℕ) (stage : Stage) → IsFree (adopted_at l slab rest stage)
free-adopted_at l slab rest (Stage.Resetting stage) = free-orphan_adopted l slab rest
free-adopted_at l slab rest Stage.Idle = free-adopting_on l (adopts_enough l slab) rest
free-adopted_at l slab rest Stage.Looking = free-adopting_on l (adopts_enough l slab) rest
free-adopted_at l slab rest Stage.Getting = free-adopting_on l (adopts_enough l slab) rest
free-adopted_at l slab rest Stage.Ending = free-adopting_on l (adopts_enough l slab) rest
free-adopted_at l slab rest Stage.Replacing = free-adopting_on l (adopts_enough l slab) rest
free-adopted_at l slab rest Stage.Undoing = free-adopting_on l (adopts_enough l slab) rest
free-adopted_at l slab rest Stage.Leaving = free-adopting_on l (adopts_enough l slab) rest

pub free-slab_adopted : (l : Local) (slab : ℕ) (rest : Option ℕ) → IsFree (slab_adopted l slab rest)
free-slab_adopted l slab rest = free-adopted_at l slab rest l.call.stage

pub free-joined_as : (l : Local) (slab : ℕ) (rest : Option ℕ) (next : JoinNext) → IsFree (joined_as l slab rest next)
free-joined_as l slab rest (JoinNext.Goes at) = refl
free-joined_as l slab rest JoinNext.Nothing = free-slab_adopted l slab rest
free-joined_as l slab rest (JoinNext.Joined first count) = free-slab_adopted (with_joined l slab first count)
    slab rest

pub free-join_learn_of : (l : Local) (slab : ℕ) (rest : Option ℕ) (at : JoinAt) (f : ℕ) → IsFree
    (join_learn_of l slab rest at f)
free-join_learn_of l slab rest at f = free-joined_as l slab rest (join_learn at f)

pub free-spared_as : (l : Local) (next : LeaveNext) → IsFree (spared_as l next)
free-spared_as l (LeaveNext.Goes at) = refl
free-spared_as l LeaveNext.Filled = free-spares_back l
free-spared_as l LeaveNext.Left = free-spares_back l

pub free-spare_learn_of : (l : Local) (at : LeaveAt) (f : ℕ) → IsFree (spare_learn_of l at f)
free-spare_learn_of l at f = free-spared_as l (leave_learn at f)

pub free-surplus_next : (l : Local) (one : Option ℕ) → IsFree (surplus_next l one)
free-surplus_next l (Some slab) = refl
free-surplus_next l None = refl

pub free-surplus_left : (l : Local) → IsFree (surplus_left l)
free-surplus_left l = either (eqb l.call.surplus 0) _ _ refl (free-surplus_next l (oldest_of l.heap.cached))

pub free-slab_cached : (l : Local) (slab : ℕ) → IsFree (slab_cached l slab)
free-slab_cached l slab = free-surplus_left
    (record l {
      heap = record l.heap { cached = after_push l.heap.cached slab };
      call = record l.call
          { surplus = surplus_of (after_push l.heap.cached slab) };
    })

pub free-emptied_at : (l : Local) (slab : ℕ) (stage : Stage) → IsFree (emptied_at l slab stage)
free-emptied_at l slab Stage.Getting = refl
free-emptied_at l slab Stage.Leaving = refl
free-emptied_at l slab Stage.Idle = refl
free-emptied_at l slab Stage.Looking = refl
free-emptied_at l slab Stage.Ending = refl
free-emptied_at l slab Stage.Replacing = refl
free-emptied_at l slab Stage.Undoing = refl
free-emptied_at l slab (Stage.Resetting stage) = refl

pub free-slab_emptied : (l : Local) (slab : ℕ) → IsFree (slab_emptied l slab)
free-slab_emptied l slab = free-emptied_at (with_slabs l (after_remove l.heap.slabs slab)) slab l.call.stage

pub free-slab_begun : (l : Local) (slab : ℕ) → IsFree (slab_begun l slab)
free-slab_begun l slab = refl

free-newest_given : (l : Local) (slab : ℕ) (stage : Stage) → IsFree (newest_given l slab stage)
free-newest_given l slab Stage.Getting = refl
free-newest_given l slab Stage.Leaving = refl
free-newest_given l slab Stage.Idle = refl
free-newest_given l slab Stage.Looking = refl
free-newest_given l slab Stage.Ending = refl
free-newest_given l slab Stage.Replacing = refl
free-newest_given l slab Stage.Undoing = refl
free-newest_given l slab (Stage.Resetting stage) = refl

pub free-small_learn : (l : Local) (at : SmallAt) (f : ℕ) → IsFree (small_learn l at f)
free-small_learn l (SmallAt.Uncache slab) f = refl
free-small_learn l (SmallAt.Next slab) f = refl
free-small_learn l (SmallAt.Public slab) f = refl
free-small_learn l (SmallAt.Own slab) f = refl
free-small_learn l (SmallAt.Kind slab) f = free-slab_begun l slab
free-small_learn l (SmallAt.Behind slab head) f = refl
free-small_learn l (SmallAt.Private slab head below) f = free-got (with_taken l slab below) head
free-small_learn l (SmallAt.Rest slab unit) f = free-got (with_taken l slab None) unit
free-small_learn l (SmallAt.Empty slab) f = free-slab_emptied l slab
free-small_learn l (SmallAt.Cache slab) f = free-slab_cached l slab
free-small_learn l (SmallAt.Oldest slab) f = refl
free-small_learn l (SmallAt.Newest slab) f =
    free-newest_given (record l { heap = record l.heap { cached = without_newest l.heap.cached } }) slab l.call.stage

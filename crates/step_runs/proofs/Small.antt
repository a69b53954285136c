-- Where a call goes on with small objects, or leaves, its seat has not taken the office.
use Rattle.std.proofs.Common.{Bool, cond, eqb, false, refl, true, ℕ, ◌≡◌}
use Rattle.std.specs.Prelude.{None, Option, Some, ◌+◌, ◌||◌}
use Rattle.heap_slabs.specs.Cached.{surplus_of}
use Rattle.heap_slabs.specs.Heaps.{next_to_leave}
use Rattle.heap_slabs.specs.Rolls.{without_newest, after_push, newest_of, oldest_of}
use Rattle.heap_slabs.specs.Slabs.{after_remove, first_of_class, record_at}
use Rattle.heap_slabs.specs.declared.heap.Leaving.{Leaving}
use Rattle.heap_slabs.specs.declared.records.HeapSlab.{HeapSlab}
use Rattle.heap_slabs.specs.declared.slabs.Wanted.{Wanted}
use Rattle.mailbox.specs.Boxes.{box_learn}
use Rattle.mailbox.specs.declared.boxes.BoxAt.{BoxAt}
use Rattle.mailbox.specs.declared.boxes.BoxNext.{BoxNext}
use Rattle.orphans.specs.Adopting.{adopt_learn}
use Rattle.orphans.specs.Leaving.{leave_learn}
use Rattle.orphans.specs.declared.adopting.AdoptAt.{AdoptAt}
use Rattle.orphans.specs.declared.adopting.AdoptNext.{AdoptNext}
use Rattle.orphans.specs.declared.leaving.LeaveAt.{LeaveAt}
use Rattle.orphans.specs.declared.leaving.LeaveNext.{LeaveNext}
use Rattle.pool_types.specs.Sums.{capped}
use Rattle.pool_types.specs.declared.values.Found.{Found}
use Rattle.pool_types.specs.declared.values.Turn.{Turn}
use Rattle.public_list.specs.Joining.{join_learn}
use Rattle.public_list.specs.declared.joining.JoinAt.{JoinAt}
use Rattle.public_list.specs.declared.joining.JoinNext.{JoinNext}
use Rattle.step_local.specs.Answers.{got, got_after, lost_at, lost_end, object_got, replaces}
use Rattle.step_local.specs.Leaving.{leave_learn_of, leaving, leaving_as, left_as}
use Rattle.step_local.specs.Slabs.{adopt_learn_of, adopted_as, adopting_on, box_learn_of, boxed_as, cached_or_asked}
use Rattle.step_local.specs.Slabs.{class_of_served, emptied_at, fetched, fetched_at, found_slab, getting_small}
use Rattle.step_local.specs.Slabs.{gives_object, join_learn_of, joined_as, left_or_waits, looking_on, mailed_on}
use Rattle.step_local.specs.Slabs.{slab_adopted, slab_begun, slab_cached, slab_came, slab_emptied, small_learn}
use Rattle.step_local.specs.Slabs.{spare_learn_of, spared_as, spared_on, spares_back, sparing, surplus_left}
use Rattle.step_local.specs.Slabs.{surplus_next, with_joined, with_taken, adopted_at, adopts_enough, newest_given}
use Rattle.step_local.specs.Leaving.{with_slabs}
use Rattle.step_local.specs.declared.frames.Local.{Local}
use Rattle.step_local.specs.declared.frames.Object.{Object}
use Rattle.step_local.specs.declared.frames.SmallAt.{SmallAt}
use Rattle.step_local.specs.declared.frames.Stage.{Stage}
use Rattle.step_local.specs.declared.frames.Tried.{Tried}
pub use Rattle.step_runs.proofs.Away.{IsAway, either}
use Rattle.step_runs.proofs.Resets.{carry-orphan_adopted, carry-reset_on}

pub carry-lost_at : (l : Local) (found : Found) (stage : Stage) → IsAway (lost_at l found stage)
carry-lost_at l found Stage.Replacing = refl
carry-lost_at l found Stage.Undoing = refl
carry-lost_at l found Stage.Ending = refl
carry-lost_at l found Stage.Idle = refl
carry-lost_at l found Stage.Looking = refl
carry-lost_at l found Stage.Getting = refl
carry-lost_at l found Stage.Leaving = refl
carry-lost_at l found (Stage.Resetting stage) = refl

pub carry-lost_end : (l : Local) (found : Found) → IsAway (lost_end l found)
carry-lost_end l found = carry-lost_at l found l.call.stage

pub carry-got_after : (l : Local) (object : Object) → IsAway (got_after l object)
carry-got_after l object = either (replaces l.call.request) _ _ refl refl

pub carry-got : (l : Local) (unit : ℕ) → IsAway (got l unit)
carry-got l unit = carry-got_after (record l { last = capped (l.last + 1) }) (object_got l unit)

pub carry-leaving_as : (l : Local) (what : Leaving) → IsAway (leaving_as l what)
carry-leaving_as l (Leaving.Cached slab) = refl
carry-leaving_as l (Leaving.Unused kept) = refl
carry-leaving_as l (Leaving.Held kept) = refl
carry-leaving_as l Leaving.Nothing = refl

pub carry-leaving : (l : Local) → IsAway (leaving l)
carry-leaving l = carry-leaving_as l (next_to_leave l.heap)

pub carry-left_as : (l : Local) (slab : ℕ) (next : LeaveNext) → IsAway (left_as l slab next)
carry-left_as l slab (LeaveNext.Goes at) = refl
carry-left_as l slab LeaveNext.Filled = refl
carry-left_as l slab LeaveNext.Left = carry-leaving
    (record l { heap = record l.heap { slabs = after_remove l.heap.slabs slab } })

pub carry-leave_learn_of : (l : Local) (slab : ℕ) (at : LeaveAt) (f : ℕ) → IsAway (leave_learn_of l slab at f)
carry-leave_learn_of l slab at f = carry-left_as l slab (leave_learn at f)

pub carry-cached_or_asked : (l : Local) (one : Option ℕ) → IsAway (cached_or_asked l one)
carry-cached_or_asked l (Some slab) = refl
carry-cached_or_asked l None = refl

pub carry-looking_on : (l : Local) (class : ℕ) (tried : Tried) → IsAway (looking_on l class tried)
carry-looking_on l class Tried.Nothing = refl
carry-looking_on l class Tried.Mailbox = refl
carry-looking_on l class Tried.Orphans = carry-cached_or_asked l (newest_of l.heap.cached)

pub carry-found_slab : (l : Local) (class : ℕ) (found : Option HeapSlab) → IsAway (found_slab l class found)
carry-found_slab l class (Some kept) = refl
carry-found_slab l class None = carry-looking_on l class l.call.tried

pub carry-getting_small : (l : Local) (class : ℕ) → IsAway (getting_small l class)
carry-getting_small l class = carry-found_slab l class (first_of_class Wanted.WithObject l.heap.slabs class)

pub carry-left_or_waits : (l : Local) (b : Bool) → IsAway (left_or_waits l b)
carry-left_or_waits l true = carry-leaving l
carry-left_or_waits l false = refl

pub carry-fetched_at : (l : Local) (stage : Stage) → IsAway (fetched_at l stage)
carry-fetched_at l Stage.Getting = carry-getting_small l (class_of_served l.call.served)
carry-fetched_at l Stage.Leaving = carry-left_or_waits l l.fetch.came
carry-fetched_at l Stage.Idle = refl
carry-fetched_at l Stage.Looking = refl
carry-fetched_at l Stage.Ending = refl
carry-fetched_at l Stage.Replacing = refl
carry-fetched_at l Stage.Undoing = refl
carry-fetched_at l (Stage.Resetting stage) = carry-reset_on l stage

pub carry-fetched : (l : Local) → IsAway (fetched l)
carry-fetched l = carry-fetched_at l l.call.stage

pub carry-mailed_on : (l : Local) (one : Option ℕ) → IsAway (mailed_on l one)
carry-mailed_on l (Some slab) = refl
carry-mailed_on l None = carry-fetched l

pub carry-slab_came : (l : Local) (slab : ℕ) (rest : Option ℕ) → IsAway (slab_came l slab rest)
carry-slab_came l slab rest = carry-mailed_on
    (record l { fetch = record l.fetch { came = l.fetch.came || eqb slab l.fetch.awaited } }) rest

pub carry-boxed_as : (l : Local) (next : BoxNext) → IsAway (boxed_as l next)
carry-boxed_as l (BoxNext.Goes at) = refl
carry-boxed_as l BoxNext.Empty = carry-fetched l
carry-boxed_as l (BoxNext.Unchanged slab rest) = carry-slab_came l slab rest
carry-boxed_as l (BoxNext.Joined slab first count rest) = carry-slab_came (with_joined l slab first count) slab rest

pub carry-box_learn_of : (l : Local) (at : BoxAt) (f : ℕ) → IsAway (box_learn_of l at f)
carry-box_learn_of l at f = carry-boxed_as l (box_learn at f)

pub carry-sparing : (l : Local) (one : Option ℕ) → IsAway (sparing l one)
carry-sparing l (Some slab) = refl
carry-sparing l None = carry-fetched l

pub carry-spares_back : (l : Local) → IsAway (spares_back l)
carry-spares_back l = carry-sparing l (newest_of l.heap.spares)

pub carry-spared_on : (l : Local) (one : Option ℕ) → IsAway (spared_on l one)
carry-spared_on l (Some slab) = refl
carry-spared_on l None = carry-spares_back l

pub carry-adopted_as : (l : Local) (next : AdoptNext) → IsAway (adopted_as l next)
carry-adopted_as l (AdoptNext.Goes at) = refl
carry-adopted_as l AdoptNext.Empty = carry-fetched l
carry-adopted_as l (AdoptNext.Adopted slab header rest) = refl
carry-adopted_as l (AdoptNext.Spared slab rest) = carry-spared_on
    (record l { heap = record l.heap { spares = after_push l.heap.spares slab } }) rest

pub carry-adopt_learn_of : (l : Local) (at : AdoptAt) (f : ℕ) → IsAway (adopt_learn_of l at f)
carry-adopt_learn_of l at f = carry-adopted_as l (adopt_learn at f)

pub carry-adopting_on : (l : Local) (enough : Bool) (one : Option ℕ) → IsAway (adopting_on l enough one)
carry-adopting_on l enough None = carry-fetched l
carry-adopting_on l enough (Some slab) = refl

carry-adopted_at : (l : Local) (slab : ℕ) (rest : Option ℕ) (stage : Stage) → IsAway (adopted_at l slab rest stage)
carry-adopted_at l slab rest (Stage.Resetting stage) = carry-orphan_adopted l slab rest
carry-adopted_at l slab rest Stage.Idle = carry-adopting_on l (adopts_enough l slab) rest
carry-adopted_at l slab rest Stage.Looking = carry-adopting_on l (adopts_enough l slab) rest
carry-adopted_at l slab rest Stage.Getting = carry-adopting_on l (adopts_enough l slab) rest
carry-adopted_at l slab rest Stage.Ending = carry-adopting_on l (adopts_enough l slab) rest
carry-adopted_at l slab rest Stage.Replacing = carry-adopting_on l (adopts_enough l slab) rest
carry-adopted_at l slab rest Stage.Undoing = carry-adopting_on l (adopts_enough l slab) rest
carry-adopted_at l slab rest Stage.Leaving = carry-adopting_on l (adopts_enough l slab) rest

pub carry-slab_adopted : (l : Local) (slab : ℕ) (rest : Option ℕ) → IsAway (slab_adopted l slab rest)
carry-slab_adopted l slab rest = carry-adopted_at l slab rest l.call.stage

pub carry-joined_as : (l : Local) (slab : ℕ) (rest : Option ℕ) (next : JoinNext) → IsAway (joined_as l slab rest next)
carry-joined_as l slab rest (JoinNext.Goes at) = refl
carry-joined_as l slab rest JoinNext.Nothing = carry-slab_adopted l slab rest
carry-joined_as l slab rest (JoinNext.Joined first count) = carry-slab_adopted (with_joined l slab first count)
    slab rest

pub carry-join_learn_of : (l : Local) (slab : ℕ) (rest : Option ℕ) (at : JoinAt) (f : ℕ) → IsAway
    (join_learn_of l slab rest at f)
carry-join_learn_of l slab rest at f = carry-joined_as l slab rest (join_learn at f)

pub carry-spared_as : (l : Local) (next : LeaveNext) → IsAway (spared_as l next)
carry-spared_as l (LeaveNext.Goes at) = refl
carry-spared_as l LeaveNext.Filled = carry-spares_back l
carry-spared_as l LeaveNext.Left = carry-spares_back l

pub carry-spare_learn_of : (l : Local) (at : LeaveAt) (f : ℕ) → IsAway (spare_learn_of l at f)
carry-spare_learn_of l at f = carry-spared_as l (leave_learn at f)

pub carry-surplus_next : (l : Local) (one : Option ℕ) → IsAway (surplus_next l one)
carry-surplus_next l (Some slab) = refl
carry-surplus_next l None = refl

pub carry-surplus_left : (l : Local) → IsAway (surplus_left l)
carry-surplus_left l = either (eqb l.call.surplus 0) _ _ refl (carry-surplus_next l (oldest_of l.heap.cached))

pub carry-slab_cached : (l : Local) (slab : ℕ) → IsAway (slab_cached l slab)
carry-slab_cached l slab = carry-surplus_left
    (record l {
      heap = record l.heap { cached = after_push l.heap.cached slab };
      call = record l.call
          { surplus = surplus_of (after_push l.heap.cached slab) };
    })

pub carry-emptied_at : (l : Local) (slab : ℕ) (stage : Stage) → IsAway (emptied_at l slab stage)
carry-emptied_at l slab Stage.Getting = refl
carry-emptied_at l slab Stage.Leaving = refl
carry-emptied_at l slab Stage.Idle = refl
carry-emptied_at l slab Stage.Looking = refl
carry-emptied_at l slab Stage.Ending = refl
carry-emptied_at l slab Stage.Replacing = refl
carry-emptied_at l slab Stage.Undoing = refl
carry-emptied_at l slab (Stage.Resetting stage) = refl

pub carry-slab_emptied : (l : Local) (slab : ℕ) → IsAway (slab_emptied l slab)
carry-slab_emptied l slab = carry-emptied_at (with_slabs l (after_remove l.heap.slabs slab)) slab l.call.stage

pub carry-slab_begun : (l : Local) (slab : ℕ) → IsAway (slab_begun l slab)
carry-slab_begun l slab = refl

carry-newest_given : (l : Local) (slab : ℕ) (stage : Stage) → IsAway (newest_given l slab stage)
carry-newest_given l slab Stage.Getting = refl
carry-newest_given l slab Stage.Leaving = refl
carry-newest_given l slab Stage.Idle = refl
carry-newest_given l slab Stage.Looking = refl
carry-newest_given l slab Stage.Ending = refl
carry-newest_given l slab Stage.Replacing = refl
carry-newest_given l slab Stage.Undoing = refl
carry-newest_given l slab (Stage.Resetting stage) = refl

pub carry-small_learn : (l : Local) (at : SmallAt) (f : ℕ) → IsAway (small_learn l at f)
carry-small_learn l (SmallAt.Uncache slab) f = refl
carry-small_learn l (SmallAt.Next slab) f = refl
carry-small_learn l (SmallAt.Public slab) f = refl
carry-small_learn l (SmallAt.Own slab) f = refl
carry-small_learn l (SmallAt.Kind slab) f = carry-slab_begun l slab
carry-small_learn l (SmallAt.Behind slab head) f = refl
carry-small_learn l (SmallAt.Private slab head below) f = carry-got (with_taken l slab below) head
carry-small_learn l (SmallAt.Rest slab unit) f = carry-got (with_taken l slab None) unit
carry-small_learn l (SmallAt.Empty slab) f = carry-slab_emptied l slab
carry-small_learn l (SmallAt.Cache slab) f = carry-slab_cached l slab
carry-small_learn l (SmallAt.Oldest slab) f = refl
carry-small_learn l (SmallAt.Newest slab) f =
    carry-newest_given (record l { heap = record l.heap { cached = without_newest l.heap.cached } }) slab l.call.stage

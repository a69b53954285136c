-- Where a call goes on with small objects, or leaves, its seat has not taken the office.
use Rattle.std.proofs.Common.{Bool, cond, eqb, false, refl, true, ℕ, ◌≡◌}
use Rattle.std.specs.Prelude.{None, Option, Some, ◌+◌, ◌||◌}
use Rattle.heap_slabs.specs.Cached.{surplus_of}
use Rattle.heap_slabs.specs.Heaps.{next_to_leave}
use Rattle.heap_slabs.specs.Rolls.{without_newest, after_push, newest_of, oldest_of}
use Rattle.heap_slabs.specs.Slabs.{after_remove, first_of_class, record_at}
use Rattle.heap_slabs.specs.declared.heap.Leaving.{Leaving}
use Rattle.heap_slabs.specs.declared.records.HeapSlab.{HeapSlab}
use Rattle.heap_slabs.specs.declared.slabs.Wanted.{Wanted}
use Rattle.mailbox.specs.Boxes.{box_learn}
use Rattle.mailbox.specs.declared.boxes.BoxAt.{BoxAt}
use Rattle.mailbox.specs.declared.boxes.BoxNext.{BoxNext}
use Rattle.orphans.specs.Adopting.{adopt_learn}
use Rattle.orphans.specs.Leaving.{leave_learn}
use Rattle.orphans.specs.declared.adopting.AdoptAt.{AdoptAt}
use Rattle.orphans.specs.declared.adopting.AdoptNext.{AdoptNext}
use Rattle.orphans.specs.declared.leaving.LeaveAt.{LeaveAt}
use Rattle.orphans.specs.declared.leaving.LeaveNext.{LeaveNext}
use Rattle.pool_types.specs.Sums.{capped}
use Rattle.pool_types.specs.declared.values.Found.{Found}
use Rattle.pool_types.specs.declared.values.Turn.{Turn}
use Rattle.public_list.specs.Joining.{join_learn}
use Rattle.public_list.specs.declared.joining.JoinAt.{JoinAt}
use Rattle.public_list.specs.declared.joining.JoinNext.{JoinNext}
use Rattle.step_local.specs.Answers.{got, got_after, lost_at, lost_end, object_got, replaces}
use Rattle.step_local.specs.Leaving.{leave_learn_of, leaving, leaving_as, left_as}
use Rattle.step_local.specs.Slabs.{adopt_learn_of, adopted_as, adopting_on, box_learn_of, boxed_as, cached_or_asked}
use Rattle.step_local.specs.Slabs.{class_of_served, emptied_at, fetched, fetched_at, found_slab, getting_small}
use Rattle.step_local.specs.Slabs.{gives_object, join_learn_of, joined_as, left_or_waits, looking_on, mailed_on}
use Rattle.step_local.specs.Slabs.{slab_adopted, slab_begun, slab_cached, slab_came, slab_emptied, small_learn}
use Rattle.step_local.specs.Slabs.{spare_learn_of, spared_as, spared_on, spares_back, sparing, surplus_left}
use Rattle.step_local.specs.Slabs.{surplus_next, with_joined, with_taken, adopted_at, adopts_enough, newest_given}
use Rattle.step_local.specs.Leaving.{with_slabs}
use Rattle.step_local.specs.declared.frames.Local.{Local}
use Rattle.step_local.specs.declared.frames.Object.{Object}
use Rattle.step_local.specs.declared.frames.SmallAt.{SmallAt}
use Rattle.step_local.specs.declared.frames.Stage.{Stage}
use Rattle.step_local.specs.declared.frames.Tried.{Tried}
pub use Rattle.call_laws.proofs.Away.{either}
use Rattle.call_laws.specs.Calls.{IsCalling, IsKept, is_resetting, is_outside}

pub kept-lost_at : (l : Local) (e : IsCalling l) (found : Found) (stage : Stage) (s : is_resetting stage ≡ false)
    → IsKept l (lost_at l found stage)
kept-lost_at l e found Stage.Replacing s = cc
kept-lost_at l e found Stage.Undoing s = cc
kept-lost_at l e found Stage.Ending s = cc
kept-lost_at l e found Stage.Idle s = cc
kept-lost_at l e found Stage.Looking s = cc
kept-lost_at l e found Stage.Getting s = cc
kept-lost_at l e found Stage.Leaving s = cc
kept-lost_at l e found (Stage.Resetting stage) s = absurd (cc)

pub kept-lost_end : (l : Local) (e : IsCalling l) (found : Found) → IsKept l (lost_end l found)
kept-lost_end l e found = kept-lost_at l e found l.call.stage e

pub kept-got_after : (l : Local) (e : IsCalling l) (object : Object) → IsKept l (got_after l object)
kept-got_after l e object = either l (replaces l.call.request) _ _ (cc) (cc)

pub kept-got : (l : Local) (e : IsCalling l) (unit : ℕ) → IsKept l (got l unit)
kept-got l e unit = kept-got_after (record l { last = capped (l.last + 1) }) e (object_got l unit)

pub kept-leaving_as : (l : Local) (e : IsCalling l) (what : Leaving) → IsKept l (leaving_as l what)
kept-leaving_as l e (Leaving.Cached slab) = cc
kept-leaving_as l e (Leaving.Unused kept) = cc
kept-leaving_as l e (Leaving.Held kept) = cc
kept-leaving_as l e Leaving.Nothing = cc

pub kept-leaving : (l : Local) (e : IsCalling l) → IsKept l (leaving l)
kept-leaving l e = kept-leaving_as l e (next_to_leave l.heap)

pub kept-left_as : (l : Local) (e : IsCalling l) (slab : ℕ) (next : LeaveNext) → IsKept l (left_as l slab next)
kept-left_as l e slab (LeaveNext.Goes at) = cc
kept-left_as l e slab LeaveNext.Filled = cc
kept-left_as l e slab LeaveNext.Left = kept-leaving
    (record l { heap = record l.heap { slabs = after_remove l.heap.slabs slab } }) e

pub kept-leave_learn_of : (l : Local) (e : IsCalling l) (slab : ℕ) (at : LeaveAt) (f : ℕ)
    → IsKept l (leave_learn_of l slab at f)
kept-leave_learn_of l e slab at f = kept-left_as l e slab (leave_learn at f)

pub kept-cached_or_asked : (l : Local) (e : IsCalling l) (one : Option ℕ) → IsKept l (cached_or_asked l one)
kept-cached_or_asked l e (Some slab) = cc
kept-cached_or_asked l e None = cc

pub kept-looking_on : (l : Local) (e : IsCalling l) (class : ℕ) (tried : Tried) → IsKept l (looking_on l class tried)
kept-looking_on l e class Tried.Nothing = cc
kept-looking_on l e class Tried.Mailbox = cc
kept-looking_on l e class Tried.Orphans = kept-cached_or_asked l e (newest_of l.heap.cached)

pub kept-found_slab : (l : Local) (e : IsCalling l) (class : ℕ) (found : Option HeapSlab)
    → IsKept l (found_slab l class found)
kept-found_slab l e class (Some kept) = cc
kept-found_slab l e class None = kept-looking_on l e class l.call.tried

pub kept-getting_small : (l : Local) (e : IsCalling l) (class : ℕ) → IsKept l (getting_small l class)
kept-getting_small l e class = kept-found_slab l e class (first_of_class Wanted.WithObject l.heap.slabs class)

pub kept-left_or_waits : (l : Local) (e : IsCalling l) (b : Bool) → IsKept l (left_or_waits l b)
kept-left_or_waits l e true = kept-leaving l e
kept-left_or_waits l e false = cc

pub kept-fetched_at : (l : Local) (e : IsCalling l) (stage : Stage) (s : is_resetting stage ≡ false)
    → IsKept l (fetched_at l stage)
kept-fetched_at l e Stage.Getting s = kept-getting_small l e (class_of_served l.call.served)
kept-fetched_at l e Stage.Leaving s = kept-left_or_waits l e l.fetch.came
kept-fetched_at l e Stage.Idle s = cc
kept-fetched_at l e Stage.Looking s = cc
kept-fetched_at l e Stage.Ending s = cc
kept-fetched_at l e Stage.Replacing s = cc
kept-fetched_at l e Stage.Undoing s = cc
kept-fetched_at l e (Stage.Resetting stage) s = absurd (cc)

pub kept-fetched : (l : Local) (e : IsCalling l) → IsKept l (fetched l)
kept-fetched l e = kept-fetched_at l e l.call.stage e

pub kept-mailed_on : (l : Local) (e : IsCalling l) (one : Option ℕ) → IsKept l (mailed_on l one)
kept-mailed_on l e (Some slab) = cc
kept-mailed_on l e None = kept-fetched l e

pub kept-slab_came : (l : Local) (e : IsCalling l) (slab : ℕ) (rest : Option ℕ) → IsKept l (slab_came l slab rest)
kept-slab_came l e slab rest = kept-mailed_on
    (record l { fetch = record l.fetch { came = l.fetch.came || eqb slab l.fetch.awaited } }) e rest

pub kept-boxed_as : (l : Local) (e : IsCalling l) (next : BoxNext) → IsKept l (boxed_as l next)
kept-boxed_as l e (BoxNext.Goes at) = cc
kept-boxed_as l e BoxNext.Empty = kept-fetched l e
kept-boxed_as l e (BoxNext.Unchanged slab rest) = kept-slab_came l e slab rest
kept-boxed_as l e (BoxNext.Joined slab first count rest) = kept-slab_came (with_joined l slab first count) e slab rest

pub kept-box_learn_of : (l : Local) (e : IsCalling l) (at : BoxAt) (f : ℕ) → IsKept l (box_learn_of l at f)
kept-box_learn_of l e at f = kept-boxed_as l e (box_learn at f)

pub kept-sparing : (l : Local) (e : IsCalling l) (one : Option ℕ) → IsKept l (sparing l one)
kept-sparing l e (Some slab) = cc
kept-sparing l e None = kept-fetched l e

pub kept-spares_back : (l : Local) (e : IsCalling l) → IsKept l (spares_back l)
kept-spares_back l e = kept-sparing l e (newest_of l.heap.spares)

pub kept-spared_on : (l : Local) (e : IsCalling l) (one : Option ℕ) → IsKept l (spared_on l one)
kept-spared_on l e (Some slab) = cc
kept-spared_on l e None = kept-spares_back l e

pub kept-adopted_as : (l : Local) (e : IsCalling l) (next : AdoptNext) → IsKept l (adopted_as l next)
kept-adopted_as l e (AdoptNext.Goes at) = cc
kept-adopted_as l e AdoptNext.Empty = kept-fetched l e
kept-adopted_as l e (AdoptNext.Adopted slab header rest) = cc
kept-adopted_as l e (AdoptNext.Spared slab rest) = kept-spared_on
    (record l { heap = record l.heap { spares = after_push l.heap.spares slab } }) e rest

pub kept-adopt_learn_of : (l : Local) (e : IsCalling l) (at : AdoptAt) (f : ℕ) → IsKept l (adopt_learn_of l at f)
kept-adopt_learn_of l e at f = kept-adopted_as l e (adopt_learn at f)

pub kept-adopting_on : (l : Local) (e : IsCalling l) (enough : Bool) (one : Option ℕ)
    → IsKept l (adopting_on l enough one)
kept-adopting_on l e enough None = kept-fetched l e
kept-adopting_on l e enough (Some slab) = cc

kept-adopted_at : (l : Local) (e : IsCalling l) (slab : ℕ) (rest : Option ℕ) (stage : Stage)
    (s : is_resetting stage ≡ false) → IsKept l (adopted_at l slab rest stage)
kept-adopted_at l e slab rest (Stage.Resetting stage) s = absurd (cc)
kept-adopted_at l e slab rest Stage.Idle s = kept-adopting_on l e (adopts_enough l slab) rest
kept-adopted_at l e slab rest Stage.Looking s = kept-adopting_on l e (adopts_enough l slab) rest
kept-adopted_at l e slab rest Stage.Getting s = kept-adopting_on l e (adopts_enough l slab) rest
kept-adopted_at l e slab rest Stage.Ending s = kept-adopting_on l e (adopts_enough l slab) rest
kept-adopted_at l e slab rest Stage.Replacing s = kept-adopting_on l e (adopts_enough l slab) rest
kept-adopted_at l e slab rest Stage.Undoing s = kept-adopting_on l e (adopts_enough l slab) rest
kept-adopted_at l e slab rest Stage.Leaving s = kept-adopting_on l e (adopts_enough l slab) rest

pub kept-slab_adopted : (l : Local) (e : IsCalling l) (slab : ℕ) (rest : Option ℕ)
    → IsKept l (slab_adopted l slab rest)
kept-slab_adopted l e slab rest = kept-adopted_at l e slab rest l.call.stage e

pub kept-joined_as : (l : Local) (e : IsCalling l) (slab : ℕ) (rest : Option ℕ) (next : JoinNext)
    → IsKept l (joined_as l slab rest next)
kept-joined_as l e slab rest (JoinNext.Goes at) = cc
kept-joined_as l e slab rest JoinNext.Nothing = kept-slab_adopted l e slab rest
kept-joined_as l e slab rest (JoinNext.Joined first count) = kept-slab_adopted (with_joined l slab first count) e
    slab rest

pub kept-join_learn_of : (l : Local) (e : IsCalling l) (slab : ℕ) (rest : Option ℕ) (at : JoinAt) (f : ℕ) → IsKept l
    (join_learn_of l slab rest at f)
kept-join_learn_of l e slab rest at f = kept-joined_as l e slab rest (join_learn at f)

pub kept-spared_as : (l : Local) (e : IsCalling l) (next : LeaveNext) → IsKept l (spared_as l next)
kept-spared_as l e (LeaveNext.Goes at) = cc
kept-spared_as l e LeaveNext.Filled = kept-spares_back l e
kept-spared_as l e LeaveNext.Left = kept-spares_back l e

pub kept-spare_learn_of : (l : Local) (e : IsCalling l) (at : LeaveAt) (f : ℕ) → IsKept l (spare_learn_of l at f)
kept-spare_learn_of l e at f = kept-spared_as l e (leave_learn at f)

pub kept-surplus_next : (l : Local) (e : IsCalling l) (one : Option ℕ) → IsKept l (surplus_next l one)
kept-surplus_next l e (Some slab) = cc
kept-surplus_next l e None = cc

pub kept-surplus_left : (l : Local) (e : IsCalling l) → IsKept l (surplus_left l)
kept-surplus_left l e = either l (eqb l.call.surplus 0) _ _ (cc) (kept-surplus_next l e (oldest_of l.heap.cached))

pub kept-slab_cached : (l : Local) (e : IsCalling l) (slab : ℕ) → IsKept l (slab_cached l slab)
kept-slab_cached l e slab = kept-surplus_left
    (record l {
      heap = record l.heap { cached = after_push l.heap.cached slab };
      call = record l.call
          { surplus = surplus_of (after_push l.heap.cached slab) };
    }) e

pub kept-emptied_at : (l : Local) (e : IsCalling l) (slab : ℕ) (stage : Stage) (s : is_resetting stage ≡ false)
    → IsKept l (emptied_at l slab stage)
kept-emptied_at l e slab Stage.Getting s = cc
kept-emptied_at l e slab Stage.Leaving s = cc
kept-emptied_at l e slab Stage.Idle s = cc
kept-emptied_at l e slab Stage.Looking s = cc
kept-emptied_at l e slab Stage.Ending s = cc
kept-emptied_at l e slab Stage.Replacing s = cc
kept-emptied_at l e slab Stage.Undoing s = cc
kept-emptied_at l e slab (Stage.Resetting stage) s = absurd (cc)

pub kept-slab_emptied : (l : Local) (e : IsCalling l) (slab : ℕ) → IsKept l (slab_emptied l slab)
kept-slab_emptied l e slab = kept-emptied_at (with_slabs l (after_remove l.heap.slabs slab)) e slab l.call.stage e

pub kept-slab_begun : (l : Local) (e : IsCalling l) (slab : ℕ) → IsKept l (slab_begun l slab)
kept-slab_begun l e slab = cc

kept-newest_given : (l : Local) (e : IsCalling l) (slab : ℕ) (stage : Stage) (s : is_resetting stage ≡ false)
    → IsKept l (newest_given l slab stage)
kept-newest_given l e slab Stage.Getting s = cc
kept-newest_given l e slab Stage.Leaving s = cc
kept-newest_given l e slab Stage.Idle s = cc
kept-newest_given l e slab Stage.Looking s = cc
kept-newest_given l e slab Stage.Ending s = cc
kept-newest_given l e slab Stage.Replacing s = cc
kept-newest_given l e slab Stage.Undoing s = cc
kept-newest_given l e slab (Stage.Resetting stage) s = absurd (cc)

pub kept-small_learn : (l : Local) (e : IsCalling l) (at : SmallAt) (f : ℕ) → IsKept l (small_learn l at f)
kept-small_learn l e (SmallAt.Uncache slab) f = cc
kept-small_learn l e (SmallAt.Next slab) f = cc
kept-small_learn l e (SmallAt.Public slab) f = cc
kept-small_learn l e (SmallAt.Own slab) f = cc
kept-small_learn l e (SmallAt.Kind slab) f = kept-slab_begun l e slab
kept-small_learn l e (SmallAt.Behind slab head) f = cc
kept-small_learn l e (SmallAt.Private slab head below) f = kept-got (with_taken l slab below) e head
kept-small_learn l e (SmallAt.Rest slab unit) f = kept-got (with_taken l slab None) e unit
kept-small_learn l e (SmallAt.Empty slab) f = kept-slab_emptied l e slab
kept-small_learn l e (SmallAt.Cache slab) f = kept-slab_cached l e slab
kept-small_learn l e (SmallAt.Oldest slab) f = cc
kept-small_learn l e (SmallAt.Newest slab) f =
    kept-newest_given (record l {
      heap = record l.heap {
        cached =
            without_newest l.heap.cached;
      };
    }) e slab l.call.stage e

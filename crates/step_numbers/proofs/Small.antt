-- Where a call goes on with small objects, or its heap leaves: it comes to grant only where a number is left.
use Rattle.std.proofs.Common.{Bool, cond, eqb, false, refl, sym, ap, true, ℕ, ◌≡◌, ◌∙◌}
use Rattle.std.specs.Prelude.{None, Option, Some, ◌||◌}
use Rattle.heap_slabs.specs.Cached.{surplus_of}
use Rattle.heap_slabs.specs.Heaps.{next_to_leave}
use Rattle.heap_slabs.specs.Rolls.{without_newest, after_push, newest_of, oldest_of}
use Rattle.heap_slabs.specs.Slabs.{after_remove, first_of_class}
use Rattle.heap_slabs.specs.declared.heap.Leaving.{Leaving}
use Rattle.heap_slabs.specs.declared.records.HeapSlab.{HeapSlab}
use Rattle.heap_slabs.specs.declared.slabs.Wanted.{Wanted}
use Rattle.mailbox.specs.Boxes.{box_learn}
use Rattle.mailbox.specs.declared.boxes.BoxAt.{BoxAt}
use Rattle.mailbox.specs.declared.boxes.BoxNext.{BoxNext}
use Rattle.orphans.specs.Adopting.{adopt_learn}
use Rattle.orphans.specs.Leaving.{leave_learn}
use Rattle.orphans.specs.declared.adopting.AdoptAt.{AdoptAt}
use Rattle.orphans.specs.declared.adopting.AdoptNext.{AdoptNext}
use Rattle.orphans.specs.declared.leaving.LeaveAt.{LeaveAt}
use Rattle.orphans.specs.declared.leaving.LeaveNext.{LeaveNext}
use Rattle.pool_types.specs.declared.values.Found.{Found}
use Rattle.public_list.specs.Joining.{join_learn}
use Rattle.public_list.specs.declared.joining.JoinAt.{JoinAt}
use Rattle.public_list.specs.declared.joining.JoinNext.{JoinNext}
use Rattle.step_local.specs.Answers.{answered, ending, got_after, got_of, lost_at, lost_end, replaces}
use Rattle.step_local.specs.Leaving.{leave_learn_of, leaving, leaving_as, left_as}
use Rattle.step_local.specs.Slabs.{adopt_learn_of, adopted_as, adopting_on, box_learn_of, boxed_as, cached_or_asked}
use Rattle.step_local.specs.Slabs.{class_of_served, emptied_at, fetched, fetched_at, found_slab, getting_small}
use Rattle.step_local.specs.Slabs.{join_learn_of, joined_as, left_or_waits, looking_on, mailed_on}
use Rattle.step_local.specs.Slabs.{slab_adopted, slab_cached, slab_came, slab_emptied, small_learn}
use Rattle.step_local.specs.Slabs.{spare_learn_of, spared_as, spared_on, spares_back, sparing, surplus_left}
use Rattle.step_local.specs.Slabs.{surplus_next, with_joined, adopted_at, adopts_enough, newest_given}
use Rattle.step_local.specs.Leaving.{with_slabs}
use Rattle.step_local.specs.declared.frames.Local.{Local}
use Rattle.step_local.specs.declared.frames.Object.{Object}
use Rattle.step_local.specs.declared.frames.SmallAt.{SmallAt}
use Rattle.step_local.specs.declared.frames.Stage.{Stage}
use Rattle.step_local.specs.declared.frames.Tried.{Tried}
use Rattle.step_numbers.specs.Positions.{IsGrantWord, granting_small, is_getting, keeps_heap, may_grant_small}
use Rattle.step_numbers.specs.Positions.{CanGrant, NewFits, StageFits}
use Rattle.step_numbers.proofs.Kept.{Fits, HeapFits, either, never, stage_of}
use Rattle.step_numbers.proofs.Resets.{fits-orphan_adopted, fits-reset_on, heap_resets}

-- an object that was got in another's place is given up by its own grant
pub fits-lost_at : (l : Local) (found : Found) (stage : Stage) → NewFits l stage → Fits l.last (lost_at l found stage)
fits-lost_at l found Stage.Replacing new = (refl, (new, tt, never))
fits-lost_at l found Stage.Undoing new = (refl, tt)
fits-lost_at l found Stage.Ending new = (refl, tt)
fits-lost_at l found Stage.Idle new = (refl, tt)
fits-lost_at l found Stage.Looking new = (refl, tt)
fits-lost_at l found Stage.Getting new = (refl, tt)
fits-lost_at l found Stage.Leaving new = (refl, tt)
fits-lost_at l found (Stage.Resetting stage) new = (refl, tt)

pub fits-lost_end : (l : Local) (found : Found) → NewFits l l.call.stage → Fits l.last (lost_end l found)
fits-lost_end l found new = fits-lost_at l found l.call.stage new

pub fits-got_after : (l : Local) (object : Object) → IsGrantWord object.mark
    → (replaces l.call.request ≡ true → IsGrantWord l.call.old.mark) → Fits l.last (got_after l object)
fits-got_after l object new held = by (replaces l.call.request) held
  where
    by : (b : Bool) → (b ≡ true → IsGrantWord l.call.old.mark)
        → Fits l.last (cond b (ending (record l { call = record l.call { new = object } }) Stage.Replacing)
        (answered l (got_of l object)))
    by true old = (refl, (old refl, new, never))
    by false old = (refl, tt)

pub fits-leaving_as : (l : Local) (what : Leaving) → HeapFits l → Fits l.last (leaving_as l what)
fits-leaving_as l (Leaving.Cached slab) heap = (refl, heap)
fits-leaving_as l (Leaving.Unused kept) heap = (refl, stage_of l heap)
fits-leaving_as l (Leaving.Held kept) heap = (refl, heap)
fits-leaving_as l Leaving.Nothing heap = (refl, tt)

pub fits-leaving : (l : Local) → HeapFits l → Fits l.last (leaving l)
fits-leaving l heap = fits-leaving_as l (next_to_leave l.heap) heap

fits-left_as : (l : Local) (slab : ℕ) (next : LeaveNext) → HeapFits l → Fits l.last (left_as l slab next)
fits-left_as l slab (LeaveNext.Goes at) heap = (refl, heap)
fits-left_as l slab LeaveNext.Filled heap = (refl, stage_of l heap)
fits-left_as l slab LeaveNext.Left heap =
    fits-leaving (record l { heap = record l.heap { slabs = after_remove l.heap.slabs slab } }) heap

pub fits-leave_learn_of : (l : Local) (slab : ℕ) (at : LeaveAt) (f : ℕ) → HeapFits l
    → Fits l.last (leave_learn_of l slab at f)
fits-leave_learn_of l slab at f heap = fits-left_as l slab (leave_learn at f) heap

fits-cached_or_asked : (l : Local) (one : Option ℕ) → CanGrant l → Fits l.last (cached_or_asked l one)
fits-cached_or_asked l (Some slab) can = (refl, λ _. can)
fits-cached_or_asked l None can = (refl, λ _. can)

fits-looking_on : (l : Local) (class : ℕ) (tried : Tried) → CanGrant l → Fits l.last (looking_on l class tried)
fits-looking_on l class Tried.Nothing can = (refl, λ _. can)
fits-looking_on l class Tried.Mailbox can = (refl, λ _. can)
fits-looking_on l class Tried.Orphans can = fits-cached_or_asked l (newest_of l.heap.cached) can

fits-found_slab : (l : Local) (class : ℕ) (found : Option HeapSlab) → CanGrant l
    → Fits l.last (found_slab l class found)
fits-found_slab l class (Some kept) can = (refl, λ _. can)
fits-found_slab l class None can = fits-looking_on l class l.call.tried can

pub fits-getting_small : (l : Local) (class : ℕ) → CanGrant l → Fits l.last (getting_small l class)
fits-getting_small l class can =
    fits-found_slab l class (first_of_class Wanted.WithObject l.heap.slabs class) can

fits-left_or_waits : (l : Local) (b : Bool) → HeapFits l → Fits l.last (left_or_waits l b)
fits-left_or_waits l true heap = fits-leaving l heap
fits-left_or_waits l false heap = (refl, stage_of l heap)

-- a heap that leaves gives up all that it keeps
heap_leaves : (l : Local) → l.call.stage ≡ Stage.Leaving → HeapFits l
heap_leaves l is e = never (sym (ap keeps_heap is) ∙ e)

fits-fetched_at : (l : Local) (stage : Stage) → l.call.stage ≡ stage → StageFits l → Fits l.last (fetched_at l stage)
fits-fetched_at l Stage.Getting is fits =
    fits-getting_small l (class_of_served l.call.served) (fits (ap is_getting is))
fits-fetched_at l Stage.Leaving is fits = fits-left_or_waits l l.fetch.came (heap_leaves l is)
fits-fetched_at l Stage.Idle is fits = (refl, tt)
fits-fetched_at l Stage.Looking is fits = (refl, tt)
fits-fetched_at l Stage.Ending is fits = (refl, tt)
fits-fetched_at l Stage.Replacing is fits = (refl, tt)
fits-fetched_at l Stage.Undoing is fits = (refl, tt)
fits-fetched_at l (Stage.Resetting stage) is fits = fits-reset_on l stage (heap_resets l stage is)

fits-fetched : (l : Local) → StageFits l → Fits l.last (fetched l)
fits-fetched l fits = fits-fetched_at l l.call.stage refl fits

fits-mailed_on : (l : Local) (one : Option ℕ) → StageFits l → Fits l.last (mailed_on l one)
fits-mailed_on l (Some slab) fits = (refl, fits)
fits-mailed_on l None fits = fits-fetched l fits

fits-slab_came : (l : Local) (slab : ℕ) (rest : Option ℕ) → StageFits l → Fits l.last (slab_came l slab rest)
fits-slab_came l slab rest fits =
    fits-mailed_on (record l { fetch = record l.fetch { came = l.fetch.came || eqb slab l.fetch.awaited } }) rest fits

fits-boxed_as : (l : Local) (next : BoxNext) → StageFits l → Fits l.last (boxed_as l next)
fits-boxed_as l (BoxNext.Goes at) fits = (refl, fits)
fits-boxed_as l BoxNext.Empty fits = fits-fetched l fits
fits-boxed_as l (BoxNext.Unchanged slab rest) fits = fits-slab_came l slab rest fits
fits-boxed_as l (BoxNext.Joined slab first count rest) fits =
    fits-slab_came (with_joined l slab first count) slab rest fits

pub fits-box_learn_of : (l : Local) (at : BoxAt) (f : ℕ) → StageFits l → Fits l.last (box_learn_of l at f)
fits-box_learn_of l at f fits = fits-boxed_as l (box_learn at f) fits

fits-sparing : (l : Local) (one : Option ℕ) → StageFits l → Fits l.last (sparing l one)
fits-sparing l (Some slab) fits = (refl, fits)
fits-sparing l None fits = fits-fetched l fits

fits-spares_back : (l : Local) → StageFits l → Fits l.last (spares_back l)
fits-spares_back l fits = fits-sparing l (newest_of l.heap.spares) fits

fits-spared_on : (l : Local) (one : Option ℕ) → StageFits l → Fits l.last (spared_on l one)
fits-spared_on l (Some slab) fits = (refl, fits)
fits-spared_on l None fits = fits-spares_back l fits

fits-adopted_as : (l : Local) (next : AdoptNext) → StageFits l → Fits l.last (adopted_as l next)
fits-adopted_as l (AdoptNext.Goes at) fits = (refl, fits)
fits-adopted_as l AdoptNext.Empty fits = fits-fetched l fits
fits-adopted_as l (AdoptNext.Adopted slab header rest) fits = (refl, fits)
fits-adopted_as l (AdoptNext.Spared slab rest) fits =
    fits-spared_on (record l { heap = record l.heap { spares = after_push l.heap.spares slab } }) rest fits

pub fits-adopt_learn_of : (l : Local) (at : AdoptAt) (f : ℕ) → StageFits l → Fits l.last (adopt_learn_of l at f)
fits-adopt_learn_of l at f fits = fits-adopted_as l (adopt_learn at f) fits

fits-adopting_on : (l : Local) (enough : Bool) (one : Option ℕ) → StageFits l → Fits l.last (adopting_on l enough one)
fits-adopting_on l enough None fits = fits-fetched l fits
fits-adopting_on l enough (Some slab) fits = (refl, fits)

fits-adopted_at : (l : Local) (slab : ℕ) (rest : Option ℕ) (stage : Stage) → StageFits l
    → Fits l.last (adopted_at l slab rest stage)
fits-adopted_at l slab rest (Stage.Resetting stage) fits = fits-orphan_adopted l slab rest
fits-adopted_at l slab rest Stage.Idle fits = fits-adopting_on l (adopts_enough l slab) rest fits
fits-adopted_at l slab rest Stage.Looking fits = fits-adopting_on l (adopts_enough l slab) rest fits
fits-adopted_at l slab rest Stage.Getting fits = fits-adopting_on l (adopts_enough l slab) rest fits
fits-adopted_at l slab rest Stage.Ending fits = fits-adopting_on l (adopts_enough l slab) rest fits
fits-adopted_at l slab rest Stage.Replacing fits = fits-adopting_on l (adopts_enough l slab) rest fits
fits-adopted_at l slab rest Stage.Undoing fits = fits-adopting_on l (adopts_enough l slab) rest fits
fits-adopted_at l slab rest Stage.Leaving fits = fits-adopting_on l (adopts_enough l slab) rest fits

fits-slab_adopted : (l : Local) (slab : ℕ) (rest : Option ℕ) → StageFits l → Fits l.last (slab_adopted l slab rest)
fits-slab_adopted l slab rest fits = fits-adopted_at l slab rest l.call.stage fits

fits-joined_as : (l : Local) (slab : ℕ) (rest : Option ℕ) (next : JoinNext) → StageFits l
    → Fits l.last (joined_as l slab rest next)
fits-joined_as l slab rest (JoinNext.Goes at) fits = (refl, fits)
fits-joined_as l slab rest JoinNext.Nothing fits = fits-slab_adopted l slab rest fits
fits-joined_as l slab rest (JoinNext.Joined first count) fits =
    fits-slab_adopted (with_joined l slab first count) slab rest fits

pub fits-join_learn_of : (l : Local) (slab : ℕ) (rest : Option ℕ) (at : JoinAt) (f : ℕ) → StageFits l
    → Fits l.last (join_learn_of l slab rest at f)
fits-join_learn_of l slab rest at f fits = fits-joined_as l slab rest (join_learn at f) fits

fits-spared_as : (l : Local) (next : LeaveNext) → StageFits l → Fits l.last (spared_as l next)
fits-spared_as l (LeaveNext.Goes at) fits = (refl, fits)
fits-spared_as l LeaveNext.Filled fits = fits-spares_back l fits
fits-spared_as l LeaveNext.Left fits = fits-spares_back l fits

pub fits-spare_learn_of : (l : Local) (at : LeaveAt) (f : ℕ) → StageFits l → Fits l.last (spare_learn_of l at f)
fits-spare_learn_of l at f fits = fits-spared_as l (leave_learn at f) fits

fits-surplus_next : (l : Local) (one : Option ℕ) → StageFits l → Fits l.last (surplus_next l one)
fits-surplus_next l (Some slab) fits = (refl, fits)
fits-surplus_next l None fits = (refl, tt)

pub fits-surplus_left : (l : Local) → StageFits l → Fits l.last (surplus_left l)
fits-surplus_left l fits =
    either (eqb l.call.surplus 0) _ _ (refl, tt) (fits-surplus_next l (oldest_of l.heap.cached) fits)

fits-slab_cached : (l : Local) (slab : ℕ) → StageFits l → Fits l.last (slab_cached l slab)
fits-slab_cached l slab fits = fits-surplus_left (record l {
  heap = record l.heap { cached = after_push l.heap.cached slab };
  call = record l.call { surplus = surplus_of (after_push l.heap.cached slab) };
}) fits

fits-emptied_at : (l : Local) (slab : ℕ) (stage : Stage) → l.call.stage ≡ stage → StageFits l
    → Fits l.last (emptied_at l slab stage)
fits-emptied_at l slab Stage.Getting is fits = (refl, λ _. fits (ap is_getting is))
fits-emptied_at l slab Stage.Leaving is fits = (refl, heap_leaves l is)
fits-emptied_at l slab Stage.Idle is fits = (refl, fits)
fits-emptied_at l slab Stage.Looking is fits = (refl, fits)
fits-emptied_at l slab Stage.Ending is fits = (refl, fits)
fits-emptied_at l slab Stage.Replacing is fits = (refl, fits)
fits-emptied_at l slab Stage.Undoing is fits = (refl, fits)
fits-emptied_at l slab (Stage.Resetting stage) is fits = (refl, (tt, never))

fits-slab_emptied : (l : Local) (slab : ℕ) → StageFits l → Fits l.last (slab_emptied l slab)
fits-slab_emptied l slab fits =
    fits-emptied_at (with_slabs l (after_remove l.heap.slabs slab)) slab l.call.stage refl fits

fits-newest_given : (l : Local) (slab : ℕ) (stage : Stage) → l.call.stage ≡ stage → HeapFits l
    → Fits l.last (newest_given l slab stage)
fits-newest_given l slab Stage.Leaving is heap = (refl, heap)
fits-newest_given l slab Stage.Getting is heap = (refl, λ _. heap (ap keeps_heap is))
fits-newest_given l slab Stage.Idle is heap = (refl, λ _. heap (ap keeps_heap is))
fits-newest_given l slab Stage.Looking is heap = (refl, λ _. heap (ap keeps_heap is))
fits-newest_given l slab Stage.Ending is heap = (refl, λ _. heap (ap keeps_heap is))
fits-newest_given l slab Stage.Replacing is heap = (refl, λ _. heap (ap keeps_heap is))
fits-newest_given l slab Stage.Undoing is heap = (refl, λ _. heap (ap keeps_heap is))
fits-newest_given l slab (Stage.Resetting stage) is heap = (refl, (tt, never))

-- but where it grants
pub fits-small_learn : (l : Local) (at : SmallAt) (f : ℕ) → granting_small at ≡ None
    → (may_grant_small l at ≡ true → CanGrant l) → Fits l.last (small_learn l at f)
fits-small_learn l (SmallAt.Uncache slab) f none fits = (refl, fits)
fits-small_learn l (SmallAt.Next slab) f none fits = (refl, fits)
fits-small_learn l (SmallAt.Public slab) f none fits = (refl, fits)
fits-small_learn l (SmallAt.Own slab) f none fits = (refl, fits)
fits-small_learn l (SmallAt.Kind slab) f none fits = (refl, fits)
fits-small_learn l (SmallAt.Behind slab head) f none fits = (refl, fits)
fits-small_learn l (SmallAt.Private slab head below) f none fits = absurd (cc)
fits-small_learn l (SmallAt.Rest slab unit) f none fits = absurd (cc)
fits-small_learn l (SmallAt.Empty slab) f none fits = fits-slab_emptied l slab fits
fits-small_learn l (SmallAt.Cache slab) f none fits = fits-slab_cached l slab fits
fits-small_learn l (SmallAt.Oldest slab) f none fits = (refl, fits)
fits-small_learn l (SmallAt.Newest slab) f none fits = fits-newest_given
    (record l { heap = record l.heap { cached = without_newest l.heap.cached } }) slab l.call.stage refl fits

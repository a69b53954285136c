-- Where a call goes on with small objects, or leaves: what it owes stays.
use Rattle.std.proofs.Common.{◌≡◌, ℕ, Bool, true, false, refl, ap, ◌∙◌}
use Rattle.std.specs.Prelude.{None, Option, Some, eqb, ◌||◌}
use Rattle.heap_slabs.specs.Cached.{surplus_of}
use Rattle.heap_slabs.specs.Heaps.{next_to_leave}
use Rattle.heap_slabs.specs.Rolls.{after_push, newest_of, oldest_of, without_newest}
use Rattle.heap_slabs.specs.Slabs.{after_remove, first_of_class}
use Rattle.heap_slabs.specs.declared.heap.Leaving.{Leaving}
use Rattle.heap_slabs.specs.declared.records.HeapSlab.{HeapSlab}
use Rattle.heap_slabs.specs.declared.slabs.Wanted.{Wanted}
use Rattle.mailbox.specs.Boxes.{box_learn}
use Rattle.mailbox.specs.declared.boxes.BoxAt.{BoxAt}
use Rattle.mailbox.specs.declared.boxes.BoxNext.{BoxNext}
use Rattle.orphans.specs.Adopting.{adopt_learn}
use Rattle.orphans.specs.Leaving.{leave_learn}
use Rattle.orphans.specs.declared.adopting.AdoptAt.{AdoptAt}
use Rattle.orphans.specs.declared.adopting.AdoptNext.{AdoptNext}
use Rattle.orphans.specs.declared.leaving.LeaveAt.{LeaveAt}
use Rattle.orphans.specs.declared.leaving.LeaveNext.{LeaveNext}
use Rattle.pool_types.specs.declared.values.Request.{Request}
use Rattle.public_list.specs.Joining.{join_learn}
use Rattle.public_list.specs.declared.joining.JoinAt.{JoinAt}
use Rattle.public_list.specs.declared.joining.JoinNext.{JoinNext}
use Rattle.step_local.specs.Leaving.{leave_learn_of, leaving, leaving_as, left_as, with_slabs}
use Rattle.step_local.specs.Slabs.{adopt_learn_of, adopted_as, adopted_at, adopting_on, adopts_enough, box_learn_of}
use Rattle.step_local.specs.Slabs.{boxed_as, cached_or_asked, class_of_served, emptied_at, fetched, fetched_at}
use Rattle.step_local.specs.Slabs.{found_slab, getting_small, join_learn_of, joined_as, left_or_waits, looking_on}
use Rattle.step_local.specs.Slabs.{mailed_on, newest_given, slab_adopted, slab_begun, slab_cached, slab_came}
use Rattle.step_local.specs.Slabs.{slab_emptied, small_learn, spare_learn_of}
use Rattle.step_local.specs.Slabs.{spared_as, spared_on, spares_back, sparing}
use Rattle.step_local.specs.Slabs.{surplus_left, surplus_next, with_joined}
use Rattle.step_local.specs.declared.frames.Local.{Local}
use Rattle.step_local.specs.declared.frames.SmallAt.{SmallAt}
use Rattle.step_local.specs.declared.frames.Stage.{Stage}
use Rattle.step_local.specs.declared.frames.Tried.{Tried}
use Rattle.path_laws.proofs.Fits.{Faces, Rests, either, fits_small, on}
use Rattle.path_laws.proofs.Fits.{is_emptying, is_ending, is_getting, is_giving, is_leaving}
use Rattle.path_laws.proofs.Paying.{nothing_left, rests-ended}

pub giving_to_get : (s : Stage) → is_getting s ≡ true → is_giving s ≡ true
giving_to_get Stage.Getting e = refl
giving_to_get _ e = absurd (cc)

-- the position grants an object
abbrev pub is_grant : SmallAt → Bool
is_grant (SmallAt.Private slab head below) = true
is_grant (SmallAt.Rest slab unit) = true
is_grant _ = false

giving_to_leave : (s : Stage) → is_leaving s ≡ true → is_giving s ≡ true
giving_to_leave Stage.Leaving e = refl
giving_to_leave _ e = absurd (cc)

emptying_to_leave : (s : Stage) (r : Request) → is_leaving s ≡ true → is_emptying s r ≡ true
emptying_to_leave Stage.Leaving r e = refl
emptying_to_leave _ r e = absurd (cc)

-- a heap leaves
rests-leaving_as : (l : Local) (e : is_leaving l.call.stage ≡ true) (what : Leaving) → Rests l (leaving_as l what)
rests-leaving_as l e (Leaving.Cached slab) = on l (is_giving l.call.stage) (giving_to_leave l.call.stage e)
rests-leaving_as l e (Leaving.Unused kept) =
    on l (is_emptying l.call.stage l.call.request) (emptying_to_leave l.call.stage l.call.request e)
rests-leaving_as l e (Leaving.Held kept) = on l (is_leaving l.call.stage) e
rests-leaving_as l e Leaving.Nothing = nothing_left l.call.stage l.call.old l.call.new e

pub rests-leaving : (l : Local) (e : is_leaving l.call.stage ≡ true) → Rests l (leaving l)
rests-leaving l e = rests-leaving_as l e (next_to_leave l.heap)

rests-left_as : (l : Local) (e : is_leaving l.call.stage ≡ true) (slab : ℕ) (next : LeaveNext)
    → Rests l (left_as l slab next)
rests-left_as l e slab (LeaveNext.Goes at) = on l (is_leaving l.call.stage) e
rests-left_as l e slab LeaveNext.Filled = on l (is_giving l.call.stage) (giving_to_leave l.call.stage e)
rests-left_as l e slab LeaveNext.Left = rests-leaving
    (record l { heap = record l.heap { slabs = after_remove l.heap.slabs slab } }) e

pub rests-leave_learn_of : (l : Local) (e : is_leaving l.call.stage ≡ true) (slab : ℕ) (at : LeaveAt) (f : ℕ)
    → Rests l (leave_learn_of l slab at f)
rests-leave_learn_of l e slab at f = rests-left_as l e slab (leave_learn at f)

-- an object is got
rests-cached_or_asked : (l : Local) (e : is_getting l.call.stage ≡ true) (one : Option ℕ)
    → Rests l (cached_or_asked l one)
rests-cached_or_asked l e (Some slab) = on l (is_getting l.call.stage) e
rests-cached_or_asked l e None = on l (is_getting l.call.stage) e

rests-looking_on : (l : Local) (e : is_getting l.call.stage ≡ true) (class : ℕ) (tried : Tried)
    → Rests l (looking_on l class tried)
rests-looking_on l e class Tried.Nothing = on l (is_giving l.call.stage) (giving_to_get l.call.stage e)
rests-looking_on l e class Tried.Mailbox = on l (is_getting l.call.stage) e
rests-looking_on l e class Tried.Orphans = rests-cached_or_asked l e (newest_of l.heap.cached)

rests-found_slab : (l : Local) (e : is_getting l.call.stage ≡ true) (class : ℕ) (found : Option HeapSlab)
    → Rests l (found_slab l class found)
rests-found_slab l e class (Some kept) = on l (is_getting l.call.stage) e
rests-found_slab l e class None = rests-looking_on l e class l.call.tried

pub rests-getting_small : (l : Local) (e : is_getting l.call.stage ≡ true) (class : ℕ)
    → Rests l (getting_small l class)
rests-getting_small l e class = rests-found_slab l e class (first_of_class Wanted.WithObject l.heap.slabs class)

-- the mailbox, or the orphans, have been dealt with
rests-left_or_waits : (l : Local) (e : is_leaving l.call.stage ≡ true) (b : Bool) → Rests l (left_or_waits l b)
rests-left_or_waits l e true = rests-leaving l e
rests-left_or_waits l e false = on l (is_giving l.call.stage) (giving_to_leave l.call.stage e)

rests-fetched_at : (l : Local) (s : Stage) → l.call.stage ≡ s → is_giving s ≡ true → Rests l (fetched_at l s)
rests-fetched_at l Stage.Getting is e = rests-getting_small l (ap is_getting is) (class_of_served l.call.served)
rests-fetched_at l Stage.Leaving is e = rests-left_or_waits l (ap is_leaving is) l.fetch.came
rests-fetched_at l _ is e = absurd (cc)

rests-fetched : (l : Local) (e : is_giving l.call.stage ≡ true) → Rests l (fetched l)
rests-fetched l e = rests-fetched_at l l.call.stage refl e

rests-mailed_on : (l : Local) (e : is_giving l.call.stage ≡ true) (one : Option ℕ) → Rests l (mailed_on l one)
rests-mailed_on l e (Some slab) = on l (is_giving l.call.stage) e
rests-mailed_on l e None = rests-fetched l e

rests-slab_came : (l : Local) (e : is_giving l.call.stage ≡ true) (slab : ℕ) (rest : Option ℕ)
    → Rests l (slab_came l slab rest)
rests-slab_came l e slab rest = rests-mailed_on
    (record l { fetch = record l.fetch { came = l.fetch.came || eqb slab l.fetch.awaited } }) e rest

rests-boxed_as : (l : Local) (e : is_giving l.call.stage ≡ true) (next : BoxNext) → Rests l (boxed_as l next)
rests-boxed_as l e (BoxNext.Goes at) = on l (is_giving l.call.stage) e
rests-boxed_as l e BoxNext.Empty = rests-fetched l e
rests-boxed_as l e (BoxNext.Unchanged slab rest) = rests-slab_came l e slab rest
rests-boxed_as l e (BoxNext.Joined slab first count rest) =
    rests-slab_came (with_joined l slab first count) e slab rest

pub rests-box_learn_of : (l : Local) (e : is_giving l.call.stage ≡ true) (at : BoxAt) (f : ℕ)
    → Rests l (box_learn_of l at f)
rests-box_learn_of l e at f = rests-boxed_as l e (box_learn at f)

rests-sparing : (l : Local) (e : is_getting l.call.stage ≡ true) (one : Option ℕ) → Rests l (sparing l one)
rests-sparing l e (Some slab) = on l (is_getting l.call.stage) e
rests-sparing l e None = rests-fetched l (giving_to_get l.call.stage e)

rests-spares_back : (l : Local) (e : is_getting l.call.stage ≡ true) → Rests l (spares_back l)
rests-spares_back l e = rests-sparing l e (newest_of l.heap.spares)

rests-spared_on : (l : Local) (e : is_getting l.call.stage ≡ true) (one : Option ℕ) → Rests l (spared_on l one)
rests-spared_on l e (Some slab) = on l (is_getting l.call.stage) e
rests-spared_on l e None = rests-spares_back l e

rests-adopted_as : (l : Local) (e : is_getting l.call.stage ≡ true) (next : AdoptNext) → Rests l (adopted_as l next)
rests-adopted_as l e (AdoptNext.Goes at) = on l (is_getting l.call.stage) e
rests-adopted_as l e AdoptNext.Empty = rests-fetched l (giving_to_get l.call.stage e)
rests-adopted_as l e (AdoptNext.Adopted slab header rest) = on l (is_getting l.call.stage) e
rests-adopted_as l e (AdoptNext.Spared slab rest) = rests-spared_on
    (record l { heap = record l.heap { spares = after_push l.heap.spares slab } }) e rest

pub rests-adopt_learn_of : (l : Local) (e : is_getting l.call.stage ≡ true) (at : AdoptAt) (f : ℕ)
    → Rests l (adopt_learn_of l at f)
rests-adopt_learn_of l e at f = rests-adopted_as l e (adopt_learn at f)

rests-adopting_on : (l : Local) (e : is_getting l.call.stage ≡ true) (enough : Bool) (one : Option ℕ)
    → Rests l (adopting_on l enough one)
rests-adopting_on l e enough None = rests-fetched l (giving_to_get l.call.stage e)
rests-adopting_on l e enough (Some slab) = on l (is_getting l.call.stage) e

rests-adopted_at : (l : Local) (slab : ℕ) (rest : Option ℕ) (s : Stage) → l.call.stage ≡ s → is_getting s ≡ true
    → Rests l (adopted_at l slab rest s)
rests-adopted_at l slab rest Stage.Getting is e = rests-adopting_on l (ap is_getting is) (adopts_enough l slab) rest
rests-adopted_at l slab rest _ is e = absurd (cc)

rests-slab_adopted : (l : Local) (e : is_getting l.call.stage ≡ true) (slab : ℕ) (rest : Option ℕ)
    → Rests l (slab_adopted l slab rest)
rests-slab_adopted l e slab rest = rests-adopted_at l slab rest l.call.stage refl e

rests-joined_as : (l : Local) (e : is_getting l.call.stage ≡ true) (slab : ℕ) (rest : Option ℕ) (next : JoinNext)
    → Rests l (joined_as l slab rest next)
rests-joined_as l e slab rest (JoinNext.Goes at) = on l (is_getting l.call.stage) e
rests-joined_as l e slab rest JoinNext.Nothing = rests-slab_adopted l e slab rest
rests-joined_as l e slab rest (JoinNext.Joined first count) =
    rests-slab_adopted (with_joined l slab first count) e slab rest

pub rests-join_learn_of : (l : Local) (e : is_getting l.call.stage ≡ true) (slab : ℕ) (rest : Option ℕ) (at : JoinAt)
    (f : ℕ) → Rests l (join_learn_of l slab rest at f)
rests-join_learn_of l e slab rest at f = rests-joined_as l e slab rest (join_learn at f)

rests-spared_as : (l : Local) (e : is_getting l.call.stage ≡ true) (next : LeaveNext) → Rests l (spared_as l next)
rests-spared_as l e (LeaveNext.Goes at) = on l (is_getting l.call.stage) e
rests-spared_as l e LeaveNext.Filled = rests-spares_back l e
rests-spared_as l e LeaveNext.Left = rests-spares_back l e

pub rests-spare_learn_of : (l : Local) (e : is_getting l.call.stage ≡ true) (at : LeaveAt) (f : ℕ)
    → Rests l (spare_learn_of l at f)
rests-spare_learn_of l e at f = rests-spared_as l e (leave_learn at f)

-- slabs end
rests-surplus_next : (l : Local) (e : is_ending l.call.stage l.call.request ≡ true) (f : Faces l) (one : Option ℕ)
    → Rests l (surplus_next l one)
rests-surplus_next l e f (Some slab) = on l (is_ending l.call.stage l.call.request) e
rests-surplus_next l e f None = rests-ended l e f

pub rests-surplus_left : (l : Local) (e : is_ending l.call.stage l.call.request ≡ true) (f : Faces l)
    → Rests l (surplus_left l)
rests-surplus_left l e f = either l (eqb l.call.surplus 0) _ _ (rests-ended l e f)
    (rests-surplus_next l e f (oldest_of l.heap.cached))

rests-slab_cached : (l : Local) (e : is_ending l.call.stage l.call.request ≡ true) (f : Faces l) (slab : ℕ)
    → Rests l (slab_cached l slab)
rests-slab_cached l e f slab = rests-surplus_left (record l {
  heap = record l.heap { cached = after_push l.heap.cached slab };
  call = record l.call { surplus = surplus_of (after_push l.heap.cached slab) };
}) e f

rests-emptied_at : (l : Local) (slab : ℕ) (s : Stage) → l.call.stage ≡ s → is_emptying s l.call.request ≡ true
    → Rests l (emptied_at l slab s)
rests-emptied_at l slab Stage.Getting is e = on l (is_getting l.call.stage) (ap is_getting is)
rests-emptied_at l slab Stage.Leaving is e = on l (is_leaving l.call.stage) (ap is_leaving is)
rests-emptied_at l slab Stage.Ending is e =
    on l (is_ending l.call.stage l.call.request) (ap (λ (s : Stage). is_ending s l.call.request) is ∙ e)
rests-emptied_at l slab Stage.Replacing is e =
    on l (is_ending l.call.stage l.call.request) (ap (λ (s : Stage). is_ending s l.call.request) is ∙ e)
rests-emptied_at l slab Stage.Undoing is e =
    on l (is_ending l.call.stage l.call.request) (ap (λ (s : Stage). is_ending s l.call.request) is ∙ e)
rests-emptied_at l slab _ is e = absurd (cc)

rests-slab_emptied : (l : Local) (e : is_emptying l.call.stage l.call.request ≡ true) (slab : ℕ)
    → Rests l (slab_emptied l slab)
rests-slab_emptied l e slab =
    rests-emptied_at (with_slabs l (after_remove l.heap.slabs slab)) slab l.call.stage refl e

rests-newest_given : (l : Local) (slab : ℕ) (s : Stage) → l.call.stage ≡ s → is_giving s ≡ true
    → Rests l (newest_given l slab s)
rests-newest_given l slab Stage.Leaving is e = on l (is_leaving l.call.stage) (ap is_leaving is)
rests-newest_given l slab Stage.Getting is e = on l (is_getting l.call.stage) (ap is_getting is)
rests-newest_given l slab _ is e = absurd (cc)

rests-slab_begun : (l : Local) (e : is_getting l.call.stage ≡ true) (slab : ℕ) → Rests l (slab_begun l slab)
rests-slab_begun l e slab = on l (is_getting l.call.stage) e

-- at each position but those that grant
pub rests-small_learn : (l : Local) (f : Faces l) (at : SmallAt) (found : ℕ)
    → fits_small l.call.stage l.call.request at ≡ true → is_grant at ≡ false → Rests l (small_learn l at found)
rests-small_learn l f (SmallAt.Uncache slab) found e no_grant = on l (is_getting l.call.stage) e
rests-small_learn l f (SmallAt.Next slab) found e no_grant = on l (is_getting l.call.stage) e
rests-small_learn l f (SmallAt.Public slab) found e no_grant = on l (is_getting l.call.stage) e
rests-small_learn l f (SmallAt.Own slab) found e no_grant = on l (is_getting l.call.stage) e
rests-small_learn l f (SmallAt.Kind slab) found e no_grant = rests-slab_begun l e slab
rests-small_learn l f (SmallAt.Behind slab head) found e no_grant = on l (is_getting l.call.stage) e
rests-small_learn l f (SmallAt.Private slab head below) found e no_grant = absurd (cc)
rests-small_learn l f (SmallAt.Rest slab unit) found e no_grant = absurd (cc)
rests-small_learn l f (SmallAt.Empty slab) found e no_grant = rests-slab_emptied l e slab
rests-small_learn l f (SmallAt.Cache slab) found e no_grant = rests-slab_cached l e f slab
rests-small_learn l f (SmallAt.Oldest slab) found e no_grant = on l (is_ending l.call.stage l.call.request) e
rests-small_learn l f (SmallAt.Newest slab) found e no_grant = rests-newest_given (record l {
  heap = record l.heap { cached = without_newest l.heap.cached };
}) slab l.call.stage refl e

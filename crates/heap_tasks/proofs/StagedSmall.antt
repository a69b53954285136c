-- A call goes on with small objects, or leaves, at its stage.
use Rattle.std.proofs.Common.{◌≡◌, Bool, eqb, false, refl, subst, sym, true, ℕ}
use Rattle.std.specs.Prelude.{None, Option, Some, [], ◌∷◌}
use Rattle.heap_slabs.specs.Heaps.{next_to_leave}
use Rattle.heap_slabs.specs.Rolls.{newest_of, oldest_of}
use Rattle.heap_slabs.specs.Slabs.{first_of_class}
use Rattle.heap_slabs.specs.declared.heap.Leaving.{Leaving}
use Rattle.heap_slabs.specs.declared.records.HeapSlab.{HeapSlab}
use Rattle.heap_slabs.specs.declared.slabs.Wanted.{Wanted}
use Rattle.orphans.specs.Leaving.{leave_learn}
use Rattle.orphans.specs.declared.leaving.LeaveAt.{LeaveAt}
use Rattle.orphans.specs.declared.leaving.LeaveNext.{LeaveNext}
use Rattle.pool_types.specs.declared.values.Found.{Found}
use Rattle.step_local.specs.Answers.{lost_at, lost_end}
use Rattle.step_local.specs.Leaving.{leaving, leaving_as}
use Rattle.step_local.specs.Slabs.{adopting_on}
use Rattle.step_local.specs.Slabs.{cached_or_asked}
use Rattle.step_local.specs.Slabs.{class_of_served, emptied_at, fetched, fetched_at, found_slab, getting_small}
use Rattle.step_local.specs.Slabs.{left_or_waits, looking_on}
use Rattle.step_local.specs.Slabs.{slab_adopted}
use Rattle.step_local.specs.Slabs.{spare_learn_of, spared_as, spared_on, spares_back, sparing, surplus_left}
use Rattle.step_local.specs.Slabs.{surplus_next, adopted_at, adopts_enough, newest_given}
use Rattle.step_local.specs.declared.frames.Local.{Local}
use Rattle.step_local.specs.declared.frames.Stage.{Stage}
use Rattle.step_local.specs.declared.frames.Tried.{Tried}
use Rattle.heap_tasks.specs.Notes.{IsTail, noted, notes_by, notes_of}
use Rattle.heap_tasks.specs.Stages.{IsEnding, IsGetting, IsLeaving, IsResetting, MayAdopt, MayEmpty, MayFetch}
use Rattle.heap_tasks.proofs.Staged.{Goes, adopting_fetches, either, getting_adopts, getting_fetches, leaving_empties}
use Rattle.heap_tasks.proofs.Staged.{leaving_fetches, none_left}
use Rattle.heap_tasks.proofs.StagedResets.{goes-orphan_adopted, goes-reset_on}

lost_at_replaced : (l : Local) (found : Found) → l.call.stage ≡ Stage.Replacing
    → Goes l (lost_at l found Stage.Replacing)
lost_at_replaced l found at = (
  tt,
  subst (λ s. IsTail (noted l.call.new ∷ noted l.call.old ∷ [])
      (notes_by l.call.request l.call.old l.call.new s)) (sym at) IsTail.all,
)

goes-lost_at : (l : Local) (found : Found) (stage : Stage) → l.call.stage ≡ stage → IsEnding stage
    → Goes l (lost_at l found stage)
goes-lost_at l found Stage.Replacing at is = lost_at_replaced l found at
goes-lost_at l found Stage.Undoing at is = (tt, none_left (notes_of l))
goes-lost_at l found Stage.Ending at is = (tt, none_left (notes_of l))
goes-lost_at l found _ at is = absurd is

pub goes-lost_end : (l : Local) (found : Found) → IsEnding l.call.stage → Goes l (lost_end l found)
goes-lost_end l found is = goes-lost_at l found l.call.stage refl is

pub goes-leaving_as : (l : Local) (what : Leaving) → IsLeaving l.call.stage → Goes l (leaving_as l what)
goes-leaving_as l (Leaving.Cached slab) is = (leaving_fetches l.call.stage is, IsTail.all)
goes-leaving_as l (Leaving.Unused kept) is = (leaving_empties l.call.stage is, IsTail.all)
goes-leaving_as l (Leaving.Held kept) is = (is, IsTail.all)
goes-leaving_as l Leaving.Nothing is = (tt, none_left (notes_of l))

pub goes-leaving : (l : Local) → IsLeaving l.call.stage → Goes l (leaving l)
goes-leaving l is = goes-leaving_as l (next_to_leave l.heap) is

pub goes-cached_or_asked : (l : Local) (one : Option ℕ) → IsGetting l.call.stage → Goes l (cached_or_asked l one)
goes-cached_or_asked l (Some slab) is = (is, IsTail.all)
goes-cached_or_asked l None is = (is, IsTail.all)

pub goes-looking_on : (l : Local) (class : ℕ) (tried : Tried) → IsGetting l.call.stage
    → Goes l (looking_on l class tried)
goes-looking_on l class Tried.Nothing is = (getting_fetches l.call.stage is, IsTail.all)
goes-looking_on l class Tried.Mailbox is = (getting_adopts l.call.stage is, IsTail.all)
goes-looking_on l class Tried.Orphans is = goes-cached_or_asked l (newest_of l.heap.cached) is

pub goes-found_slab : (l : Local) (class : ℕ) (found : Option HeapSlab) → IsGetting l.call.stage
    → Goes l (found_slab l class found)
goes-found_slab l class (Some kept) is = (is, IsTail.all)
goes-found_slab l class None is = goes-looking_on l class l.call.tried is

pub goes-getting_small : (l : Local) (class : ℕ) → IsGetting l.call.stage → Goes l (getting_small l class)
goes-getting_small l class is = goes-found_slab l class (first_of_class Wanted.WithObject l.heap.slabs class) is

pub goes-left_or_waits : (l : Local) (b : Bool) → IsLeaving l.call.stage → Goes l (left_or_waits l b)
goes-left_or_waits l true is = goes-leaving l is
goes-left_or_waits l false is = (leaving_fetches l.call.stage is, IsTail.all)

goes-fetched_at : (l : Local) (stage : Stage) → l.call.stage ≡ stage → MayFetch stage → Goes l (fetched_at l stage)
goes-fetched_at l Stage.Getting at is =
    goes-getting_small l (class_of_served l.call.served) (subst IsGetting (sym at) tt)
goes-fetched_at l Stage.Leaving at is = goes-left_or_waits l l.fetch.came (subst IsLeaving (sym at) tt)
goes-fetched_at l (Stage.Resetting stage) at is = goes-reset_on l stage (subst IsResetting (sym at) tt)
goes-fetched_at l _ at is = absurd is

pub goes-fetched : (l : Local) → MayFetch l.call.stage → Goes l (fetched l)
goes-fetched l is = goes-fetched_at l l.call.stage refl is

pub goes-sparing : (l : Local) (one : Option ℕ) → MayAdopt l.call.stage → Goes l (sparing l one)
goes-sparing l (Some slab) is = (is, IsTail.all)
goes-sparing l None is = goes-fetched l (adopting_fetches l.call.stage is)

pub goes-spares_back : (l : Local) → MayAdopt l.call.stage → Goes l (spares_back l)
goes-spares_back l is = goes-sparing l (newest_of l.heap.spares) is

pub goes-spared_on : (l : Local) (one : Option ℕ) → MayAdopt l.call.stage → Goes l (spared_on l one)
goes-spared_on l (Some slab) is = (is, IsTail.all)
goes-spared_on l None is = goes-spares_back l is

pub goes-adopting_on : (l : Local) (enough : Bool) (one : Option ℕ) → MayAdopt l.call.stage
    → Goes l (adopting_on l enough one)
goes-adopting_on l enough None is = goes-fetched l (adopting_fetches l.call.stage is)
goes-adopting_on l enough (Some slab) is = (is, IsTail.all)

goes-adopted_at : (l : Local) (slab : ℕ) (rest : Option ℕ) (stage : Stage) → l.call.stage ≡ stage → MayAdopt stage
    → Goes l (adopted_at l slab rest stage)
goes-adopted_at l slab rest (Stage.Resetting stage) at is = goes-orphan_adopted l slab rest
goes-adopted_at l slab rest Stage.Getting at is =
    goes-adopting_on l (adopts_enough l slab) rest (subst MayAdopt (sym at) tt)
goes-adopted_at l slab rest _ at is = absurd is

pub goes-slab_adopted : (l : Local) (slab : ℕ) (rest : Option ℕ) → MayAdopt l.call.stage
    → Goes l (slab_adopted l slab rest)
goes-slab_adopted l slab rest is = goes-adopted_at l slab rest l.call.stage refl is

pub goes-spared_as : (l : Local) (next : LeaveNext) → MayAdopt l.call.stage → Goes l (spared_as l next)
goes-spared_as l (LeaveNext.Goes at) is = (is, IsTail.all)
goes-spared_as l LeaveNext.Filled is = goes-spares_back l is
goes-spared_as l LeaveNext.Left is = goes-spares_back l is

pub goes-spare_learn_of : (l : Local) (at : LeaveAt) (f : ℕ) → MayAdopt l.call.stage → Goes l (spare_learn_of l at f)
goes-spare_learn_of l at f is = goes-spared_as l (leave_learn at f) is

pub goes-surplus_next : (l : Local) (one : Option ℕ) → IsEnding l.call.stage → Goes l (surplus_next l one)
goes-surplus_next l (Some slab) is = (is, IsTail.all)
goes-surplus_next l None is = (tt, none_left (notes_of l))

pub goes-surplus_left : (l : Local) → IsEnding l.call.stage → Goes l (surplus_left l)
goes-surplus_left l is =
    either l (eqb l.call.surplus 0) _ _ (tt, none_left (notes_of l)) (goes-surplus_next l (oldest_of l.heap.cached) is)

pub goes-emptied_at : (l : Local) (slab : ℕ) (stage : Stage) → l.call.stage ≡ stage → MayEmpty stage
    → Goes l (emptied_at l slab stage)
goes-emptied_at l slab Stage.Getting at is = (subst IsGetting (sym at) tt, IsTail.all)
goes-emptied_at l slab Stage.Leaving at is = (subst IsLeaving (sym at) tt, IsTail.all)
goes-emptied_at l slab Stage.Ending at is = (subst IsEnding (sym at) tt, IsTail.all)
goes-emptied_at l slab Stage.Replacing at is = (subst IsEnding (sym at) tt, IsTail.all)
goes-emptied_at l slab Stage.Undoing at is = (subst IsEnding (sym at) tt, IsTail.all)
goes-emptied_at l slab (Stage.Resetting stage) at is = (tt, none_left (notes_of l))
goes-emptied_at l slab _ at is = absurd is

pub goes-newest_given : (l : Local) (slab : ℕ) (stage : Stage) → l.call.stage ≡ stage → MayFetch stage
    → Goes l (newest_given l slab stage)
goes-newest_given l slab Stage.Getting at is = (subst IsGetting (sym at) tt, IsTail.all)
goes-newest_given l slab Stage.Leaving at is = (subst IsLeaving (sym at) tt, IsTail.all)
goes-newest_given l slab (Stage.Resetting stage) at is = (tt, none_left (notes_of l))
goes-newest_given l slab _ at is = absurd is

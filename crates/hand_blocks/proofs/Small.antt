-- What is in hand where a call goes on with small objects, or leaves.
use Rattle.std.proofs.Common.{◌≡◌, ℕ, Bool, true, false, List, [], ◌∷◌, eqb, refl, sym, subst}
use Rattle.std.specs.Prelude.{None, Option, Some, ◌||◌}
use Rattle.pool_types.specs.Geometry.{slab_granules}
use Rattle.pool_types.specs.declared.values.Found.{Found}
use Rattle.heap_slabs.specs.Heaps.{next_to_leave}
use Rattle.heap_slabs.specs.Rolls.{after_push, newest_of, oldest_of}
use Rattle.heap_slabs.specs.Slabs.{after_remove, first_of_class}
use Rattle.heap_slabs.specs.Cached.{surplus_of}
use Rattle.heap_slabs.specs.declared.heap.Leaving.{Leaving}
use Rattle.heap_slabs.specs.declared.records.HeapSlab.{HeapSlab}
use Rattle.heap_slabs.specs.declared.slabs.Wanted.{Wanted}
use Rattle.mailbox.specs.declared.boxes.BoxNext.{BoxNext}
use Rattle.orphans.specs.declared.adopting.AdoptNext.{AdoptNext}
use Rattle.orphans.specs.declared.leaving.LeaveNext.{LeaveNext}
use Rattle.public_list.specs.declared.joining.JoinNext.{JoinNext}
use Rattle.backend_bins.specs.declared.blocks.Block.{Block}
use Rattle.backend_bins.specs.declared.blocks.Want.{Want}
use Rattle.step_local.specs.Answers.{lost_at}
use Rattle.step_local.specs.Leaving.{asking, left_as, leaving, leaving_as, scanning, with_slabs}
use Rattle.step_local.specs.Slabs.{adopted_as, adopted_at, adopting_on, adopts_enough, boxed_as, cached_or_asked}
use Rattle.step_local.specs.Slabs.{class_of_served}
use Rattle.step_local.specs.Slabs.{emptied_at, fetched, fetched_at, found_slab, getting_small, joined_as}
use Rattle.step_local.specs.Slabs.{left_or_waits}
use Rattle.step_local.specs.Slabs.{looking_on, mailed_on, newest_given, slab_adopted, slab_cached, slab_came}
use Rattle.step_local.specs.Slabs.{slab_emptied}
use Rattle.step_local.specs.Slabs.{spared_as, spared_on, spares_back, sparing, surplus_left, surplus_next}
use Rattle.step_local.specs.Slabs.{with_joined}
use Rattle.step_local.specs.declared.frames.Local.{Local}
use Rattle.step_local.specs.declared.frames.ResetStage.{ResetStage}
use Rattle.step_local.specs.declared.frames.Served.{Served}
use Rattle.step_local.specs.declared.frames.Stage.{Stage}
use Rattle.step_local.specs.declared.frames.Tried.{Tried}
use Rattle.hand_blocks.specs.Changes.{emptied_taking}
use Rattle.hand_blocks.specs.Fits.{AsksFit, EmptyFits, IsAskedFor, IsLeaving, IsOfSlabs, IsSmall, NewestFits}
use Rattle.hand_blocks.specs.Fits.{SlabsFit}
use Rattle.hand_blocks.specs.Hands.{Hand, beside_bin, hand, joining, located_hands}
use Rattle.hand_blocks.proofs.Lands.{LandsOn, either, lands-ended, lands-ending, lands_as}
use Rattle.hand_blocks.proofs.Resets.{lands-orphan_adopted, lands-reset_on}

pub lands-lost_at : (l : Local) (found : Found) (stage : Stage) → LandsOn (lost_at l found stage) []
lands-lost_at l found Stage.Replacing =
    lands-ending (record l { call = record l.call { lost = found } }) Stage.Undoing tt
lands-lost_at l found Stage.Undoing = record { has = refl; fits = tt }
lands-lost_at l found Stage.Ending = record { has = refl; fits = tt }
lands-lost_at l found Stage.Idle = record { has = refl; fits = tt }
lands-lost_at l found Stage.Looking = record { has = refl; fits = tt }
lands-lost_at l found Stage.Getting = record { has = refl; fits = tt }
lands-lost_at l found Stage.Leaving = record { has = refl; fits = tt }
lands-lost_at l found (Stage.Resetting stage) = record { has = refl; fits = tt }

newest_leaving : (l : Local) (stage : Stage) → IsLeaving stage → NewestFits l stage
newest_leaving l Stage.Leaving is = tt
newest_leaving l _ is = absurd is

empty_leaving : (l : Local) (stage : Stage) → IsLeaving stage → EmptyFits l stage
empty_leaving l Stage.Leaving is = tt
empty_leaving l _ is = absurd is

slabs_leaving : (served : Served) (stage : Stage) → IsLeaving stage → SlabsFit served stage
slabs_leaving served Stage.Leaving is = tt
slabs_leaving served _ is = absurd is

pub lands-leaving_as : (l : Local) (what : Leaving) → IsLeaving l.call.stage → LandsOn (leaving_as l what) []
lands-leaving_as l (Leaving.Cached slab) is = record { has = refl; fits = newest_leaving l l.call.stage is }
lands-leaving_as l (Leaving.Unused kept) is = record { has = refl; fits = empty_leaving l l.call.stage is }
lands-leaving_as l (Leaving.Held kept) is = record { has = refl; fits = is }
lands-leaving_as l Leaving.Nothing is = record { has = refl; fits = tt }

pub lands-leaving : (l : Local) → IsLeaving l.call.stage → LandsOn (leaving l) []
lands-leaving l is = lands-leaving_as l (next_to_leave l.heap) is

pub lands-left_as : (l : Local) (slab : ℕ) (next : LeaveNext) → IsLeaving l.call.stage
    → LandsOn (left_as l slab next) []
lands-left_as l slab (LeaveNext.Goes at) is = record { has = refl; fits = is }
lands-left_as l slab LeaveNext.Filled is = record { has = refl; fits = slabs_leaving l.call.served l.call.stage is }
lands-left_as l slab LeaveNext.Left is = lands-leaving
    (record l { heap = record l.heap { slabs = after_remove l.heap.slabs slab } }) is

pub lands-scanning : (l : Local) → AsksFit l.call.stage l.call.served l.ask.want → LandsOn (scanning l) []
lands-scanning l asks = record { has = refl; fits = (asks, tt) }

pub lands-asking : (l : Local) (want : Want) → AsksFit l.call.stage l.call.served want → LandsOn (asking l want) []
lands-asking l want asks = record { has = refl; fits = (asks, tt) }

-- a slab is looked for in a call that gets a small object
pub record GetsSmall (l : Local) : Type 0 where
  pub stage : l.call.stage ≡ Stage.Getting
  pub small : IsSmall l.call.served

slabs_getting : (l : Local) → GetsSmall l → SlabsFit l.call.served l.call.stage
slabs_getting l is = subst (SlabsFit l.call.served) (sym is.stage) is.small

asks_slab : (served : Served) → IsSmall served → IsAskedFor served (record { granules = slab_granules; slab = true })
asks_slab (Served.Small class) is = refl
asks_slab (Served.Large granules alignment) is = absurd is

pub located_small : (b : Block) (served : Served) → IsSmall served → located_hands b served ≡ []
located_small b (Served.Small class) is = refl
located_small b (Served.Large granules alignment) is = absurd is

lands-cached_or_asked : (l : Local) (one : Option ℕ) → GetsSmall l → LandsOn (cached_or_asked l one) []
lands-cached_or_asked l (Some slab) is = record { has = refl; fits = is.small }
lands-cached_or_asked l None is = lands-asking l (record { granules = slab_granules; slab = true })
    (subst (λ stage. AsksFit stage l.call.served (record { granules = slab_granules; slab = true })) (sym is.stage)
    (asks_slab l.call.served is.small))

lands-looking_on : (l : Local) (class : ℕ) (tried : Tried) → GetsSmall l → LandsOn (looking_on l class tried) []
lands-looking_on l class Tried.Nothing is = record { has = refl; fits = slabs_getting l is }
lands-looking_on l class Tried.Mailbox is = record { has = refl; fits = slabs_getting l is }
lands-looking_on l class Tried.Orphans is = lands-cached_or_asked l (newest_of l.heap.cached) is

lands-found_slab : (l : Local) (class : ℕ) (found : Option HeapSlab) → GetsSmall l
    → LandsOn (found_slab l class found) []
lands-found_slab l class
    (Some kept) is = record { has = located_small l.call.block l.call.served is.small; fits = tt }
lands-found_slab l class None is = lands-looking_on l class l.call.tried is

pub lands-getting_small : (l : Local) (class : ℕ) → GetsSmall l → LandsOn (getting_small l class) []
lands-getting_small l class is = lands-found_slab l class (first_of_class Wanted.WithObject l.heap.slabs class) is

lands-left_or_waits : (l : Local) (came : Bool) → IsLeaving l.call.stage → LandsOn (left_or_waits l came) []
lands-left_or_waits l true is = lands-leaving l is
lands-left_or_waits l false is = record { has = refl; fits = slabs_leaving l.call.served l.call.stage is }

-- a reset that gives up slabs has nothing that the cache released
resets_slabs : (l : Local) (stage : ResetStage) → IsOfSlabs stage → beside_bin l (Stage.Resetting stage) [] ≡ []
resets_slabs l (ResetStage.Heap class) is = refl
resets_slabs l (ResetStage.Orphans rest) is = refl
resets_slabs l _ is = absurd is

lands-fetched_at : (l : Local) (stage : Stage) → l.call.stage ≡ stage → SlabsFit l.call.served stage
    → LandsOn (fetched_at l stage) []
lands-fetched_at l Stage.Getting is fits =
    lands-getting_small l (class_of_served l.call.served) (record { stage = is; small = fits })
lands-fetched_at l Stage.Leaving is fits = lands-left_or_waits l l.fetch.came (subst IsLeaving (sym is) tt)
lands-fetched_at l Stage.Idle is fits = record { has = refl; fits = tt }
lands-fetched_at l Stage.Looking is fits = record { has = refl; fits = tt }
lands-fetched_at l Stage.Ending is fits = record { has = refl; fits = tt }
lands-fetched_at l Stage.Replacing is fits = record { has = refl; fits = tt }
lands-fetched_at l Stage.Undoing is fits = record { has = refl; fits = tt }
lands-fetched_at l (Stage.Resetting stage) is fits = lands_as (fetched_at l (Stage.Resetting stage)).0
    (beside_bin l (Stage.Resetting stage) []) [] (resets_slabs l stage fits) (lands-reset_on l stage is)

pub lands-fetched : (l : Local) → SlabsFit l.call.served l.call.stage → LandsOn (fetched l) []
lands-fetched l fits = lands-fetched_at l l.call.stage refl fits

lands-mailed_on : (l : Local) (one : Option ℕ) → SlabsFit l.call.served l.call.stage → LandsOn (mailed_on l one) []
lands-mailed_on l (Some slab) fits = record { has = refl; fits = fits }
lands-mailed_on l None fits = lands-fetched l fits

lands-slab_came : (l : Local) (slab : ℕ) (rest : Option ℕ) → SlabsFit l.call.served l.call.stage
    → LandsOn (slab_came l slab rest) []
lands-slab_came l slab rest fits = lands-mailed_on
    (record l { fetch = record l.fetch { came = l.fetch.came || eqb slab l.fetch.awaited } }) rest fits

pub lands-boxed_as : (l : Local) (next : BoxNext) → SlabsFit l.call.served l.call.stage → LandsOn (boxed_as l next) []
lands-boxed_as l (BoxNext.Goes at) fits = record { has = refl; fits = fits }
lands-boxed_as l BoxNext.Empty fits = lands-fetched l fits
lands-boxed_as l (BoxNext.Unchanged slab rest) fits = lands-slab_came l slab rest fits
lands-boxed_as l (BoxNext.Joined slab first count rest) fits =
    lands-slab_came (with_joined l slab first count) slab rest fits

lands-sparing : (l : Local) (one : Option ℕ) → SlabsFit l.call.served l.call.stage → LandsOn (sparing l one) []
lands-sparing l (Some slab) fits = record { has = refl; fits = fits }
lands-sparing l None fits = lands-fetched l fits

lands-spares_back : (l : Local) → SlabsFit l.call.served l.call.stage → LandsOn (spares_back l) []
lands-spares_back l fits = lands-sparing l (newest_of l.heap.spares) fits

lands-spared_on : (l : Local) (one : Option ℕ) → SlabsFit l.call.served l.call.stage → LandsOn (spared_on l one) []
lands-spared_on l (Some slab) fits = record { has = refl; fits = fits }
lands-spared_on l None fits = lands-spares_back l fits

pub lands-adopted_as : (l : Local) (next : AdoptNext) → SlabsFit l.call.served l.call.stage
    → LandsOn (adopted_as l next) []
lands-adopted_as l (AdoptNext.Goes at) fits = record { has = refl; fits = fits }
lands-adopted_as l AdoptNext.Empty fits = lands-fetched l fits
lands-adopted_as l (AdoptNext.Adopted slab header rest) fits = record { has = refl; fits = fits }
lands-adopted_as l (AdoptNext.Spared slab rest) fits = lands-spared_on
    (record l { heap = record l.heap { spares = after_push l.heap.spares slab } }) rest fits

pub lands-spared_as : (l : Local) (next : LeaveNext) → SlabsFit l.call.served l.call.stage
    → LandsOn (spared_as l next) []
lands-spared_as l (LeaveNext.Goes at) fits = record { has = refl; fits = fits }
lands-spared_as l LeaveNext.Filled fits = lands-spares_back l fits
lands-spared_as l LeaveNext.Left fits = lands-spares_back l fits

lands-adopting_on : (l : Local) (enough : Bool) (rest : Option ℕ) → SlabsFit l.call.served l.call.stage
    → LandsOn (adopting_on l enough rest) []
lands-adopting_on l enough None fits = lands-fetched l fits
lands-adopting_on l enough (Some slab) fits = record { has = refl; fits = fits }

lands-adopted_at : (l : Local) (slab : ℕ) (rest : Option ℕ) (stage : Stage) → SlabsFit l.call.served l.call.stage
    → LandsOn (adopted_at l slab rest stage) []
lands-adopted_at l slab rest (Stage.Resetting stage) fits = lands-orphan_adopted l slab rest
lands-adopted_at l slab rest Stage.Idle fits = lands-adopting_on l (adopts_enough l slab) rest fits
lands-adopted_at l slab rest Stage.Looking fits = lands-adopting_on l (adopts_enough l slab) rest fits
lands-adopted_at l slab rest Stage.Getting fits = lands-adopting_on l (adopts_enough l slab) rest fits
lands-adopted_at l slab rest Stage.Ending fits = lands-adopting_on l (adopts_enough l slab) rest fits
lands-adopted_at l slab rest Stage.Replacing fits = lands-adopting_on l (adopts_enough l slab) rest fits
lands-adopted_at l slab rest Stage.Undoing fits = lands-adopting_on l (adopts_enough l slab) rest fits
lands-adopted_at l slab rest Stage.Leaving fits = lands-adopting_on l (adopts_enough l slab) rest fits

lands-slab_adopted : (l : Local) (slab : ℕ) (rest : Option ℕ) → SlabsFit l.call.served l.call.stage
    → LandsOn (slab_adopted l slab rest) []
lands-slab_adopted l slab rest fits = lands-adopted_at l slab rest l.call.stage fits

pub lands-joined_as : (l : Local) (slab : ℕ) (rest : Option ℕ) (next : JoinNext) → SlabsFit l.call.served l.call.stage
    → LandsOn (joined_as l slab rest next) []
lands-joined_as l slab rest (JoinNext.Goes at) fits = record { has = refl; fits = fits }
lands-joined_as l slab rest JoinNext.Nothing fits = lands-slab_adopted l slab rest fits
lands-joined_as l slab rest (JoinNext.Joined first count) fits =
    lands-slab_adopted (with_joined l slab first count) slab rest fits

lands-surplus_next : (l : Local) (one : Option ℕ) → LandsOn (surplus_next l one) []
lands-surplus_next l (Some slab) = record { has = refl; fits = tt }
lands-surplus_next l None = lands-ended l

pub lands-surplus_left : (l : Local) → LandsOn (surplus_left l) []
lands-surplus_left l = either (eqb l.call.surplus 0) _ _ []
    (lands-ended l) (lands-surplus_next l (oldest_of l.heap.cached))

pub lands-slab_cached : (l : Local) (slab : ℕ) → LandsOn (slab_cached l slab) []
lands-slab_cached l slab = lands-surplus_left (record l {
  heap = record l.heap { cached = after_push l.heap.cached slab };
  call = record l.call { surplus = surplus_of (after_push l.heap.cached slab) };
})

-- a slab that was emptied is in hand
abbrev pub emptied_hand : ℕ → Stage → List Hand
emptied_hand slab stage = hand slab slab_granules (emptied_taking stage) ∷ []

lands-emptied_at : (l : Local) (slab : ℕ) (stage : Stage) → l.call.stage ≡ stage → EmptyFits l stage
    → LandsOn (emptied_at l slab stage) (emptied_hand slab stage)
lands-emptied_at l slab Stage.Getting is fits = record { has = refl; fits = (fits, tt) }
lands-emptied_at l slab Stage.Leaving is fits = record { has = refl; fits = (subst IsLeaving (sym is) tt, tt) }
lands-emptied_at l slab Stage.Idle is fits = record { has = refl; fits = tt }
lands-emptied_at l slab Stage.Looking is fits = record { has = refl; fits = tt }
lands-emptied_at l slab Stage.Ending is fits = record { has = refl; fits = tt }
lands-emptied_at l slab Stage.Replacing is fits = record { has = refl; fits = tt }
lands-emptied_at l slab Stage.Undoing is fits = record { has = refl; fits = tt }
lands-emptied_at l slab (Stage.Resetting (ResetStage.Heap class)) is fits = record { has = refl; fits = tt }
lands-emptied_at l slab (Stage.Resetting (ResetStage.Orphans rest)) is fits = record { has = refl; fits = tt }
lands-emptied_at l slab (Stage.Resetting _) is fits = absurd fits

pub lands-slab_emptied : (l : Local) (slab : ℕ) → EmptyFits l l.call.stage
    → LandsOn (slab_emptied l slab) (emptied_hand slab l.call.stage)
lands-slab_emptied l slab fits =
    lands-emptied_at (with_slabs l (after_remove l.heap.slabs slab)) slab l.call.stage refl fits

pub lands-newest_given : (l : Local) (slab : ℕ) (stage : Stage) → l.call.stage ≡ stage → NewestFits l stage
    → LandsOn (newest_given l slab stage) (joining (record { first = slab; granules = slab_granules }) ∷ [])
lands-newest_given l slab Stage.Leaving is fits = record { has = refl; fits = (subst IsLeaving (sym is) tt, tt) }
lands-newest_given l slab Stage.Getting is fits = record { has = refl; fits = (fits, tt) }
lands-newest_given l slab Stage.Idle is fits = record { has = refl; fits = (fits, tt) }
lands-newest_given l slab Stage.Looking is fits = record { has = refl; fits = (fits, tt) }
lands-newest_given l slab Stage.Ending is fits = record { has = refl; fits = (fits, tt) }
lands-newest_given l slab Stage.Replacing is fits = record { has = refl; fits = (fits, tt) }
lands-newest_given l slab Stage.Undoing is fits = record { has = refl; fits = (fits, tt) }
lands-newest_given l slab (Stage.Resetting (ResetStage.Heap class)) is fits = record { has = refl; fits = tt }
lands-newest_given l slab (Stage.Resetting (ResetStage.Orphans rest)) is fits = record { has = refl; fits = tt }
lands-newest_given l slab (Stage.Resetting _) is fits = absurd fits

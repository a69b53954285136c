-- How a call begins, and how an object is got in another's place.
use Rattle.std.specs.Prelude.{ℕ, ◌+◌, ◌-◌, ◌%◌, ◌^◌, Bool, true, false, cond, eqb, leb, not, ◌&&◌, ◌||◌, Option, Some}
use Rattle.std.specs.Prelude.{None, Result, Ok, Err}
use Rattle.std.specs.Int.{is_power_of_two}
use Rattle.pool_types.specs.Limits.{region_numbers}
use Rattle.pool_types.specs.declared.values.Answer.{Answer}
use Rattle.pool_types.specs.declared.values.Found.{Found}
use Rattle.pool_types.specs.declared.values.InCall.{InCall}
use Rattle.pool_types.specs.declared.values.NullCause.{NullCause}
use Rattle.pool_types.specs.declared.values.Place.{Place}
use Rattle.pool_types.specs.declared.values.Request.{Request}
use Rattle.pool_types.specs.declared.values.Turn.{Turn}
use Rattle.size_classes.specs.Served.{served, served_plain}
use Rattle.size_classes.specs.declared.Served as classes
use Rattle.heap_slabs.specs.declared.heap.Leaving.{Leaving}
use Rattle.heap_slabs.specs.Heaps.{next_to_leave}
use Rattle.orphans.specs.declared.adopting.AdoptAt.{AdoptAt}
use Rattle.public_list.specs.declared.looking.LookAt.{LookAt}
use Rattle.pool_types.specs.Sums.{capped}
use Rattle.step_local.specs.declared.frames.At.{At}
use Rattle.step_local.specs.declared.frames.LargeAt.{LargeAt}
use Rattle.step_local.specs.declared.frames.Local.{Local}
use Rattle.step_local.specs.declared.frames.Reset.{Reset}
use Rattle.step_local.specs.declared.frames.ResetStage.{ResetStage}
use Rattle.step_local.specs.declared.frames.Served.{Served}
use Rattle.step_local.specs.declared.frames.Stage.{Stage}
use Rattle.step_local.specs.declared.frames.Tried.{Tried}
use Rattle.step_local.specs.Frames.{no_object}
use Rattle.step_local.specs.Answers.{gone, answered, got_of, usable_of, ending, not_held_as}
use Rattle.step_local.specs.Leaving.{leaving_as}
use Rattle.step_local.specs.Resetting.{resetting, heap_on}
use Rattle.step_local.specs.Slabs.{getting_small}

-- a seat's grants have numbers up to this
abbrev pub last_grant : ℕ
last_grant = 2 ^ 55 - 1

-- what a request is served as; none where it is bad
abbrev pub good_of : classes.Served → Option Served
good_of (classes.Served.Small class) = Some (Served.Small class)
good_of (classes.Served.Large granules alignment) = Some (Served.Large granules alignment)
good_of classes.Served.Bad = None

-- what so many bytes at a multiple of the alignment are served as, where one is asked
abbrev pub served_as : ℕ → Option ℕ → Option Served
served_as size (Some alignment) = good_of (served size alignment)
served_as size None = good_of (served_plain size)

-- why nothing is got, where the request and the local decide it
abbrev pub spent_or : Local → Option NullCause → Option NullCause
spent_or l other = cond (leb last_grant l.last) (Some NullCause.NumbersSpent) other

abbrev pub refusal_of : Local → Option Served → Option NullCause
refusal_of l None = Some NullCause.BadRequest
refusal_of l (Some (Served.Small class)) = spent_or l None
refusal_of l (Some (Served.Large granules alignment)) =
    spent_or l (cond (leb l.key.span granules) (Some (NullCause.TooLarge granules)) None)

abbrev pub getting_as : Local → Served → Local
getting_as l served = record l {
  call = record l.call { stage = Stage.Getting; served = served; tried = Tried.Nothing; missed = false };
}

-- an object is to be got
abbrev pub getting : Local → Served → Local × Turn
getting l (Served.Small class) = getting_small (getting_as l (Served.Small class)) class
getting l (Served.Large granules alignment) =
    gone (getting_as l (Served.Large granules alignment)) (At.Large LargeAt.Tick)

abbrev pub get_or : Local → Option Served → Option NullCause → Local × Turn
get_or l wanted (Some cause) = answered l (Answer.Null cause)
get_or l (Some served) None = getting l served
get_or l None None = answered l (Answer.Null NullCause.BadRequest)

abbrev pub getting_or_null : Local → Option Served → Local × Turn
getting_or_null l wanted = get_or l wanted (refusal_of l wanted)

-- whether an address suits the alignment that is asked
abbrev pub suits_alignment : ℕ → Option ℕ → Bool
suits_alignment address None = true
suits_alignment address (Some alignment) = not (eqb alignment 0) && eqb (address % alignment) 0

-- whether an object stays where it is
abbrev pub stays : Local → ℕ → Option ℕ → ℕ → Bool
stays l size alignment base = leb size (usable_of l.call.old.kind l.call.old.unit)
    && suits_alignment (capped (base + l.call.old.offset)) alignment

-- a realloc of an object that is held: to no bytes it is freed, one with room stays, another is got in its place
abbrev pub decided : Local → ℕ → Option ℕ → ℕ → Local × Turn
decided l size alignment base = cond (eqb size 0)
    (ending l Stage.Ending)
    (cond (stays l size alignment base)
    (answered l (got_of l l.call.old))
    (getting_or_null l (served_as size alignment)))

-- a call that makes no step
abbrev pub ready : Local → Answer → Local
ready l answer = record l { at = At.Ready answer }

abbrev pub begun_get_as : Local → Option Served → Option NullCause → Local
begun_get_as l wanted (Some cause) = ready l (Answer.Null cause)
begun_get_as l (Some served) None = (getting l served).0
begun_get_as l None None = ready l (Answer.Null NullCause.BadRequest)

abbrev pub begun_get : Local → Option Served → Local
begun_get l wanted = begun_get_as l wanted (refusal_of l wanted)

-- a place of another pool, or of a region that no pool has, is looked at by no step
abbrev pub is_looked_at : Local → Place → Bool
is_looked_at l place = eqb place.pool l.key.pool && leb (place.region + 1) region_numbers

abbrev pub looking_at : Local → Place → Local
looking_at l place = record l {
  call = record l.call {
    stage = Stage.Looking;
    old = record no_object { number = place.region; offset = place.offset };
  };
  at = At.Look LookAt.Region;
}

abbrev pub begun_look : Local → Request → Place → Local
begun_look l request place =
    cond (is_looked_at l place) (looking_at l place) (ready l (not_held_as request Found.NoPlace))

abbrev pub begun_leave_as : Local → Leaving → Local
begun_leave_as l Leaving.Nothing = ready l Answer.Exited
begun_leave_as l (Leaving.Cached slab) = (leaving_as l (Leaving.Cached slab)).0
begun_leave_as l (Leaving.Unused kept) = (leaving_as l (Leaving.Unused kept)).0
begun_leave_as l (Leaving.Held kept) = (leaving_as l (Leaving.Held kept)).0

abbrev pub begun_leave : Local → Local
begun_leave l =
    let l' : Local = record l { call = record l.call { stage = Stage.Leaving } } in
    begun_leave_as l' (next_to_leave l'.heap)

-- a realloc: of null it gets, else it looks at the place first; the alignment is judged before that
abbrev pub begun_realloc : Local → Request → Option Place → Option Served → Local
begun_realloc l request (Some place) wanted = begun_look l request place
begun_realloc l request None wanted = begun_get l wanted

abbrev pub begun_aligned : Local → Request → Option Place → ℕ → ℕ → Local
begun_aligned l request place size alignment = cond (is_power_of_two alignment)
    (begun_realloc l request place (served_as size (Some alignment)))
    (ready l (Answer.Null NullCause.BadRequest))

-- a question or a free: of null it is answered so
abbrev pub begun_at : Local → Request → Option Place → Answer → Local
begun_at l request (Some place) of_null = begun_look l request place
begun_at l request None of_null = ready l of_null

abbrev pub begun_as : Local → Request → Local
begun_as l (Request.Malloc size) = begun_get l (served_as size None)
begun_as l (Request.Aligned size alignment) = begun_get l (served_as size (Some alignment))
begun_as l (Request.Realloc place size) =
    begun_realloc l (Request.Realloc place size) place (served_as size None)
begun_as l (Request.AlignedRealloc place size alignment) =
    begun_aligned l (Request.AlignedRealloc place size alignment) place size alignment
begun_as l (Request.Free place) = begun_at l (Request.Free place) place Answer.False
begun_as l (Request.Msize place) = begun_at l (Request.Msize place) place (Answer.Size 0)
begun_as l (Request.Identify place) = begun_at l (Request.Identify place) place Answer.NoPool
begun_as l Request.Exit = begun_leave l

abbrev pub asked_for : Local → Request → Local
asked_for l request = record l { call = record l.call { request = request } }

-- a reset of a heap that keeps nothing makes no step
abbrev pub heap_begun : Local → Leaving → Local
heap_begun l Leaving.Nothing = ready l Answer.Exited
heap_begun l (Leaving.Cached slab) = (heap_on l None).0
heap_begun l (Leaving.Unused kept) = (heap_on l None).0
heap_begun l (Leaving.Held kept) = (heap_on l None).0

abbrev pub pool_begun : Local → Local
pool_begun l = record l { fetch = record l.fetch { class = 0 }; at = At.Adopt AdoptAt.Take }

abbrev pub reset_begun_as : Local → Reset → Local
reset_begun_as l Reset.Heap = heap_begun (resetting l (ResetStage.Heap None)) (next_to_leave l.heap)
reset_begun_as l Reset.Pool = pool_begun (resetting l (ResetStage.Orphans None))

-- a call begins where none is begun
abbrev pub is_idle : At → Bool
is_idle At.Idle = true
is_idle _ = false

abbrev pub begun : Local → Request → Local × Result Unit InCall
begun l request = cond (is_idle l.at)
    (begun_as (asked_for l request) request, Ok tt)
    (l, Err (record { seat = l.seat }))

-- and so does a reset
abbrev pub reset_begun : Local → Reset → Local × Result Unit InCall
reset_begun l reset = cond (is_idle l.at) (reset_begun_as l reset, Ok tt) (l, Err (record { seat = l.seat }))

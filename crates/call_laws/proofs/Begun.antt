-- A call that begins asks what is asked.
use Rattle.std.proofs.Common.{◌≡◌, ℕ, Bool, true, false, cond, refl, ap, sym, ◌∙◌}
use Rattle.std.specs.Prelude.{Option, Some, None, Result, Ok, Err}
use Rattle.heap_slabs.specs.declared.heap.Leaving.{Leaving}
use Rattle.heap_slabs.specs.Heaps.{next_to_leave}
use Rattle.std.specs.Int.{is_power_of_two}
use Rattle.pool_types.specs.declared.values.Answer.{Answer}
use Rattle.pool_types.specs.declared.values.InCall.{InCall}
use Rattle.pool_types.specs.declared.values.NullCause.{NullCause}
use Rattle.pool_types.specs.declared.values.Place.{Place}
use Rattle.pool_types.specs.declared.values.Request.{Request}
use Rattle.pool_types.specs.declared.values.Turn.{Turn}
use Rattle.step_local.specs.declared.frames.At.{At}
use Rattle.step_local.specs.declared.frames.Local.{Local}
use Rattle.step_local.specs.declared.frames.Served.{Served}
use Rattle.step_local.specs.declared.frames.Stage.{Stage}
use Rattle.step_local.specs.Getting.{served_as, refusal_of, begun_get_as, begun_get, is_looked_at}
use Rattle.step_local.specs.Getting.{begun_look, begun_leave_as, begun_leave, begun_realloc, begun_aligned, begun_at}
use Rattle.step_local.specs.Getting.{begun_as, asked_for, is_idle, begun, getting}
use Rattle.step_local.specs.Leaving.{leaving_as}
use Rattle.call_laws.specs.Calls.{IsCalling, IsKept, IsAsked, asked_of, is_resetting, is_reset_at, is_outside}
use Rattle.call_laws.proofs.Large.{kept-getting}
use Rattle.call_laws.proofs.Small.{kept-leaving_as}

no_reset : (at : At) → is_outside at ≡ false → is_reset_at at ≡ false
no_reset (At.Reset at) e = absurd (cc)
no_reset _ e = refl

asked_in : (l : Local) (turn : Local × Turn) → IsKept l turn → IsAsked l turn.0
asked_in l turn kept =
    let reset = no_reset turn.0.at (ap (λ t. t.4) kept) in
    λ i. ((kept i).0, (kept i).1, (kept i).2, (kept i).3, reset i)

either_begun : (l : Local) (b : Bool) (x y : Local) → IsAsked l x → IsAsked l y → IsAsked l (cond b x y)
either_begun l true x y one other = one
either_begun l false x y one other = other

kept-begun_get_as : (l : Local) (e : IsCalling l) (wanted : Option Served) (cause : Option NullCause)
    → IsAsked l (begun_get_as l wanted cause)
kept-begun_get_as l e wanted (Some cause) = cc
kept-begun_get_as l e (Some served) None = asked_in l (getting l served) (kept-getting l e served)
kept-begun_get_as l e None None = cc

kept-begun_get : (l : Local) (e : IsCalling l) (wanted : Option Served) → IsAsked l (begun_get l wanted)
kept-begun_get l e wanted = kept-begun_get_as l e wanted (refusal_of l wanted)

kept-begun_look : (l : Local) (e : IsCalling l) (request : Request) (place : Place)
    → IsAsked l (begun_look l request place)
kept-begun_look l e request place = either_begun l (is_looked_at l place) _ _ (cc) (cc)

kept-begun_leave_as : (l : Local) (e : IsCalling l) (what : Leaving) → IsAsked l (begun_leave_as l what)
kept-begun_leave_as l e Leaving.Nothing = cc
kept-begun_leave_as l e (Leaving.Cached slab) =
    asked_in l (leaving_as l (Leaving.Cached slab)) (kept-leaving_as l e (Leaving.Cached slab))
kept-begun_leave_as l e (Leaving.Unused kept) =
    asked_in l (leaving_as l (Leaving.Unused kept)) (kept-leaving_as l e (Leaving.Unused kept))
kept-begun_leave_as l e (Leaving.Held kept) =
    asked_in l (leaving_as l (Leaving.Held kept)) (kept-leaving_as l e (Leaving.Held kept))

kept-begun_leave : (l : Local) → IsAsked l (begun_leave l)
kept-begun_leave l =
    let l' : Local = record l { call = record l.call { stage = Stage.Leaving } } in
    kept-begun_leave_as l' refl (next_to_leave l'.heap)

kept-begun_realloc : (l : Local) (e : IsCalling l) (request : Request) (place : Option Place) (wanted : Option Served)
    → IsAsked l (begun_realloc l request place wanted)
kept-begun_realloc l e request (Some place) wanted = kept-begun_look l e request place
kept-begun_realloc l e request None wanted = kept-begun_get l e wanted

kept-begun_aligned : (l : Local) (e : IsCalling l) (request : Request) (place : Option Place) (size alignment : ℕ)
    → IsAsked l (begun_aligned l request place size alignment)
kept-begun_aligned l e request place size alignment = either_begun l (is_power_of_two alignment) _ _
    (kept-begun_realloc l e request place (served_as size (Some alignment))) (cc)

kept-begun_at : (l : Local) (e : IsCalling l) (request : Request) (place : Option Place) (of_null : Answer)
    → IsAsked l (begun_at l request place of_null)
kept-begun_at l e request (Some place) of_null = kept-begun_look l e request place
kept-begun_at l e request None of_null = cc

kept-begun_as : (l : Local) (e : IsCalling l) (request : Request) → IsAsked l (begun_as l request)
kept-begun_as l e (Request.Malloc size) = kept-begun_get l e (served_as size None)
kept-begun_as l e (Request.Aligned size alignment) = kept-begun_get l e (served_as size (Some alignment))
kept-begun_as l e (Request.Realloc place size) =
    kept-begun_realloc l e (Request.Realloc place size) place (served_as size None)
kept-begun_as l e (Request.AlignedRealloc place size alignment) =
    kept-begun_aligned l e (Request.AlignedRealloc place size alignment) place size alignment
kept-begun_as l e (Request.Free place) = kept-begun_at l e (Request.Free place) place Answer.False
kept-begun_as l e (Request.Msize place) = kept-begun_at l e (Request.Msize place) place (Answer.Size 0)
kept-begun_as l e (Request.Identify place) = kept-begun_at l e (Request.Identify place) place Answer.NoPool
kept-begun_as l e Request.Exit = kept-begun_leave l

pub kept_begun : (l : Local) (request : Request) → is_idle l.at ≡ true → IsCalling l
    → ((begun l request).1 ≡ Ok tt) × (asked_of (begun l request).0 ≡ (l.seat, l.key, request, false, false))
kept_begun l request idle e = by (is_idle l.at) idle
  where
    by : (b : Bool) → b ≡ true
        → ((cond {A = Local × Result Unit InCall} b
        (begun_as (asked_for l request) request, Ok tt) (l, Err (record { seat = l.seat }))).1 ≡ Ok tt)
        × (asked_of (cond {A = Local × Result Unit InCall} b
        (begun_as (asked_for l request) request, Ok tt) (l, Err (record { seat = l.seat }))).0
        ≡ (l.seat, l.key, request, false, false))
    by true is = (refl, kept-begun_as (asked_for l request) e request)
    by false is = absurd (cc)

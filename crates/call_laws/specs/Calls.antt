-- What a turn of a call keeps.
use Rattle.std.specs.Prelude.{◌≡◌, ℕ, Bool, true, false, Ok}
use Rattle.pool_types.specs.declared.values.Answer.{Answer}
use Rattle.pool_types.specs.declared.values.Request.{Request}
use Rattle.pool_types.specs.declared.values.Turn.{Turn}
use Rattle.pool_words.specs.declared.words.Key.{Key}
use Rattle.pool_words.specs.declared.actions.Seen.{Seen}
use Rattle.step_local.specs.Course.{course}
use Rattle.step_local.specs.Getting.{begun, is_idle}
use Rattle.step_local.specs.Learn.{learn}
use Rattle.step_local.specs.declared.frames.At.{At}
use Rattle.step_local.specs.declared.frames.Local.{Local}
use Rattle.step_local.specs.declared.frames.Stage.{Stage}
use Rattle.step_runs.specs.Places.{has_word}

abbrev pub is_resetting : Stage → Bool
is_resetting (Stage.Resetting stage) = true
is_resetting Stage.Idle = false
is_resetting Stage.Looking = false
is_resetting Stage.Getting = false
is_resetting Stage.Ending = false
is_resetting Stage.Replacing = false
is_resetting Stage.Undoing = false
is_resetting Stage.Leaving = false

abbrev pub is_reset_at : At → Bool
is_reset_at (At.Reset at) = true
is_reset_at _ = false

-- a call that the request alone decides, and that was begun and not answered
abbrev pub is_ready : At → Bool
is_ready (At.Ready answer) = true
is_ready _ = false

-- no turn of a call leads there
abbrev pub is_outside : At → Bool
is_outside (At.Ready answer) = true
is_outside (At.Reset at) = true
is_outside _ = false

-- no reset is begun
abbrev pub IsCalling : Local → Type 0
IsCalling l = is_resetting l.call.stage ≡ false

-- where a turn answers, no call is begun after it
abbrev pub ends_at : Turn → At → Bool
ends_at (Turn.Done answer) at = is_idle at
ends_at Turn.Stepped at = true
ends_at (Turn.Waits awaited) at = true
ends_at Turn.Idle at = true

-- what a turn leaves of what it keeps: the seat, the key, what the call asks, and that it is a call
abbrev pub left_of : Local × Turn → ℕ × Key × Request × Bool × Bool × Bool
left_of (l, turn) =
    (l.seat, l.key, l.call.request, is_resetting l.call.stage, is_outside l.at, ends_at turn l.at)

-- what a local has of that, where it comes to no turn
abbrev pub asked_of : Local → ℕ × Key × Request × Bool × Bool
asked_of l = (l.seat, l.key, l.call.request, is_resetting l.call.stage, is_reset_at l.at)

-- the other local is of the same seat, and in the same call
abbrev pub IsAsked : Local → Local → Type 0
IsAsked l other = asked_of other ≡ (l.seat, l.key, l.call.request, false, false)

-- the turn keeps it, and leads to no reset and to nothing that the request alone decides
abbrev pub IsKept : Local → Local × Turn → Type 0
IsKept l turn = left_of turn ≡ (l.seat, l.key, l.call.request, false, false, true)

-- Whatever it finds, a turn of a call keeps the seat, the key and what the call asks, and is followed by no reset; where
-- it answers, no call is begun after it.
abbrev pub TurnsKeepCalls : Type 0
TurnsKeepCalls = (l : Local) (seen : Seen) → IsCalling l → is_reset_at l.at ≡ false → IsKept l (learn l seen)

-- a turn with no step on a word answers only what the request and the local alone decide
abbrev pub AnswersAlone : Type 0
AnswersAlone =
    (l : Local) (seen : Seen) (answer : Answer) → has_word (course l) ≡ false
    → (learn l seen).1 ≡ Turn.Done answer → is_ready l.at ≡ true

-- where none is begun, a call begins that asks what is asked
abbrev pub CallsBegin : Type 0
CallsBegin =
    (l : Local) (request : Request) → is_idle l.at ≡ true → IsCalling l
    → ((begun l request).1 ≡ Ok tt) × (asked_of (begun l request).0 ≡ (l.seat, l.key, request, false, false))

-- What a turn of a reset keeps.
use Rattle.std.specs.Prelude.{◌≡◌, ℕ, Bool, true, false, not, Ok}
use Rattle.pool_types.specs.declared.values.Turn.{Turn}
use Rattle.pool_words.specs.declared.words.Key.{Key}
use Rattle.pool_words.specs.declared.actions.Seen.{Seen}
use Rattle.step_local.specs.Getting.{reset_begun, is_idle}
use Rattle.step_local.specs.Learn.{learn}
use Rattle.step_local.specs.declared.frames.At.{At}
use Rattle.step_local.specs.declared.frames.Local.{Local}
use Rattle.step_local.specs.declared.frames.Reset.{Reset}
use Rattle.step_local.specs.declared.frames.SmallAt.{SmallAt}
use Rattle.call_laws.specs.Calls.{is_resetting}

-- a slab that a reset gives up
abbrev pub is_given_up : SmallAt → Bool
is_given_up (SmallAt.Empty slab) = true
is_given_up (SmallAt.Newest slab) = true
is_given_up _ = false

-- the positions of a reset; no other turn of a reset is there
abbrev pub is_of_reset : At → Bool
is_of_reset (At.Ready answer) = true
is_of_reset (At.Mailbox at) = true
is_of_reset (At.Adopt at) = true
is_of_reset (At.Join slab rest at) = true
is_of_reset (At.Spare at) = true
is_of_reset (At.Small at) = is_given_up at
is_of_reset (At.Reset at) = true
is_of_reset _ = false

-- a reset is begun
pub record IsResetting (l : Local) : Type 0 where
  pub stage : is_resetting l.call.stage ≡ true
  pub at : is_of_reset l.at ≡ true

-- the seat and the key, and whether a reset is begun
abbrev pub reset_of : Local → ℕ × Key × Bool × Bool
reset_of l = (l.seat, l.key, is_resetting l.call.stage, is_of_reset l.at)

-- what a turn leaves of that: where it answers, whether no reset is begun, and no call
abbrev pub reset_left_of : Local × Turn → ℕ × Key × Bool × Bool
reset_left_of (l, Turn.Done answer) = (l.seat, l.key, not (is_resetting l.call.stage), is_idle l.at)
reset_left_of (l, Turn.Stepped) = reset_of l
reset_left_of (l, Turn.Waits awaited) = reset_of l
reset_left_of (l, Turn.Idle) = (l.seat, l.key, false, false)

-- the reset goes on, or has ended
abbrev pub GoesOn : Local → Local × Turn → Type 0
GoesOn l turn = reset_left_of turn ≡ (l.seat, l.key, true, true)

-- Whatever it finds, a turn of a reset leads to a position of the reset of the same seat and key, or it answers, and
-- then neither a reset nor a call is begun.
abbrev pub ResetsGoOn : Type 0
ResetsGoOn = (l : Local) (seen : Seen) → IsResetting l → GoesOn l (learn l seen)

-- where no call is begun, a reset begins
abbrev pub ResetsBegin : Type 0
ResetsBegin =
    (l : Local) (reset : Reset) → is_idle l.at ≡ true
    → ((reset_begun l reset).1 ≡ Ok tt) × (reset_of (reset_begun l reset).0 ≡ (l.seat, l.key, true, true))

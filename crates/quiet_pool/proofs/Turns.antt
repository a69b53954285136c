-- Turns of seats that are between calls or in a reset.
use Rattle.std.proofs.Common.{◌≡◌, ◌⊎◌, ℕ, Bool, true, false, refl, ap, ◌∙◌, inl, inr, ⊎_elim}
use Rattle.std.specs.Prelude.{None, not}
use Rattle.pool_types.specs.declared.values.Answer.{Answer}
use Rattle.pool_types.specs.declared.values.Turn.{Turn}
use Rattle.pool_words.specs.declared.actions.Action.TheVariants.{Nothing}
use Rattle.pool_words.specs.declared.actions.Seen.{Seen}
use Rattle.step_local.specs.declared.frames.At.{At}
use Rattle.step_local.specs.declared.frames.Local.{Local}
use Rattle.step_local.specs.Course.{course, course_at}
use Rattle.step_local.specs.Getting.{is_idle}
use Rattle.step_local.specs.Learn.{learn, learn_at}
use Rattle.step_runs.specs.Entries.{seen_by}
use Rattle.step_runs.specs.Places.{has_word, gives_at, passed_of}
use Rattle.step_runs.proofs.CallerLemmas.{else_at, steps_go_onward}
use Rattle.call_laws.specs.Calls.{is_resetting}
use Rattle.pool_api.specs.Heaps.{IsResting, is_going}
use Rattle.quiet_laws.specs.Resets.{GoesOn, IsResetting, is_of_reset}
use Rattle.quiet_laws.proofs.CallerLemmas.{resets_go_on}
use Rattle.quiet_pool.specs.Quiet.{MayReset}
use Rattle.quiet_pool.proofs.Stepping.{at_of_may}

-- where the seat makes no step on a word, it makes none at all
no_step : (l : Local) (at : At) → (is_idle at ≡ true) ⊎ (is_of_reset at ≡ true) → has_word (course_at l at) ≡ false
    → course_at l at ≡ Nothing
no_step l At.Idle may none = refl
no_step l (At.Ready answer) may none = refl
no_step l (At.Office job at) (inl idle) none = absurd (cc)
no_step l (At.Office job at) (inr reset) none = absurd (cc)
no_step l at may none = let word = (else_at l at refl).1 in absurd (cc)

pub no_step_may : (l : Local) → MayReset l → has_word (course l) ≡ false → course l ≡ Nothing
no_step_may l may none = no_step l l.at (at_of_may l may) none

-- a seat that is idle makes no step
idle_step : (l : Local) (at : At) → is_idle at ≡ true → has_word (course_at l at) ≡ true → ⊥
idle_step l At.Idle idle word = cc
idle_step l _ idle word = cc

-- no region is passed
none_given : (l : Local) (at : At) → (is_idle at ≡ true) ⊎ (is_of_reset at ≡ true) → gives_at l at ≡ None
none_given l (At.Office job at) (inl idle) = absurd (cc)
none_given l (At.Office job at) (inr reset) = absurd (cc)
none_given l _ may = refl

pub none_passed : (l : Local) (f : ℕ) → MayReset l → has_word (course l) ≡ true
    → passed_of (learn l (seen_by (course l) f)).0 ≡ None
none_passed l f may word = (steps_go_onward l f word).passed ∙ none_given l l.at (at_of_may l may)

not_true : (b : Bool) → not b ≡ true → b ≡ false
not_true true e = cc
not_true false e = refl

-- what a turn of a reset leads to
pub may_left : (l : Local) (turn : Local × Turn) → GoesOn l turn → MayReset turn.0
may_left l (now, Turn.Done answer) on = inl (ap (λ z. z.3) on)
may_left l (now, Turn.Stepped) on = inr (record { stage = ap (λ z. z.2) on; at = ap (λ z. z.3) on })
may_left l (now, Turn.Waits awaited) on = inr (record { stage = ap (λ z. z.2) on; at = ap (λ z. z.3) on })
may_left l (now, Turn.Idle) on = absurd (let e : false ≡ true = ap (λ z. z.3) on in cc)

pub rests_left : (l : Local) (turn : Local × Turn) (answer : Answer) → GoesOn l turn → turn.1 ≡ Turn.Done answer
    → IsResting turn.0
rests_left l (now, Turn.Done other) answer on is = (
  ap (λ z. z.3) on,
  not_true (is_resetting now.call.stage) (ap
      (λ z. z.2) on),
)
rests_left l (now, Turn.Stepped) answer on is = absurd (cc)
rests_left l (now, Turn.Waits awaited) answer on is = absurd (cc)
rests_left l (now, Turn.Idle) answer on is = absurd (cc)

pub going_left : (l : Local) (turn : Local × Turn) → GoesOn l turn → is_going turn.1 ≡ true → IsResetting turn.0
going_left l (now, Turn.Done answer) on going = absurd (cc)
going_left l (now, Turn.Stepped) on going = record { stage = ap (λ z. z.2) on; at = ap (λ z. z.3) on }
going_left l (now, Turn.Waits awaited) on going = record { stage = ap (λ z. z.2) on; at = ap (λ z. z.3) on }
going_left l (now, Turn.Idle) on going = absurd (let e : false ≡ true = ap (λ z. z.3) on in cc)

idle_after : (l : Local) (at : At) (seen : Seen) → l.at ≡ at → is_idle at ≡ true → is_idle
    (learn_at l at seen).0.at ≡ true
idle_after l At.Idle seen here idle = ap is_idle here
idle_after l _ seen here idle = absurd (cc)

pub may_after : (l : Local) (seen : Seen) → MayReset l → MayReset (learn l seen).0
may_after l seen may = ⊎_elim
    (λ (idle : is_idle l.at ≡ true). inl (idle_after l l.at seen refl idle))
    (λ (reset : IsResetting l). may_left l (learn l seen) (resets_go_on l seen reset))
    may

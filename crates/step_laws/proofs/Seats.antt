-- A local's seat stays: each turn of a call and of a reset keeps it.
use Rattle.std.proofs.Common.{◌≡◌, ◌⊎◌, inl, inr, ℕ, Bool, true, false, cond, refl, sym, ap, subst, ◌∙◌}
use Rattle.std.specs.Prelude.{not, Option, Result, Ok, Err}
use Rattle.pool_types.specs.declared.values.InCall.{InCall}
use Rattle.pool_types.specs.declared.values.Request.{Request}
use Rattle.pool_types.specs.declared.values.Turn.{Turn}
use Rattle.pool_words.specs.declared.words.Key.{Key}
use Rattle.pool_words.specs.declared.actions.Seen.{Seen}
use Rattle.call_laws.specs.Calls.{is_resetting, is_reset_at, is_outside, IsCalling, left_of}
use Rattle.call_laws.proofs.CallerLemmas.{turns_keep_calls, calls_begin}
use Rattle.quiet_laws.specs.Resets.{is_of_reset, IsResetting, reset_left_of}
use Rattle.quiet_laws.proofs.CallerLemmas.{resets_go_on, resets_begin}
use Rattle.step_local.specs.declared.frames.At.{At}
use Rattle.step_local.specs.declared.frames.Local.{Local}
use Rattle.step_local.specs.declared.frames.Reset.{Reset}
use Rattle.step_local.specs.Frames.{made}
use Rattle.step_local.specs.Getting.{asked_for, begun, begun_as, is_idle, reset_begun, reset_begun_as}
use Rattle.step_local.specs.Learn.{learn}
use Rattle.step_runs.specs.Runs.{Callback, Silent}
use Rattle.step_runs.specs.Runs.Silent.{rests, begins, resets, answers, obtains, takes_out, puts_back}

-- no reset is begun
pub record IsInCall (l : Local) : Type 0 where
  pub calling : IsCalling l
  pub at : is_reset_at l.at ≡ false

-- the local is of this seat, in a call, in none, or in a reset
pub record IsSeated (seat : ℕ) (l : Local) : Type 0 where
  pub number : l.seat ≡ seat
  pub part : IsInCall l ⊎ IsResetting l

pub seated_first : (k : Key) (seat : ℕ) → IsSeated seat (made k seat)
seated_first k seat = record { number = refl; part = inl (record { calling = refl; at = refl }) }

outside_none : (at : At) → is_outside at ≡ false → is_reset_at at ≡ false
outside_none (At.Reset at) e = absurd (cc)
outside_none _ e = refl

idle_none : (at : At) → is_idle at ≡ true → is_reset_at at ≡ false
idle_none At.Idle e = refl
idle_none _ e = absurd (cc)

idle_of_none : (at : At) → is_idle at ≡ true → is_of_reset at ≡ true → ⊥
idle_of_none At.Idle e is = cc
idle_of_none _ e is = cc

none_by : (b : Bool) → not b ≡ true → b ≡ false
none_by true e = absurd (cc)
none_by false e = refl

call_kept : (seat : ℕ) (k : Key) (request : Request) (turn : Local × Turn)
    → left_of turn ≡ (seat, k, request, false, false, true) → IsSeated seat turn.0
call_kept seat k request (l, turn) e = record {
  number = ap (λ p. p.0) e;
  part = inl (record {
    calling = ap (λ p. p.3) e;
    at = outside_none l.at (ap (λ p. p.4) e);
  });
}

reset_kept : (seat : ℕ) (k : Key) (turn : Local × Turn) → reset_left_of turn ≡ (seat, k, true, true)
    → IsSeated seat turn.0
reset_kept seat k (l, Turn.Done answer) e = record {
  number = ap (λ p. p.0) e;
  part = inl (record {
    calling = none_by (is_resetting l.call.stage) (ap (λ p. p.2) e);
    at = idle_none l.at (ap (λ p. p.3) e);
  });
}
reset_kept seat k (l, Turn.Stepped) e = record {
  number = ap (λ p. p.0) e;
  part = inr (record { stage = ap (λ p. p.2) e; at = ap (λ p. p.3) e });
}
reset_kept seat k (l, Turn.Waits awaited) e = record {
  number = ap (λ p. p.0) e;
  part = inr (record { stage = ap (λ p. p.2) e; at = ap (λ p. p.3) e });
}
reset_kept seat k (l, Turn.Idle) e = absurd (let bad : false ≡ true = ap (λ p. p.2) e in cc)

pub seated_learn : (seat : ℕ) (l : Local) (seen : Seen) → IsSeated seat l → IsSeated seat (learn l seen).0
seated_learn seat l seen is = by is.part
  where
    by : IsInCall l ⊎ IsResetting l → IsSeated seat (learn l seen).0
    by (inl call) = subst (λ s. IsSeated s (learn l seen).0) is.number
        (call_kept l.seat l.key l.call.request (learn l seen) (turns_keep_calls l seen call.calling call.at))
    by (inr reset) = subst (λ s. IsSeated s (learn l seen).0) is.number
        (reset_kept l.seat l.key (learn l seen) (resets_go_on l seen reset))

pub seated_begun : (seat : ℕ) (l : Local) (request : Request) → IsSeated seat l → IsSeated seat (begun l request).0
seated_begun seat l request is = by (is_idle l.at) refl is.part
  where
    by : (b : Bool) → is_idle l.at ≡ b → IsInCall l ⊎ IsResetting l → IsSeated seat (begun l request).0
    by true idle (inl call) = let asked = (calls_begin l request idle call.calling).1 in record {
      number = ap (λ p. p.0) asked ∙ is.number;
      part = inl (record { calling = ap (λ p. p.3) asked; at = ap (λ p. p.4) asked });
    }
    by true idle (inr reset) = absurd (idle_of_none l.at idle reset.at)
    by false idle part = subst (IsSeated seat)
        (sym (ap (λ (b : Bool). (cond {A = Local × Result Unit InCall} b
        (begun_as (asked_for l request) request, Ok tt) (l, Err (record { seat = l.seat }))).0) idle)) is

pub seated_reset : (seat : ℕ) (l : Local) (reset : Reset) → IsSeated seat l → IsSeated seat (reset_begun l reset).0
seated_reset seat l reset is = by (is_idle l.at) refl
  where
    by : (b : Bool) → is_idle l.at ≡ b → IsSeated seat (reset_begun l reset).0
    by true idle = let of = (resets_begin l reset idle).1 in record {
      number = ap (λ p. p.0) of ∙ is.number;
      part = inr (record { stage = ap (λ p. p.2) of; at = ap (λ p. p.3) of });
    }
    by false idle = subst (IsSeated seat)
        (sym (ap (λ (b : Bool). (cond {A = Local × Result Unit InCall} b
        (reset_begun_as l reset, Ok tt) (l, Err (record { seat = l.seat }))).0) idle)) is

pub seated_silence : {D : Type 0} {c : Callback D} {seat : ℕ} {l : Local} {desk : Option D} {now : Local}
    {after : Option D} → Silent c l desk now after → IsSeated seat l → IsSeated seat now
seated_silence (rests passes) is = is
seated_silence {seat = seat} (begins {now = now} silent request) is =
    seated_begun seat now request (seated_silence silent is)
seated_silence {seat = seat} (resets {now = now} silent reset) is =
    seated_reset seat now reset (seated_silence silent is)
seated_silence {seat = seat} (answers {now = now} silent e) is = seated_learn seat now _ (seated_silence silent is)
seated_silence {seat = seat} (obtains {now = now} silent granules answer after e asks) is =
    seated_learn seat now _ (seated_silence silent is)
seated_silence {seat = seat} (takes_out {now = now} silent first e) is =
    seated_learn seat now _ (seated_silence silent is)
seated_silence {seat = seat} (puts_back {now = now} silent e) is =
    seated_learn seat now _ (seated_silence silent is)

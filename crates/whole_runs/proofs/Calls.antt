-- What turns of a call keep, and where they answer.
use Rattle.std.proofs.Common.{◌≡◌, ◌⊎◌, inl, inr, ℕ, Bool, true, false, cond, refl, sym, ap, subst}
use Rattle.std.specs.Prelude.{Result, Ok, Err}
use Rattle.pool_types.specs.declared.values.Answer.{Answer}
use Rattle.pool_types.specs.declared.values.InCall.{InCall}
use Rattle.pool_types.specs.declared.values.Request.{Request}
use Rattle.pool_types.specs.declared.values.Turn.{Turn}
use Rattle.pool_words.specs.declared.words.Key.{Key}
use Rattle.pool_words.specs.declared.actions.Action.{Action}
use Rattle.pool_words.specs.declared.actions.Action.TheVariants.{GiveOffice, Nothing, TakeOffice}
use Rattle.pool_words.specs.declared.actions.OfficeJob.{OfficeJob}
use Rattle.pool_words.specs.declared.actions.Seen.{Seen}
use Rattle.region_steps.specs.declared.office.OfficeAt.{OfficeAt}
use Rattle.call_laws.specs.Calls.{is_outside, is_reset_at, left_of}
use Rattle.call_laws.proofs.CallerLemmas.{calls_begin, turns_keep_calls}
use Rattle.step_local.specs.declared.frames.At.{At}
use Rattle.step_local.specs.declared.frames.Local.{Local}
use Rattle.step_local.specs.Course.{course, course_at}
use Rattle.step_local.specs.Getting.{asked_for, begun, begun_as, is_idle}
use Rattle.step_local.specs.Learn.{learn, learn_at}
use Rattle.step_runs.specs.Places.{has_word}
use Rattle.step_runs.proofs.CallerLemmas.{else_at, is_calling}
use Rattle.office_moves.specs.Laws.{IsAtOffice}
use Rattle.whole_runs.specs.Calls.{IsCall}

outside_none : (at : At) → is_outside at ≡ false → is_reset_at at ≡ false
outside_none (At.Reset at) e = absurd (cc)
outside_none _ e = refl

kept : (seat : ℕ) (k : Key) (request : Request) (turn : Local × Turn)
    → left_of turn ≡ (seat, k, request, false, false, true) → IsCall turn.0
kept seat k request (l, turn) e = record {
  calling = ap (λ p. p.3) e;
  at = outside_none l.at (ap (λ p. p.4) e);
}

pub call_learn : (l : Local) (s : Seen) → IsCall l → IsCall (learn l s).0
call_learn l s call = kept l.seat l.key l.call.request (learn l s) (turns_keep_calls l s call.calling call.at)

pub call_begun : (l : Local) (request : Request) → IsCall l → IsCall (begun l request).0
call_begun l request call = by (is_idle l.at) refl
  where
    by : (b : Bool) → is_idle l.at ≡ b → IsCall (begun l request).0
    by true idle = let asked = (calls_begin l request idle call.calling).1 in
        record { calling = ap (λ p. p.3) asked; at = ap (λ p. p.4) asked }
    by false idle = subst IsCall
        (sym (ap (λ (b : Bool). (cond {A = Local × Result Unit InCall} b
        (begun_as (asked_for l request) request, Ok tt) (l, Err (record { seat = l.seat }))).0) idle)) call

-- a position with an action on a word has no other
no_other : (l : Local) (at : At) (action : Action) → is_calling at ≡ true → has_word action ≡ false
    → course_at l at ≡ action → ⊥
no_other l at action calling none e =
    let word = (else_at l at calling).1 in
    let same = ap has_word e in
    cc

-- where nothing is done next, nothing is under way, or there is an answer
pub record IsAnswer (at : At) : Type 0 where
  pub answer : Answer
  pub is : at ≡ At.Ready answer

pub nothing_at : (l : Local) (at : At) → course_at l at ≡ Nothing → (at ≡ At.Idle) ⊎ IsAnswer at
nothing_at l At.Idle e = inl refl
nothing_at l (At.Ready answer) e = inr (record { answer = answer; is = refl })
nothing_at l (At.Office job OfficeAt.Lock) e = absurd (cc)
nothing_at l (At.Office job _) e = absurd (cc)
nothing_at l at e = absurd (no_other l at Nothing refl refl e)

pub idle_stays : (l : Local) → l.at ≡ At.Idle → (learn l Seen.Done).0 ≡ l
idle_stays l e = ap (λ at. (learn_at l at Seen.Done).0) e

-- the office is taken and put back by a seat that is there
taking_at : (l : Local) (at : At) (job : OfficeJob) → l.at ≡ at → course_at l at ≡ TakeOffice job → IsAtOffice l
taking_at l (At.Office job at) asked is e = (job, at, is)
taking_at l At.Idle asked is e = absurd (cc)
taking_at l (At.Ready answer) asked is e = absurd (cc)
taking_at l at asked is e = absurd (no_other l at (TakeOffice asked) refl refl e)

giving_at : (l : Local) (at : At) → l.at ≡ at → course_at l at ≡ GiveOffice → IsAtOffice l
giving_at l (At.Office job at) is e = (job, at, is)
giving_at l At.Idle is e = absurd (cc)
giving_at l (At.Ready answer) is e = absurd (cc)
giving_at l at is e = absurd (no_other l at GiveOffice refl refl e)

pub takes_there : (l : Local) (job : OfficeJob) → course l ≡ TakeOffice job → IsAtOffice l
takes_there l job e = taking_at l l.at job refl e

pub gives_there : (l : Local) → course l ≡ GiveOffice → IsAtOffice l
gives_there l e = giving_at l l.at refl e

-- What a whole call grants and frees.
use Rattle.std.proofs.Common.{◌≡◌, ℕ, Bool, true, false, List, [], ◌++◌, refl, sym, ap, subst, ◌∙◌}
use Rattle.std.specs.Prelude.{Option, Ok}
use Rattle.std.proofs.lemmas.List.{append-nil}
use Rattle.pool_types.specs.declared.values.Answer.{Answer}
use Rattle.pool_types.specs.declared.values.Request.{Request}
use Rattle.pool_types.specs.declared.values.Turn.{Turn}
use Rattle.pool_words.specs.declared.words.Key.{Key}
use Rattle.pool_words.specs.declared.actions.Seen.{Seen}
use Rattle.pool_words.specs.Actions.{word_seen}
use Rattle.step_local.specs.Course.{course}
use Rattle.step_local.specs.Getting.{begun}
use Rattle.step_local.specs.Learn.{learn, learn_at}
use Rattle.step_local.specs.declared.frames.At.{At}
use Rattle.step_local.specs.declared.frames.Local.{Local}
use Rattle.step_local.specs.declared.frames.Object.{Object}
use Rattle.step_runs.specs.declared.entry.Entry.{Entry}
use Rattle.step_runs.specs.Entries.{gain_of, learnt, loss_at, loss_of, seen_by}
use Rattle.step_runs.specs.Places.{has_word}
use Rattle.atomic_driver.specs.Steps.{Acts, ActsBy, ActsElse, ActsOnWord}
use Rattle.pool_api.specs.Heaps.{Answers, CalledBy, Goes, IsResting, is_going}
use Rattle.pool_api.specs.Heaps.Goes.{begins, turns}
use Rattle.call_laws.specs.Calls.{is_ready}
use Rattle.path_laws.specs.Owing.{owed_frees, owed_grants}
use Rattle.path_laws.specs.Pays.{Pays}
use Rattle.path_laws.proofs.CallerLemmas.{Begins, IsUnderway, TurnsTo, call_begins, goes_on, joined, no_answer}
use Rattle.path_laws.proofs.CallerLemmas.{ready_word, seen_loss, turn_of_call}
use Rattle.paid_calls.specs.Earning.{AddsPaid}

module _ {D : Type 0} (k : Key) (r : Request) (first : Entry D) where
  -- the call's turns so far have granted and freed what it owes
  pub record Owes (l : Local) (e : Entry D) : Type 0 where
    pub grants : e.grants ≡ first.grants ++ owed_grants l
    pub frees : e.frees ≡ first.frees ++ owed_frees l

  -- a call that the request alone decides has granted and freed nothing
  pub record Decided (l : Local) (e : Entry D) : Type 0 where
    pub answer : Answer
    pub at : l.at ≡ At.Ready answer
    pub pays : Pays k r answer [] []
    pub same : e ≡ first

  pub data InCall (l : Local) (e : Entry D) : Type 0 where
    is_decided : Decided l e → InCall l e
    goes : IsUnderway k r l → Owes l e → InCall l e

  -- what a turn comes to
  abbrev pub Comes : Local → Entry D → Turn → Type 0
  Comes now after (Turn.Done answer) = AddsPaid k r answer first after
  Comes now after Turn.Stepped = InCall now after
  Comes now after (Turn.Waits awaited) = InCall now after
  Comes now after Turn.Idle = ⊥

  -- a turn on a word
  module _ (l : Local) (e : Entry D) (owes : Owes l e) (home desk : Option D) (n : ℕ) where
    abbrev after : Entry D
    after = learnt e l home desk n

    abbrev more : List Object
    more = owed_grants l ++ gain_of l

    abbrev fewer : List Object
    fewer = owed_frees l ++ loss_of l n

    granted : after.grants ≡ first.grants ++ more
    granted = joined e.grants first.grants (owed_grants l) (gain_of l) owes.grants

    freed : after.frees ≡ first.frees ++ fewer
    freed = joined e.frees first.frees (owed_frees l) (loss_of l n) owes.frees

    word_goes : (now : Local) → IsUnderway k r now × (owed_grants now ≡ more) × (owed_frees now ≡ fewer)
        → InCall now after
    word_goes now on = goes on.0 (record {
      grants = granted ∙ ap (λ (g : List Object). first.grants ++ g) (sym on.1);
      frees = freed ∙ ap (λ (f : List Object). first.frees ++ f) (sym on.2);
    })

    pub word_comes : (now : Local) (turn : Turn) → TurnsTo k r more fewer now turn → Comes now after turn
    word_comes now (Turn.Done answer) to = record {
      grants = more;
      frees = fewer;
      pays = to.0;
      grants_are = granted;
      frees_are = freed;
    }
    word_comes now Turn.Stepped to = word_goes now to
    word_comes now (Turn.Waits awaited) to = word_goes now to
    word_comes now Turn.Idle to = elim to [ ]

  -- a turn with no step on a word
  else_comes : (l : Local) (e : Entry D) (owes : Owes l e) (now : Local) (turn : Turn)
      → IsUnderway k r now × (owed_grants now ≡ owed_grants l) × (owed_frees now ≡ owed_frees l)
      → ((answer : Answer) → turn ≡ Turn.Done answer → ⊥) → (turn ≡ Turn.Idle → ⊥) → Comes now e turn
  else_comes l e owes now (Turn.Done answer) on no_answer no_idle = absurd (no_answer answer refl)
  else_comes l e owes now Turn.Stepped on no_answer no_idle = goes on.0 (record {
    grants = owes.grants ∙ ap (λ (g : List Object). first.grants ++ g) (sym on.1);
    frees = owes.frees ∙ ap (λ (f : List Object). first.frees ++ f) (sym on.2);
  })
  else_comes l e owes now (Turn.Waits awaited) on no_answer no_idle = goes on.0 (record {
    grants = owes.grants ∙ ap (λ (g : List Object). first.grants ++ g) (sym on.1);
    frees = owes.frees ∙ ap (λ (f : List Object). first.frees ++ f) (sym on.2);
  })
  else_comes l e owes now Turn.Idle on no_answer no_idle = absurd (no_idle refl)

  no_idle : (g f : List Object) (now : Local) (turn : Turn) → TurnsTo k r g f now turn → turn ≡ Turn.Idle → ⊥
  no_idle g f now turn to is = subst (TurnsTo k r g f now) is to

  on_word : (l : Local) (e : Entry D) (now : Local) (after : Entry D) (turn : Turn) → IsUnderway k r l → Owes l e
      → ActsOnWord l e now after turn → Comes now after turn
  on_word l e now after turn is owes acts =
      let n = acts.found in
      let s = seen_by (course l) n in
      let to = subst (λ (x : List Object). TurnsTo k r (owed_grants l ++ gain_of l) (owed_frees l ++ x)
      (learn l s).0 (learn l s).1) (seen_loss l l.at n is.elsewhere) (turn_of_call k r l s is) in
      let comes = word_comes l e owes acts.home acts.desk n (learn l s).0 (learn l s).1 to in
      subst (λ (x : Entry D). Comes now x turn) (sym acts.entry)
      (subst (λ (t : Local × Turn). Comes t.0 (learnt e l acts.home acts.desk n) t.1) acts.learns comes)

  on_none : (l : Local) (e : Entry D) (now : Local) (after : Entry D) (turn : Turn) → IsUnderway k r l → Owes l e
      → has_word (course l) ≡ false → ActsElse l e now after turn → Comes now after turn
  on_none l e now after turn is owes silent acts =
      let s = acts.seen in
      let comes = else_comes l e owes (learn l s).0 (learn l s).1 (goes_on k r l s is silent)
      (no_answer k r l s is silent)
      (no_idle (owed_grants l ++ gain_of l) (owed_frees l ++ loss_at l (word_seen s) l.at) (learn l s).0
      (learn l s).1 (turn_of_call k r l s is)) in
      subst (λ (x : Entry D). Comes now x turn) (sym acts.entry)
      (subst (λ (t : Local × Turn). Comes t.0 e t.1) acts.learns comes)

  -- a call that the request alone decides is answered so
  ready_done : (l : Local) (at : At) (s : Seen) (answer : Answer) → at ≡ At.Ready answer
      → (learn_at l at s).1 ≡ Turn.Done answer
  ready_done l at s answer is = ap (λ (x : At). (learn_at l x s).1) is

  decided_comes : (l : Local) (e : Entry D) (now : Local) (after : Entry D) (turn : Turn) → Decided l e
      → ActsElse l e now after turn → Comes now after turn
  decided_comes l e now after turn is acts =
      let entry = acts.entry ∙ is.same in
      let done = sym (ap (λ (t : Local × Turn). t.1) acts.learns) ∙ ready_done l l.at acts.seen is.answer is.at in
      subst (Comes now after) (sym done) (record {
        grants = [];
        frees = [];
        pays = is.pays;
        grants_are = ap (λ (x : Entry D). x.grants) entry ∙ sym (append-nil first.grants);
        frees_are = ap (λ (x : Entry D). x.frees) entry ∙ sym (append-nil first.frees);
      })

  pub turn_comes : (l : Local) (e : Entry D) (now : Local) (after : Entry D) (turn : Turn) → InCall l e
      → Acts l e now after turn → Comes now after turn
  turn_comes l e now after turn call acts = by (has_word (course l)) refl call acts
    where
      by : (b : Bool) → has_word (course l) ≡ b → InCall l e → ActsBy b l e now after turn → Comes now after turn
      by true word (goes is owes) acts = on_word l e now after turn is owes acts
      by false silent (goes is owes) acts = on_none l e now after turn is owes silent acts
      by true word (is_decided is) acts = absurd (ready_word l l.at (ap is_ready is.at) word)
      by false silent (is_decided is) acts = decided_comes l e now after turn is acts

  going_comes : (now : Local) (after : Entry D) (turn : Turn) → is_going turn ≡ true → Comes now after turn
      → InCall now after
  going_comes now after Turn.Stepped e comes = comes
  going_comes now after (Turn.Waits awaited) e comes = comes
  going_comes now after Turn.Idle e comes = elim comes [ ]
  going_comes now after (Turn.Done answer) e comes = absurd (cc)

  pub goes_in_call : (l : Local) (e : Entry D) (now : Local) (after : Entry D) → InCall l e → Goes l e now after
      → InCall now after
  goes_in_call l e now after call begins = call
  goes_in_call l e _ _ call (turns {mid = mid} {was = was} before now after turn acts going) =
      going_comes now after turn going
      (turn_comes mid was now after turn (goes_in_call l e mid was call before) acts)

  first_call : (l : Local) → Begins k r l → InCall l first
  first_call l (Begins.alone is answer at pays) = is_decided (record {
    answer = answer;
    at = at;
    pays = pays;
    same = refl;
  })
  first_call l (Begins.on_its_way is nothing) = goes is (record {
    grants = sym (append-nil first.grants) ∙ ap (λ (g : List Object). first.grants ++ g) (sym nothing.0);
    frees = sym (append-nil first.frees) ∙ ap (λ (f : List Object). first.frees ++ f) (sym nothing.1);
  })

  pub answered_pays : (l : Local) (answer : Answer) (now : Local) (after : Entry D) → Begins k r l
      → Answers l first answer now after → AddsPaid k r answer first after
  answered_pays l answer now after begun answers =
      turn_comes answers.mid answers.was now after (Turn.Done answer)
      (goes_in_call l first answers.mid answers.was (first_call l begun) answers.goes) answers.last

-- a call of a heap that is in none
pub call_pays : {D : Type 0} (l : Local) (e : Entry D) (request : Request) (answer : Answer) (now : Local)
    (after : Entry D) → IsResting l → CalledBy l e request (Ok answer) now after
    → AddsPaid l.key request answer e after
call_pays l e request answer now after rests called = answered_pays l.key request e (begun l request).0 answer now
    after (call_begins l.key request l (record { key = refl; calling = rests.1; idle = rests.0 })) called.1

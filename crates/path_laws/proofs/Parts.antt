-- What a seat is at between two steps, and what it owes.
use Rattle.std.proofs.Common.{◌≡◌, ℕ, Bool, true, false, cond, List, [], ◌++◌, refl, sym, ap, subst, ◌∙◌}
use Rattle.std.specs.Prelude.{not, Option, Result, Ok, Err}
use Rattle.std.proofs.lemmas.List.{append-nil}
use Rattle.call_laws.specs.Calls.{IsCalling, asked_of, is_outside, is_ready, is_reset_at, is_resetting, left_of}
use Rattle.call_laws.proofs.CallerLemmas.{answers_alone, calls_begin, turns_keep_calls}
use Rattle.quiet_laws.specs.Resets.{IsResetting, is_of_reset, reset_left_of}
use Rattle.quiet_laws.proofs.CallerLemmas.{resets_begin, resets_go_on}
use Rattle.pool_types.specs.declared.values.Answer.{Answer}
use Rattle.pool_types.specs.declared.values.InCall.{InCall}
use Rattle.pool_types.specs.declared.values.Request.{Request}
use Rattle.pool_types.specs.declared.values.Turn.{Turn}
use Rattle.pool_words.specs.declared.words.Key.{Key}
use Rattle.pool_words.specs.declared.actions.Seen.{Seen}
use Rattle.pool_words.specs.Actions.{word_seen}
use Rattle.step_local.specs.Course.{course, course_at}
use Rattle.step_local.specs.Frames.{made}
use Rattle.step_local.specs.Getting.{asked_for, begun, begun_as, is_idle, reset_begun, reset_begun_as}
use Rattle.step_local.specs.Learn.{learn, learn_at}
use Rattle.step_local.specs.declared.frames.At.{At}
use Rattle.step_local.specs.declared.frames.Local.{Local}
use Rattle.step_local.specs.declared.frames.Object.{Object}
use Rattle.step_local.specs.declared.frames.Reset.{Reset}
use Rattle.step_local.specs.declared.frames.Stage.{Stage}
use Rattle.step_runs.specs.Entries.{gain_at, gain_of, loss_at}
use Rattle.step_runs.specs.Places.{has_word}
use Rattle.step_runs.specs.Runs.{Callback, Silent, seen_answer}
use Rattle.step_runs.specs.Runs.Silent.{rests, begins, resets, answers, obtains, takes_out, puts_back}
use Rattle.step_runs.proofs.CallerLemmas.{else_at}
use Rattle.path_laws.specs.Owing.{freed_at, frees_at, granted_at, grants_at, owed_frees, owed_grants}
use Rattle.path_laws.specs.Pays.{BeginsBy, Pays, named_by}
use Rattle.path_laws.proofs.Begun.{Starts, starts}
use Rattle.path_laws.proofs.Begun.Starts.{is_decided, owes_nothing}
use Rattle.path_laws.proofs.Fits.{SettlesBy, fits, fits_at, owing_of}
use Rattle.path_laws.proofs.Turns.{settles_at}

-- a call for this request goes on, of a seat with this key
pub record IsUnderway (k : Key) (r : Request) (l : Local) : Type 0 where
  pub key : l.key ≡ k
  pub request : l.call.request ≡ r
  pub calling : IsCalling l
  pub elsewhere : is_reset_at l.at ≡ false
  pub fit : fits l ≡ true
  pub begins : BeginsBy k (named_by r) l.call.old.number l.call.old.offset

-- no call is begun, and no reset
pub record IsResting (k : Key) (l : Local) : Type 0 where
  pub key : l.key ≡ k
  pub calling : IsCalling l
  pub idle : is_idle l.at ≡ true

-- what a turn comes to of a call that has granted and freed this: it goes on and owes it, or it is answered
abbrev pub TurnsTo : Key → Request → List Object → List Object → Local → Turn → Type 0
TurnsTo k r grants frees now (Turn.Done answer) = Pays k r answer grants frees × IsResting k now
TurnsTo k r grants frees now Turn.Stepped =
    IsUnderway k r now × (owed_grants now ≡ grants) × (owed_frees now ≡ frees)
TurnsTo k r grants frees now (Turn.Waits awaited) =
    IsUnderway k r now × (owed_grants now ≡ grants) × (owed_frees now ≡ frees)
TurnsTo k r grants frees now Turn.Idle = ⊥

outside_none : (at : At) → is_outside at ≡ false → is_reset_at at ≡ false
outside_none (At.Reset at) e = absurd (cc)
outside_none _ e = refl

-- a call goes on
module _ (k : Key) (r : Request) (grants frees : List Object) (number offset seat : ℕ) (now : Local)
    (faces : BeginsBy k (named_by r) number offset) where
  on_to : (turn : Turn) → left_of (now, turn) ≡ (seat, k, r, false, false, true)
      → owing_of now ≡ (number, offset, grants, frees, true)
      → IsUnderway k r now × (owed_grants now ≡ grants) × (owed_frees now ≡ frees)
  on_to turn left owing = (
    record {
      key = ap (λ p. p.1) left;
      request = ap (λ p. p.2) left;
      calling = ap (λ p. p.3) left;
      elsewhere = outside_none now.at (ap (λ p. p.4) left);
      fit = ap (λ p. p.4) owing;
      begins = subst (λ (p : ℕ × ℕ). BeginsBy k (named_by r) p.0 p.1)
          (sym (ap (λ (p : ℕ × ℕ × List Object × List Object × Bool). (p.0, p.1)) owing)) faces;
    },
    ap (λ p. p.2) owing,
    ap (λ p. p.3) owing,
  )

  turns_to : (turn : Turn) → left_of (now, turn) ≡ (seat, k, r, false, false, true)
      → SettlesBy k r number offset grants frees now turn → TurnsTo k r grants frees now turn
  turns_to (Turn.Done answer) left settles = (
    settles,
    record {
      key = ap (λ p. p.1) left;
      calling = ap (λ p. p.3) left;
      idle = ap (λ p. p.5) left;
    },
  )
  turns_to Turn.Stepped left owing = on_to Turn.Stepped left owing
  turns_to (Turn.Waits awaited) left owing = on_to (Turn.Waits awaited) left owing
  turns_to Turn.Idle left settles = elim settles [ ]

-- a turn of a call, whatever it finds
turn_at : (l : Local) (s : Seen) → IsUnderway l.key l.call.request l
    → TurnsTo l.key l.call.request (owed_grants l ++ gain_of l) (owed_frees l ++ loss_at l (word_seen s) l.at)
    (learn l s).0 (learn l s).1
turn_at l s is = turns_to l.key l.call.request (owed_grants l ++ gain_of l)
    (owed_frees l ++ loss_at l (word_seen s) l.at) l.call.old.number l.call.old.offset l.seat (learn l s).0 is.begins
    (learn l s).1 (turns_keep_calls l s is.calling is.elsewhere) (settles_at l is.begins l.at s is.fit)

pub turn_of_call : (k : Key) (r : Request) (l : Local) (s : Seen) → IsUnderway k r l
    → TurnsTo k r (owed_grants l ++ gain_of l) (owed_frees l ++ loss_at l (word_seen s) l.at)
    (learn l s).0 (learn l s).1
turn_of_call k r l s is =
    subst (λ (x : Key). TurnsTo x r (owed_grants l ++ gain_of l) (owed_frees l ++ loss_at l (word_seen s) l.at)
    (learn l s).0 (learn l s).1) is.key
    (subst (λ (x : Request). TurnsTo l.key x (owed_grants l ++ gain_of l)
    (owed_frees l ++ loss_at l (word_seen s) l.at) (learn l s).0 (learn l s).1) is.request
    (turn_at l s (record {
      key = refl;
      request = refl;
      calling = is.calling;
      elsewhere = is.elsewhere;
      fit = is.fit;
      begins = subst (λ (x : Key). BeginsBy x (named_by l.call.request) l.call.old.number l.call.old.offset)
          (sym is.key)
          (subst (λ (x : Request). BeginsBy k (named_by x) l.call.old.number l.call.old.offset) (sym is.request)
          is.begins);
    })))

-- a turn with no step on a word neither grants nor frees
silent_gain : (l : Local) (at : At) (n : ℕ) → has_word (course_at l at) ≡ false
    → (gain_at l at ≡ []) × (loss_at l n at ≡ [])
silent_gain l At.Idle n e = (refl, refl)
silent_gain l (At.Ready answer) n e = (refl, refl)
silent_gain l (At.Office job at) n e = (refl, refl)
silent_gain l at n e = let word = (else_at l at refl).1 in absurd (cc)

not_ready : (l : Local) → fits l ≡ true → is_ready l.at ≡ true → ⊥
not_ready l fit is = by l.at fit is
  where
    by : (at : At) → fits_at l.call.stage l.call.request l.sweep.cleanup l.put at ≡ true → is_ready at ≡ true → ⊥
    by (At.Ready answer) fit is = cc
    by _ fit is = cc

-- a call in which no step on a word comes next goes on, and owes what it owed
still_underway : (k : Key) (r : Request) (l now : Local) (turn : Turn) (grants frees : List Object)
    → TurnsTo k r (owed_grants l ++ grants) (owed_frees l ++ frees) now turn → (grants ≡ []) × (frees ≡ [])
    → ((answer : Answer) → turn ≡ Turn.Done answer → ⊥)
    → IsUnderway k r now × (owed_grants now ≡ owed_grants l) × (owed_frees now ≡ owed_frees l)
still_underway k r l now (Turn.Done answer) grants frees to none no_answer = absurd (no_answer answer refl)
still_underway k r l now Turn.Stepped grants frees to none no_answer = (
  to.0,
  to.1 ∙ ap (λ (g : List Object). owed_grants l ++ g) none.0 ∙ append-nil (owed_grants l),
  to.2 ∙ ap (λ (f : List Object). owed_frees l ++ f) none.1 ∙ append-nil (owed_frees l),
)
still_underway k r l now (Turn.Waits awaited) grants frees to none no_answer = (
  to.0,
  to.1 ∙ ap (λ (g : List Object). owed_grants l ++ g) none.0 ∙ append-nil (owed_grants l),
  to.2 ∙ ap (λ (f : List Object). owed_frees l ++ f) none.1 ∙ append-nil (owed_frees l),
)
still_underway k r l now Turn.Idle grants frees to none no_answer = elim to [ ]

pub no_answer : (k : Key) (r : Request) (l : Local) (s : Seen) → IsUnderway k r l → has_word (course l) ≡ false
    → (answer : Answer) → (learn l s).1 ≡ Turn.Done answer → ⊥
no_answer k r l s is silent answer done = not_ready l is.fit (answers_alone l s answer silent done)

pub goes_on : (k : Key) (r : Request) (l : Local) (s : Seen) → IsUnderway k r l → has_word (course l) ≡ false
    → IsUnderway k r (learn l s).0 × (owed_grants (learn l s).0 ≡ owed_grants l)
    × (owed_frees (learn l s).0 ≡ owed_frees l)
goes_on k r l s is silent = still_underway k r l (learn l s).0 (learn l s).1 (gain_of l)
    (loss_at l (word_seen s) l.at) (turn_of_call k r l s is) (silent_gain l l.at (word_seen s) silent)
    (no_answer k r l s is silent)

-- what a seat is at: nothing, a call, or a reset; a call that the request alone decides is a part of its own
pub record IsDecided (k : Key) (l : Local) : Type 0 where
  pub key : l.key ≡ k
  pub calling : IsCalling l
  pub at : is_ready l.at ≡ true

pub record InReset (k : Key) (l : Local) : Type 0 where
  pub key : l.key ≡ k
  pub reset : IsResetting l

pub data Part (k : Key) (l : Local) : Type 0 where
  resting : IsResting k l → Part k l
  underway : (r : Request) → IsUnderway k r l → Part k l
  decided : IsDecided k l → Part k l
  resetting : InReset k l → Part k l

pub resting_first : (k : Key) (seat : ℕ) → IsResting k (made k seat)
resting_first k seat = record { key = refl; calling = refl; idle = refl }

-- where no call goes on, nothing is owed
idle_owes : (l : Local) (at : At) → is_idle at ≡ true → (granted_at l.call at ≡ []) × (freed_at l.call at ≡ [])
idle_owes l At.Idle e = (refl, refl)
idle_owes l _ e = absurd (cc)

ready_owes : (l : Local) (at : At) → is_ready at ≡ true → (granted_at l.call at ≡ []) × (freed_at l.call at ≡ [])
ready_owes l (At.Ready answer) e = (refl, refl)
ready_owes l _ e = absurd (cc)

reset_dues : (s : Stage) (old new : Object) → is_resetting s ≡ true
    → (grants_at s new ≡ []) × (frees_at s old new ≡ [])
reset_dues (Stage.Resetting stage) old new e = (refl, refl)
reset_dues _ old new e = absurd (cc)

reset_owes : (l : Local) (at : At) → is_resetting l.call.stage ≡ true
    → (granted_at l.call at ≡ []) × (freed_at l.call at ≡ [])
reset_owes l At.Idle e = (refl, refl)
reset_owes l (At.Ready answer) e = (refl, refl)
reset_owes l (At.End at) e = ((reset_dues l.call.stage l.call.old l.call.new e).0, refl)
reset_owes l _ e = reset_dues l.call.stage l.call.old l.call.new e

abbrev pub OwesNothing : Local → Type 0
OwesNothing l = (owed_grants l ≡ []) × (owed_frees l ≡ [])

pub rest_owes : (k : Key) (l : Local) → IsResting k l → OwesNothing l
rest_owes k l is = idle_owes l l.at is.idle

pub decided_owes : (k : Key) (l : Local) → IsDecided k l → OwesNothing l
decided_owes k l is = ready_owes l l.at is.at

pub in_reset_owes : (k : Key) (l : Local) → InReset k l → OwesNothing l
in_reset_owes k l is = reset_owes l l.at is.reset.stage

-- a seat that owes nothing comes to a part in which it owes nothing
abbrev pub IsFree : Key → Local → Type 0
IsFree k l = Part k l × OwesNothing l

-- a seat comes to this with no step on a word, and owes what it owed
pub record Follows (k : Key) (l now : Local) : Type 0 where
  pub part : Part k now
  pub grants : owed_grants now ≡ owed_grants l
  pub frees : owed_frees now ≡ owed_frees l

free_follows : (k : Key) (l now : Local) → OwesNothing l → IsFree k now → Follows k l now
free_follows k l now was is = record {
  part = is.0;
  grants = is.1.0 ∙ sym was.0;
  frees = is.1.1 ∙ sym was.1;
}

same_follows : (k : Key) (l now : Local) → Part k l → now ≡ l → Follows k l now
same_follows k l now part same = subst (Follows k l) (sym same) (record { part = part; grants = refl; frees = refl })

-- a turn of a reset
none_by : (b : Bool) → not b ≡ true → b ≡ false
none_by true e = absurd (cc)
none_by false e = refl

free_at_rest : (k : Key) (l : Local) → IsResting k l → IsFree k l
free_at_rest k l is = (resting is, rest_owes k l is)

free_in_reset : (k : Key) (l : Local) → InReset k l → IsFree k l
free_in_reset k l is = (resetting is, in_reset_owes k l is)

pub after_reset : (k : Key) (seat : ℕ) (turn : Local × Turn) → reset_left_of turn ≡ (seat, k, true, true)
    → IsFree k turn.0
after_reset k seat (now, Turn.Done answer) e = free_at_rest k now (record {
  key = ap (λ p. p.1) e;
  calling = none_by (is_resetting now.call.stage) (ap (λ p. p.2) e);
  idle = ap (λ p. p.3) e;
})
after_reset k seat (now, Turn.Stepped) e = free_in_reset k now (record {
  key = ap (λ p. p.1) e;
  reset = record { stage = ap (λ p. p.2) e; at = ap (λ p. p.3) e };
})
after_reset k seat (now, Turn.Waits awaited) e = free_in_reset k now (record {
  key = ap (λ p. p.1) e;
  reset = record { stage = ap (λ p. p.2) e; at = ap (λ p. p.3) e };
})
after_reset k seat (now, Turn.Idle) e = absurd (let bad : false ≡ true = ap (λ p. p.2) e in cc)

pub reset_turn : (k : Key) (l : Local) (s : Seen) → InReset k l → IsFree k (learn l s).0
reset_turn k l s is = subst (λ (x : Key). IsFree x (learn l s).0) is.key
    (after_reset l.key l.seat (learn l s) (resets_go_on l s is.reset))

-- with no call begun there is nothing to go on with
resting_stays : (l : Local) (at : At) (s : Seen) → is_idle at ≡ true → (learn_at l at s).0 ≡ l
resting_stays l At.Idle s e = refl
resting_stays l _ s e = absurd (cc)

-- a call that the request alone decides is answered
ready_ends : (l : Local) (at : At) (s : Seen) → is_ready at ≡ true → is_idle (learn_at l at s).0.at ≡ true
ready_ends l (At.Ready answer) s e = refl
ready_ends l _ s e = absurd (cc)

ready_elsewhere : (at : At) → is_ready at ≡ true → is_reset_at at ≡ false
ready_elsewhere (At.Ready answer) e = refl
ready_elsewhere _ e = absurd (cc)

pub decided_turn : (k : Key) (l : Local) (s : Seen) → IsDecided k l → IsResting k (learn l s).0
decided_turn k l s is =
    let kept = turns_keep_calls l s is.calling (ready_elsewhere l.at is.at) in
    record {
      key = ap (λ p. p.1) kept ∙ is.key;
      calling = ap (λ p. p.3) kept;
      idle = ready_ends l l.at s is.at;
    }

-- a turn with no step on a word
pub follow_turn : (k : Key) (l : Local) (s : Seen) → Part k l → has_word (course l) ≡ false
    → Follows k l (learn l s).0
follow_turn k l s (resting is) silent =
    same_follows k l (learn l s).0 (resting is) (resting_stays l l.at s is.idle)
follow_turn k l s (underway r is) silent = let on = goes_on k r l s is silent in record {
  part = underway r on.0;
  grants = on.1;
  frees = on.2;
}
follow_turn k l s (decided is) silent =
    free_follows k l (learn l s).0 (decided_owes k l is) (free_at_rest k (learn l s).0 (decided_turn k l s is))
follow_turn k l s (resetting is) silent =
    free_follows k l (learn l s).0 (in_reset_owes k l is) (reset_turn k l s is)

nothing_before_call : (k : Key) (r : Request) (l : Local) → IsUnderway k r l → is_idle l.at ≡ true → ⊥
nothing_before_call k r l is idle = by l.at is.fit idle
  where
    by : (at : At) → fits_at l.call.stage l.call.request l.sweep.cleanup l.put at ≡ true → is_idle at ≡ true → ⊥
    by At.Idle fit idle = cc
    by _ fit idle = cc

nothing_ready : (at : At) → is_ready at ≡ true → is_idle at ≡ true → ⊥
nothing_ready At.Idle is idle = cc
nothing_ready _ is idle = cc

nothing_reset : (at : At) → is_of_reset at ≡ true → is_idle at ≡ true → ⊥
nothing_reset At.Idle is idle = cc
nothing_reset _ is idle = cc

resting_of : (k : Key) (l : Local) → Part k l → is_idle l.at ≡ true → IsResting k l
resting_of k l (resting is) idle = is
resting_of k l (underway r is) idle = absurd (nothing_before_call k r l is idle)
resting_of k l (decided is) idle = absurd (nothing_ready l.at is.at idle)
resting_of k l (resetting is) idle = absurd (nothing_reset l.at is.reset.at idle)

-- a call begins: the request alone decides it, or it goes on and owes nothing
pub data Begins (k : Key) (r : Request) (now : Local) : Type 0 where
  alone : IsDecided k now → (answer : Answer) → now.at ≡ At.Ready answer → Pays k r answer [] [] → Begins k r now
  on_its_way : IsUnderway k r now → OwesNothing now → Begins k r now

started : (k : Key) (r : Request) (now : Local) (seat : ℕ) → asked_of now ≡ (seat, k, r, false, false)
    → Starts k r now → Begins k r now
started k r now seat asked (is_decided answer at pays) = alone (record {
  key = ap (λ p. p.1) asked;
  calling = ap (λ p. p.3) asked;
  at = ap is_ready at;
}) answer at pays
started k r now seat asked (owes_nothing number offset owing faces) = on_its_way (record {
  key = ap (λ p. p.1) asked;
  request = ap (λ p. p.2) asked;
  calling = ap (λ p. p.3) asked;
  elsewhere = ap (λ p. p.4) asked;
  fit = ap (λ p. p.4) owing;
  begins = subst (λ (p : ℕ × ℕ). BeginsBy k (named_by r) p.0 p.1)
      (sym (ap (λ (p : ℕ × ℕ × List Object × List Object × Bool). (p.0, p.1)) owing)) faces;
}) (ap (λ p. p.2) owing, ap (λ p. p.3) owing)

pub call_begins : (k : Key) (r : Request) (l : Local) → IsResting k l → Begins k r (begun l r).0
call_begins k r l is = subst (λ (x : Key). Begins x r (begun l r).0) is.key
    (started l.key r (begun l r).0 l.seat (calls_begin l r is.idle is.calling).1 (starts l r is.idle))

begun_free : (k : Key) (r : Request) (now : Local) → Begins k r now → IsFree k now
begun_free k r now (alone is answer at pays) = (decided is, decided_owes k now is)
begun_free k r now (on_its_way is nothing) = (underway r is, nothing)

pub follow_begin : (k : Key) (r : Request) (l : Local) → Part k l → Follows k l (begun l r).0
follow_begin k r l part = by (is_idle l.at) refl
  where
    by : (b : Bool) → is_idle l.at ≡ b → Follows k l (begun l r).0
    by true idle = let is = resting_of k l part idle in
        free_follows k l (begun l r).0 (rest_owes k l is)
        (begun_free k r (begun l r).0 (call_begins k r l is))
    by false idle = same_follows k l (begun l r).0 part
        (ap (λ (b : Bool). (cond {A = Local × Result Unit InCall} b
        (begun_as (asked_for l r) r, Ok tt) (l, Err (record { seat = l.seat }))).0) idle)

pub follow_reset : (k : Key) (reset : Reset) (l : Local) → Part k l → Follows k l (reset_begun l reset).0
follow_reset k reset l part = by (is_idle l.at) refl
  where
    by : (b : Bool) → is_idle l.at ≡ b → Follows k l (reset_begun l reset).0
    by true idle =
        let is = resting_of k l part idle in
        let of = (resets_begin l reset idle).1 in
        free_follows k l (reset_begun l reset).0 (rest_owes k l is) (free_in_reset k (reset_begun l reset).0 (record {
          key = ap (λ p. p.1) of ∙ is.key;
          reset = record { stage = ap (λ p. p.2) of; at = ap (λ p. p.3) of };
        }))
    by false idle = same_follows k l (reset_begun l reset).0 part
        (ap (λ (b : Bool). (cond {A = Local × Result Unit InCall} b
        (reset_begun_as l reset, Ok tt) (l, Err (record { seat = l.seat }))).0) idle)

then_follows : (k : Key) (l mid now : Local) → Follows k l mid → Follows k mid now → Follows k l now
then_follows k l mid now one two = record {
  part = two.part;
  grants = two.grants ∙ one.grants;
  frees = two.frees ∙ one.frees;
}

-- between two steps a seat owes what it owed
pub silence_follows : {D : Type 0} {c : Callback D} {l : Local} {desk : Option D} {now : Local} {after : Option D}
    → Silent c l desk now after → (k : Key) → Part k l → Follows k l now
silence_follows {l = l} (rests passes) k part = record { part = part; grants = refl; frees = refl }
silence_follows {l = l} (begins {now = mid} silent request) k part =
    let was = silence_follows silent k part in
    then_follows k l mid (begun mid request).0 was (follow_begin k request mid was.part)
silence_follows {l = l} (resets {now = mid} silent reset) k part =
    let was = silence_follows silent k part in
    then_follows k l mid (reset_begun mid reset).0 was (follow_reset k reset mid was.part)
silence_follows {l = l} (answers {now = mid} silent e) k part =
    let was = silence_follows silent k part in
    then_follows k l mid (learn mid Seen.Done).0 was (follow_turn k mid Seen.Done was.part (ap has_word e))
silence_follows {l = l} (obtains {now = mid} silent granules answer after e asks) k part =
    let was = silence_follows silent k part in
    then_follows k l mid (learn mid (seen_answer answer)).0 was
    (follow_turn k mid (seen_answer answer) was.part (ap has_word e))
silence_follows {l = l} (takes_out {now = mid} silent first e) k part =
    let was = silence_follows silent k part in
    then_follows k l mid (learn mid Seen.Given).0 was (follow_turn k mid Seen.Given was.part (ap has_word e))
silence_follows {l = l} (puts_back {now = mid} silent e) k part =
    let was = silence_follows silent k part in
    then_follows k l mid (learn mid Seen.Done).0 was (follow_turn k mid Seen.Done was.part (ap has_word e))

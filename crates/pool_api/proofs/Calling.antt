-- The turns of a call.
use Rattle.std.proofs.Common.{
  ◌≡◌,
  ℕ,
  Bool,
  true,
  false,
  List,
  [],
  ◌∷◌,
  ◌++◌,
  refl,
  sym,
  ap,
  ◌∙◌,
  subst,
  cond,
  Result,
  Ok,
  Err,
  IfOk,
}
use Rattle.std.proofs.lemmas.List.{append-nil}
use Rattle.pool_types.specs.declared.values.Answer.{Answer}
use Rattle.pool_types.specs.declared.values.Request.{Request}
use Rattle.pool_types.specs.declared.values.Turn.{Turn}
use Rattle.pool_words.specs.declared.actions.Action.TheVariants.{Nothing}
use Rattle.pool_words.specs.declared.actions.Seen.{Seen}
use Rattle.step_local.specs.declared.frames.At.{At}
use Rattle.step_local.specs.declared.frames.Local.{Local}
use Rattle.step_local.specs.declared.frames.Stage.{Stage}
use Rattle.step_local.specs.Course.{course}
use Rattle.pool_types.specs.declared.values.InCall.{InCall}
use Rattle.step_local.specs.Getting.{begun, begun_as, asked_for, is_idle}
use Rattle.atomic_driver.specs.Seating.{HasSeats}
use Rattle.step_local.specs.Learn.{learn}
use Rattle.step_runs.specs.declared.entry.Entry.{Entry}
use Rattle.step_runs.specs.declared.entry.Told.{Told}
use Rattle.step_runs.specs.Entries.{seen_by, told_at, told_by}
use Rattle.step_runs.specs.Places.{has_word}
use Rattle.std.specs.Prelude.{Option}
use Rattle.pool_types.specs.declared.raw.Raw.{Ghosts}
use Rattle.pool_types.specs.declared.values.Region.{Region}
use Rattle.regions.specs.Offices.{Desk}
use Rattle.atomic_driver.specs.declared.pool.Shared.{Shared}
use Rattle.atomic_driver.specs.declared.rule.Plan.{Plan}
use Rattle.atomic_driver.specs.declared.seat.DriverSeat.{DriverSeat}
use Rattle.atomic_driver.specs.Rule.{key_by}
use Rattle.atomic_driver.specs.Steps.{Acts, ActsBy, ActsOnWord, ActsElse, own_of, PoolDriven}
use Rattle.call_laws.specs.Calls.{
  IsCalling,
  IsKept,
  asked_of,
  left_of,
  is_ready,
  is_reset_at,
  is_outside,
  is_resetting,
}
use Rattle.call_laws.proofs.CallerLemmas.{turns_keep_calls, answers_alone, calls_begin}
use Rattle.pool_api.specs.Heaps.{IsResting, is_going, Goes, Answers, IsTold, CalledBy, told}
use Rattle.pool_api.specs.Heaps.{entry_of, IsHeap, IsFresh, AreFresh}

told_none_by : (request : Request) (turn : Turn) → is_going turn ≡ true → told_by request turn ≡ []
told_none_by request (Turn.Done answer) e = absurd (cc)
told_none_by request Turn.Stepped e = refl
told_none_by request (Turn.Waits awaited) e = refl
told_none_by request Turn.Idle e = refl

told_none : (stage : Stage) (request : Request) (turn : Turn) → is_going turn ≡ true → told_at stage request turn ≡ []
told_none (Stage.Resetting stage) request turn e = refl
told_none Stage.Idle request turn e = told_none_by request turn e
told_none Stage.Looking request turn e = told_none_by request turn e
told_none Stage.Getting request turn e = told_none_by request turn e
told_none Stage.Ending request turn e = told_none_by request turn e
told_none Stage.Replacing request turn e = told_none_by request turn e
told_none Stage.Undoing request turn e = told_none_by request turn e
told_none Stage.Leaving request turn e = told_none_by request turn e

told_one : (stage : Stage) (request : Request) (answer : Answer) → is_resetting stage ≡ false
    → told_at stage request (Turn.Done answer) ≡ told request answer ∷ []
told_one (Stage.Resetting stage) request answer e = absurd (cc)
told_one Stage.Idle request answer e = refl
told_one Stage.Looking request answer e = refl
told_one Stage.Getting request answer e = refl
told_one Stage.Ending request answer e = refl
told_one Stage.Replacing request answer e = refl
told_one Stage.Undoing request answer e = refl
told_one Stage.Leaving request answer e = refl

not_ready : (at : At) → is_outside at ≡ false → is_ready at ≡ true → ⊥
not_ready (At.Ready answer) e is = cc
not_ready _ e is = cc

ready_does_nothing : (l : Local) (at : At) → l.at ≡ at → is_ready at ≡ true → course l ≡ Nothing
ready_does_nothing l (At.Ready answer) here is = ap (λ (x : At). course (record l { at = x })) here
ready_does_nothing l _ here is = absurd (cc)

no_reset : (at : At) → is_outside at ≡ false → is_reset_at at ≡ false
no_reset (At.Reset at) e = absurd (cc)
no_reset _ e = refl

-- a call begins only where none is begun
pub begun_idle : (l : Local) (request : Request) (done : Unit {0}) → (begun l request).1 ≡ Ok done
    → is_idle l.at ≡ true
begun_idle l request done = by (is_idle l.at)
  where
    by : (b : Bool) → (cond {A = Local × Result (Unit {0}) InCall} b
        (begun_as (asked_for l request) request, Ok tt) (l, Err (record { seat = l.seat }))).1 ≡ Ok done → b ≡ true
    by true e = refl
    by false e = absurd (cc)

module _ {D : Type 0} where
  -- a turn by what was seen
  record Turned (l : Local) (e : Entry D) (now : Local) (after : Entry D) (turn : Turn) : Type 0 where
    seen : Seen
    learns : learn l seen ≡ (now, turn)
    seat : after.seat ≡ e.seat
    done : course l ≡ Nothing → (seen ≡ Seen.Done) × (after ≡ e)
    answers : (has_word (course l) ≡ true) → after.answers ≡ e.answers ++ told_at l.call.stage l.call.request turn
    alone : (has_word (course l) ≡ false) → after ≡ e

  turned : (l : Local) (e : Entry D) (now : Local) (after : Entry D) (turn : Turn) → Acts l e now after turn
      → Turned l e now after turn
  turned l e now after turn acts = by (has_word (course l)) refl acts
    where
      by : (b : Bool) → has_word (course l) ≡ b → ActsBy b l e now after turn → Turned l e now after turn
      by true is a = record {
        seen = seen_by (course l) a.found;
        learns = a.learns;
        seat = ap (λ (x : Entry D). x.seat) a.entry;
        done = λ none. absurd (let q = ap has_word none in cc);
        answers = λ _. ap (λ (x : Entry D). x.answers) a.entry
            ∙ ap (λ t. e.answers ++ told_at l.call.stage l.call.request t) (ap (λ z. z.1) a.learns);
        alone = λ no. absurd (cc);
      }
      by false is a = record {
        seen = a.seen;
        learns = a.learns;
        seat = ap (λ (x : Entry D). x.seat) a.entry;
        done = λ none. (a.done none, a.entry);
        answers = λ yes. absurd (cc);
        alone = λ _. a.entry;
      }

  -- a call that is going on
  pub record Stays (first : Local) (e : Entry D) (l : Local) (was : Entry D) : Type 0 where
    pub asked : asked_of l ≡ (first.seat, first.key, first.call.request, false, false)
    pub answers : was.answers ≡ e.answers
    pub ready : is_ready l.at ≡ true → (l ≡ first) × (was ≡ e)

  pub record Going (first : Local) (e : Entry D) (l : Local) (was : Entry D) : Type 0 where
    pub goes : Goes first e l was
    pub seat : was.seat ≡ e.seat
    pub stays : IsCalling first → is_reset_at first.at ≡ false → Stays first e l was

  pub going_first : (l : Local) (e : Entry D) → Going l e l e
  going_first l e = record {
    goes = Goes.begins;
    seat = refl;
    stays = λ calling reset. record {
      asked = λ i. (l.seat, l.key, l.call.request, calling i, reset i);
      answers = refl;
      ready = λ _. (refl, refl);
    };
  }

  answers_going : (l : Local) (was : Entry D) (now : Local) (after : Entry D) (turn : Turn)
      → Turned l was now after turn → is_going turn ≡ true → after.answers ≡ was.answers
  answers_going l was now after turn t going = by (has_word (course l)) refl
    where
      by : (b : Bool) → has_word (course l) ≡ b → after.answers ≡ was.answers
      by true is = t.answers is ∙ ap (λ more. was.answers ++ more) (told_none l.call.stage l.call.request turn going)
          ∙ append-nil was.answers
      by false is = ap (λ (x : Entry D). x.answers) (t.alone is)

  pub going_on : (first : Local) (e : Entry D) (l : Local) (was : Entry D) (now : Local) (after : Entry D)
      (turn : Turn)
      → Going first e l was → Acts l was now after turn → is_going turn ≡ true → Going first e now after
  going_on first e l was now after turn g acts going =
      let t = turned l was now after turn acts in
      record {
        goes = Goes.turns g.goes now after turn acts going;
        seat = t.seat ∙ g.seat;
        stays = λ calling reset.
            let s = g.stays calling reset in
            let kept = turns_keep_calls l t.seen (ap (λ z. z.3) s.asked) (ap (λ z. z.4) s.asked) in
            let left : left_of (now, turn) ≡ (l.seat, l.key, l.call.request, false, false, true) =
            subst (λ z. left_of z ≡ (l.seat, l.key, l.call.request, false, false, true)) t.learns kept in
            let outside : is_outside now.at ≡ false = ap (λ z. z.4) left in
            let is_reset = no_reset now.at outside in
            record {
              asked = λ i. (
                (ap (λ z. z.0) left ∙ ap (λ z. z.0) s.asked) i,
                (ap (λ z. z.1) left ∙ ap (λ z. z.1) s.asked) i,
                (ap (λ z. z.2) left ∙ ap (λ z. z.2) s.asked) i,
                (ap (λ z. z.3) left) i,
                is_reset i,
              );
              answers = answers_going l was now after turn t going ∙ s.answers;
              ready = λ is. absurd (not_ready now.at outside is);
            };
      }

  pub going_done : (l : Local) (e : Entry D) (request : Request) (mid : Local) (was : Entry D) (now : Local)
      (after : Entry D) (answer : Answer) → is_idle l.at ≡ true → Going (begun l request).0 e mid was
      → Acts mid was now after (Turn.Done answer) → CalledBy l e request (Ok answer) now after
  going_done l e request mid was now after answer idle g acts =
      let t = turned mid was now after (Turn.Done answer) acts in (
        idle,
        record { mid = mid; was = was; goes = g.goes; last = acts },
        t.seat ∙ g.seat,
        λ resting. rested resting t,
      )
    where
      rested : IsResting l → Turned mid was now after (Turn.Done answer) → IsTold l e request answer now after
      rested resting t =
          let b = calls_begin l request resting.0 resting.1 in
          let s = g.stays (ap (λ z. z.3) b.1) (ap (λ z. z.4) b.1) in
          let kept = turns_keep_calls mid t.seen (ap (λ z. z.3) s.asked) (ap (λ z. z.4) s.asked) in
          let left : left_of (now, Turn.Done answer) ≡ (mid.seat, mid.key, mid.call.request, false, false, true) =
          subst (λ z. left_of z ≡ (mid.seat, mid.key, mid.call.request, false, false, true)) t.learns kept in
          by left s b.1 (has_word (course mid)) refl
        where
          by : left_of (now, Turn.Done answer) ≡ (mid.seat, mid.key, mid.call.request, false, false, true)
              → Stays (begun l request).0 e mid was
              → asked_of (begun l request).0 ≡ (l.seat, l.key, request, false, false)
              → (word : Bool) → has_word (course mid) ≡ word → IsTold l e request answer now after
          by left s b true is = record {
            stepped = true;
            answers_are = t.answers is ∙ ap (λ more. was.answers ++ more)
                (told_one mid.call.stage mid.call.request answer (ap (λ z. z.3) s.asked)
                ∙ ap (λ r. told r answer ∷ []) (ap (λ z. z.2) s.asked ∙ ap (λ z. z.2) b))
                ∙ ap (λ answers. answers ++ (told request answer ∷ [])) s.answers;
            alone = λ no. absurd (cc);
            seat = ap (λ z. z.0) left ∙ ap (λ z. z.0) s.asked ∙ ap (λ z. z.0) b;
            key = ap (λ z. z.1) left ∙ ap (λ z. z.1) s.asked ∙ ap (λ z. z.1) b;
            rests = (ap (λ z. z.5) left, ap (λ z. z.3) left);
          }
          by left s b false is =
              let ready = answers_alone mid t.seen answer is (ap (λ z. z.1) t.learns) in
              let first = s.ready ready in
              let nothing = ready_does_nothing mid mid.at refl ready in
              let done = t.done nothing in
              record {
                stepped = false;
                answers_are = ap (λ (x : Entry D). x.answers) done.1 ∙ s.answers;
                alone = λ _. (
                  ap course (sym first.0) ∙ nothing,
                  ap (λ z. learn z Seen.Done) (sym first.0) ∙ ap (learn mid) (sym done.0) ∙ t.learns,
                  done.1 ∙ first.1,
                );
                seat = ap (λ z. z.0) left ∙ ap (λ z. z.0) s.asked ∙ ap (λ z. z.0) b;
                key = ap (λ z. z.1) left ∙ ap (λ z. z.1) s.asked ∙ ap (λ z. z.1) b;
                rests = (ap (λ z. z.5) left, ap (λ z. z.3) left);
              }

module _ {R : Type 0} {raw : Ghosts R} where
  -- a heap's key is that of its plan
  key_stays : (x y : DriverSeat R raw) → y.plan ≡ x.plan → y.key ≡ x.key
  key_stays x y plan = y.keyed ∙ ap key_by plan ∙ sym x.keyed

  -- a call that has begun
  pub going_begun : (x y : DriverSeat R raw) (request : Request) (local : Local) → y.place ≡ x.place → y.plan ≡ x.plan
      → y.local ≡ local → local ≡ (begun x.local request).0
      → Going (begun x.local request).0 (entry_of x) y.local (entry_of y)
  going_begun x y request local place plan is begins =
      subst (λ (z : Local × Entry (Desk R)). Going (begun x.local request).0 (entry_of x) z.0 z.1)
      (λ i. (sym (is ∙ begins) i, own_of (sym (key_stays x y plan) i) (sym place i).me.0.entries))
      (going_first (begun x.local request).0 (entry_of x))

  -- a turn of a heap, whose entry goes by the key that it had
  pub turn_as : (x y : DriverSeat R raw) (turn : Turn) → y.plan ≡ x.plan
      → Acts x.local (entry_of x) y.local (own_of x.key y.place.me.0.entries) turn
      → Acts x.local (entry_of x) y.local (entry_of y) turn
  turn_as x y turn plan acts =
      subst (λ k. Acts x.local (entry_of x) y.local (own_of k y.place.me.0.entries) turn) (sym
      (key_stays x y plan)) acts

  pub heap_on : (x y : DriverSeat R raw) (first : Local) (e : Entry (Desk R)) (turn : Turn) → y.plan ≡ x.plan
      → Acts x.local (entry_of x) y.local (own_of x.key y.place.me.0.entries) turn → is_going turn ≡ true
      → Going first e x.local (entry_of x) → Going first e y.local (entry_of y)
  heap_on x y first e turn plan acts going g =
      going_on first e x.local (entry_of x) y.local (entry_of y) turn g (turn_as x y turn plan acts) going

  pub heap_done : (h x y : DriverSeat R raw) (request : Request) (answer : Answer) (turn : Turn) → y.plan ≡ x.plan
      → Acts x.local (entry_of x) y.local (own_of x.key y.place.me.0.entries) turn → turn ≡ Turn.Done answer
      → is_idle h.local.at ≡ true → Going (begun h.local request).0 (entry_of h) x.local (entry_of x)
      → CalledBy h.local (entry_of h) request (Ok answer) y.local (entry_of y)
  heap_done h x y request answer turn plan acts is idle g =
      going_done h.local (entry_of h) request x.local (entry_of x) y.local (entry_of y) answer idle g
      (subst (λ t. Acts x.local (entry_of x) y.local (entry_of y) t) is (turn_as x y turn plan acts))

module _ {R : Type 0} (out : R → List Region) (faults : R → ℕ) (got : R → ℕ → Option Region → R → Type 0)
    (passed : R → Region → Bool → R → Type 0) where
  pub all_fresh : {raw : Ghosts R} (s : Shared R) (xs : List (DriverSeat R raw)) → HasSeats out faults got passed s xs
      → AreFresh out faults got passed s xs
  all_fresh {raw} s xs has i x at =
      let q = has.each i x at in
      record {
        heap = record {
          same_table = q.same_table;
          same_plan = q.same_plan;
          driven = subst (λ (p : Plan). PoolDriven out faults got passed p x.local x.office x.place.me)
              (sym q.same_plan) q.driven;
        };
        fresh = q.fresh;
        first = ap (λ k. own_of k x.place.me.0.entries) (x.keyed ∙ ap key_by q.same_plan) ∙ q.first;
      }

pub ok_map : {A E : Type 0} {P Q : A → Type 0} (r : Result A E) → ((a : A) → P a → Q a) → IfOk r P → IfOk r Q
ok_map (Ok a) f p = f a p
ok_map (Err e) f p = tt

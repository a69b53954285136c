-- Each state of a run keeps grants apart, and none returns.
use Rattle.std.proofs.Common.{◌≡◌, ◌⊎◌, inl, inr, ℕ, ◌+◌, ◌-◌, ◌<◌, ◌≤◌, List, [], ◌∷◌, ◌++◌, refl, sym, ap}
use Rattle.std.proofs.Common.{subst, ◌∙◌, arith}
use Rattle.std.proofs.lemmas.List.{append-nil}
use Rattle.std.specs.Prelude.{Bool, Option, Some, None, replicate}
use Rattle.std.proofs.lemmas.Bool.Decides.{nat_tests}
use Rattle.pool_types.specs.declared.policy.Limits.{Limits}
use Rattle.pool_types.specs.declared.policy.Policy.{Policy}
use Rattle.pool_types.specs.declared.values.Grant.{Grant}
use Rattle.pool_types.specs.declared.values.Region.{Region}
use Rattle.pool_types.specs.Policies.{IsAllowed}
use Rattle.pool_words.specs.declared.words.Key.{Key}
use Rattle.pool_words.specs.Actions.{finds, after_action}
use Rattle.pool_words.specs.Words.{marks, words_of}
use Rattle.word_codes.specs.declared.marks.Mark.{Mark}
use Rattle.word_codes.specs.Marks.{mark_of, mark_word}
use Rattle.word_codes.proofs.CallerLemmas.{capped_is, marks_read_back}
use Rattle.word_laws.specs.Memory.{Mem, put, memory, after, found}
use Rattle.word_laws.proofs.CallerLemmas.{put-same, each, actions_act_by_kind}
use Rattle.word_laws.proofs.Placing.{new_rows_are_fresh}
use Rattle.step_depot.specs.Steps.{key_of}
use Rattle.step_local.specs.declared.frames.Local.{Local}
use Rattle.step_local.specs.declared.frames.Object.{Object}
use Rattle.step_local.specs.Answers.{next_mark, object_got}
use Rattle.step_local.specs.Course.{course}
use Rattle.step_local.specs.Getting.{last_grant}
use Rattle.step_local.specs.Learn.{learn}
use Rattle.step_runs.specs.declared.entry.Entry.{Entry}
use Rattle.step_runs.specs.Entries.{gain_of, loss_of, seen_by, learnt, first_entry}
use Rattle.step_runs.specs.Runs.{Callback, Silent, Run}
use Rattle.step_runs.specs.Runs.Run.{opened, stepped}
use Rattle.step_runs.proofs.CallerLemmas.{run_stands}
use Rattle.step_laws.specs.Laws.{OnlySeatsStep, RunsOn}
use Rattle.step_laws.specs.Laws.RunsOn.{stays, steps_on}
use Rattle.step_laws.proofs.CallerLemmas.{put_back, put_mapped, seated_silence, run_seated, run_on, this_seat}
use Rattle.step_laws.proofs.CallerLemmas.{before_seats}
use Rattle.step_grants.specs.Grants.{lasts_of, frees_of, IsAt, IsMade, AreApart, NeverReturn, marked}
use Rattle.step_grants.specs.Grants.{grant_in, InOrder, EndOnce}
use Rattle.step_grants.specs.Laws.{NumbersStayBelow, GrantsAreAtOnePlace, GrantsNeverReturn, AreDistinct}
use Rattle.step_grants.specs.Laws.{GrantsOfARunAreDistinct}
use Rattle.step_numbers.specs.Positions.{NumbersFit, granting}
use Rattle.step_grants.proofs.Apart.{Comes, stay_apart, returns_none, returns_on, none_apart}
use Rattle.step_grants.proofs.Lists.{same_place, order_more, end_stays, end_more}
use Rattle.step_numbers.proofs.CallerLemmas.{Stays, number_left, stays_learnt, granted_next, made_fits}
use Rattle.step_numbers.proofs.CallerLemmas.{turns_keep_numbers}
use Rattle.step_grants.proofs.Silence.{silence_stays}
use Rattle.step_grants.proofs.Words.{stored_mark}
use Rattle.step_grants.proofs.Writes.{quiet_at, grant_stored, gained, gained_none, LossFits, IsBounded, loses_at}

-- each seat keeps what its local says of numbers
pub run_numbers : {D : Type 0} {c : Callback D} {k : Key} {first : D} {words : List ℕ} {home : Option D}
    {entries : ℕ → Entry D} → Run c k first words home entries → (seat : ℕ) → NumbersFit (entries seat).local
run_numbers {k = k} opened = λ seat. made_fits k seat
run_numbers {k = k} (stepped {words = words} {home = home} {entries = entries} run seat l desk silent word) =
    each (λ o e. NumbersFit e.local) entries seat (learnt (entries seat) l home desk (finds k words (course l)))
    (λ o _. run_numbers run o)
    ((turns_keep_numbers l (silence_stays silent (run_numbers run seat)).fits).turns
    (seen_by (course l) (finds k words (course l))))

-- the mark of a seat's next grant names it
module _ (l : Local) (seat last : ℕ) (number : l.seat ≡ seat) (few : seat < 64) (low : last < last_grant)
    (same : l.last ≡ last) where
  pub next_names : mark_of (next_mark l) ≡ Mark.Granted (record { seat = seat; number = last + 1 })
  next_names =
      ap (λ (n : ℕ). mark_of (mark_word (Mark.Granted (record { seat = l.seat; number = n }))))
      (capped_is (l.last + 1) (omega arith) ∙ ap (λ (n : ℕ). n + 1) same)
      ∙ ap (λ (n : ℕ). mark_of (mark_word (Mark.Granted (record { seat = n; number = last + 1 })))) number
      ∙ marks_read_back (Mark.Granted (record { seat = seat; number = last + 1 })) (few, omega arith)

-- one step of a seat, behind its silence
module _ (k : Key) (m : Mem) (lasts : ℕ → ℕ) (seat : ℕ) (l : Local) (fits : NumbersFit l) (same : l.last ≡ lasts seat)
    (number : l.seat ≡ seat) (low : seat < k.seats) (most : k.seats ≤ 64) (f : ℕ) where
  abbrev on : Local
  on = (learn l (seen_by (course l) f)).0

  rises : lasts seat ≤ on.last → (o : ℕ) → lasts o ≤ put lasts seat on.last o
  rises up = each (λ o n. lasts o ≤ n) lasts seat on.last (λ o ne. omega arith) up

  grant_comes : (unit : ℕ) → granting l.at ≡ Some unit
      → Comes k.seats (m marks) lasts (after k m (course l) marks) (put lasts seat on.last)
  grant_comes unit is =
      let left = number_left l unit is fits in
      let next = granted_next l unit (seen_by (course l) f) is fits in
      let new : Grant = record { seat = seat; number = lasts seat + 1 } in
      record {
        unit = unit;
        grant = new;
        fresh = omega arith;
        rise = rises (let n = next.last in omega arith);
        came = λ u other at. by u other
            (stored_mark k m unit (next_mark l) u other
            (subst (λ action. IsAt (after k m action marks) other u) (grant_stored l l.at unit is) at));
      }
    where
      by : (u : ℕ) (other : Grant)
          → IsAt (m marks) other u ⊎ ((u ≡ unit) × (mark_of (next_mark l) ≡ Mark.Granted other))
          → IsAt (m marks) other u ⊎ ((u ≡ unit) × (other ≡ record { seat = seat; number = lasts seat + 1 })
          × IsMade k.seats (put lasts seat on.last) other)
      by u other (inl was) = inl was
      by u other (inr now) =
          let names = next_names l seat (lasts seat) number (omega arith)
          (let left = number_left l unit is fits in omega arith) same in
          let it : other ≡ record { seat = seat; number = lasts seat + 1 } = (let e = now.1 in cc) in
          inr (
            now.0,
            it,
            subst (IsMade k.seats (put lasts seat on.last)) (sym it) (record {
              seat = low;
              first = omega arith;
              last = let up = put-same lasts seat on.last in
                  let n = (granted_next l unit (seen_by (course l) f) is fits).last in omega arith;
            }),
          )

  none_comes : granting l.at ≡ None
      → Comes k.seats (m marks) lasts (after k m (course l) marks) (put lasts seat on.last)
  none_comes none = record {
    unit = 0;
    grant = record { seat = 0; number = lasts 0 + 1 };
    fresh = omega arith;
    rise = rises (let n = (stays_learnt l (seen_by (course l) f) none fits).last in omega arith);
    came = λ u other at. inl (quiet_at k m l l.at none u other at);
  }

  pub step_comes : Comes k.seats (m marks) lasts (after k m (course l) marks) (put lasts seat on.last)
  step_comes = by (granting l.at) refl
    where
      by : (unit : Option ℕ) → granting l.at ≡ unit
          → Comes k.seats (m marks) lasts (after k m (course l) marks) (put lasts seat on.last)
      by (Some unit) is = grant_comes unit is
      by None none = none_comes none

  -- the seat's grants after it
  pub step_order : (grants : List Object) → InOrder seat (lasts seat) grants
      → InOrder seat on.last (grants ++ gain_of l)
  step_order grants order = by (granting l.at) refl
    where
      by : (unit : Option ℕ) → granting l.at ≡ unit → InOrder seat on.last (grants ++ gain_of l)
      by (Some unit) is =
          let left = number_left l unit is fits in
          let next = granted_next l unit (seen_by (course l) f) is fits in
          subst (λ (xs : List Object). InOrder seat on.last (grants ++ xs)) (sym (gained l l.at unit is))
          (subst (λ (n : ℕ). InOrder seat n (grants ++ object_got l unit ∷ []))
          (ap (λ (n : ℕ). n + 1) (sym same) ∙ sym next.last)
          (order_more seat (lasts seat) grants (object_got l unit)
          (ap marked (next_names l seat (lasts seat) number (omega arith) (omega arith) same)) order))
      by None none =
          let next = stays_learnt l (seen_by (course l) f) none fits in
          subst (λ (xs : List Object). InOrder seat on.last (grants ++ xs)) (sym (gained_none l l.at none))
          (subst (λ (xs : List Object). InOrder seat on.last xs) (sym (append-nil grants))
          (subst (λ (n : ℕ). InOrder seat n grants) (sym same ∙ sym next.last) order))

-- what is so of grants in each state
pub record AllFit {D : Type 0} (k : Key) (words : List ℕ) (entries : ℕ → Entry D) : Type 0 where
  pub apart : AreApart k.seats (memory k words marks) (lasts_of entries)
  pub order : (seat : ℕ) → InOrder seat (lasts_of entries seat) (entries seat).grants
  pub ended : EndOnce k.seats (memory k words marks) (lasts_of entries) (frees_of entries)

bounded : (k : Key) (words : List ℕ) → IsBounded k (memory k words marks)
bounded k words u void = grind (arith, nat_tests)

-- what a seat has ended after a step
ended_after : (seats : ℕ) (before lasts after' lasts' : ℕ → ℕ) (frees : ℕ → List Object) (seat : ℕ)
    (loss : List Object) → Comes seats before lasts after' lasts' → AreApart seats before lasts
    → EndOnce seats before lasts frees → LossFits before after' loss
    → EndOnce seats after' lasts' (put frees seat (frees seat ++ loss))
ended_after seats before lasts after' lasts' frees seat loss comes apart once (inl none) =
    subst (λ (g : ℕ → List Object). EndOnce seats after' lasts' g)
    (sym (put_back frees seat (frees seat ++ loss)
    (sym (append-nil (frees seat)) ∙ ap (λ (xs : List Object). frees seat ++ xs) (sym none))))
    (end_stays seats before lasts after' lasts' comes frees once)
ended_after seats before lasts after' lasts' frees seat loss comes apart once (inr (x, is, loses)) =
    subst (λ (xs : List Object). EndOnce seats after' lasts' (put frees seat (frees seat ++ xs))) (sym is)
    (end_more seats before lasts after' lasts' comes frees once apart seat x loses)

-- one step of a run
module _ {D : Type 0} (c : Callback D) (k : Key) (words : List ℕ) (home : Option D) (entries : ℕ → Entry D) (seat : ℕ)
    (l : Local) (desk : Option D) (numbers : NumbersFit (entries seat).local)
    (silent : Silent c (entries seat).local (entries seat).desk l desk) (number : l.seat ≡ seat) (low : seat < k.seats)
    (most : k.seats ≤ 64) (leaves : memory k (after_action k words (course l)) ≡ after k (memory k words) (course l))
    (sees : finds k words (course l) ≡ found (memory k words) (course l)) where
  abbrev next : Entry D
  next = learnt (entries seat) l home desk (finds k words (course l))

  abbrev later : ℕ → Entry D
  later = put entries seat next

  abbrev left : ℕ → ℕ
  left = memory k (after_action k words (course l)) marks

  now : Stays (entries seat).local.last l
  now = silence_stays silent numbers

  pub run_comes : Comes k.seats (memory k words marks) (lasts_of entries) left (lasts_of later)
  run_comes =
      subst (λ (m : Mem). Comes k.seats (memory k words marks) (lasts_of entries) (m marks) (lasts_of later))
      (sym leaves)
      (subst (λ (g : ℕ → ℕ). Comes k.seats (memory k words marks) (lasts_of entries)
      (after k (memory k words) (course l) marks) g) (sym (put_mapped (λ e. e.local.last) entries seat next))
      (step_comes k (memory k words) (lasts_of entries) seat l now.fits now.last number low most
      (finds k words (course l))))

  run_loses : LossFits (memory k words marks) left (loss_of l (finds k words (course l)))
  run_loses =
      subst (λ (m : Mem). LossFits (memory k words marks) (m marks) (loss_of l (finds k words (course l))))
      (sym leaves)
      (subst (λ (f : ℕ). LossFits (memory k words marks) (after k (memory k words) (course l) marks) (loss_of l f))
      (sym sees) (loses_at k (memory k words) (bounded k words) l l.at now.fits.place))

  pub next_fits : AllFit k words entries → AllFit k (after_action k words (course l)) later
  next_fits fit = record {
    apart = stay_apart k.seats (memory k words marks) (lasts_of entries) left (lasts_of later) run_comes fit.apart;
    order = each (λ o e. InOrder o e.local.last e.grants) entries seat next (λ o ne. fit.order o)
        (step_order k (memory k words) (lasts_of entries) seat l now.fits now.last number low most
        (finds k words (course l)) (entries seat).grants (fit.order seat));
    ended = subst (λ (g : ℕ → List Object). EndOnce k.seats left (lasts_of later) g)
        (sym (put_mapped (λ e. e.frees) entries seat next))
        (ended_after k.seats (memory k words marks) (lasts_of entries) left (lasts_of later) (frees_of entries) seat
        (loss_of l (finds k words (course l))) run_comes fit.apart fit.ended run_loses);
  }

new_fits : {D : Type 0} (k : Key) → AllFit {D = D} k (replicate (words_of k) 0) (first_entry k)
new_fits k = record {
  apart = none_apart k.seats (memory k (replicate (words_of k) 0) marks) (λ seat. 0)
      (λ u. ap (λ (m : Mem). m marks u) (new_rows_are_fresh k));
  order = λ seat. record { count = refl; each = λ i none. absurd (omega arith) };
  ended = record {
    all = λ seat i none. absurd (omega arith);
    made = λ seat i grant e. absurd (cc);
    gone = λ seat i grant e u. absurd (cc);
    once = λ seat i other j grant e there. absurd (cc);
  };
}

-- what holds of grants in each state, and between two
pub run_fits : {D : Type 0} {c : Callback D} {k : Key} {first : D} {words : List ℕ} {home : Option D}
    {entries : ℕ → Entry D} → k.seats ≤ 64 → Run c k first words home entries → OnlySeatsStep k.seats entries
    → AllFit k words entries
run_fits {k = k} most opened only = new_fits k
run_fits {c = c} {k = k} most
    (stepped {words = words} {home = home} {entries = entries} run seat l desk silent word) only =
    let value = finds k words (course l) in
    let acts = actions_act_by_kind k words (course l) (run_stands run).sized in
    next_fits c k words home entries seat l desk (run_numbers run seat) silent
    (seated_silence silent (run_seated run seat)).number (this_seat k.seats entries seat l home desk value only) most
    acts.leaves acts.sees (run_fits most run (before_seats k.seats entries seat l home desk value only))

pub run_returns : {D : Type 0} {c : Callback D} {k : Key} {first : D} {words0 : List ℕ} {home0 : Option D}
    {entries0 : ℕ → Entry D} {words : List ℕ} {home : Option D} {entries : ℕ → Entry D} → k.seats ≤ 64
    → Run c k first words0 home0 entries0 → RunsOn c k words0 home0 entries0 words home entries
    → OnlySeatsStep k.seats entries
    → NeverReturn (memory k words0 marks) (lasts_of entries0) (memory k words marks) (lasts_of entries)
run_returns {k = k} {words = words} {entries = entries} most run stays only =
    returns_none (memory k words marks) (lasts_of entries)
run_returns {c = c} {k = k} {words0 = words0} {entries0 = entries0} most run
    (steps_on {words = words} {home = home} {entries = entries} on seat l desk silent word) only =
    let so_far = run_on run on in
    let value = finds k words (course l) in
    let acts = actions_act_by_kind k words (course l) (run_stands so_far).sized in
    returns_on k.seats (memory k words0 marks) (lasts_of entries0) (memory k words marks) (lasts_of entries)
    (memory k (after_action k words (course l)) marks)
    (lasts_of (put entries seat (learnt (entries seat) l home desk value)))
    (run_returns most run on (before_seats k.seats entries seat l home desk value only))
    (run_comes c k words home entries seat l desk (run_numbers so_far seat) silent
    (seated_silence silent (run_seated so_far seat)).number (this_seat k.seats entries seat l home desk value only)
    most acts.leaves acts.sees)

few_seats : (policy : Policy) (limits : Limits) → IsAllowed policy limits → limits.seats ≤ 64
few_seats policy limits allowed = let is_in = allowed.limits_in.0.0 in grind (arith, nat_tests)

-- all grants of a state
module _ {D : Type 0} (k : Key) (words : List ℕ) (entries : ℕ → Entry D) (fit : AllFit k words entries) where
  names_its_place : (seat i : ℕ) (grant : Grant) → grant_in (entries seat).grants i ≡ Some grant
      → grant ≡ record { seat = seat; number = i + 1 }
  names_its_place seat i grant e =
      same_place seat (lasts_of entries seat) (entries seat).grants (fit.order seat) i grant e

  one_place : (seat i other j : ℕ) (grant : Grant) → grant_in (entries seat).grants i ≡ Some grant
      → grant_in (entries other).grants j ≡ Some grant → (seat ≡ other) × (i ≡ j)
  one_place seat i other j grant e there =
      let here = names_its_place seat i grant e in
      let too = names_its_place other j grant there in
      let n : i + 1 ≡ j + 1 = ap (λ (g : Grant). g.number) (sym here ∙ too) in
      (ap (λ (g : Grant). g.seat) (sym here ∙ too), omega arith)

  was_granted : (grant : Grant) → IsMade k.seats (lasts_of entries) grant
      → grant_in (entries grant.seat).grants (grant.number - 1) ≡ Some grant
  was_granted grant made =
      let first = made.first in
      let last = made.last in
      let n : grant.number - 1 + 1 ≡ grant.number = omega arith in
      let by : ℕ → Option Grant = λ (m : ℕ). Some (record { seat = grant.seat; number = m }) in
      (fit.order grant.seat).each (grant.number - 1) (omega arith) ∙ ap by n

  pub are_distinct : AreDistinct k.seats (memory k words marks) entries
  are_distinct = record {
    order = fit.order;
    distinct = one_place;
    ended = fit.ended;
    granted = λ seat i grant e. was_granted grant (fit.ended.made seat i grant e);
    named = λ u grant is. record {
      granted = was_granted grant (fit.apart.made u grant is);
      kept = λ seat i e. fit.ended.gone seat i grant e u is;
    };
  }

module _ {R : Type 0} (out : R → List Region) (faults : R → ℕ) (got : R → ℕ → Option Region → R → Type 0)
    (passed : R → Region → Bool → R → Type 0) where
  pub numbers_stay_below : NumbersStayBelow out faults got passed
  numbers_stay_below policy limits raw words home entries run seat =
      let fits = run_numbers run seat in
      record {
        below = fits.below;
        left = λ l desk unit silent is. number_left l unit is (silence_stays silent fits).fits;
      }

  pub grants_are_at_one_place : GrantsAreAtOnePlace out faults got passed
  grants_are_at_one_place policy limits raw words home entries allowed run only =
      (run_fits (few_seats policy limits allowed) run only).apart

  pub grants_never_return : GrantsNeverReturn out faults got passed
  grants_never_return policy limits raw words home entries words' home' entries' allowed run on only =
      run_returns (few_seats policy limits allowed) run on only

  pub grants_of_a_run_are_distinct : GrantsOfARunAreDistinct out faults got passed
  grants_of_a_run_are_distinct policy limits raw words home entries allowed run only =
      are_distinct (key_of policy limits) words entries (run_fits (few_seats policy limits allowed) run only)

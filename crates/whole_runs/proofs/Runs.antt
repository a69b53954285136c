-- Each state that calls lead to is one of the whole pool.
use Rattle.std.proofs.Common.{◌≡◌, ℕ, ◌+◌, ◌<◌, ◌≤◌, Bool, true, false, List, [], Option, Some, None, length}
use Rattle.std.proofs.Common.{refl, sym, subst, arith}
use Rattle.std.specs.Prelude.{replicate}
use Rattle.pool_types.specs.declared.policy.Limits.{Limits}
use Rattle.pool_types.specs.declared.policy.Policy.{Policy}
use Rattle.pool_types.specs.declared.values.Region.{Region}
use Rattle.pool_types.specs.Limits.{most_span}
use Rattle.pool_types.specs.Policies.{IsAllowed}
use Rattle.regions.specs.Offices.{Desk, desk_of, IsSound}
use Rattle.pool_words.specs.declared.words.Key.{Key}
use Rattle.pool_words.specs.Actions.{finds, after_action}
use Rattle.pool_words.specs.Words.{words_of}
use Rattle.word_laws.specs.Memory.{Mem, put, memory, fresh, after, found}
use Rattle.word_laws.proofs.CallerLemmas.{each, actions_act_by_kind}
use Rattle.word_laws.proofs.Placing.{new_rows_are_fresh}
use Rattle.office_laws.specs.Named.{no_regions}
use Rattle.office_laws.specs.Steps.{shadow_removed}
use Rattle.office_laws.specs.Regions.{Shadow, Task}
use Rattle.office_laws.proofs.Examples.{fresh_offices_have_no_regions}
use Rattle.step_depot.specs.Steps.{key_of}
use Rattle.region_steps.specs.declared.office.OfficeAt.{OfficeAt}
use Rattle.step_local.specs.declared.frames.At.{At}
use Rattle.step_local.specs.declared.frames.Local.{Local}
use Rattle.step_local.specs.Course.{course}
use Rattle.step_local.specs.Learn.{learn}
use Rattle.step_runs.specs.declared.entry.Entry.{Entry}
use Rattle.step_runs.specs.Callbacks.{office_of, PoolRun}
use Rattle.step_runs.specs.Entries.{learnt, first_entry, seen_by}
use Rattle.step_runs.specs.Laws.{IsOf}
use Rattle.step_runs.specs.Places.{has_word, move_of}
use Rattle.step_runs.specs.Runs.{Run, Silent, home_after}
use Rattle.step_runs.specs.Runs.Run.{opened, stepped}
use Rattle.step_runs.proofs.CallerLemmas.{Has, office_keeps, run_keeps, run_stands}
use Rattle.step_laws.specs.Laws.{OnlySeatsStep}
use Rattle.step_laws.specs.Tasks.{shadow_at, shadow_by, tasks_of}
use Rattle.step_laws.proofs.CallerLemmas.{Fits, before_seats, few_indices, few_seats, first_sound, leaves_fit, new_fits}
use Rattle.step_laws.proofs.CallerLemmas.{this_seat}
use Rattle.pool_laws.specs.Laws.{FreshWholesAreGood}
use Rattle.pool_laws.specs.Named.{fresh_whole}
use Rattle.pool_laws.specs.Wholes.{WholeGood}
use Rattle.pool_laws.specs.Steps.WholeRun.{starts}
use Rattle.seat_ties.specs.Turns.{StepLeaves, found_in, next_in}
use Rattle.seat_ties.proofs.CallerLemmas.{fresh_seats_are_tied}
use Rattle.whole_runs.specs.Calls.{AreCalls, IsSilentCall}
use Rattle.whole_runs.specs.Laws.{RunsAreGood, RunsHoldTogether, SeatsStandBetween}
use Rattle.whole_runs.specs.States.{AreShort, IsWhole, SeatStands}
use Rattle.whole_runs.proofs.Around.{good_of, run_around}
use Rattle.begun_laws.proofs.CallerLemmas.{fresh_begun_fits}
use Rattle.slab_places.proofs.CallerLemmas.{fresh_slabs_lie, turns_keep_slabs}
use Rattle.pool_laws.proofs.CallerLemmas.{wholes_hold_together}
use Rattle.whole_runs.proofs.Calls.{call_learn}
use Rattle.whole_runs.proofs.Silence.{Silenced, silence_stands}
use Rattle.whole_runs.proofs.Ties.{Stands, by_local, by_seat, tie}
use Rattle.whole_runs.proofs.Turned.{no_reset, turns_are_steps}

-- a step on a word leaves regions where they lie, or takes one out
short_removed : (k : Key) (g : Shadow) (given : Option ℕ) → AreShort k g → AreShort k (shadow_removed given g)
short_removed k g None short s one is = short s one is
short_removed k g (Some slot) short s one is =
    each (λ s found. found ≡ Some one → one.first + one.granules < k.span) g.out slot None (λ s ne is. short s one is)
    (λ is. absurd (cc)) s is

short_at : (k : Key) (at : OfficeAt) (g : Shadow) → AreShort k g → AreShort k (shadow_at at g)
short_at k (OfficeAt.Enter one) g short = short
short_at k (OfficeAt.Remove given) g short = short_removed k g given short
short_at k _ g short = short

short_by : (k : Key) (at : At) (g : Shadow) → AreShort k g → AreShort k (shadow_by at g)
short_by k (At.Office job at) g short = short_at k at g short
short_by k _ g short = short

module _ (k : Key) (most : k.seats ≤ 64) (anew : WholeGood k (fresh_whole k)) (locals : ℕ → Local) where
  -- a step on a word, of a seat that stands
  word_own : (l : Local) (m : Mem) (g : Shadow) → Stands k most anew locals l.seat l m g → has_word (course l) ≡ true
      → Stands k most anew locals l.seat (learn l (seen_by (course l) (found m (course l)))).0 (after k m (course l))
      (shadow_by l.at g)
  word_own l m g s word =
      let w = s.whole in
      let good = good_of k most anew w s.around.run in
      let quiet = no_reset l.call.stage s.mine.call.calling in
      let leaves : StepLeaves k w l = turns_are_steps k w l good s.mine.tied s.mine.call word s.mine.slabs in
      let later = leaves.later in
      let around = run_around k most anew locals l.seat s.low w later s.around leaves.run in
      subst (λ x. Stands k most anew locals l.seat (learn l (seen_by (course l) (found x (course l)))).0
      (after k x (course l)) (shadow_by l.at g)) s.words
      (subst (λ x. Stands k most anew locals l.seat (next_in w l) (after k w.pool.mem (course l)) (shadow_by l.at x))
      s.office
      (tie k most anew locals l.seat (next_in w l) (after k w.pool.mem (course l)) (shadow_by l.at w.office) s.low later
      around leaves.here (call_learn l (seen_by (course l) (found_in w l)) s.mine.call)
      (turns_keep_slabs k w later l good s.mine.tied quiet s.mine.call.at word (good_of k most anew later around.run)
      leaves.here s.mine.slabs) leaves.words leaves.office
      (short_by k l.at w.office (subst (AreShort k) (sym s.office) s.short))))

  pub word_stands : (t : ℕ) (l : Local) (m : Mem) (g : Shadow) → Stands k most anew locals t l m g
      → has_word (course l) ≡ true
      → Stands k most anew locals t (learn l (seen_by (course l) (found m (course l)))).0 (after k m (course l))
      (shadow_by l.at g)
  word_stands t l m g s word =
      by_seat k most anew locals t l (learn l (seen_by (course l) (found m (course l)))).0 (after k m (course l))
      (shadow_by l.at g) s.mine.tied.says.fits.frames.seat'
      (word_own l m g (by_local k most anew locals t l m g s) word)

-- a new pool that can be made is good
new_good : FreshWholesAreGood → (policy : Policy) (limits : Limits) → IsAllowed policy limits
    → WholeGood (key_of policy limits) (fresh_whole (key_of policy limits))
new_good fresh policy limits allowed =
    let few = few_indices policy limits allowed in
    fresh (key_of policy limits) (few_seats policy limits allowed) (omega arith)

module _ {R : Type 0} (out : R → List Region) (faults : R → ℕ) (got : R → ℕ → Option Region → R → Type 0)
    (passed : R → Region → Bool → R → Type 0) (policy : Policy) (limits : Limits)
    (most : limits.seats ≤ 64) (anew : WholeGood (key_of policy limits) (fresh_whole (key_of policy limits))) where
  abbrev k : Key
  k = key_of policy limits

  abbrev locals_of : (ℕ → Entry (Desk R)) → ℕ → Local
  locals_of entries o = (entries o).local

  -- the office's steps since the pool was made, and what holds of the office
  abbrev AllFits : Shadow → List ℕ → Option (Desk R) → (ℕ → Entry (Desk R)) → Type 0
  AllFits g words home entries = Fits out faults got passed k no_regions fresh (λ seat. Task.Away)
      fresh_offices_have_no_regions g (memory k words) (tasks_of entries) home (λ o. (entries o).desk)

  pub record Reached (words : List ℕ) (home : Option (Desk R)) (entries : ℕ → Entry (Desk R)) : Type 0 where
    pub state : IsWhole k words (locals_of entries)
    pub fits : AllFits state.whole.office words home entries

  new_reached : (first : Desk R) → IsSound out first → limits.span ≤ most_span
      → Reached (replicate (words_of k) 0) (Some first) (first_entry k)
  new_reached first sound short = record {
    state = record {
      whole = fresh_whole k;
      run = starts;
      words' = sym (new_rows_are_fresh k);
      seats = λ seat low. record {
        tied = fresh_seats_are_tied k seat (record { seats = low; few = most; span = short });
        call = record { calling = refl; at = refl };
        slabs = fresh_slabs_lie k seat;
      };
      begun = fresh_begun_fits k;
      none = λ seat high. refl;
      short = λ s one is. absurd (cc);
    };
    fits = new_fits out faults got passed k first sound;
  }

  module _ (words : List ℕ) (home : Option (Desk R)) (entries : ℕ → Entry (Desk R))
      (reached : Reached words home entries) (seat : ℕ) (low : seat < k.seats) where
    -- a seat, and all others, in a state that is reached
    first_stands : Stands k most anew (locals_of entries) seat (entries seat).local (memory k words)
        reached.state.whole.office
    first_stands = record {
      whole = reached.state.whole;
      low = low;
      around = record {
        run = reached.state.run;
        others = λ o few ne. reached.state.seats o few;
        begun = reached.state.begun;
        none = reached.state.none;
      };
      mine = reached.state.seats seat low;
      words = reached.state.words';
      office = refl;
      short = reached.state.short;
    }

    abbrev Next : Local → Option (Desk R) → ℕ → ℕ → Entry (Desk R)
    Next l desk value = put entries seat (learnt (entries seat) l home desk value)

    -- the state behind a step of the seat
    next_reached : (l : Local) (desk : Option (Desk R)) (value : ℕ) (g : Shadow)
        → (s : Stands k most anew (locals_of entries) seat (learn l (seen_by (course l) value)).0
        (memory k (after_action k words (course l))) g)
        → AllFits g (after_action k words (course l)) (home_after (move_of l.at value) home desk) (Next l desk value)
        → Reached (after_action k words (course l)) (home_after (move_of l.at value) home desk) (Next l desk value)
    next_reached l desk value g s fits = record {
      state = record {
        whole = s.whole;
        run = s.around.run;
        words' = s.words;
        seats = λ o few. each (λ o e. o < k.seats → SeatStands k s.whole o e.local) entries seat
            (learnt (entries seat) l home desk value) (λ o ne few. s.around.others o few ne) (λ _. s.mine) o few;
        begun = s.around.begun;
        none = s.around.none;
        short = subst (AreShort k) (sym s.office) s.short;
      };
      fits = subst (λ x. AllFits x (after_action k words (course l)) (home_after (move_of l.at value) home desk)
          (Next l desk value)) (sym s.office) fits;
    }

    step_reached : (l : Local) (desk : Option (Desk R))
        → (silent : Silent (office_of out faults got passed k) (entries seat).local (entries seat).desk l desk)
        → IsSilentCall silent → has_word (course l) ≡ true → Has (IsOf policy limits) (entries seat).desk
        → length words ≡ words_of k
        → Reached (after_action k words (course l))
        (home_after (move_of l.at (finds k words (course l))) home desk) (Next l desk (finds k words (course l)))
    step_reached l desk silent call word has sized =
        let q : Silenced out faults got passed policy limits most anew no_regions fresh (λ seat. Task.Away)
        fresh_offices_have_no_regions (memory k words) home entries seat l desk
        = silence_stands out faults got passed policy limits most anew no_regions fresh (λ seat. Task.Away)
        fresh_offices_have_no_regions (memory k words) home entries seat reached.state.whole.office first_stands
        reached.fits has silent call in
        let acts = actions_act_by_kind k words (course l) sized in
        let value = finds k words (course l) in
        let s = word_stands k most anew (locals_of entries) seat l (memory k words) q.shadow q.stands word in
        next_reached l desk value (shadow_by l.at q.shadow)
        (subst (λ m. Stands k most anew (locals_of entries) seat (learn l (seen_by (course l) value)).0 m
        (shadow_by l.at q.shadow)) (sym acts.leaves)
        (subst (λ v. Stands k most anew (locals_of entries) seat (learn l (seen_by (course l) v)).0
        (after k (memory k words) (course l)) (shadow_by l.at q.shadow)) (sym acts.sees) s))
        (leaves_fit out faults got passed k no_regions fresh (λ seat. Task.Away) fresh_offices_have_no_regions words
        home entries seat l desk q.shadow q.fits word q.stands.mine.tied.says.fits.frames.seat' (omega arith)
        acts.leaves acts.sees)

  run_reached : (first : Desk R) → IsSound out first → limits.span ≤ most_span → IsOf policy limits first
      → {words : List ℕ} {home : Option (Desk R)} {entries : ℕ → Entry (Desk R)}
      → (run : Run (office_of out faults got passed k) k first words home entries) → AreCalls run
      → OnlySeatsStep k.seats entries → Reached words home entries
  run_reached first sound short is opened calls only = new_reached first sound short
  run_reached first sound short is
      (stepped {words = words} {home = home} {entries = entries} run seat l desk silent word) calls only =
      let value = finds k words (course l) in
      let low = this_seat k.seats entries seat l home desk value only in
      let before = before_seats k.seats entries seat l home desk value only in
      let has = run_keeps (IsOf policy limits) (office_of out faults got passed k)
      (office_keeps out faults got passed policy limits k) is run in
      step_reached words home entries (run_reached first sound short is run calls.0 before) seat low l desk silent
      calls.1 word (has.seats_have seat) (run_stands run).sized

module _ {R : Type 0} (out : R → List Region) (faults : R → ℕ) (got : R → ℕ → Option Region → R → Type 0)
    (passed : R → Region → Bool → R → Type 0) (fresh_good : FreshWholesAreGood) where
  reached : (policy : Policy) (limits : Limits) (raw : R) (words : List ℕ) (home : Option (Desk R))
      (entries : ℕ → Entry (Desk R)) → (allowed : IsAllowed policy limits) → out raw ≡ []
      → (run : PoolRun out faults got passed policy limits raw words home entries) → AreCalls run
      → OnlySeatsStep limits.seats entries
      → Reached out faults got passed policy limits (few_seats policy limits allowed)
      (new_good fresh_good policy limits allowed) words home entries
  reached policy limits raw words home entries allowed none run calls only =
      run_reached out faults got passed policy limits (few_seats policy limits allowed)
      (new_good fresh_good policy limits allowed) (desk_of policy limits [] 0 false raw)
      (first_sound out faults got passed policy limits raw allowed none) (few_indices policy limits allowed)
      (record { policy_is = refl; limits_are = refl }) run calls only

  pub runs_are_good : RunsAreGood out faults got passed
  runs_are_good policy limits raw words home entries allowed none run calls only =
      (reached policy limits raw words home entries allowed none run calls only).state

  pub runs_hold_together : RunsHoldTogether out faults got passed
  runs_hold_together policy limits raw words home entries allowed none run calls only =
      let k = key_of policy limits in
      let most = few_seats policy limits allowed in
      let anew = new_good fresh_good policy limits allowed in
      let state = (reached policy limits raw words home entries allowed none run calls only).state in
      record {
        whole = state.whole;
        words' = state.words';
        good = good_of k most anew state.whole state.run;
        together = wholes_hold_together fresh_good k state.whole most (let few = few_indices policy limits allowed in
            omega arith) state.run;
      }

  pub seats_stand_between : SeatsStandBetween out faults got passed
  seats_stand_between policy limits raw words home entries allowed none run calls only seat low l desk silent call =
      let k = key_of policy limits in
      let most = few_seats policy limits allowed in
      let anew = new_good fresh_good policy limits allowed in
      let r = reached policy limits raw words home entries allowed none run calls only in
      let first = desk_of policy limits [] 0 false raw in
      let all = run_keeps (IsOf policy limits) (office_of out faults got passed k)
      (office_keeps out faults got passed policy limits k) {first = first}
      (record { policy_is = refl; limits_are = refl }) run in
      let q : Silenced out faults got passed policy limits most anew no_regions fresh (λ seat. Task.Away)
      fresh_offices_have_no_regions (memory k words) home entries seat l desk
      = silence_stands out faults got passed policy limits most anew no_regions fresh (λ seat. Task.Away)
      fresh_offices_have_no_regions (memory k words) home entries seat r.state.whole.office
      (first_stands out faults got passed policy limits most anew words home entries r seat low) r.fits
      (all.seats_have seat) silent call in
      record {
        whole = q.stands.whole;
        words' = q.stands.words;
        good = good_of k most anew q.stands.whole q.stands.around.run;
        stands = q.stands.mine;
        short = subst (AreShort k) (sym q.stands.office) q.stands.short;
      }

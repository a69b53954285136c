-- Each run of whole seats is a run of the office.
use Rattle.std.proofs.Common.{◌≡◌, ℕ, ◌<◌, ◌≤◌, Bool, true, false, List, [], ◌∷◌, ◌++◌, Option, Some, None}
use Rattle.std.proofs.Common.{inl, inr, refl, sym, ap, subst, ◌∙◌, arith}
use Rattle.std.specs.Prelude.{replicate}
use Rattle.std.proofs.lemmas.Bool.Decides.{nat_tests}
use Rattle.pool_types.specs.declared.policy.Limits.{Limits}
use Rattle.pool_types.specs.declared.policy.Policy.{Policy}
use Rattle.pool_types.specs.declared.policy.RegionRec.{RegionRec}
use Rattle.pool_types.specs.declared.values.Region.{Region}
use Rattle.pool_types.specs.Policies.{IsAllowed}
use Rattle.regions.specs.Offices.{Desk, desk_of, IsSound}
use Rattle.pool_words.specs.declared.words.Key.{Key}
use Rattle.pool_words.specs.Actions.{finds, after_action}
use Rattle.pool_words.specs.Words.{words_of, regions, bases}
use Rattle.region_steps.specs.Office.{region_word_of}
use Rattle.word_codes.specs.RegionWords.{region_of}
use Rattle.step_depot.specs.Steps.{key_of}
use Rattle.word_laws.specs.Memory.{Mem, put, memory, fresh, after, found}
use Rattle.word_laws.proofs.CallerLemmas.{put-same, put-other, each, less_or, equal_or}
use Rattle.word_laws.proofs.CallerLemmas.{actions_act_by_kind}
use Rattle.word_laws.proofs.Placing.{new_rows_are_fresh}
use Rattle.office_laws.specs.Named.{no_regions}
use Rattle.office_laws.specs.Regions.{Task, Shadow, core_in, WordFits, AreApart, OfficeGood}
use Rattle.office_laws.specs.Steps.{OfficeRun}
use Rattle.office_laws.specs.Steps.OfficeRun.{starts}
use Rattle.office_laws.proofs.Examples.{fresh_offices_have_no_regions, numbers_never_return}
use Rattle.step_local.specs.declared.frames.Local.{Local}
use Rattle.step_local.specs.Course.{course}
use Rattle.step_local.specs.Learn.{learn}
use Rattle.step_runs.specs.declared.entry.Entry.{Entry}
use Rattle.step_runs.specs.Callbacks.{office_of}
use Rattle.step_runs.specs.Entries.{seen_by, desk_after, learnt, first_entry}
use Rattle.step_runs.specs.Places.{has_word, move_of}
use Rattle.step_runs.specs.Runs.{Callback, Silent, home_after, Run}
use Rattle.step_runs.specs.Runs.Run.{opened, stepped}
use Rattle.step_runs.proofs.CallerLemmas.{run_stands, has_some}
use Rattle.step_laws.specs.Desks.{DeskFits}
use Rattle.step_laws.specs.Laws.{OnlySeatsStep, RunsOn, RunsKeepOffice, RunsGoOn, HasIndexOf, LiveRegionsLieApart}
use Rattle.step_laws.specs.Laws.RunsOn.{stays, steps_on}
use Rattle.step_laws.specs.Tasks.{task_of, tasks_of, shadow_by}
use Rattle.step_laws.proofs.Fits.{Fits, good_of, silence_fits, step_fits}
use Rattle.step_laws.proofs.Seats.{IsSeated, seated_first, seated_learn, seated_silence}
use Rattle.step_laws.proofs.Turns.{put_twice, put_mapped}

-- each entry's local is of its seat
pub run_seated : {D : Type 0} {c : Callback D} {k : Key} {first : D} {words : List ℕ} {home : Option D}
    {entries : ℕ → Entry D} → Run c k first words home entries → (seat : ℕ) → IsSeated seat (entries seat).local
run_seated {k = k} opened = λ seat. seated_first k seat
run_seated {k = k} (stepped {words = words} {home = home} {entries = entries} run seat l desk silent word) =
    each (λ o e. IsSeated o e.local) entries seat (learnt (entries seat) l home desk (finds k words (course l)))
    (λ o _. run_seated run o)
    (seated_learn seat l (seen_by (course l) (finds k words (course l))) (seated_silence silent (run_seated run seat)))

-- what a run leads to is a run, and a run is what a new pool leads to
pub run_on : {D : Type 0} {c : Callback D} {k : Key} {first : D} {words0 : List ℕ} {home0 : Option D}
    {entries0 : ℕ → Entry D} {words : List ℕ} {home : Option D} {entries : ℕ → Entry D}
    → Run c k first words0 home0 entries0 → RunsOn c k words0 home0 entries0 words home entries
    → Run c k first words home entries
run_on run stays = run
run_on run (steps_on on seat l desk silent word) = stepped (run_on run on) seat l desk silent word

pub from_new : {D : Type 0} {c : Callback D} {k : Key} {first : D} {words : List ℕ} {home : Option D}
    {entries : ℕ → Entry D} → Run c k first words home entries
    → RunsOn c k (replicate (words_of k) 0) (Some first) (first_entry k) words home entries
from_new opened = stays
from_new (stepped run seat l desk silent word) = steps_on (from_new run) seat l desk silent word

some_rows : {A : Type 0} (xs : List A) (x : A) → xs ++ (x ∷ []) ≡ [] → ⊥
some_rows [] x e = cc
some_rows (y ∷ ys) x e = cc

-- a seat that made a step is one of the pool's, and those before were
module _ {D : Type 0} (seats : ℕ) (entries : ℕ → Entry D) (seat : ℕ) (l : Local) (home desk : Option D) (value : ℕ)
    (only : OnlySeatsStep seats (put entries seat (learnt (entries seat) l home desk value))) where
  pub this_seat : seat < seats
  this_seat = less_or seat seats (λ low. low)
      (λ high. absurd (some_rows (entries seat).rows _
      (sym (ap (λ e. e.rows) (put-same entries seat (learnt (entries seat) l home desk value))) ∙ only seat high)))

  pub before_seats : OnlySeatsStep seats entries
  before_seats o high =
      let low = this_seat in
      ap (λ e. e.rows) (sym (put-other entries seat (learnt (entries seat) l home desk value) o
      (λ same. omega arith))) ∙ only o high

pub seats_before : {D : Type 0} {c : Callback D} {k : Key} (seats : ℕ) {words0 : List ℕ} {home0 : Option D}
    {entries0 : ℕ → Entry D} {words : List ℕ} {home : Option D} {entries : ℕ → Entry D}
    → RunsOn c k words0 home0 entries0 words home entries → OnlySeatsStep seats entries → OnlySeatsStep seats entries0
seats_before seats stays only = only
seats_before {k = k} seats (steps_on {words = words} {home = home} {entries = entries} on seat l desk silent word)
    only =
    seats_before seats on (before_seats seats entries seat l home desk (finds k words (course l)) only)

module _ {R : Type 0} (out : R → List Region) (faults : R → ℕ) (got : R → ℕ → Option Region → R → Type 0)
    (passed : R → Region → Bool → R → Type 0) (k : Key) (g0 : Shadow) (m0 : Mem) (tasks0 : ℕ → Task)
    (good0 : OfficeGood g0 (core_in m0 tasks0)) where
  abbrev Fit : Shadow → Mem → (ℕ → Task) → Option (Desk R) → (ℕ → Option (Desk R)) → Type 0
  Fit g m tasks home desks = Fits out faults got passed k g0 m0 tasks0 good0 g m tasks home desks

  pub record IsFit (words : List ℕ) (home : Option (Desk R)) (entries : ℕ → Entry (Desk R)) : Type 0 where
    pub shadow : Shadow
    pub fits : Fit shadow (memory k words) (tasks_of entries) home (λ o. (entries o).desk)

  -- a step on a word, of a seat whose task and desk silence led to
  module _ (m : Mem) (tasks : ℕ → Task) (home : Option (Desk R)) (desks : ℕ → Option (Desk R)) (l : Local)
      (desk : Option (Desk R)) where
    abbrev pub Before : ℕ → Shadow → Type 0
    Before seat g = Fit g m (put tasks seat (task_of l)) home (put desks seat desk)

    abbrev pub After : ℕ → Shadow → Type 0
    After seat g = Fit g (after k m (course l))
        (put tasks seat (task_of (learn l (seen_by (course l) (found m (course l)))).0))
        (home_after (move_of l.at (found m (course l))) home desk)
        (put desks seat (desk_after (move_of l.at (found m (course l))) home desk))

    own_fits : (g : Shadow) → has_word (course l) ≡ true → Before l.seat g → l.seat < 64
        → After l.seat (shadow_by l.at g)
    own_fits g word fits few =
        let h = shadow_by l.at g in
        let m' = after k m (course l) in
        let now = task_of (learn l (seen_by (course l) (found m (course l)))).0 in
        let move = move_of l.at (found m (course l)) in
        let before = put tasks l.seat (task_of l) in
        let had = put desks l.seat desk in
        subst (λ x. Fit h m' (put tasks l.seat now) (home_after move home desk) x)
        (put_twice desks l.seat desk (desk_after move home desk))
        (subst (λ x. Fit h m' x (home_after move home desk)
        (put had l.seat (desk_after move home desk)))
        (put_twice tasks l.seat (task_of l) now)
        (subst (λ d. Fit h m' (put before l.seat now) (home_after move home d)
        (put had l.seat (desk_after move home d))) (put-same desks l.seat desk)
        (step_fits out faults got passed k g0 m0 tasks0 good0 g m before home had fits l l.at
        (put-same tasks l.seat (task_of l)) few word)))

    pub seat_fits : (seat : ℕ) (g : Shadow) → has_word (course l) ≡ true → l.seat ≡ seat → seat < 64 → Before seat g
        → After seat (shadow_by l.at g)
    seat_fits seat g word number few fits =
        subst (λ o. Before o g → o < 64 → After o (shadow_by l.at g)) number (own_fits g word) fits few

  module _ (words : List ℕ) (home : Option (Desk R)) (entries : ℕ → Entry (Desk R)) (seat : ℕ) (l : Local)
      (desk : Option (Desk R)) where
    abbrev pub Next : Shadow → Mem → ℕ → Type 0
    Next g m value = Fit g m
        (tasks_of (put entries seat (learnt (entries seat) l home desk value)))
        (home_after (move_of l.at value) home desk)
        (λ o. (put entries seat (learnt (entries seat) l home desk value) o).desk)

    ended : (g : Shadow)
        → After (memory k words) (tasks_of entries) home (λ o. (entries o).desk) l desk seat g
        → Next g (after k (memory k words) (course l)) (found (memory k words) (course l))
    ended g fits =
        let m = memory k words in
        let value = found m (course l) in
        let e = learnt (entries seat) l home desk value in
        let h' = home_after (move_of l.at value) home desk in
        subst (λ x. Fit g (after k m (course l)) x h'
        (λ o. (put entries seat e o).desk)) (sym (put_mapped (λ e. task_of e.local) entries seat e))
        (subst (λ x. Fit g (after k m (course l))
        (put (tasks_of entries) seat (task_of e.local)) h' x)
        (sym (put_mapped {B = Option (Desk R)} (λ e. e.desk) entries seat e)) fits)

    -- a step after silence, where all fits with these regions
    pub leaves_fit : (g : Shadow)
        → Before (memory k words) (tasks_of entries) home (λ o. (entries o).desk) l desk seat g
        → has_word (course l) ≡ true → l.seat ≡ seat → seat < 64
        → memory k (after_action k words (course l)) ≡ after k (memory k words) (course l)
        → finds k words (course l) ≡ found (memory k words) (course l)
        → Next (shadow_by l.at g) (memory k (after_action k words (course l))) (finds k words (course l))
    leaves_fit g fits word number few leaves sees =
        let m = memory k words in
        let h = shadow_by l.at g in
        subst (λ x. Next h x (finds k words (course l))) (sym leaves)
        (subst (λ v. Next h (after k m (course l)) v) (sym sees)
        (ended h (seat_fits m (tasks_of entries) home (λ o. (entries o).desk) l desk seat g word number few fits)))

    pub next_fits : IsFit words home entries
        → Silent (office_of out faults got passed k) (entries seat).local (entries seat).desk l desk
        → has_word (course l) ≡ true → l.seat ≡ seat → seat < 64
        → memory k (after_action k words (course l)) ≡ after k (memory k words) (course l)
        → finds k words (course l) ≡ found (memory k words) (course l)
        → IsFit (after_action k words (course l))
        (home_after (move_of l.at (finds k words (course l))) home desk)
        (put entries seat (learnt (entries seat) l home desk (finds k words (course l))))
    next_fits fit silent word number few leaves sees =
        let s = silence_fits out faults got passed k g0 m0 tasks0 good0 (memory k words) (tasks_of entries) home
        (λ o. (entries o).desk) seat fit.shadow fit.fits silent refl refl in
        record {
          shadow = shadow_by l.at s.shadow;
          fits = leaves_fit s.shadow s.fits word number few leaves sees;
        }

  -- a state in which all fits, and each that it leads to
  pub on_fits : {first : Desk R} {words0 : List ℕ} {home0 : Option (Desk R)} {entries0 : ℕ → Entry (Desk R)}
      {words : List ℕ} {home : Option (Desk R)} {entries : ℕ → Entry (Desk R)} → k.seats ≤ 64
      → Run (office_of out faults got passed k) k first words0 home0 entries0
      → (OnlySeatsStep k.seats entries0 → IsFit words0 home0 entries0)
      → RunsOn (office_of out faults got passed k) k words0 home0 entries0 words home entries
      → OnlySeatsStep k.seats entries → IsFit words home entries
  on_fits most run begin stays only = begin only
  on_fits most run begin
      (steps_on {words = words} {home = home} {entries = entries} on seat l desk silent word) only =
      let so_far = run_on run on in
      let value = finds k words (course l) in
      let fit = on_fits most run begin on (before_seats k.seats entries seat l home desk value only) in
      let low = this_seat k.seats entries seat l home desk value only in
      let acts = actions_act_by_kind k words (course l) (run_stands so_far).sized in
      next_fits words home entries seat l desk fit silent word
      (seated_silence silent (run_seated so_far seat)).number (omega arith) acts.leaves acts.sees

-- in a new pool all fits
module _ {R : Type 0} (out : R → List Region) (faults : R → ℕ) (got : R → ℕ → Option Region → R → Type 0)
    (passed : R → Region → Bool → R → Type 0) (k : Key) where
  abbrev pub IsFitFromNew : List ℕ → Option (Desk R) → (ℕ → Entry (Desk R)) → Type 0
  IsFitFromNew words home entries = IsFit out faults got passed k no_regions fresh (λ seat. Task.Away)
      fresh_offices_have_no_regions words home entries

  pub new_fits : (first : Desk R) → IsSound out first
      → Fits out faults got passed k no_regions fresh (λ seat. Task.Away) fresh_offices_have_no_regions no_regions
      (memory k (replicate (words_of k) 0)) (tasks_of {D = Desk R} (first_entry k)) (Some first)
      (λ o. (first_entry {D = Desk R} k o).desk)
  new_fits first sound = record {
    run = subst (λ m. OfficeRun k no_regions fresh (λ seat. Task.Away) no_regions m (λ seat. Task.Away))
        (sym (new_rows_are_fresh k)) starts;
    home_fits = λ _. has_some (DeskFits out no_regions) first (record {
      sound = sound;
      counter = omega arith;
      records = λ _. record { known = λ s one is. absurd (cc); filled = λ s one is. absurd (cc) };
    });
    seats_fit = λ t holds. absurd holds;
    gone = λ t x is. absurd (cc);
  }

  first_fits : (first : Desk R) → IsSound out first
      → IsFitFromNew (replicate (words_of k) 0) (Some first) (first_entry k)
  first_fits first sound = record { shadow = no_regions; fits = new_fits first sound }

  pub run_fits : (first : Desk R) → IsSound out first → k.seats ≤ 64 → {words : List ℕ} {home : Option (Desk R)}
      {entries : ℕ → Entry (Desk R)} → Run (office_of out faults got passed k) k first words home entries
      → OnlySeatsStep k.seats entries → IsFitFromNew words home entries
  run_fits first sound most run only =
      on_fits out faults got passed k no_regions fresh (λ seat. Task.Away) fresh_offices_have_no_regions most opened
      (λ _. first_fits first sound) (from_new run) only

-- the region that a slot's words say
record IsLiveAt (g : Shadow) (m : Mem) (s : ℕ) : Type 0 where
  pub one : RegionRec
  pub live : g.live s ≡ Some one
  pub word : region_of (m regions s) ≡ region_word_of one

live_at : (g : Shadow) (m : Mem) (tasks : ℕ → Task) → OfficeGood g (core_in m tasks) → (s : ℕ)
    → (region_of (m regions s)).live ≡ true → IsLiveAt g m s
live_at g m tasks good s is = by (g.live s) refl (good.words_fit s)
  where
    by : (q : Option RegionRec) → g.live s ≡ q → WordFits q (region_of (m regions s)) (m bases s) → IsLiveAt g m s
    by None live fits = absurd (let bad : false ≡ true = sym fits ∙ is in cc)
    by (Some one) live fits = record { one = one; live = live; word = fits.0 }

no_index : (a b : RegionRec) (e : ℕ) → HasIndexOf (region_word_of a) e → HasIndexOf (region_word_of b) e
    → AreApart a b → ⊥
no_index a b e here there (inl low) = let high = here.1 in let from = there.0 in omega arith
no_index a b e here there (inr low) = let from = here.0 in let high = there.1 in omega arith

lie_apart : (g : Shadow) (m : Mem) (tasks : ℕ → Task) → OfficeGood g (core_in m tasks) → (s other e : ℕ)
    → IsLiveAt g m s → IsLiveAt g m other → HasIndexOf (region_of (m regions s)) e
    → HasIndexOf (region_of (m regions other)) e → s ≡ other
lie_apart g m tasks good s other e a b here there = equal_or s other (λ same. same)
    (λ ne. absurd (no_index a.one b.one e (subst (λ w. HasIndexOf w e) a.word here)
    (subst (λ w. HasIndexOf w e) b.word there)
    (good.out_fits.apart s other a.one b.one ne (good.records_fit.known s a.one a.live)
    (good.records_fit.known other b.one b.live))))

pub few_seats : (policy : Policy) (limits : Limits) → IsAllowed policy limits → limits.seats ≤ 64
few_seats policy limits allowed = let is_in = allowed.limits_in.0.0 in grind (arith, nat_tests)

module _ {R : Type 0} (out : R → List Region) (faults : R → ℕ) (got : R → ℕ → Option Region → R → Type 0)
    (passed : R → Region → Bool → R → Type 0) where
  pub first_sound : (policy : Policy) (limits : Limits) (raw : R) → IsAllowed policy limits → out raw ≡ []
      → IsSound out (desk_of policy limits [] 0 false raw)
  first_sound policy limits raw allowed none = record {
    allowed = allowed;
    regions = none;
    most = omega arith;
    numbers = omega arith;
    each = λ i d low. absurd (omega arith);
    pairs = λ i j d low high. absurd (omega arith);
    before = λ _. refl;
    one = λ _. omega arith;
  }

  pub runs_keep_office : RunsKeepOffice out faults got passed
  runs_keep_office policy limits raw words home entries allowed none run only =
      let k = key_of policy limits in
      let fit = run_fits out faults got passed k (desk_of policy limits [] 0 false raw)
      (first_sound policy limits raw allowed none) (few_seats policy limits allowed) run only in
      record {
        shadow = fit.shadow;
        run = fit.fits.run;
        good = good_of out faults got passed k no_regions fresh (λ seat. Task.Away) fresh_offices_have_no_regions
            fit.shadow (memory k words) (tasks_of entries) home (λ o. (entries o).desk) fit.fits;
        at_home = fit.fits.home_fits;
        at_seats = fit.fits.seats_fit;
      }

  -- the office's steps between two states of a run
  pub runs_go_on : RunsGoOn out faults got passed
  runs_go_on policy limits raw words home entries words' home' entries' allowed none run on only =
      let k = key_of policy limits in
      let first = desk_of policy limits [] 0 false raw in
      let most = few_seats policy limits allowed in
      let fit = run_fits out faults got passed k first (first_sound policy limits raw allowed none) most run
      (seats_before k.seats on only) in
      let m = memory k words in
      let tasks = tasks_of entries in
      let desks : ℕ → Option (Desk R) = λ o. (entries o).desk in
      let good = good_of out faults got passed k no_regions fresh (λ seat. Task.Away) fresh_offices_have_no_regions
      fit.shadow m tasks home desks fit.fits in
      let later = on_fits out faults got passed k fit.shadow m tasks good most run (λ _. record {
        shadow = fit.shadow;
        fits = record {
          run = starts;
          home_fits = fit.fits.home_fits;
          seats_fit = fit.fits.seats_fit;
          gone = fit.fits.gone;
        };
      }) on only in
      record {
        before = fit.shadow;
        later = later.shadow;
        good = good;
        run = later.fits.run;
        numbers = λ s one is low. numbers_never_return k fit.shadow m tasks later.shadow (memory k words')
            (tasks_of entries') s one later.fits.run is low;
      }

  pub live_regions_lie_apart : LiveRegionsLieApart out faults got passed
  live_regions_lie_apart policy limits raw words home entries allowed none run only =
      let k = key_of policy limits in
      let m = memory k words in
      let tasks = tasks_of entries in
      let office = runs_keep_office policy limits raw words home entries allowed none run only in
      let live = live_at office.shadow m tasks office.good in
      record {
        apart = λ s other e one two. lie_apart office.shadow m tasks office.good s other e (live s one) (live other two);
        held = office.good.lock_fits.held;
        named = office.good.lock_fits.named;
      }

-- What comes without a step on a word: calls begin and are answered, and the office is asked, keeps the seat tied.
use Rattle.std.proofs.Common.{◌≡◌, ◌∙◌, ◌⊎◌, inl, inr, ℕ, ◌+◌, ◌<◌, ◌≤◌, Bool, false, List, Option, Some, refl}
use Rattle.std.proofs.Common.{sym, ap, subst, arith}
use Rattle.std.specs.Prelude.{Result, Ok, Err}
use Rattle.pool_types.specs.declared.policy.Limits.{Limits}
use Rattle.pool_types.specs.declared.policy.Policy.{Policy}
use Rattle.pool_types.specs.declared.policy.RegionRec.{RegionRec}
use Rattle.pool_types.specs.declared.values.Region.{Region}
use Rattle.pool_types.specs.declared.values.Request.{Request}
use Rattle.regions.specs.declared.errors.ObtainError.{ObtainError}
use Rattle.regions.specs.Offices.{Desk}
use Rattle.pool_words.specs.declared.words.Key.{Key}
use Rattle.pool_words.specs.declared.actions.Action.{Action}
use Rattle.pool_words.specs.declared.actions.Action.TheVariants.{GiveOffice, Nothing, TakeOffice}
use Rattle.pool_words.specs.declared.actions.OfficeJob.{OfficeJob}
use Rattle.pool_words.specs.declared.actions.Seen.{Seen}
use Rattle.word_codes.specs.Places.{slot_of}
use Rattle.word_laws.specs.Memory.{Mem, put}
use Rattle.word_laws.proofs.CallerLemmas.{each}
use Rattle.office_laws.specs.Regions.{Shadow, Task, core_in, OfficeGood}
use Rattle.office_laws.specs.Steps.{IsFresh, shadow_came}
use Rattle.step_depot.specs.Steps.{asked_granules, key_of}
use Rattle.step_local.specs.declared.frames.At.{At}
use Rattle.step_local.specs.declared.frames.Local.{Local}
use Rattle.step_local.specs.Course.{course}
use Rattle.step_local.specs.Getting.{begun}
use Rattle.step_local.specs.Learn.{learn}
use Rattle.step_runs.specs.declared.entry.Entry.{Entry}
use Rattle.step_runs.specs.Callbacks.{office_of}
use Rattle.step_runs.specs.Laws.{IsOf}
use Rattle.step_runs.specs.Places.{has_word, passed_of}
use Rattle.step_runs.specs.Runs.{Passes, Silent, seen_answer}
use Rattle.step_runs.specs.Runs.Silent.{rests, begins, resets, answers, obtains, takes_out, puts_back}
use Rattle.step_runs.proofs.CallerLemmas.{Has, silence_keeps, office_keeps}
use Rattle.step_laws.specs.Desks.{DeskFits}
use Rattle.step_laws.specs.Tasks.{task_of, tasks_of}
use Rattle.step_laws.proofs.CallerLemmas.{Fits, FitsWith, good_of, goes_out, begun_goes, back_goes, taken_goes}
use Rattle.step_laws.proofs.CallerLemmas.{asked_fits}
use Rattle.step_laws.proofs.CallerLemmas.{comes_goes, refused_goes, rests_fit, answered_out, begun_out, comes_fresh}
use Rattle.step_laws.proofs.CallerLemmas.{comes_within}
use Rattle.seat_ties.specs.Turns.{StateHere}
use Rattle.seat_starts.proofs.CallerLemmas.{answers_are_here, begins_are_here}
use Rattle.office_moves.specs.Laws.{IsAtOffice, IsTold, TurnsAreTold}
use Rattle.office_moves.proofs.CallerLemmas.{office_turns_are_told}
use Rattle.pool_laws.specs.Named.{fresh_whole}
use Rattle.pool_laws.specs.Wholes.{Whole, WholeGood}
use Rattle.whole_runs.specs.Calls.{IsSilentCall}
use Rattle.whole_runs.specs.States.{AreShort}
use Rattle.whole_runs.proofs.Around.{run_around}
use Rattle.whole_runs.proofs.Around as around
use Rattle.slab_places.proofs.CallerLemmas.{begins_keep_slabs, silence_keeps_slabs}
use Rattle.whole_runs.proofs.Calls.{IsAnswer, call_begun, call_learn, gives_there, idle_stays, nothing_at, takes_there}
use Rattle.whole_runs.proofs.Ties.{Stands, by_local, by_seat, tie}

module _ (k : Key) (most : k.seats ≤ 64) (anew : WholeGood k (fresh_whole k)) (locals : ℕ → Local) (m : Mem) where
  abbrev pub Standing : ℕ → Local → Shadow → Type 0
  Standing t l g = Stands k most anew locals t l m g

  -- a call begins
  begins_own : (l : Local) (request : Request) (g : Shadow) → Standing l.seat l g
      → Standing l.seat (begun l request).0 g
  begins_own l request g s = by (begins_are_here k s.whole l request s.mine.tied)
    where
      next : Local
      next = (begun l request).0

      by : StateHere k s.whole l.seat next ⊎ (next ≡ l) → Standing l.seat next g
      by (inl here) = tie k most anew locals l.seat next m g s.low s.whole s.around here
          (call_begun l request s.mine.call)
          (begins_keep_slabs k s.whole l request (around.good_of k most anew s.whole s.around.run) here s.mine.slabs)
          s.words s.office s.short
      by (inr same) = subst (λ x. Standing l.seat x g) (sym same) s

  -- a call is answered
  answers_own : (l : Local) (g : Shadow) → Standing l.seat l g → course l ≡ Nothing
      → Standing l.seat (learn l Seen.Done).0 g
  answers_own l g s e = by (nothing_at l l.at e)
    where
      by : (l.at ≡ At.Idle) ⊎ IsAnswer l.at → Standing l.seat (learn l Seen.Done).0 g
      by (inl idle) = subst (λ x. Standing l.seat x g) (sym (idle_stays l idle)) s
      by (inr a) = tie k most anew locals l.seat (learn l Seen.Done).0 m g s.low s.whole s.around
          (answers_are_here k s.whole l a.answer s.mine.tied a.is) (call_learn l Seen.Done s.mine.call)
          (silence_keeps_slabs l Seen.Done (ap has_word e) s.mine.slabs) s.words s.office s.short

  -- the seat is told at the office
  module _ (l : Local) (g : Shadow) (s : Standing l.seat l g) (there : IsAtOffice l)
      (none : has_word (course l) ≡ false) where
    pub turns : TurnsAreTold k s.whole l
    turns = office_turns_are_told k s.whole l (around.good_of k most anew s.whole s.around.run) s.mine.tied there

    pub told : (seen : Seen) (g' : Shadow) → AreShort k g' → IsTold k s.whole l seen g'
        → Standing l.seat (learn l seen).0 g'
    told seen g' short is = tie k most anew locals l.seat (learn l seen).0 m g' s.low is.later
        (run_around k most anew locals l.seat s.low s.whole is.later s.around is.run) is.here
        (call_learn l seen s.mine.call) (silence_keeps_slabs l seen none s.mine.slabs) (is.words ∙ s.words)
        is.office' short

no_word : (l : Local) (action : Action) → has_word action ≡ false → course l ≡ action → has_word (course l) ≡ false
no_word l action none e = ap has_word e ∙ none

module _ {R : Type 0} (out : R → List Region) (faults : R → ℕ) (got : R → ℕ → Option Region → R → Type 0)
    (passed : R → Region → Bool → R → Type 0) (policy : Policy) (limits : Limits)
    (most : limits.seats ≤ 64) (anew : WholeGood (key_of policy limits) (fresh_whole (key_of policy limits)))
    (g0 : Shadow) (m0 : Mem) (tasks0 : ℕ → Task)
    (good0 : OfficeGood g0 (core_in m0 tasks0)) (m : Mem) (home : Option (Desk R)) (entries : ℕ → Entry (Desk R)) where
  abbrev k : Key
  k = key_of policy limits

  abbrev pub locals_in : ℕ → Local
  locals_in o = (entries o).local

  abbrev pub SeatStanding : ℕ → Local → Shadow → Type 0
  SeatStanding t l g = Standing k most anew locals_in m t l g

  -- all fits at the office, with this seat's task and what it has of the office
  abbrev pub OfficeFits : ℕ → Shadow → Task → Option (Desk R) → Type 0
  OfficeFits t g task desk = FitsWith out faults got passed k g0 m0 tasks0 good0 m (tasks_of entries) home
      (λ o. (entries o).desk) t g task desk

  pub record Silenced (t : ℕ) (l : Local) (desk : Option (Desk R)) : Type 0 where
    pub shadow : Shadow
    pub stands : SeatStanding t l shadow
    pub fits : OfficeFits t shadow (task_of l) desk

  module _ (t : ℕ) where
    -- the same, by the number that the local has
    own : (l : Local) (g : Shadow) → SeatStanding t l g → SeatStanding l.seat l g
    own l g s = by_local k most anew locals_in t l m g s

    mine : (l next : Local) (g g' : Shadow) → SeatStanding t l g → SeatStanding l.seat next g'
        → SeatStanding t next g'
    mine l next g g' s on =
        by_seat k most anew locals_in t l next m g' s.mine.tied.says.fits.frames.seat' on

    begins_on : (l : Local) (desk : Option (Desk R)) (request : Request) → Silenced t l desk
        → Silenced t (begun l request).0 desk
    begins_on l desk request q = record {
      shadow = q.shadow;
      stands = mine l (begun l request).0 q.shadow q.shadow q.stands
          (begins_own k most anew locals_in m l request q.shadow (own l q.shadow q.stands));
      fits = begun_goes out faults got passed k g0 m0 tasks0 good0 m (tasks_of entries) home (λ o. (entries o).desk) t
          q.shadow l desk q.fits (begun l request).0 (begun_out l request);
    }

    answers_on : (l : Local) (desk : Option (Desk R)) → course l ≡ Nothing → Silenced t l desk
        → Silenced t (learn l Seen.Done).0 desk
    answers_on l desk e q =
        let leads = answered_out l e in record {
          shadow = q.shadow;
          stands = mine l (learn l Seen.Done).0 q.shadow q.shadow q.stands
              (answers_own k most anew locals_in m l q.shadow (own l q.shadow q.stands) e);
          fits = goes_out out faults got passed k g0 m0 tasks0 good0 m (tasks_of entries) home
              (λ o. (entries o).desk) t q.shadow l desk q.fits (task_of (learn l Seen.Done).0) leads.0 leads.1;
        }

    -- what the seat is told at the office, by a whole with these regions
    told_on : (l : Local) (g g' : Shadow) (job : Action) (seen : Seen) → SeatStanding t l g → AreShort k g'
        → IsAtOffice l → has_word job ≡ false → course l ≡ job
        → ((w : Whole) → w.office ≡ g → TurnsAreTold k w l → IsTold k w l seen g')
        → SeatStanding t (learn l seen).0 g'
    told_on l g g' job seen s short there none e tells =
        let here = own l g s in
        let quiet = no_word l job none e in
        mine l (learn l seen).0 g g' s
        (told k most anew locals_in m l g here there quiet seen g' short
        (tells here.whole here.office (turns k most anew locals_in m l g here there quiet)))

    taken_on : (l : Local) (desk : Option (Desk R)) (first : ℕ) → course l ≡ TakeOffice (OfficeJob.Give first)
        → Silenced t l desk → Silenced t (learn l Seen.Given).0 desk
    taken_on l desk first e q = record {
      shadow = q.shadow;
      stands = told_on l q.shadow q.shadow (TakeOffice (OfficeJob.Give first)) Seen.Given q.stands
          q.stands.short (takes_there l (OfficeJob.Give first) e) refl e
          (λ w office is. subst (IsTold k w l Seen.Given) office (is.taken first e));
      fits = taken_goes out faults got passed k g0 m0 tasks0 good0 m (tasks_of entries) home (λ o. (entries o).desk) t
          q.shadow l desk q.fits first e;
    }

    back_on : (l : Local) (desk : Option (Desk R)) → course l ≡ GiveOffice → Silenced t l desk
        → Silenced t (learn l Seen.Done).0 desk
    back_on l desk e q = record {
      shadow = q.shadow;
      stands = told_on l q.shadow q.shadow GiveOffice Seen.Done q.stands q.stands.short
          (gives_there l e) refl e
          (λ w office is. subst (IsTold k w l Seen.Done) office (is.back e));
      fits = back_goes out faults got passed k g0 m0 tasks0 good0 m (tasks_of entries) home (λ o. (entries o).desk) t
          q.shadow l desk q.fits e;
    }

    -- a region that comes lies in the pool, and apart from all that are out
    module _ (l : Local) (old : Desk R) (granules : ℕ) (new : Desk R)
        (e : course l ≡ TakeOffice (OfficeJob.Obtain granules)) (q : Silenced t l (Some old)) where
      comes_on : (one : RegionRec) → IsOf policy limits old
          → (office_of out faults got passed k).asks old granules (Ok one) new
          → Silenced t (learn l (Seen.Obtained one)).0 (Some new)
      comes_on one is asks = record {
        shadow = shadow_came one q.shadow;
        stands = told_on l q.shadow (shadow_came one q.shadow) (TakeOffice (OfficeJob.Obtain granules))
            (Seen.Obtained one) q.stands short (takes_there l (OfficeJob.Obtain granules) e) refl e
            (λ w office is. subst (λ g. IsTold k w l (Seen.Obtained one) (shadow_came one g)) office
            (is.comes granules one e (record {
              fresh = subst (λ g. IsFresh g one) (sym office) fresh;
              within = let low = within in omega arith;
            })));
        fits = comes_goes out faults got passed k g0 m0 tasks0 good0 m (tasks_of entries) home
            (λ o. (entries o).desk) t q.shadow l old q.fits granules new e one asks;
      }
        where
          fits : DeskFits out q.shadow old
          fits = asked_fits out faults got passed k g0 m0 tasks0 good0 m (tasks_of entries) home
              (λ o. (entries o).desk) t q.shadow l old q.fits granules new e

          good : OfficeGood q.shadow (core_in m (put (tasks_of entries) t (task_of l)))
          good = good_of out faults got passed k g0 m0 tasks0 good0 q.shadow m (put (tasks_of entries) t (task_of l))
              home (put (λ o. (entries o).desk) t (Some old)) q.fits

          fresh : IsFresh q.shadow one
          fresh = comes_fresh out faults got q.shadow old (asked_granules k granules) one new fits asks good.out_fits

          within : one.first + one.granules < k.span
          within = subst (λ x. one.first + one.granules < x.span) is.limits_are
              (comes_within out faults got q.shadow old (asked_granules k granules) one new fits asks)

          short : AreShort k (shadow_came one q.shadow)
          short s other = each (λ s found. found ≡ Some other → other.first + other.granules < k.span) q.shadow.out
              (slot_of one.number) (Some one) (λ s ne out. q.stands.short s other out)
              (λ same. subst (λ x. x.first + x.granules < k.span) (let e : one ≡ other = cc in e) within) s

      refused_on : (error : ObtainError) → (office_of out faults got passed k).asks old granules (Err error) new
          → Silenced t (learn l (Seen.Refused error)).0 (Some new)
      refused_on error asks = record {
        shadow = q.shadow;
        stands = told_on l q.shadow q.shadow (TakeOffice (OfficeJob.Obtain granules)) (Seen.Refused error) q.stands
            q.stands.short (takes_there l (OfficeJob.Obtain granules) e) refl e
            (λ w office is. subst (IsTold k w l (Seen.Refused error)) office (is.refused granules error e));
        fits = refused_goes out faults got passed k g0 m0 tasks0 good0 m (tasks_of entries) home
            (λ o. (entries o).desk) t q.shadow l old q.fits granules new e error asks;
      }

      asked_on : (answer : Result RegionRec ObtainError) → IsOf policy limits old
          → (office_of out faults got passed k).asks old granules answer new
          → Silenced t (learn l (seen_answer answer)).0 (Some new)
      asked_on (Ok one) is asks = comes_on one is asks
      asked_on (Err error) is asks = refused_on error asks

    -- silence after a state in which the seat stands
    module _ (g : Shadow) (s : SeatStanding t (entries t).local g)
        (fits : Fits out faults got passed k g0 m0 tasks0 good0 g m (tasks_of entries) home (λ o. (entries o).desk))
        (has : Has (IsOf policy limits) (entries t).desk) where
      rests_on : (after : Option (Desk R))
          → Passes (office_of out faults got passed k) (passed_of (entries t).local) (entries t).desk after
          → Silenced t (entries t).local after
      rests_on after passes = record {
        shadow = g;
        stands = s;
        fits = rests_fit out faults got passed k g0 m0 tasks0 good0 m (tasks_of entries) home (λ o. (entries o).desk) t
            g fits (entries t).local (entries t).desk after passes refl refl;
      }

      pub silence_stands : {now : Local} {after : Option (Desk R)}
          → (silent : Silent (office_of out faults got passed k) (entries t).local (entries t).desk now after)
          → IsSilentCall silent → Silenced t now after
      silence_stands (rests {after = after} passes) call = rests_on after passes
      silence_stands (begins {now = now} {desk = desk} silent request) call =
          begins_on now desk request (silence_stands silent call)
      silence_stands (resets {now = now} {desk = desk} silent reset) call =
          subst (λ x. Silenced t x desk) (sym call.1) (silence_stands silent call.0)
      silence_stands (answers {now = now} {desk = desk} silent e) call =
          answers_on now desk e (silence_stands silent call)
      silence_stands (obtains {now = now} {desk = old} silent granules answer after e asks) call =
          asked_on now old granules after e (silence_stands silent call) answer
          (silence_keeps (IsOf policy limits) (office_of out faults got passed k)
          (office_keeps out faults got passed policy limits k) silent has old refl) asks
      silence_stands (takes_out {now = now} {desk = desk} silent first e) call =
          taken_on now (Some desk) first e (silence_stands silent call)
      silence_stands (puts_back {now = now} {desk = desk} silent e) call =
          back_on now desk e (silence_stands silent call)

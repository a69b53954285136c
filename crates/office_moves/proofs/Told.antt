-- Turns at the office without a step on a word.
use Rattle.std.proofs.Common.{◌≡◌, ◌∙◌, ℕ, refl, sym, ap, subst}
use Rattle.std.specs.Prelude.{Option, ◌%◌, ◌^◌}
use Rattle.pool_types.specs.declared.policy.RegionRec.{RegionRec}
use Rattle.regions.specs.declared.errors.ObtainError.{ObtainError}
use Rattle.pool_words.specs.declared.words.Key.{Key}
use Rattle.pool_words.specs.declared.actions.Action.TheVariants.{TakeOffice, GiveOffice}
use Rattle.pool_words.specs.declared.actions.OfficeJob.{OfficeJob}
use Rattle.pool_words.specs.declared.actions.Seen.{Seen}
use Rattle.region_steps.specs.declared.office.OfficeAt.{OfficeAt}
use Rattle.region_steps.specs.declared.office.OfficeEnd.{OfficeEnd}
use Rattle.region_steps.specs.declared.office.OfficeNext.{OfficeNext}
use Rattle.region_steps.specs.Office.{office_learn}
use Rattle.word_laws.specs.Memory.{put}
use Rattle.office_laws.specs.Regions.{Task}
use Rattle.office_laws.specs.Steps.{shadow_came}
use Rattle.region_laws.specs.Steps.{RegionStep, stepped, with_desk}
use Rattle.region_laws.specs.Granules.{State}
use Rattle.step_local.specs.declared.frames.At.{At}
use Rattle.step_local.specs.declared.frames.Local.{Local}
use Rattle.step_local.specs.declared.frames.OfficeFor.{OfficeFor}
use Rattle.guard_laws.specs.Blocks.{TaskFits}
use Rattle.backend_tasks.specs.Guards.{guard_task_of}
use Rattle.step_local.specs.Backend.{office_as, office_call, office_job}
use Rattle.step_local.specs.Course.{course}
use Rattle.hand_blocks.specs.Fits.{OfficeAnswers}
use Rattle.hand_blocks.specs.Hands.{hands_of}
use Rattle.pool_laws.specs.Changes.{with_regions}
use Rattle.pool_laws.specs.Steps.{WholeStep}
use Rattle.pool_laws.specs.Wholes.{Whole, WholeGood, regions_of}
use Rattle.seat_ties.specs.Left.{Suits}
use Rattle.seat_ties.specs.Says.{OfficeSays}
use Rattle.seat_ties.specs.Ties.{SeatTied}
use Rattle.seat_ties.specs.Turns.{stays, steps_on}
use Rattle.seat_hands.proofs.CallerLemmas.{hands_lie}
use Rattle.office_moves.specs.Laws.{IsTold, MayCome, OfficeTurnsAreTold, TurnsAreTold}
use Rattle.office_moves.proofs.Settings.{at_office, free_at, goes_to, to_next}
use Rattle.office_moves.proofs.Plain.{still_hands}

-- what the words have to say at these positions
suits_at : (k : Key) (w : Whole) (l : Local) (job : OfficeFor) (at next : OfficeAt) (s : Seen) → WholeGood k w
    → SeatTied k w l.seat (at_office l job at) → OfficeAnswers job at s
    → office_learn (office_call (at_office l job at) job) at s ≡ OfficeNext.Goes next → Suits k (at_office l job at) s
suits_at k w l job at next s good tied answers learns = record {
  new = tt;
  step = record {
    lie = hands_lie w.pool.blocks.place k.span l.seat (hands_of (at_office l job at))
        good.regions.pool.guards.parts.whole good.regions.pool.guards.small good.regions.pool.guards.parts.within
        tied.hands.lie;
    seen = answers;
  };
  finds = tt;
  room = tt;
  wins = subst (λ n. TaskFits (guard_task_of (office_as (at_office l job at) job at n).0)) (sym learns) tt;
}

module _ (k : Key) (w : Whole) (l : Local) (good : WholeGood k w) where
  abbrev asking : Option ℕ → Local
  asking given = at_office l OfficeFor.Ask (OfficeAt.Take given)

  abbrev wanted : ℕ
  wanted = l.ask.want.granules % 2 ^ 32

  came : (given : Option ℕ) (one : RegionRec) → SeatTied k w l.seat (asking given) → MayCome k w one
      → IsTold k w (asking given) (Seen.Obtained one) (shadow_came one w.office)
  came given one tied may =
      let next : OfficeAt = OfficeAt.Base one in
      let state : State = record (regions_of w) {
        office = shadow_came one w.office;
        desks = put w.desks l.seat (Task.At (OfficeJob.Obtain wanted) next);
      } in
      let s : Seen = Seen.Obtained one in
      let suits = suits_at k w l OfficeFor.Ask (OfficeAt.Take given) next s good tied tt refl in
      record {
        later = with_regions state w;
        run = steps_on stays (WholeStep.office state
            (RegionStep.comes wanted given one tied.tasks.desks may.fresh may.within) tt
            (free_at k w l OfficeFor.Ask (OfficeAt.Take given) tied));
        words = refl;
        office' = refl;
        here = goes_to k w l OfficeFor.Ask (OfficeAt.Take given) s tied suits w.pool.mem w.pool.blocks w.settled
            (shadow_came one w.office) next (OfficeNext.Goes next) (Task.At (OfficeJob.Obtain wanted) next)
            (to_next l OfficeFor.Ask (OfficeAt.Take given) s next refl) refl
            (still_hands k w l OfficeFor.Ask (OfficeAt.Take given) s tied suits tt) tt;
      }

  refused_at : (given : Option ℕ) (error : ObtainError) → SeatTied k w l.seat (asking given)
      → IsTold k w (asking given) (Seen.Refused error) w.office
  refused_at given error tied =
      let next : OfficeAt = OfficeAt.Back (OfficeEnd.Refused error) in
      let state : State = with_desk l.seat (Task.At (OfficeJob.Obtain wanted) next) (regions_of w) in
      let s : Seen = Seen.Refused error in
      let suits = suits_at k w l OfficeFor.Ask (OfficeAt.Take given) next s good tied tt refl in
      record {
        later = with_regions state w;
        run = steps_on stays (WholeStep.office state (RegionStep.refused wanted given error tied.tasks.desks) tt
            (free_at k w l OfficeFor.Ask (OfficeAt.Take given) tied));
        words = refl;
        office' = refl;
        here = goes_to k w l OfficeFor.Ask (OfficeAt.Take given) s tied suits w.pool.mem w.pool.blocks w.settled w.office
            next (OfficeNext.Goes next) (Task.At (OfficeJob.Obtain wanted) next)
            (to_next l OfficeFor.Ask (OfficeAt.Take given) s next refl) refl
            (still_hands k w l OfficeFor.Ask (OfficeAt.Take given) s tied suits tt) tt;
      }

-- a seat that gives a region back, by its job
remove_says : (w : Whole) (d : ℕ → Task) (seat : ℕ) (job : OfficeFor) (given : Option ℕ)
    → OfficeSays w seat job (OfficeAt.Take given) → OfficeSays (record w { desks = d }) seat job (OfficeAt.Remove given)
remove_says w d seat OfficeFor.Ask given says = tt
remove_says w d seat (OfficeFor.Put first) given says = says
remove_says w d seat (OfficeFor.Drain first rest) given says = says

unlock_says : (w : Whole) (seat : ℕ) (job : OfficeFor) (end : OfficeEnd) → OfficeSays w seat job (OfficeAt.Unlock end)
unlock_says w seat OfficeFor.Ask end = tt
unlock_says w seat (OfficeFor.Put first) end = tt
unlock_says w seat (OfficeFor.Drain first rest) end = tt

given_answers : (job : OfficeFor) (given : Option ℕ) → OfficeAnswers job (OfficeAt.Take given) Seen.Given
given_answers OfficeFor.Ask given = tt
given_answers (OfficeFor.Put first) given = tt
given_answers (OfficeFor.Drain first rest) given = tt

back_answers : (job : OfficeFor) (end : OfficeEnd) → OfficeAnswers job (OfficeAt.Back end) Seen.Done
back_answers OfficeFor.Ask end = tt
back_answers (OfficeFor.Put first) end = tt
back_answers (OfficeFor.Drain first rest) end = tt

module _ (k : Key) (w : Whole) (l : Local) (good : WholeGood k w) (job : OfficeFor) where
  taken_at : (given : Option ℕ) (first : ℕ) → office_job (at_office l job (OfficeAt.Take given)) job ≡ OfficeJob.Give first
      → SeatTied k w l.seat (at_office l job (OfficeAt.Take given))
      → IsTold k w (at_office l job (OfficeAt.Take given)) Seen.Given w.office
  taken_at given first asks tied =
      let at : OfficeAt = OfficeAt.Take given in
      let next : OfficeAt = OfficeAt.Remove given in
      let task : Task = Task.At (OfficeJob.Give first) next in
      let state : State = with_desk l.seat task (regions_of w) in
      let suits = suits_at k w l job at next Seen.Given good tied (given_answers job given) refl in
      record {
        later = with_regions state w;
        run = steps_on stays (WholeStep.office state
            (RegionStep.gives_back first given (tied.tasks.desks ∙ ap (λ j. Task.At j at) asks)) tt
            (free_at k w l job at tied));
        words = refl;
        office' = refl;
        here = goes_to k w l job at Seen.Given tied suits w.pool.mem w.pool.blocks w.settled w.office next
            (OfficeNext.Goes next) task (to_next l job at Seen.Given next refl) (ap (λ j. Task.At j next) (sym asks))
            (still_hands k w l job at Seen.Given tied suits tt)
            (remove_says w (put w.desks l.seat task) l.seat job given tied.words);
      }

  back_at : (end : OfficeEnd) → SeatTied k w l.seat (at_office l job (OfficeAt.Back end))
      → IsTold k w (at_office l job (OfficeAt.Back end)) Seen.Done w.office
  back_at end tied =
      let at : OfficeAt = OfficeAt.Back end in
      let next : OfficeAt = OfficeAt.Unlock end in
      let j : OfficeJob = office_job (at_office l job at) job in
      let state : State = stepped k l.seat j at (regions_of w) in
      let suits = suits_at k w l job at next Seen.Done good tied (back_answers job end) refl in
      record {
        later = with_regions state w;
        run = steps_on stays (WholeStep.office state (RegionStep.backs j end tied.tasks.desks) tt
            (free_at k w l job at tied));
        words = refl;
        office' = refl;
        here = goes_to k w l job at Seen.Done tied suits w.pool.mem w.pool.blocks w.settled w.office next
            (OfficeNext.Goes next) (Task.At j next) (to_next l job at Seen.Done next refl) refl
            (still_hands k w l job at Seen.Done tied suits tt)
            (unlock_says (with_regions state w) l.seat job end);
      }

-- by what the seat asks
take_is : (l : Local) (job : OfficeFor) (at : OfficeAt) (asked : OfficeJob)
    → course (at_office l job at) ≡ TakeOffice asked
    → (given : Option ℕ) × (at ≡ OfficeAt.Take given) × (office_job (at_office l job at) job ≡ asked)
take_is l job (OfficeAt.Take given) asked e = (given, refl, cc)
take_is l job _ asked e = absurd (cc)

back_is : (l : Local) (job : OfficeFor) (at : OfficeAt) → course (at_office l job at) ≡ GiveOffice
    → (end : OfficeEnd) × (at ≡ OfficeAt.Back end)
back_is l job (OfficeAt.Back end) e = (end, refl)
back_is l job _ e = absurd (cc)

asks_by : (job : OfficeFor) (l : Local) (granules : ℕ) → office_job l job ≡ OfficeJob.Obtain granules
    → job ≡ OfficeFor.Ask
asks_by OfficeFor.Ask l granules e = refl
asks_by (OfficeFor.Put first) l granules e = absurd (cc)
asks_by (OfficeFor.Drain first rest) l granules e = absurd (cc)

came_at : (k : Key) (w : Whole) (l : Local) → WholeGood k w → (job : OfficeFor) (at : OfficeAt)
    → SeatTied k w l.seat (at_office l job at) → TurnsAreTold k w (at_office l job at)
came_at k w l good job at tied = record {
  comes = λ granules one e may. by (take_is l job at (OfficeJob.Obtain granules) e) may;
  refused = λ granules error e. refuses (take_is l job at (OfficeJob.Obtain granules) e) error;
  taken = λ first e. takes (take_is l job at (OfficeJob.Give first) e);
  back = λ e. backs (back_is l job at e);
}
  where
    by : {granules : ℕ} {one : RegionRec}
        → ((given : Option ℕ) × (at ≡ OfficeAt.Take given)
        × (office_job (at_office l job at) job ≡ OfficeJob.Obtain granules)) → MayCome k w one
        → IsTold k w (at_office l job at) (Seen.Obtained one) (shadow_came one w.office)
    by {granules = granules} {one = one} is may =
        subst (λ a. SeatTied k w l.seat (at_office l job a)
        → IsTold k w (at_office l job a) (Seen.Obtained one) (shadow_came one w.office)) (sym is.1)
        (subst (λ j. SeatTied k w l.seat (at_office l j (OfficeAt.Take is.0))
        → IsTold k w (at_office l j (OfficeAt.Take is.0)) (Seen.Obtained one) (shadow_came one w.office))
        (sym (asks_by job (at_office l job at) granules is.2)) (λ t. came k w l good is.0 one t may)) tied

    refuses : {granules : ℕ}
        → ((given : Option ℕ) × (at ≡ OfficeAt.Take given)
        × (office_job (at_office l job at) job ≡ OfficeJob.Obtain granules)) → (error : ObtainError)
        → IsTold k w (at_office l job at) (Seen.Refused error) w.office
    refuses {granules = granules} is error =
        subst (λ a. SeatTied k w l.seat (at_office l job a)
        → IsTold k w (at_office l job a) (Seen.Refused error) w.office) (sym is.1)
        (subst (λ j. SeatTied k w l.seat (at_office l j (OfficeAt.Take is.0))
        → IsTold k w (at_office l j (OfficeAt.Take is.0)) (Seen.Refused error) w.office)
        (sym (asks_by job (at_office l job at) granules is.2)) (λ t. refused_at k w l good is.0 error t)) tied

    takes : {first : ℕ}
        → ((given : Option ℕ) × (at ≡ OfficeAt.Take given)
        × (office_job (at_office l job at) job ≡ OfficeJob.Give first))
        → IsTold k w (at_office l job at) Seen.Given w.office
    takes {first = first} is =
        subst (λ a. office_job (at_office l job a) job ≡ OfficeJob.Give first → SeatTied k w l.seat (at_office l job a)
        → IsTold k w (at_office l job a) Seen.Given w.office) (sym is.1)
        (λ asks t. taken_at k w l good job is.0 first asks t) is.2 tied

    backs : ((end : OfficeEnd) × (at ≡ OfficeAt.Back end)) → IsTold k w (at_office l job at) Seen.Done w.office
    backs is = subst (λ a. SeatTied k w l.seat (at_office l job a)
        → IsTold k w (at_office l job a) Seen.Done w.office) (sym is.1) (λ t. back_at k w l good job is.0 t) tied

pub office_turns_are_told : OfficeTurnsAreTold
office_turns_are_told k w l good tied there =
    let same : at_office l there.0 there.1 ≡ l = ap (λ (a : At). record l { at = a }) (sym there.2) in
    subst (λ m. SeatTied k w m.seat m → TurnsAreTold k w m) same (came_at k w l good there.0 there.1) tied

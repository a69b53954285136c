-- In each step of a run of calls the links lead, so that nothing is asked of the cache.
use Rattle.std.proofs.Common.{ℕ, Bool, List, Option, sym, subst}
use Rattle.pool_types.specs.declared.policy.Limits.{Limits}
use Rattle.pool_types.specs.declared.policy.Policy.{Policy}
use Rattle.pool_types.specs.declared.values.Region.{Region}
use Rattle.pool_words.specs.Actions.{finds}
use Rattle.word_laws.specs.Memory.{found, memory}
use Rattle.word_laws.proofs.CallerLemmas.{actions_act_by_kind}
use Rattle.step_depot.specs.Steps.{key_of}
use Rattle.step_local.specs.declared.frames.Local.{Local}
use Rattle.step_local.specs.Course.{course}
use Rattle.step_runs.specs.Runs.Run.{opened, stepped}
use Rattle.step_runs.proofs.CallerLemmas.{run_stands}
use Rattle.step_laws.proofs.CallerLemmas.{before_seats, this_seat}
use Rattle.pool_laws.specs.Laws.{FreshWholesAreGood}
use Rattle.step_ranges.specs.Locals.{LeadsAt}
use Rattle.whole_runs.specs.Laws.{IsBetween}
use Rattle.valid_runs.specs.Laws.{CallsHoldIndicesInRange, CoursesOfCallsAreValid, LinksOfCallsLead}
use Rattle.step_ranges.proofs.CallerLemmas.{course_is_valid, words_hold_indices_in_range}
use Rattle.whole_runs.proofs.CallerLemmas.{seats_stand_between}
use Rattle.valid_runs.proofs.Links.{leads_at}

module _ {R : Type 0} (out : R → List Region) (faults : R → ℕ) (got : R → ℕ → Option Region → R → Type 0)
    (passed : R → Region → Bool → R → Type 0) (fresh_good : FreshWholesAreGood) where
  between_leads : (policy : Policy) (limits : Limits) (words : List ℕ) (seat : ℕ) (l : Local)
      → IsBetween out faults got passed policy limits words seat l
      → LeadsAt (key_of policy limits) l l.at (found (memory (key_of policy limits) words) (course l))
  between_leads policy limits words seat l b =
      subst (λ m. LeadsAt (key_of policy limits) l l.at (found m (course l))) b.words'
      (leads_at (key_of policy limits) b.whole b.good b.short l seat l.at b.stands.call.at b.stands.tied.tasks.jobs)

  pub links_of_calls_lead : LinksOfCallsLead out faults got passed
  links_of_calls_lead policy limits raw words home entries allowed none opened calls only = tt
  links_of_calls_lead policy limits raw words home entries allowed none
      (stepped {words = words0} {home = home0} {entries = entries0} run seat l desk silent word) calls only =
      let k = key_of policy limits in
      let value = finds k words0 (course l) in
      let low = this_seat k.seats entries0 seat l home0 desk value only in
      let before = before_seats k.seats entries0 seat l home0 desk value only in
      let acts = actions_act_by_kind k words0 (course l) (run_stands run).sized in
      let b = seats_stand_between out faults got passed fresh_good policy limits raw words0 home0 entries0 allowed none
      run calls.0 before seat low l desk silent calls.1 in (
        links_of_calls_lead policy limits raw words0 home0 entries0 allowed none run calls.0 before,
        subst (LeadsAt k l l.at) (sym acts.sees) (between_leads policy limits words0 seat l b),
      )

  pub calls_hold_indices_in_range : CallsHoldIndicesInRange out faults got passed
  calls_hold_indices_in_range policy limits raw words home entries allowed none run calls only =
      words_hold_indices_in_range out faults got passed policy limits raw words home entries allowed run
      (links_of_calls_lead policy limits raw words home entries allowed none run calls only) only

  pub courses_of_calls_are_valid : CoursesOfCallsAreValid out faults got passed
  courses_of_calls_are_valid policy limits raw words home entries allowed none run calls only seat low l desk silent =
      course_is_valid out faults got passed policy limits raw words home entries allowed run
      (links_of_calls_lead policy limits raw words home entries allowed none run calls only) only seat low l desk silent

-- The rule of a pool's table says that its words and entries are a state of a run of that pool: its regions, its ranges
-- and its answers are as runs keep them.
use Rattle.std.proofs.Common.{ℕ, Bool, List, Option, sym, subst}
use Rattle.pool_types.specs.declared.values.Region.{Region}
use Rattle.pool_types.specs.Policies.{IsAllowed}
use Rattle.regions.specs.Offices.{Desk}
use Rattle.office_laws.specs.Regions.{Holds}
use Rattle.step_runs.specs.declared.entry.Entry.{Entry}
use Rattle.step_runs.specs.Callbacks.{office_of, PoolRun}
use Rattle.step_runs.specs.Runs.{Callback, Run, Silent}
use Rattle.step_laws.specs.Laws.{WordsSay}
use Rattle.step_laws.specs.Tasks.{task_of, tasks_of}
use Rattle.step_laws.proofs.CallerLemmas.{live_regions_lie_apart}
use Rattle.step_ranges.specs.Laws.{LinksLead, AreRanged}
use Rattle.step_ranges.specs.Locals.{LocalFits}
use Rattle.step_ranges.proofs.CallerLemmas.{words_hold_indices_in_range, course_is_valid}
use Rattle.path_laws.specs.Laws.{IsPaid}
use Rattle.path_laws.proofs.CallerLemmas.{runs_pay}
use Rattle.atomic_driver.specs.declared.rule.Plan.{Plan}
use Rattle.atomic_driver.specs.declared.rule.View.{View}
use Rattle.atomic_driver.specs.Rule.{key_by}
use Rattle.thread_laws.specs.Tables.{KeepsRanges}
use Rattle.thread_laws.specs.Laws.{IsMoment, TablesAreStates, TablesKeepRegions, TablesKeepRanges, TablesArePaid}
use Rattle.thread_laws.proofs.Entries.{its_entry, its_seat, only_its_seats}

module _ {R : Type 0} (out : R → List Region) (faults : R → ℕ) (got : R → ℕ → Option Region → R → Type 0)
    (passed : R → Region → Bool → R → Type 0) where
  abbrev Office : Plan → Callback (Desk R)
  Office plan = office_of out faults got passed (key_by plan)

  pub tables_are_states : TablesAreStates out faults got passed
  tables_are_states plan words slot views rule = record {
    raw = rule.is_first.raw;
    none_out = rule.is_first.none_out;
    home = rule.home;
    all = rule.all;
    run = subst (λ (first : Desk R). Run (Office plan) (key_by plan) first words rule.home rule.all)
        rule.is_first.desk_is rule.run;
    only = only_its_seats rule;
    each = its_entry rule;
    seats = its_seat rule;
  }

  pub tables_keep_regions : TablesKeepRegions out faults got passed
  tables_keep_regions plan words slot views allowed rule =
      let now : IsMoment out faults got passed plan words views =
      tables_are_states plan words slot views rule in
      let say : WordsSay (key_by plan) words (tasks_of now.all) =
      live_regions_lie_apart out faults got passed plan.policy plan.limits now.raw words now.home now.all allowed
      now.none_out now.run now.only in
      record {
        apart = say.apart;
        held = λ e has at. say.held e.seat
            (subst (λ (x : Entry (Desk R)). Holds (task_of x.local)) (sym (now.each e has)) at);
        named = λ e has is. subst (λ (x : Entry (Desk R)). Holds (task_of x.local)) (now.each e has)
            (say.named e.seat is);
      }

  -- of a run from the office as it was made
  module _ (plan : Plan) (words : List ℕ) (views : List (View (Desk R))) (allowed : IsAllowed plan.policy plan.limits)
      (now : IsMoment out faults got passed plan words views)
      (run : PoolRun out faults got passed plan.policy plan.limits now.raw words now.home now.all)
      (leads : LinksLead run) where
    are : AreRanged (key_by plan) words now.all
    are = words_hold_indices_in_range out faults got passed plan.policy plan.limits now.raw words now.home now.all
        allowed run leads now.only

    keeps_ranges : KeepsRanges (Office plan) (key_by plan) words views
    keeps_ranges = record {
      ranged = are.words;
      locals = λ e has. (
        now.seats e has,
        subst (λ (x : Entry (Desk R)). LocalFits (key_by plan) x.local) (now.each e has)
            (are.locals e.seat (now.seats e has)),
      );
      valid = λ e has l desk silent. course_is_valid out faults got passed plan.policy plan.limits now.raw words
          now.home now.all allowed run leads now.only e.seat (now.seats e has) l desk
          (subst (λ (x : Entry (Desk R)). Silent (Office plan) x.local x.desk l desk) (sym (now.each e has)) silent);
    }

  pub tables_keep_ranges : TablesKeepRanges out faults got passed
  unfolding tables_are_states
  tables_keep_ranges plan words slot views allowed rule leads =
      subst (λ (first : Desk R). (run : Run (Office plan) (key_by plan) first words rule.home rule.all)
      → LinksLead run → KeepsRanges (Office plan) (key_by plan) words views) (sym rule.is_first.desk_is)
      (keeps_ranges plan words views allowed (tables_are_states plan words slot views rule)) rule.run leads

  pub tables_are_paid : TablesArePaid out faults got passed
  tables_are_paid plan words slot views rule e has =
      let now : IsMoment out faults got passed plan words views =
      tables_are_states plan words slot views rule in
      subst (λ (x : Entry (Desk R)). IsPaid (key_by plan) x) (now.each e has)
      (runs_pay out faults got passed plan.policy plan.limits now.raw words now.home now.all now.run e.seat)

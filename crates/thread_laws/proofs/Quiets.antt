-- A quiet pool is a state of a run, so its leaks are as the law of leaks says.
use Rattle.std.proofs.Common.{◌≡◌, ℕ, ◌-◌, ◌<◌, ◌≤◌, Bool, List, Option, Some, None, sym, ap, ◌∙◌}
use Rattle.std.specs.Prelude.{Contains}
use Rattle.pool_types.specs.declared.values.Leak.{Leak}
use Rattle.pool_types.specs.declared.values.Region.{Region}
use Rattle.regions.specs.Offices.{Desk}
use Rattle.word_laws.proofs.CallerLemmas.{less_or}
use Rattle.word_totals.specs.Leaking.{leaks_of}
use Rattle.step_runs.specs.declared.entry.Entry.{Entry}
use Rattle.step_grants.specs.Grants.{grant_in}
use Rattle.atomic_driver.specs.Rule.{key_by}
use Rattle.quiet_pool.specs.Quiet.{Quiet, IsState, still_of}
use Rattle.leak_laws.specs.Laws.{LeaksFit}
use Rattle.leak_laws.proofs.CallerLemmas.{leaks_were_granted}
use Rattle.thread_laws.specs.Laws.{QuietFits, QuietPoolsListGrants}

module _ {R : Type 0} (out : R → List Region) (faults : R → ℕ) (got : R → ℕ → Option Region → R → Type 0)
    (passed : R → Region → Bool → R → Type 0) where
  module _ (q : Quiet R) (state : IsState out faults got passed q) (leaks : List Leak)
      (fit : LeaksFit state.all leaks) where
    -- a seat that is none of the pool's was granted nothing
    its_seat : (leak : Leak) → Contains leaks leak → leak.grant.seat < (key_by q.plan).seats
    its_seat leak inside = less_or leak.grant.seat (key_by q.plan).seats (λ low. low)
        (λ high. absurd (none high))
      where
        none : (key_by q.plan).seats ≤ leak.grant.seat → ⊥
        none high =
            let is = (fit.granted leak inside).granted in
            let empty = ap (λ (e : Entry (Desk R)). grant_in e.grants (leak.grant.number - 1))
            (state.others leak.grant.seat high) in
            let bad : None ≡ Some leak.grant = sym empty ∙ is in
            cc

    pub quiet_fits : QuietFits q leaks
    quiet_fits = record {
      seat = its_seat;
      granted = λ leak inside e at.
          ap (λ (x : Entry (Desk R)). grant_in x.grants (leak.grant.number - 1))
          (sym (state.each leak.grant.seat e at)) ∙ (fit.granted leak inside).granted;
      kept = λ leak inside place i e at is. (fit.granted leak inside).kept place i
          (ap (λ (x : Entry (Desk R)). grant_in x.frees i) (state.each place e at) ∙ is);
      once = fit.once;
    }

  pub quiet_pools_list_grants : QuietPoolsListGrants out faults got passed
  quiet_pools_list_grants q allowed state =
      quiet_fits q state (leaks_of (still_of q))
      (leaks_were_granted out faults got passed q.plan.policy q.plan.limits state.raw q.words (Some q.desk) state.all
      q.locals allowed state.none_out state.run (λ seat high. ap (λ e. e.rows) (state.others seat high)))

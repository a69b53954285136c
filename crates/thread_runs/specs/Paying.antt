-- What a thread's heaps have granted and freed at the end, by what its calls asked and answered.
use Rattle.std.specs.Prelude.{◌≡◌, ℕ, List, Option, Some, slice_get}
use Rattle.atomic_driver.specs.Rule.{key_by}
use Rattle.paid_calls.specs.Earning.{CallsOn, Earned}
use Rattle.quiet_pool.specs.Quiet.{Quiet}
use Rattle.regions.specs.Offices.{Desk}
use Rattle.step_runs.specs.declared.entry.Entry.{Entry}
use Rattle.step_runs.specs.declared.entry.Told.{Told}
use Rattle.thread_calls.specs.declared.calls.Said.{Said}
use Rattle.trace_reader.specs.declared.acts.TraceLine.{TraceLine}
use Rattle.thread_runs.specs.Traces.{flat}

module _ {R : Type 0} (named : ℕ → ℕ → Type 0) (lines : List TraceLine) (thread : ℕ) (said : List Said) where
  -- the seat's entry has the grants and the frees of the thread's calls on that pool, one after another, and no others
  pub record HasEarned (pool : ℕ) (q : Quiet R) (e : Entry (Desk R)) : Type 0 where
    pub tolds : List Told
    pub calls : CallsOn named thread pool lines said tolds
    pub earned : Earned (key_by q.plan) tolds e.grants e.frees

  -- the same of the thread's seat of each pool that comes back
  abbrev pub HaveEarned : List (Option (Quiet R)) → Type 0
  HaveEarned pools = (pool : ℕ) (q : Quiet R) (e : Entry (Desk R)) → flat (slice_get pools pool) ≡ Some q
      → slice_get q.entries thread ≡ Some e → HasEarned pool q e

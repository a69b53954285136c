-- What threads' lines have granted and freed, from their first heaps to the seats of the pools that come back.
use Rattle.std.proofs.Common.{◌≡◌, ℕ, List, refl, sym, ap, subst, ◌∙◌}
use Rattle.std.specs.Prelude.{Option, Some, None, slice_get}
use Rattle.atomic_driver.specs.Rule.{key_by}
use Rattle.paid_calls.specs.Earning.{AddsEarned, Earned}
use Rattle.paid_calls.proofs.CallerLemmas.{lines_earn}
use Rattle.quiet_pool.specs.Quiet.{Quiet}
use Rattle.regions.specs.Offices.{Desk}
use Rattle.step_local.specs.Frames.{made}
use Rattle.step_local.specs.declared.frames.Object.{Object}
use Rattle.step_runs.specs.Entries.{first_entry}
use Rattle.step_runs.specs.declared.entry.Entry.{Entry}
use Rattle.thread_calls.specs.declared.calls.Said.{Said}
use Rattle.thread_lines.specs.Heaps.{Heap}
use Rattle.trace_reader.specs.declared.acts.TraceLine.{TraceLine}
use Rattle.thread_runs.specs.Gathering.{IsPath, IsSeatOf, first_of, firsts_of}
use Rattle.thread_runs.specs.Paying.{HasEarned, HaveEarned}
use Rattle.thread_runs.specs.Traces.{flat}

same_entry : {D : Type 0} (a b : Entry D) → Some a ≡ Some b → a ≡ b
same_entry {D} a b e = ap from e
  where
    from : Option (Entry D) → Entry D
    from (Some x) = x
    from None = a

module _ {R : Type 0} (named : ℕ → ℕ → Type 0) (pools : List (Option (Quiet R))) (lines : List TraceLine)
    (thread : ℕ) (said : List Said) (path : IsPath named pools lines thread said) where
  module _ (pool : ℕ) (q : Quiet R) (here : flat (slice_get pools pool) ≡ Some q) where
    -- the thread's heap of the pool, before its first turn
    abbrev first : Heap (Desk R)
    first = record { local = made (key_by q.plan) thread; entry = first_entry (key_by q.plan) thread }

    adds : (one : Heap (Desk R)) → path.heaps pool ≡ Some one
        → AddsEarned (key_by q.plan) named thread pool lines said first.entry one.entry
    adds one is = lines_earn named thread (firsts_of pools thread) lines said path.heaps path.tells pool first one
        (ap (first_of thread) here) (refl, refl) is

    has_earned : (one : Heap (Desk R)) → path.heaps pool ≡ Some one
        → HasEarned named lines thread said pool q one.entry
    has_earned one is =
        let add = adds one is in
        let grants : one.entry.grants ≡ add.grants = add.grants_are in
        let frees : one.entry.frees ≡ add.frees = add.frees_are in
        record {
          tolds = add.tolds;
          calls = add.calls;
          earned = subst (λ (z : List Object × List Object). Earned (key_by q.plan) add.tolds z.0 z.1)
              (λ k. (sym grants k, sym frees k)) add.earned;
        }

    earned_there : (e : Entry (Desk R)) → slice_get q.entries thread ≡ Some e
        → IsSeatOf thread (Some q) (path.heaps pool) → HasEarned named lines thread said pool q e
    earned_there e there (one, is, local, entry) = subst (HasEarned named lines thread said pool q)
        (same_entry one.entry e (sym entry ∙ there)) (has_earned one is)

  -- what came of a thread's lines says what its heaps have granted and freed
  pub path_earned : HaveEarned named lines thread said pools
  path_earned pool q e here there = earned_there pool q here e there
      (subst (λ (o : Option (Quiet R)). IsSeatOf thread o (path.heaps pool)) here (path.seats pool))

-- Locks: what a run says of its seats is so of the heaps that threads have.
use Rattle.std.proofs.Common.{◌≡◌, ℕ, Bool, List, Option, Some, sym, ap, subst, ◌∙◌}
use Rattle.pool_types.specs.declared.values.Region.{Region}
use Rattle.pool_words.specs.declared.words.Key.{Key}
use Rattle.pool_words.specs.Words.{bin_locks, cache_locks}
use Rattle.word_codes.specs.Locks.{lock_word}
use Rattle.word_laws.specs.Memory.{memory}
use Rattle.lock_laws.specs.Locks.{LocksFit}
use Rattle.lock_laws.proofs.CallerLemmas.{lock_word-inj}
use Rattle.step_local.specs.declared.frames.Local.{Local}
use Rattle.step_local.specs.Course.{course}
use Rattle.step_runs.specs.declared.entry.Entry.{Entry}
use Rattle.step_runs.specs.Runs.{Callback, Silent}
use Rattle.step_locks.specs.Laws.{AreLocksNamed, LeavesLock}
use Rattle.step_locks.specs.Positions.{bin_lock_of, cache_lock_of}
use Rattle.step_locks.specs.UnderLocks.{LeavesLocked}
use Rattle.step_locks.proofs.CallerLemmas.{run_named, others_leave, others_leave_words}
use Rattle.atomic_driver.specs.declared.rule.View.{View}
use Rattle.atomic_driver.specs.Rule.{Rule}
use Rattle.thread_laws.specs.Tables.{HasEntry, NamesHolders, KeepsLocks}
use Rattle.thread_laws.specs.Laws.{TablesKeepLocks}
use Rattle.thread_laws.proofs.Entries.{its_entry}

module _ {D : Type 0} (c : Callback D) (k : Key) (Is : D → Type 0) (words : List ℕ) (slot : Option D)
    (views : List (View D)) (rule : Rule c k Is words slot views) where
  names_holders : (locks : ℕ → ℕ) (mine : Local → Option ℕ)
      → LocksFit locks (λ seat. mine (rule.all seat).local) → NamesHolders views locks mine
  names_holders locks mine fits = record {
    held = has_it;
    named = λ e has b says. sym (in_run e has) ∙ fits.named e.seat b says;
    once = λ e f has other b is too. lock_word-inj e.seat f.seat (sym (has_it e has b is) ∙ has_it f other b too);
  }
    where
      in_run : (e : Entry D) → HasEntry views e → mine (rule.all e.seat).local ≡ mine e.local
      in_run e has = ap (λ (x : Entry D). mine x.local) (its_entry rule e has)

      has_it : (e : Entry D) → HasEntry views e → (b : ℕ) → mine e.local ≡ Some b → locks b ≡ lock_word e.seat
      has_it e has b is = fits.held e.seat b (in_run e has ∙ is)

  silent_in_run : (f : Entry D) → HasEntry views f → (l : Local) (desk : Option D) → Silent c f.local f.desk l desk
      → Silent c (rule.all f.seat).local (rule.all f.seat).desk l desk
  silent_in_run f has l desk = subst (λ (x : Entry D). Silent c x.local x.desk l desk) (sym (its_entry rule f has))

  pub keeps_locks : KeepsLocks c k words views
  keeps_locks =
      let named : AreLocksNamed k words rule.all = run_named rule.run in
      record {
        bins = names_holders (memory k words bin_locks) bin_lock_of named.bins;
        caches = names_holders (memory k words cache_locks) cache_lock_of named.caches;
        leaves = λ e f has other differ l desk silent word.
            subst (λ (x : Entry D). LeavesLock k words (course l) x.local) (its_entry rule e has)
            (others_leave rule.run e.seat f.seat l desk differ (silent_in_run f other l desk silent) word);
        leaves_bin = λ e f has other differ l desk silent.
            subst (λ (x : Entry D). LeavesLocked k words (course l) x.local) (its_entry rule e has)
            (others_leave_words rule.run e.seat f.seat l desk differ (silent_in_run f other l desk silent));
      }

module _ {R : Type 0} (out : R → List Region) (faults : R → ℕ) (got : R → ℕ → Option Region → R → Type 0)
    (passed : R → Region → Bool → R → Type 0) where
  pub tables_keep_locks : TablesKeepLocks out faults got passed
  tables_keep_locks plan words slot views rule = keeps_locks _ _ _ words slot views rule

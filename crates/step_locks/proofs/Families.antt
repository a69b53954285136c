-- The locks of one kind, while one of them is taken or freed, whether there is such a lock or not.
use Rattle.std.proofs.Common.{◌≡◌, ℕ, ◌<◌, ◌≤◌, Bool, true, false, cond, eqb, refl, sym, ap, subst, ◌∙◌}
use Rattle.std.specs.Prelude.{ltb, Option, Some, None}
use Rattle.pool_words.specs.declared.words.Key.{Key}
use Rattle.pool_words.specs.declared.words.Word.{Word}
use Rattle.pool_words.specs.Words.{at_of, kind_of_word, length_of}
use Rattle.word_codes.specs.Locks.{lock_word}
use Rattle.word_laws.specs.Memory.{Mem, Valid, put, after, stored, word_at}
use Rattle.word_laws.proofs.CallerLemmas.{less_or, chosen, not_chosen, stored-void}
use Rattle.locked_chain.specs.Locks.{lock_course, unlock_course}
use Rattle.locked_chain.specs.declared.lock.LockNext.{LockNext}
use Rattle.lock_laws.specs.Laws.{AfterLock}
use Rattle.lock_laws.specs.Locks.{locks_of, AreLocks, LocksFit, lock_by}
use Rattle.lock_laws.proofs.CallerLemmas.{lock_is_won_or_waits, freed_lock_is_nobodys}
use Rattle.step_laws.proofs.CallerLemmas.{put_back}

-- a lock that there is, and none
abbrev pub within : ℕ → ℕ → Option ℕ
within count b = cond (ltb b count) (Some b) None

module _ (k : Key) (words : ℕ → Word) (count : ℕ) (apart : AreLocks words) (at : (b : ℕ) → at_of (words b) ≡ b)
    (long : (b : ℕ) → length_of k (kind_of_word (words b)) ≡ count) (m : Mem) (mine : ℕ → Option ℕ) (seat : ℕ)
    (fit : LocksFit (locks_of words m) mine) where
  -- a seat's lock is what it was
  pub family_same : (m' : Mem) (lock : Option ℕ) → locks_of words m' ≡ locks_of words m → mine seat ≡ lock
      → LocksFit (locks_of words m') (put mine seat lock)
  family_same m' lock same is = subst (λ (f : ℕ → Option ℕ). LocksFit (locks_of words m') f)
      (sym (put_back mine seat lock is)) (subst (λ (x : ℕ → ℕ). LocksFit x mine) (sym same) fit)

  valid_at : (b : ℕ) → b < count → Valid k (words b)
  valid_at b low = subst (λ n. at_of (words b) < n) (sym (long b)) (subst (λ n. n < count) (sym (at b)) low)

  void_at : (b : ℕ) → count ≤ b → length_of k (kind_of_word (words b)) ≤ at_of (words b)
  void_at b high = subst (λ n. n ≤ at_of (words b)) (sym (long b)) (subst (λ n. count ≤ n) (sym (at b)) high)

  taken_by : (b : ℕ) (won : Bool) (m' : Mem) → within count b ≡ Some b → mine seat ≡ None
      → AfterLock words mine seat b m m' (cond won LockNext.Won LockNext.Waits)
      → LocksFit (locks_of words m') (put mine seat (cond won (within count b) None))
  taken_by b true m' some none after = subst (λ o. LocksFit (locks_of words m') (put mine seat o)) (sym some) after.1
  taken_by b false m' some none after = family_same m' None (ap (locks_of words) after.1) none

  either_void : (won : Bool) (m' : Mem) (lock : Option ℕ) → m' ≡ m → lock ≡ None → mine seat ≡ None
      → LocksFit (locks_of words (cond won m' m)) (put mine seat (cond won lock None))
  either_void true m' lock same void none = family_same m' lock (ap (locks_of words) same) (none ∙ sym void)
  either_void false m' lock same void none = family_same m None refl none

  pub family_takes : (b : ℕ) → mine seat ≡ None
      → LocksFit (locks_of words (after k m (lock_course (lock_by words seat b))))
      (put mine seat (cond (eqb (word_at m (words b)) 0) (within count b) None))
  family_takes b none = less_or b count
      (λ low. taken_by b (eqb (word_at m (words b)) 0) (after k m (lock_course (lock_by words seat b)))
      (chosen b count (Some b) None low) none
      (lock_is_won_or_waits k words m mine seat b apart (valid_at b low) none fit))
      (λ high. either_void (eqb (word_at m (words b)) 0) (stored k m (words b) (lock_word seat)) (within count b)
      (stored-void k m (words b) (lock_word seat) (void_at b high)) (not_chosen b count (Some b) None high) none)

  pub family_frees : (b : ℕ) → mine seat ≡ within count b
      → LocksFit (locks_of words (after k m (unlock_course (lock_by words seat b)))) (put mine seat None)
  family_frees b has = less_or b count
      (λ low. (freed_lock_is_nobodys k words m mine seat b apart (valid_at b low)
      (has ∙ chosen b count (Some b) None low) fit).fit)
      (λ high. family_same (stored k m (words b) 0) None
      (ap (locks_of words) (stored-void k m (words b) 0 (void_at b high)))
      (has ∙ not_chosen b count (Some b) None high))

-- Locks: taken, freed, and left alone.
use Rattle.std.proofs.Common.{◌≡◌, ◌≢◌, ℕ, zero, suc, Bool, true, false, cond, eqb, Some, None, refl, sym, ap, subst}
use Rattle.std.proofs.Common.{arith, ◌∙◌}
use Rattle.std.specs.declared.option.Option.{Option}
use Rattle.std.proofs.lemmas.Bool.{eqb-true}
use Rattle.pool_words.specs.declared.words.Key.{Key}
use Rattle.pool_words.specs.declared.words.Word.{Word}
use Rattle.pool_words.specs.Words.{kind_of_word, number, at_of, length_of}
use Rattle.word_codes.specs.Locks.{lock_word, holder_of}
use Rattle.word_codes.proofs.CallerLemmas.{locks_read_back}
use Rattle.locked_chain.specs.declared.lock.LockNext.{LockNext}
use Rattle.word_laws.specs.Memory.{Mem, Valid, put, word_at, stored}
use Rattle.word_laws.proofs.CallerLemmas.{put_here, put_else, equal_or, less_or, write_here, write_else, stored-valid}
use Rattle.word_laws.proofs.CallerLemmas.{stored-void}
use Rattle.chain_laws.specs.Pushing.{IsOneWord}
use Rattle.lock_laws.specs.Locks.{locks_of, AreLocks, LocksFit}
use Rattle.lock_laws.specs.Laws.{LockNamesItsSeat, AfterLock, LockIsWonOrWaits, FreedLockIsNobodys}
use Rattle.lock_laws.specs.Laws.{OtherStepsLeaveLocks}

pub lock_word-inj : (seat other : ℕ) → lock_word seat ≡ lock_word other → seat ≡ other
unfolding lock_word
lock_word-inj seat other same = omega arith

pub lock_word-taken : (seat : ℕ) → lock_word seat ≡ 0 → ⊥
unfolding lock_word
lock_word-taken seat same = omega arith

-- a lock's word is free, or some seat's
lock_word-some : (n : ℕ) → n ≢ 0 → (seat : ℕ) × (n ≡ lock_word seat)
unfolding lock_word
lock_word-some zero taken = absurd (taken refl)
lock_word-some (suc seat) taken = (seat, omega arith)

pub lock_names_its_seat : LockNamesItsSeat
lock_names_its_seat locks mine b fit = record {
  one = λ seat other has also. lock_word-inj seat other (sym (fit.held seat b has) ∙ fit.held other b also);
  holder = λ seat few has. ap holder_of (fit.held seat b has) ∙ locks_read_back seat few;
  nobody = λ free seat has. lock_word-taken seat (sym (fit.held seat b has) ∙ free);
  somebody = λ none. equal_or (locks b) 0 (λ free. free) (λ taken.
      let w = lock_word-some (locks b) taken in absurd (none w.0 (fit.named w.0 b w.1)));
}

-- a lock's word stored is that lock changed
pub lock_stored : (k : Key) (words : ℕ → Word) (m : Mem) (b value : ℕ) → AreLocks words → Valid k (words b)
    → locks_of words (stored k m (words b) value) ≡ put (locks_of words m) b value
lock_stored k words m b value apart valid = λ n c. each c n
  where
    each : (c : ℕ) → locks_of words (stored k m (words b) value) c ≡ put (locks_of words m) b value c
    each c = ap (λ (w : Mem). locks_of words w c) (stored-valid k m (words b) value valid) ∙ equal_or b c
        (λ same. write_here m (kind_of_word (words b)) (kind_of_word (words c)) (at_of (words b)) value
        (at_of (words c))
        (ap (λ z. number (kind_of_word (words z))) same) (ap (λ z. at_of (words z)) same)
        ∙ sym (put_here (locks_of words m) b c value same))
        (λ differ. write_else m (kind_of_word (words b)) (kind_of_word (words c)) (at_of (words b)) value
        (at_of (words c))
        (λ e f. differ (apart b c (e, f)))
        ∙ sym (put_else (locks_of words m) b c value differ))

-- of functions: a free lock is taken
pub locks-taken : (locks : ℕ → ℕ) (mine : ℕ → Option ℕ) (seat b : ℕ) → locks b ≡ 0 → mine seat ≡ None
    → LocksFit locks mine → LocksFit (put locks b (lock_word seat)) (put mine seat (Some b))
locks-taken locks mine seat b free none fit = record { held = held; named = named }
  where
    held : (t c : ℕ) → put mine seat (Some b) t ≡ Some c → put locks b (lock_word seat) c ≡ lock_word t
    held t c has = equal_or seat t
        (λ same. let q : Some b ≡ Some c = sym (put_here mine seat t (Some b) same) ∙ has in
        let at : b ≡ c = cc in put_here locks b c (lock_word seat) at ∙ ap lock_word same)
        (λ differ. let old : mine t ≡ Some c = sym (put_else mine seat t (Some b) differ) ∙ has in
        put_else locks b c (lock_word seat)
        (λ at. lock_word-taken t (sym (fit.held t c old) ∙ ap locks (sym at) ∙ free)) ∙ fit.held t c old)

    named : (t c : ℕ) → put locks b (lock_word seat) c ≡ lock_word t → put mine seat (Some b) t ≡ Some c
    named t c says = equal_or b c
        (λ at. let same : seat ≡ t = lock_word-inj seat t (sym (put_here locks b c (lock_word seat) at) ∙ says) in
        put_here mine seat t (Some b) same ∙ ap Some at)
        (λ else. let old : mine t ≡ Some c = fit.named t c (sym (put_else locks b c (lock_word seat) else) ∙ says) in
        put_else mine seat t (Some b)
        (λ same. let q : None ≡ Some c = sym none ∙ ap mine same ∙ old in absurd (cc)) ∙ old)

-- and freed
pub locks-freed : (locks : ℕ → ℕ) (mine : ℕ → Option ℕ) (seat b : ℕ) → mine seat ≡ Some b
    → LocksFit locks mine → LocksFit (put locks b 0) (put mine seat None)
locks-freed locks mine seat b has fit = record { held = held; named = named }
  where
    held : (t c : ℕ) → put mine seat None t ≡ Some c → put locks b 0 c ≡ lock_word t
    held t c is = equal_or seat t
        (λ same. let q : None ≡ Some c = sym (put_here mine seat t None same) ∙ is in absurd (cc))
        (λ differ. let old : mine t ≡ Some c = sym (put_else mine seat t None differ) ∙ is in
        put_else locks b c 0
        (λ at. differ (lock_word-inj seat t (sym (fit.held seat b has) ∙ ap locks at ∙ fit.held t c old)))
        ∙ fit.held t c old)

    named : (t c : ℕ) → put locks b 0 c ≡ lock_word t → put mine seat None t ≡ Some c
    named t c says = equal_or b c
        (λ at. absurd (lock_word-taken t (sym says ∙ put_here locks b c 0 at)))
        (λ else. let old : mine t ≡ Some c = fit.named t c (sym (put_else locks b c 0 else) ∙ says) in
        put_else mine seat t None
        (λ same. let q : Some b ≡ Some c = sym has ∙ ap mine same ∙ old in let at : b ≡ c = cc in else at) ∙ old)

pub lock_is_won_or_waits : LockIsWonOrWaits
lock_is_won_or_waits k words m mine seat b apart valid none fit = by (eqb (word_at m (words b)) 0) refl
  where
    by : (won : Bool) → eqb (word_at m (words b)) 0 ≡ won
        → AfterLock words mine seat b m (cond won (stored k m (words b) (lock_word seat)) m)
        (cond won LockNext.Won LockNext.Waits)
    by true is = (
      eqb-true (word_at m (words b)) 0 is,
      subst (λ (l : ℕ → ℕ). LocksFit l (put mine seat (Some b)))
          (sym (lock_stored k words m b (lock_word seat) apart valid))
          (locks-taken (locks_of words m) mine seat b (eqb-true (word_at m (words b)) 0 is) none fit),
    )
    by false is = (
      λ free. (let e : eqb (word_at m (words b)) 0 ≡ true = ap (λ n. eqb n 0) free in
          let q : false ≡ true = sym is ∙ e in absurd (cc)),
      refl,
    )

pub freed_lock_is_nobodys : FreedLockIsNobodys
freed_lock_is_nobodys k words m mine seat b apart valid has fit = record {
  free = ap (λ (l : ℕ → ℕ). l b) (lock_stored k words m b 0 apart valid) ∙ put_here (locks_of words m) b b 0 refl;
  fit = subst (λ (l : ℕ → ℕ). LocksFit l (put mine seat None)) (sym (lock_stored k words m b 0 apart valid))
      (locks-freed (locks_of words m) mine seat b has fit);
}

-- another word stored leaves the locks
pub other_stored : (k : Key) (words : ℕ → Word) (m : Mem) (w : Word) (value : ℕ)
    → ((b : ℕ) → IsOneWord w (words b) → ⊥)
    → locks_of words (stored k m w value) ≡ locks_of words m
other_stored k words m w value other = less_or (at_of w) (length_of k (kind_of_word w))
    (λ valid. λ n b. each valid b n)
    (λ void. ap (λ (x : Mem). locks_of words x) (stored-void k m w value void))
  where
    each : Valid k w → (b : ℕ) → locks_of words (stored k m w value) b ≡ locks_of words m b
    each valid b = ap (λ (x : Mem). locks_of words x b) (stored-valid k m w value valid)
        ∙ write_else m (kind_of_word w) (kind_of_word (words b)) (at_of w) value (at_of (words b))
        (λ e f. absurd (other b (e, f)))

pub other_steps_leave_locks : OtherStepsLeaveLocks
other_steps_leave_locks k words m mine fit = record {
  stores = λ w value other. subst (λ (l : ℕ → ℕ). LocksFit l mine) (sym (other_stored k words m w value other)) fit;
  goes = λ seat lock same. subst (λ (f : ℕ → Option ℕ). LocksFit (locks_of words m) f)
      (sym (λ n t. stays seat lock same t n)) fit;
}
  where
    stays : (seat : ℕ) (lock : Option ℕ) → lock ≡ mine seat → (t : ℕ) → put mine seat lock t ≡ mine t
    stays seat lock same t = equal_or seat t
        (λ here. put_here mine seat t lock here ∙ same ∙ ap mine here)
        (λ else. put_else mine seat t lock else)

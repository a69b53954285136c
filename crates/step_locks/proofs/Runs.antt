-- In each state of a run, each lock's word names a seat exactly where the seat's local says that it has the lock.
use Rattle.std.proofs.Common.{◌≡◌, ◌≢◌, ℕ, Bool, true, false, cond, eqb, List, [], ◌∷◌, refl, sym, ap, subst, ◌∙◌}
use Rattle.std.specs.Prelude.{Option, None}
use Rattle.pool_types.specs.Geometry.{bin_count}
use Rattle.pool_types.specs.declared.values.Region.{Region}
use Rattle.pool_words.specs.declared.actions.Action.{Action}
use Rattle.pool_words.specs.declared.actions.Action.TheVariants.{Load}
use Rattle.pool_words.specs.declared.actions.Seen.{Seen}
use Rattle.pool_words.specs.declared.words.Key.{Key}
use Rattle.pool_words.specs.declared.words.Word.{Word}
use Rattle.pool_words.specs.Actions.{finds, after_action, word_seen}
use Rattle.pool_words.specs.Words.{bin_locks, cache_counts, cache_locks}
use Rattle.locked_chain.specs.Locks.{lock_course, unlock_course}
use Rattle.word_laws.specs.Memory.{Mem, put, memory, after, found}
use Rattle.word_laws.proofs.CallerLemmas.{put-other, actions_act_by_kind}
use Rattle.word_laws.proofs.Placing.{new_rows_are_fresh}
use Rattle.lock_laws.specs.Locks.{LocksFit}
use Rattle.lock_laws.proofs.CallerLemmas.{lock_word-inj, lock_word-taken}
use Rattle.step_local.specs.declared.frames.Local.{Local}
use Rattle.step_local.specs.Course.{course}
use Rattle.step_local.specs.Learn.{learn}
use Rattle.step_runs.specs.declared.entry.Entry.{Entry}
use Rattle.step_runs.specs.Entries.{seen_by, learnt}
use Rattle.step_runs.specs.Places.{has_word}
use Rattle.step_runs.specs.Runs.{Callback, Silent, Run, seen_answer}
use Rattle.step_runs.specs.Runs.Silent.{rests, begins, resets, answers, obtains, takes_out, puts_back}
use Rattle.step_runs.specs.Runs.Run.{opened, stepped}
use Rattle.step_runs.proofs.CallerLemmas.{run_stands}
use Rattle.step_laws.proofs.CallerLemmas.{put_mapped, run_seated, seated_silence}
use Rattle.step_writes.proofs.CallerLemmas.{other_kinds_stand}
use Rattle.step_locks.specs.Holdings.{Holding, no_lock, bin_lock, cache_lock, Change, keeps, takes, frees, after_change}
use Rattle.step_locks.specs.Holdings.{bin_held, cache_held}
use Rattle.step_locks.specs.Laws.{IsOnLock, lock_kinds, AreLocksNamed, LeavesLock, LocksNameTheirSeat}
use Rattle.step_locks.specs.Laws.{LocksAreHeldOnce, OthersLeaveHeldLocks}
use Rattle.step_locks.specs.Positions.{holding_of, change_of, bin_lock_of, cache_lock_of, bin_locks_of, cache_locks_of}
use Rattle.step_locks.proofs.Families.{within, family_same, family_takes, family_frees}
use Rattle.step_locks.proofs.Onward.{turns_change_locks, begins_keep_locks}
use Rattle.step_locks.proofs.OnLocks.{steps_take_and_free_locks}

-- the steps that take a lock and free it
module _ (seat b : ℕ) where
  abbrev taking_bin : Action
  taking_bin = lock_course (record { word = Word.BinLock b; seat = seat })

  abbrev taking_cache : Action
  taking_cache = lock_course (record { word = Word.CacheLock b; seat = seat })

  abbrev freeing_bin : Action
  freeing_bin = unlock_course (record { word = Word.BinLock b; seat = seat })

  abbrev freeing_cache : Action
  freeing_cache = unlock_course (record { word = Word.CacheLock b; seat = seat })

-- what a step makes of the lock of a seat, in the words of bins' locks
module _ (k : Key) (m : Mem) (mine : ℕ → Option ℕ) (seat : ℕ) (fit : LocksFit (m bin_locks) mine) where
  abbrev BinsAfter : Holding → Change → Action → Type 0
  BinsAfter had change action = LocksFit (after k m action bin_locks)
      (put mine seat (bin_held (after_change change (found m action) had)))

  bins_same : (action : Action) (had : Holding) (lock : Option ℕ) → after k m action bin_locks ≡ m bin_locks
      → mine seat ≡ bin_held had → bin_held had ≡ lock
      → LocksFit (after k m action bin_locks) (put mine seat lock)
  bins_same action had lock same is held =
      family_same k (λ b. Word.BinLock b) bin_count (λ a b one. one.1) (λ b. refl) (λ b. refl) m mine seat fit
      (after k m action) lock same (is ∙ held)

  bins_won : (b : ℕ) (won : Bool)
      → bin_held (cond won (bin_lock b) no_lock) ≡ cond won (within bin_count b) None
  bins_won b true = refl
  bins_won b false = refl

  bins_other : (granules : ℕ) (won : Bool) → bin_held (cond won (cache_lock granules) no_lock) ≡ None
  bins_other granules true = refl
  bins_other granules false = refl

  bins_step : (had : Holding) (change : Change) (action : Action) → IsOnLock seat had change action
      → mine seat ≡ bin_held had → BinsAfter had change action
  bins_step had keeps action on is =
      bins_same action had (bin_held had) (other_kinds_stand k m action lock_kinds bin_locks on refl) is refl
  bins_step had (takes no_lock) action on is = absurd on
  bins_step had (takes (bin_lock b)) action on is = subst (BinsAfter had (takes (bin_lock b))) (sym on.1)
      (subst (λ o. LocksFit (after k m (taking_bin seat b) bin_locks) (put mine seat o))
      (sym (bins_won b (eqb (m bin_locks b) 0)))
      (family_takes k (λ b. Word.BinLock b) bin_count (λ a b one. one.1) (λ b. refl) (λ b. refl) m mine seat fit b
      (is ∙ ap bin_held on.0)))
  bins_step had (takes (cache_lock b)) action on is = subst (BinsAfter had (takes (cache_lock b))) (sym on.1)
      (bins_same (taking_cache seat b) had
      (bin_held (cond (eqb (m cache_locks b) 0) (cache_lock b) no_lock))
      (other_kinds_stand k m (taking_cache seat b) (bin_locks ∷ []) bin_locks refl refl) is
      (ap bin_held on.0 ∙ sym (bins_other b (eqb (m cache_locks b) 0))))
  bins_step no_lock frees action on is = absurd on
  bins_step (bin_lock b) frees action on is = subst (BinsAfter (bin_lock b) frees) (sym on)
      (family_frees k (λ b. Word.BinLock b) bin_count (λ a b one. one.1) (λ b. refl) (λ b. refl) m mine seat fit b is)
  bins_step (cache_lock b) frees action on is = subst (BinsAfter (cache_lock b) frees) (sym on)
      (bins_same (freeing_cache seat b) (cache_lock b) None
      (other_kinds_stand k m (freeing_cache seat b) (bin_locks ∷ []) bin_locks refl refl) is refl)

-- and in those of cache bins' locks
module _ (k : Key) (m : Mem) (mine : ℕ → Option ℕ) (seat : ℕ) (fit : LocksFit (m cache_locks) mine) where
  abbrev CachesAfter : Holding → Change → Action → Type 0
  CachesAfter had change action = LocksFit (after k m action cache_locks)
      (put mine seat (cache_held (after_change change (found m action) had)))

  caches_same : (action : Action) (had : Holding) (lock : Option ℕ) → after k m action cache_locks ≡ m cache_locks
      → mine seat ≡ cache_held had → cache_held had ≡ lock
      → LocksFit (after k m action cache_locks) (put mine seat lock)
  caches_same action had lock same is held =
      family_same k (λ b. Word.CacheLock b) cache_counts (λ a b one. one.1) (λ b. refl) (λ b. refl) m mine seat fit
      (after k m action) lock same (is ∙ held)

  caches_won : (b : ℕ) (won : Bool)
      → cache_held (cond won (cache_lock b) no_lock) ≡ cond won (within cache_counts b) None
  caches_won b true = refl
  caches_won b false = refl

  caches_other : (bin : ℕ) (won : Bool) → cache_held (cond won (bin_lock bin) no_lock) ≡ None
  caches_other bin true = refl
  caches_other bin false = refl

  caches_step : (had : Holding) (change : Change) (action : Action) → IsOnLock seat had change action
      → mine seat ≡ cache_held had → CachesAfter had change action
  caches_step had keeps action on is =
      caches_same action had (cache_held had) (other_kinds_stand k m action lock_kinds cache_locks on refl) is refl
  caches_step had (takes no_lock) action on is = absurd on
  caches_step had (takes (cache_lock b)) action on is = subst (CachesAfter had (takes (cache_lock b))) (sym on.1)
      (subst (λ o. LocksFit (after k m (taking_cache seat b) cache_locks) (put mine seat o))
      (sym (caches_won b (eqb (m cache_locks b) 0)))
      (family_takes k (λ b. Word.CacheLock b) cache_counts (λ a b one. one.1) (λ b. refl) (λ b. refl) m mine seat fit b
      (is ∙ ap cache_held on.0)))
  caches_step had (takes (bin_lock b)) action on is = subst (CachesAfter had (takes (bin_lock b))) (sym on.1)
      (caches_same (taking_bin seat b) had
      (cache_held (cond (eqb (m bin_locks b) 0) (bin_lock b) no_lock))
      (other_kinds_stand k m (taking_bin seat b) (cache_locks ∷ []) cache_locks refl refl) is
      (ap cache_held on.0 ∙ sym (caches_other b (eqb (m bin_locks b) 0))))
  caches_step no_lock frees action on is = absurd on
  caches_step (cache_lock b) frees action on is = subst (CachesAfter (cache_lock b) frees) (sym on)
      (family_frees k (λ b. Word.CacheLock b) cache_counts (λ a b one. one.1) (λ b. refl) (λ b. refl) m mine seat fit b
      is)
  caches_step (bin_lock b) frees action on is = subst (CachesAfter (bin_lock b) frees) (sym on)
      (caches_same (freeing_bin seat b) (bin_lock b) None
      (other_kinds_stand k m (freeing_bin seat b) (cache_locks ∷ []) cache_locks refl refl) is refl)

-- what a seat is told of a step on a word is what the step found
told_found : (m : Mem) (action : Action) → word_seen (seen_by action (found m action)) ≡ found m action
told_found m (Load w) = refl
told_found m _ = refl

-- a turn without a step on a word leaves the seat's lock
quiet_keeps : (seat : ℕ) (had : Holding) (change : Change) (action : Action) (f : ℕ) → IsOnLock seat had change action
    → has_word action ≡ false → after_change change f had ≡ had
quiet_keeps seat had keeps action f on none = refl
quiet_keeps seat had (takes no_lock) action f on none = absurd on
quiet_keeps seat had (takes (bin_lock b)) action f on none =
    absurd (let bad : true ≡ false = sym (ap has_word on.1) ∙ none in cc)
quiet_keeps seat had (takes (cache_lock b)) action f on none =
    absurd (let bad : true ≡ false = sym (ap has_word on.1) ∙ none in cc)
quiet_keeps seat no_lock frees action f on none = refl
quiet_keeps seat (bin_lock b) frees action f on none =
    absurd (let bad : true ≡ false = sym (ap has_word on) ∙ none in cc)
quiet_keeps seat (cache_lock b) frees action f on none =
    absurd (let bad : true ≡ false = sym (ap has_word on) ∙ none in cc)

quiet_turn : (now : Local) (s : Seen) → has_word (course now) ≡ false → holding_of (learn now s).0 ≡ holding_of now
quiet_turn now s none = turns_change_locks now s
    ∙ quiet_keeps now.seat (holding_of now) (change_of now) (course now) (word_seen s) (steps_take_and_free_locks now)
    none

pub silence_holds : {D : Type 0} {c : Callback D} {l : Local} {desk : Option D} {now : Local} {after : Option D}
    → Silent c l desk now after → holding_of now ≡ holding_of l
silence_holds (rests passes) = refl
silence_holds (begins {now = now} silent request) =
    (begins_keep_locks now).begins request ∙ silence_holds silent
silence_holds (resets {now = now} silent reset) = (begins_keep_locks now).resets reset ∙ silence_holds silent
silence_holds (answers {now = now} silent e) = quiet_turn now Seen.Done (ap has_word e) ∙ silence_holds silent
silence_holds (obtains {now = now} silent granules answer after e asks) =
    quiet_turn now (seen_answer answer) (ap has_word e) ∙ silence_holds silent
silence_holds (takes_out {now = now} silent first e) =
    quiet_turn now Seen.Given (ap has_word e) ∙ silence_holds silent
silence_holds (puts_back {now = now} silent e) = quiet_turn now Seen.Done (ap has_word e) ∙ silence_holds silent

-- the locks of seats after a step of one
module _ {D : Type 0} (k : Key) (words : List ℕ) (entries : ℕ → Entry D) (seat : ℕ) (l : Local) (home desk : Option D)
    (named : AreLocksNamed k words entries) (number : l.seat ≡ seat)
    (holds : holding_of l ≡ holding_of (entries seat).local)
    (leaves : memory k (after_action k words (course l)) ≡ after k (memory k words) (course l))
    (sees : finds k words (course l) ≡ found (memory k words) (course l)) where
  abbrev value : ℕ
  value = finds k words (course l)

  abbrev next : Entry D
  next = learnt (entries seat) l home desk value

  had : holding_of next.local ≡ after_change (change_of l) (found (memory k words) (course l)) (holding_of l)
  had = turns_change_locks l (seen_by (course l) value)
      ∙ ap (λ f. after_change (change_of l) f (holding_of l))
      (ap (λ f. word_seen (seen_by (course l) f)) sees ∙ told_found (memory k words) (course l))

  on : IsOnLock seat (holding_of l) (change_of l) (course l)
  on = subst (λ s. IsOnLock s (holding_of l) (change_of l) (course l)) number (steps_take_and_free_locks l)

  pub step_named : AreLocksNamed k (after_action k words (course l)) (put entries seat next)
  step_named = record {
    bins = subst (λ (f : ℕ → Option ℕ). LocksFit (memory k (after_action k words (course l)) bin_locks) f)
        (sym (put_mapped (λ e. bin_lock_of e.local) entries seat next))
        (subst (λ (m : Mem). LocksFit (m bin_locks)
        (put (bin_locks_of entries) seat (bin_held (holding_of next.local)))) (sym leaves)
        (subst (λ h. LocksFit (after k (memory k words) (course l) bin_locks)
        (put (bin_locks_of entries) seat (bin_held h))) (sym had)
        (bins_step k (memory k words) (bin_locks_of entries) seat named.bins (holding_of l) (change_of l) (course l) on
        (ap bin_held (sym holds)))));
    caches = subst (λ (f : ℕ → Option ℕ). LocksFit (memory k (after_action k words (course l)) cache_locks) f)
        (sym (put_mapped (λ e. cache_lock_of e.local) entries seat next))
        (subst (λ (m : Mem). LocksFit (m cache_locks)
        (put (cache_locks_of entries) seat (cache_held (holding_of next.local)))) (sym leaves)
        (subst (λ h. LocksFit (after k (memory k words) (course l) cache_locks)
        (put (cache_locks_of entries) seat (cache_held h))) (sym had)
        (caches_step k (memory k words) (cache_locks_of entries) seat named.caches (holding_of l) (change_of l)
        (course l) on (ap cache_held (sym holds)))));
  }

none_fits : (locks : ℕ → ℕ) → locks ≡ (λ b. 0) → LocksFit locks (λ seat. None)
none_fits locks free = record {
  held = λ seat b has. absurd (cc);
  named = λ seat b says. absurd (lock_word-taken seat (sym says ∙ ap (λ (f : ℕ → ℕ). f b) free));
}

pub run_named : {D : Type 0} {c : Callback D} {k : Key} {first : D} {words : List ℕ} {home : Option D}
    {entries : ℕ → Entry D} → Run c k first words home entries → AreLocksNamed k words entries
run_named {k = k} opened = record {
  bins = none_fits _ (ap (λ (m : Mem). m bin_locks) (new_rows_are_fresh k));
  caches = none_fits _ (ap (λ (m : Mem). m cache_locks) (new_rows_are_fresh k));
}
run_named {k = k} (stepped {words = words} {home = home} {entries = entries} run seat l desk silent word) =
    let acts = actions_act_by_kind k words (course l) (run_stands run).sized in
    step_named k words entries seat l home desk (run_named run)
    (seated_silence silent (run_seated run seat)).number (silence_holds silent) acts.leaves acts.sees

-- a lock's word, before a step of another seat and after it, names the one that has the lock
pub others_leave : {D : Type 0} {c : Callback D} {k : Key} {first : D} {words : List ℕ} {home : Option D}
    {entries : ℕ → Entry D} → Run c k first words home entries → (seat other : ℕ) (l : Local) (desk : Option D)
    → other ≢ seat → Silent c (entries other).local (entries other).desk l desk → has_word (course l) ≡ true
    → LeavesLock k words (course l) (entries seat).local
others_leave {k = k} {words = words} {home = home} {entries = entries} run seat other l desk differ silent word =
    let now = run_named run in
    let then = run_named (stepped run other l desk silent word) in
    let same = put-other entries other (learnt (entries other) l home desk (finds k words (course l))) seat
    (λ e. differ (sym e)) in
    record {
      bin = λ b has. then.bins.held seat b (ap (λ e. bin_lock_of e.local) same ∙ has)
          ∙ sym (now.bins.held seat b has);
      cache = λ b has. then.caches.held seat b (ap (λ e. cache_lock_of e.local) same ∙ has)
          ∙ sym (now.caches.held seat b has);
    }

module _ {R : Type 0} (out : R → List Region) (faults : R → ℕ) (got : R → ℕ → Option Region → R → Type 0)
    (passed : R → Region → Bool → R → Type 0) where
  pub locks_name_their_seat : LocksNameTheirSeat out faults got passed
  locks_name_their_seat policy limits raw words home entries run = run_named run

  pub locks_are_held_once : LocksAreHeldOnce out faults got passed
  locks_are_held_once policy limits raw words home entries run =
      let named = run_named run in
      record {
        bins = λ seat other bin has also. lock_word-inj seat other
            (sym (named.bins.held seat bin has) ∙ named.bins.held other bin also);
        caches = λ seat other granules has also. lock_word-inj seat other
            (sym (named.caches.held seat granules has) ∙ named.caches.held other granules also);
      }

  pub others_leave_held_locks : OthersLeaveHeldLocks out faults got passed
  others_leave_held_locks policy limits raw words home entries seat other l desk run differ silent word =
      others_leave run seat other l desk differ silent word

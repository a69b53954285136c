-- What holds in each state of a run.
use Rattle.std.proofs.Common.{◌≡◌, ◌≢◌, ℕ, ◌+◌, ◌%◌, ◌^◌, Bool, true, false, cond, eqb, List, [], ◌∷◌, ◌++◌, length}
use Rattle.std.proofs.Common.{refl, sym, ap, subst, ◌∙◌, ⊎_elim, arith}
use Rattle.std.specs.Prelude.{Option, Some, None, replicate}
use Rattle.std.proofs.lemmas.Bool.Decides.{eqb_tells}
use Rattle.std.proofs.lemmas.List.{length-set, length-replicate}
use Rattle.pool_words.specs.declared.words.Key.{Key}
use Rattle.pool_words.specs.declared.words.Word.{Word}
use Rattle.pool_words.specs.declared.actions.Action.{Action}
use Rattle.pool_words.specs.declared.actions.Action.TheVariants.{Load, Store, Swap, Exchange, Add, TakeOffice}
use Rattle.pool_words.specs.declared.actions.Action.TheVariants.{GiveOffice, Nothing}
use Rattle.pool_words.specs.Words.{kind_of_word, at_of, office_locks, length_of, words_of, index_of}
use Rattle.pool_words.specs.Actions.{value, with_word, finds, after_action}
use Rattle.region_steps.specs.declared.office.OfficeAt.{OfficeAt}
use Rattle.word_codes.specs.Locks.{lock_word}
use Rattle.word_laws.specs.Memory.{Mem, put, memory, stored, after, found}
use Rattle.word_laws.proofs.CallerLemmas.{less_or, stored-valid, stored-void, actions_act_by_kind, put_here}
use Rattle.chain_laws.proofs.CallerLemmas.{put-each}
use Rattle.step_local.specs.declared.frames.At.{At}
use Rattle.step_local.specs.declared.frames.Local.{Local}
use Rattle.step_local.specs.Course.{course_at, course}
use Rattle.step_runs.specs.declared.entry.Entry.{Entry}
use Rattle.step_runs.specs.Places.{has_word, Carry, away, in_hand, carry_at, carry_of, HasDesk}
use Rattle.step_runs.specs.Places.{Move, stays, takes, gives, move_of, passed_at}
use Rattle.step_runs.specs.Entries.{desk_after, learnt, first_entry}
use Rattle.step_runs.specs.Runs.{Callback, Silent, Passes, home_after, Run}
use Rattle.step_runs.specs.Runs.Silent.{rests, begins, resets, answers, obtains, takes_out, puts_back}
use Rattle.step_runs.specs.Runs.Run.{opened, stepped}
use Rattle.step_runs.specs.Laws.{Onward}
use Rattle.step_runs.proofs.Elsewhere.{is_lock, writes_lock, else_at}
use Rattle.step_runs.proofs.Begun.{carry_begun, carry_reset_begun}
use Rattle.step_runs.proofs.Onward.{steps_go_onward, answers_at, obtains_at, takes_out_at, puts_back_at}

lock_some : (seat : ℕ) → lock_word seat ≡ 0 → ⊥
unfolding lock_word
lock_some seat e = omega arith

-- a store of another word leaves the lock
stored_else : (k : Key) (m : Mem) (w : Word) (v : ℕ) → is_lock w ≡ false
    → stored k m w v office_locks 0 ≡ m office_locks 0
stored_else k m w v other = less_or (at_of w) (length_of k (kind_of_word w))
    (λ valid. ap (λ (n : Mem). n office_locks 0) (stored-valid k m w v valid)
    ∙ ap (λ (b : Bool). cond b (put (m office_locks) (at_of w) v) (m office_locks) 0) other)
    (λ void. ap (λ (n : Mem). n office_locks 0) (stored-void k m w v void))

pub lock_stays : (k : Key) (m : Mem) (action : Action) → writes_lock action ≡ false
    → after k m action office_locks 0 ≡ m office_locks 0
lock_stays k m (Load w) e = refl
lock_stays k m (Store w v) e = stored_else k m w v e
lock_stays k m (Swap w v) e = stored_else k m w v e
lock_stays k m (Exchange w from to) e = by (eqb (m (kind_of_word w) (at_of w)) from)
  where
    by : (b : Bool) → (cond b (stored k m w to) m) office_locks 0 ≡ m office_locks 0
    by true = stored_else k m w to e
    by false = refl
lock_stays k m (Add w v) e = stored_else k m w _ e
lock_stays k m (TakeOffice job) e = refl
lock_stays k m GiveOffice e = refl
lock_stays k m Nothing e = refl

-- where a step takes the office, it found the lock free
pub takes_free : (m : Mem) (l : Local) (at : At) → move_of at (found m (course_at l at)) ≡ takes → m office_locks 0 ≡ 0
takes_free m l (At.Office job OfficeAt.Lock) e = ⊎_elim
    (λ (z : (eqb (m office_locks 0) 0 ≡ true) × (m office_locks 0 ≡ 0)). z.1)
    (λ (z : (eqb (m office_locks 0) 0 ≡ false) × (m office_locks 0 ≢ 0)).
    absurd (by (eqb (m office_locks 0) 0) z.0 e))
    (eqb_tells (m office_locks 0) 0)
  where
    by : (b : Bool) → b ≡ false → cond b takes stays ≡ takes → ⊥
    by true no_ e = cc
    by false no_ e = cc
takes_free m l (At.Office job _) e = absurd (cc)
takes_free m l _ e = absurd (cc)

module _ {D : Type 0} where
  abbrev pub IsHome : Option D → Type 0
  IsHome home = (desk : D) × (home ≡ Some desk)

  -- where the lock is free after a step, the office is at home
  home_step : (k : Key) (m : Mem) (l : Local) (at : At) (home desk : Option D) → (m office_locks 0 ≡ 0 → IsHome home)
      → HasDesk (carry_of at) desk → has_word (course_at l at) ≡ true → after k m (course_at l at) office_locks 0 ≡ 0
      → IsHome (home_after (move_of at (found m (course_at l at))) home desk)
  home_step k m l At.Idle home desk was has word free = absurd (cc)
  home_step k m l (At.Ready answer) home desk was has word free = absurd (cc)
  home_step k m l (At.Office job OfficeAt.Lock) home desk was has word free =
      by (eqb (m office_locks 0) 0) free
    where
      by : (b : Bool) → (cond b (stored k m Word.OfficeLock (lock_word l.seat)) m) office_locks 0 ≡ 0
          → IsHome (home_after (cond b takes stays) home desk)
      by true e = absurd (lock_some l.seat
          (sym (ap (λ (n : Mem). n office_locks 0)
          (stored-valid k m Word.OfficeLock (lock_word l.seat) (omega arith))) ∙ e))
      by false e = was e
  home_step k m l (At.Office job (OfficeAt.Unlock end)) home desk was has word free = has
  home_step k m l (At.Office job at) home desk was has word free =
      was (sym (lock_stays k m (course_at l (At.Office job at)) refl) ∙ free)
  home_step k m l at home desk was has word free =
      was (sym (lock_stays k m (course_at l at) (else_at l at refl).0) ∙ free)

  pub has_step : (before now : Carry) (move : Move) (home desk : Option D) → Onward before move now
      → HasDesk before desk
      → (move ≡ takes → IsHome home) → HasDesk now (desk_after move home desk)
  has_step before now stays home desk on has from = subst (λ c. HasDesk c desk) (sym on) has
  has_step before now takes home desk on has from = subst (λ c. HasDesk c home) (sym on.1) (from refl)
  has_step before now gives home desk on has from = subst (λ c. HasDesk {D = D} c None) (sym on.1) refl

  passes_has : (c : Callback D) (first : Option ℕ) (desk after : Option D) → Passes c first desk after
      → HasDesk in_hand desk → HasDesk in_hand after
  passes_has c None desk after same has = subst (HasDesk in_hand) (sym same) has
  passes_has c (Some first) (Some desk) after passes has = (passes.0, passes.1)
  passes_has c (Some first) None after passes has = absurd (let e = has.1 in cc)

  rests_has : (c : Callback D) (l : Local) (at : At) (desk after : Option D) → Passes c (passed_at l at) desk after
      → HasDesk (carry_of at) desk → HasDesk (carry_of at) after
  rests_has c l (At.Office job (OfficeAt.Back end)) desk after passes has = passes_has c _ desk after passes has
  rests_has c l (At.Office job at) desk after same has = subst (HasDesk (carry_at at)) (sym same) has
  rests_has c l at desk after same has = subst (HasDesk away) (sym same) has

  pub silence_keeps_desk : {c : Callback D} {l : Local} {desk : Option D} {now : Local} {after : Option D}
      → Silent c l desk now after → HasDesk (carry_of l.at) desk → HasDesk (carry_of now.at) after
  silence_keeps_desk {c} {l} {desk} (rests {after = after} passes) has = rests_has c l l.at desk after passes has
  silence_keeps_desk (begins {now = now} {desk = d} silent request) has =
      subst (λ p. HasDesk p d) (sym (carry_begun now request)) (silence_keeps_desk silent has)
  silence_keeps_desk (resets {now = now} {desk = d} silent reset) has =
      subst (λ p. HasDesk p d) (sym (carry_reset_begun now reset)) (silence_keeps_desk silent has)
  silence_keeps_desk (answers {now = now} {desk = d} silent e) has =
      let places = answers_at now now.at refl e in
      subst (λ p. HasDesk p d) (places.0 ∙ sym places.1) (silence_keeps_desk silent has)
  silence_keeps_desk (obtains {now = now} silent granules answer after e asks) has =
      subst (λ p. HasDesk p (Some after)) (sym (obtains_at now now.at granules answer e).1) (after, refl)
  silence_keeps_desk (takes_out {now = now} {desk = d} silent first e) has =
      subst (λ p. HasDesk p (Some d)) (sym (takes_out_at now now.at first e).1) (d, refl)
  silence_keeps_desk (puts_back {now = now} {desk = d} silent e) has =
      let places = puts_back_at now now.at e in
      let had = subst (λ p. HasDesk p d) places.0 (silence_keeps_desk silent has) in
      subst (λ p. HasDesk p d) (sym places.1) had

-- as many words as before
sized_after : (k : Key) (words : List ℕ) (action : Action) → length (after_action k words action) ≡ length words
sized_after k words (Load w) = refl
sized_after k words (Store w v) = length-set words (index_of k w) v
sized_after k words (Swap w v) = length-set words (index_of k w) v
sized_after k words (Exchange w from to) = by (eqb (value k words w) from)
  where
    by : (b : Bool) → length (cond b (with_word k words w to) words) ≡ length words
    by true = length-set words (index_of k w) to
    by false = refl
sized_after k words (Add w v) = length-set words (index_of k w) ((value k words w + v) % 2 ^ 64)
sized_after k words (TakeOffice job) = refl
sized_after k words GiveOffice = refl
sized_after k words Nothing = refl

some_rows : {A : Type 0} (xs : List A) (x : A) → xs ++ (x ∷ []) ≡ [] → ⊥
some_rows [] x e = cc
some_rows (y ∷ ys) x e = cc

module _ {D : Type 0} where
  -- what holds in each state of a run
  pub record Stands (k : Key) (words : List ℕ) (home : Option D) (entries : ℕ → Entry D) : Type 0 where
    pub sized : length words ≡ words_of k
    pub seats : (seat : ℕ) → (entries seat).seat ≡ seat
    pub desks : (seat : ℕ) → HasDesk (carry_of (entries seat).local.at) (entries seat).desk
    pub free : memory k words office_locks 0 ≡ 0 → IsHome home

  pub run_stands : {c : Callback D} {k : Key} {first : D} {words : List ℕ} {home : Option D} {entries : ℕ → Entry D}
      → Run c k first words home entries → Stands k words home entries
  run_stands {k = k} {first = first} opened = record {
    sized = length-replicate (words_of k) 0;
    seats = λ seat. refl;
    desks = λ seat. refl;
    free = λ e. (first, refl);
  }
  run_stands {k = k} (stepped {words = words} {home = home} {entries = entries} run seat l desk silent word) =
      let s = run_stands run in
      let acts = actions_act_by_kind k words (course l) s.sized in
      let had = silence_keeps_desk silent (s.desks seat) in
      let found_here = finds k words (course l) in
      record {
        sized = sized_after k words (course l) ∙ s.sized;
        seats = put-each (λ j e. e.seat ≡ j) entries seat (learnt (entries seat) l home desk found_here)
            (λ j _. s.seats j) (s.seats seat);
        desks = put-each (λ j e. HasDesk (carry_of e.local.at) e.desk) entries seat
            (learnt (entries seat) l home desk found_here) (λ j _. s.desks j)
            (has_step (carry_of l.at) _ (move_of l.at found_here) home desk (steps_go_onward l found_here word).carry had
            (λ e. s.free (takes_free (memory k words) l l.at (ap (move_of l.at) (sym acts.sees) ∙ e))));
        free = λ e. subst (λ n. IsHome (home_after (move_of l.at n) home desk)) (sym acts.sees)
            (home_step k (memory k words) l l.at home desk s.free had word
            (sym (ap (λ (m : Mem). m office_locks 0) acts.leaves) ∙ e));
      }

  -- where no seat has made a step, the pool is as it was made
  pub record Unstepped (k : Key) (first : D) (words : List ℕ) (home : Option D) (entries : ℕ → Entry D) : Type 0 where
    pub words_are : words ≡ replicate (words_of k) 0
    pub home_is : home ≡ Some first
    pub entries_are : (seat : ℕ) → entries seat ≡ first_entry k seat

  pub steps_leave_rows : {c : Callback D} {k : Key} {first : D} {words : List ℕ} {home : Option D}
      {entries : ℕ → Entry D} → Run c k first words home entries → ((seat : ℕ) → (entries seat).rows ≡ [])
      → Unstepped k first words home entries
  steps_leave_rows opened none = record { words_are = refl; home_is = refl; entries_are = λ seat. refl }
  steps_leave_rows {k = k} (stepped {words = words} {home = home} {entries = entries} run seat l desk silent word)
      none =
      absurd (some_rows (entries seat).rows _
      (ap (λ e. e.rows)
      (sym (put_here entries seat seat (learnt (entries seat) l home desk (finds k words (course l))) refl))
      ∙ none seat))

-- The runs of any number of seats at any number of lists.
use Rattle.std.proofs.Common.{◌≡◌, ◌≢◌, ◌⊎◌, inl, inr, ℕ, ◌<◌, Bool, true, false, cond, eqb, Some, None, List, ◌∷◌}
use Rattle.std.proofs.Common.{◌++◌, refl, sym, ap, subst, arith, ◌∙◌}
use Rattle.std.specs.declared.option.Option.{Option}
use Rattle.pool_words.specs.declared.words.Key.{Key}
use Rattle.pool_words.specs.declared.words.Word.{Word}
use Rattle.pool_words.specs.Words.{kind_of_word, number, forwards, backwards}
use Rattle.word_codes.specs.Links.{link_of, link_word}
use Rattle.word_codes.specs.Locks.{lock_word}
use Rattle.locked_chain.specs.declared.lock.LockNext.{LockNext}
use Rattle.locked_chain.specs.declared.insert.InsertAt.{InsertAt}
use Rattle.locked_chain.specs.declared.insert.InsertNext.{InsertNext}
use Rattle.locked_chain.specs.declared.remove.RemoveAt.{RemoveAt}
use Rattle.locked_chain.specs.Locks.{lock_course, lock_learn, unlock_course}
use Rattle.locked_chain.specs.Insert.{insert_course, insert_learn}
use Rattle.locked_chain.specs.Remove.{remove_course, remove_learn, skip_course, skip_back}
use Rattle.word_laws.specs.Memory.{Mem, put, stored, word_at, after, found}
use Rattle.word_laws.proofs.CallerLemmas.{put_here, put_else, equal_or, less_or, read_put}
use Rattle.chain_laws.specs.Chains.{tally, without}
use Rattle.chain_laws.specs.Pushing.{IsOneWord}
use Rattle.chain_laws.proofs.CallerLemmas.{tally-here, tally-else, tally-more, tally-append, tally-split}
use Rattle.chain_laws.proofs.CallerLemmas.{without-between, put-each, pairs-put, chains_have_no_repeats}
use Rattle.lock_laws.specs.Locks.{locks_of, LocksFit, lock_by}
use Rattle.lock_laws.specs.Lists.{IsList}
use Rattle.lock_laws.specs.Lists.Change.{Still}
use Rattle.lock_laws.specs.Steps.{list_of, Inserts, Removes, AfterInsert, AfterRemove, CanChange, remove_items}
use Rattle.lock_laws.specs.Runs.{LeavesList}
use Rattle.lock_laws.specs.Seats.{ListWords, AreLists, Task, lock_in, list_call, InsertFits, RemoveFits, TaskFits}
use Rattle.lock_laws.specs.Seats.{HasNot, AreApart, ListsGood, task_locked, task_inserted, items_inserted}
use Rattle.lock_laws.specs.Seats.{task_removed, items_removed}
use Rattle.lock_laws.specs.Seats.Task.{Away, Has, Inserting, Removing}
use Rattle.lock_laws.specs.Seats.ListsRun.{starts, takes, frees, puts, cuts, inserts, removes}
use Rattle.lock_laws.specs.Laws.{NamesSeat, AfterLock, SeatsKeepLists}
use Rattle.lock_laws.proofs.Locks.{lock_names_its_seat, lock_is_won_or_waits, freed_lock_is_nobodys, other_stored}
use Rattle.lock_laws.proofs.Removing.{once-apart}
use Rattle.lock_laws.proofs.ListsInWords.{insert_keeps_list, remove_keeps_list}
use Rattle.lock_laws.proofs.Runs.{list-same, inserts-left, removes-left, left_by, leaves_word, leaves_all}
use Rattle.lock_laws.proofs.Runs.{other_lists_stand}

-- the other way round
pub apart-sym : (one other : Task) → AreApart one other → AreApart other one
apart-sym Away Away apart = tt
apart-sym Away (Has c) apart = tt
apart-sym Away (Inserting c y a) apart = tt
apart-sym Away (Removing c y a) apart = tt
apart-sym (Has b) Away apart = tt
apart-sym (Has b) (Has c) apart = tt
apart-sym (Has b) (Inserting c y a) apart = tt
apart-sym (Has b) (Removing c y a) apart = tt
apart-sym (Inserting b x at) Away apart = tt
apart-sym (Inserting b x at) (Has c) apart = tt
apart-sym (Inserting b x at) (Inserting c y a) apart = λ same. apart (sym same)
apart-sym (Inserting b x at) (Removing c y a) apart = λ same. apart (sym same)
apart-sym (Removing b x at) Away apart = tt
apart-sym (Removing b x at) (Has c) apart = tt
apart-sym (Removing b x at) (Inserting c y a) apart = λ same. apart (sym same)
apart-sym (Removing b x at) (Removing c y a) apart = λ same. apart (sym same)

-- an item that is in a list is none that the list lacks
in-not : (z y : ℕ) (xs : List ℕ) → 0 < tally z xs → tally y xs ≡ 0 → z ≢ y
in-not z y xs some none = λ same. let e = ap (λ v. tally v xs) same in omega arith

-- the items that an item leaves are those around it
around : (z y : ℕ) (front back : List ℕ) (at : RemoveAt) → z ≢ y
    → tally z (front ++ (y ∷ back)) ≡ tally z (remove_items front y back at)
around z y front back RemoveAt.Forward differ = refl
around z y front back (RemoveAt.Backward forward) differ = refl
around z y front back (RemoveAt.Skip forward backward) differ = refl
around z y front back (RemoveAt.SkipBack behind backward) differ =
    let a = tally-append z front (y ∷ back) in
    let b = tally-append z front back in
    let e = tally-else z y back differ in omega arith

still_left : (head : Word) (items : List ℕ) (m new : Mem) → LeavesList head items m new
    → IsList (list_of head m) Still items
    → IsList (list_of head new) Still items
still_left head items m new leaves list =
    list-same (list_of head m) (list_of head new) Still items leaves.first leaves.next leaves.previous list

-- a step at one list leaves the tasks of the others
abbrev LeavesOthers : ListWords → Mem → Mem → ℕ → List ℕ → Type 0
LeavesOthers s m new b mine = (c : ℕ) → c < s.count → b ≢ c → (members : List ℕ)
    → ((z : ℕ) → 0 < tally z mine → tally z members ≡ 0) → LeavesList (s.head c) members m new

other_fits : (k : Key) (s : ListWords) (m new : Mem) (items : ℕ → List ℕ) (b own : ℕ) (list : List ℕ) (task : Task)
    → LeavesOthers s m new b (own ∷ items b)
    → ((c d : ℕ) → c ≢ d → (x : ℕ) → 0 < tally x (items c) → tally x (items d) ≡ 0)
    → ((c : ℕ) → b ≢ c → tally own (items c) ≡ 0) → ((z : ℕ) → z ≢ own → tally z list ≡ tally z (items b))
    → lock_in task ≢ Some b → HasNot own task → TaskFits k s m items task → TaskFits k s new (put items b list) task
other_fits k s m new items b own list Away leaves once outside same lock apart fit = tt
other_fits k s m new items b own list (Has c) leaves once outside same lock apart (some, is) = (
  some,
  subst (λ l. IsList (list_of (s.head c) new) Still l) (sym (put_else items b c list differ))
      (still_left (s.head c) (items c) m new (leaves c some differ (items c) far) is),
)
  where
    differ : b ≢ c
    differ = λ e. lock (ap Some (sym e))

    far : (z : ℕ) → 0 < tally z (own ∷ items b) → tally z (items c) ≡ 0
    far z more = equal_or z own
        (λ e. ap (λ v. tally v (items c)) e ∙ outside c differ)
        (λ e. once b c differ z (let t = tally-else z own (items b) e in omega arith))
other_fits k s m new items b own list (Inserting c y at) leaves once outside same lock apart fit = record {
  some = fit.some;
  inside = fit.inside;
  list = subst (λ l. Inserts (list_of (s.head c) new) y l at) (sym (put_else items b c list differ))
      (inserts-left (list_of (s.head c) m) (list_of (s.head c) new) y (items c) at
      (left_by (s.head c) (y ∷ items c) m new (leaves c fit.some differ (y ∷ items c) far)) fit.list);
  outside = put-each (λ d l. tally y l ≡ 0) items b list (λ d no. fit.outside d)
      (same y (λ e. apart (sym e)) ∙ fit.outside b);
}
  where
    differ : b ≢ c
    differ = λ e. lock (ap Some (sym e))

    far : (z : ℕ) → 0 < tally z (own ∷ items b) → tally z (y ∷ items c) ≡ 0
    far z more = equal_or z own
        (λ e. tally-else z y (items c) (λ q. apart (sym e ∙ q)) ∙ ap (λ v. tally v (items c)) e ∙ outside c differ)
        (λ e. let t = tally-else z own (items b) e in let more_b : 0 < tally z (items b) = omega arith in
        tally-else z y (items c) (in-not z y (items b) more_b (fit.outside b)) ∙ once b c differ z more_b)
other_fits k s m new items b own list (Removing c y at) leaves once outside same lock apart fit = record {
  some = fit.some;
  inside = fit.inside;
  front = fit.front;
  back = fit.back;
  items_are = put_else items b c list differ ∙ fit.items_are;
  list = removes-left (list_of (s.head c) m) (list_of (s.head c) new) fit.front y fit.back at
      (left_by (s.head c) (y ∷ (fit.front ++ (y ∷ fit.back))) m new
      (leaves c fit.some differ (y ∷ (fit.front ++ (y ∷ fit.back))) far)) fit.list;
  outside = put-each (λ d l. d ≢ c → tally y l ≡ 0) items b list (λ d no. fit.outside d)
      (λ no. same y (λ e. apart (sym e)) ∙ fit.outside b no);
}
  where
    differ : b ≢ c
    differ = λ e. lock (ap Some (sym e))

    gone : (z : ℕ) → z ≢ y → tally z (items c) ≡ 0 → tally z (y ∷ (fit.front ++ (y ∷ fit.back))) ≡ 0
    gone z unlike none = tally-else z y (fit.front ++ (y ∷ fit.back)) unlike ∙ around z y fit.front fit.back at unlike
        ∙ ap (λ l. tally z l) (sym fit.items_are) ∙ none

    far : (z : ℕ) → 0 < tally z (own ∷ items b) → tally z (y ∷ (fit.front ++ (y ∷ fit.back))) ≡ 0
    far z more = equal_or z own
        (λ e. gone z (λ q. apart (sym e ∙ q)) (ap (λ v. tally v (items c)) e ∙ outside c differ))
        (λ e. let t = tally-else z own (items b) e in let more_b : 0 < tally z (items b) = omega arith in
        gone z (in-not z y (items b) more_b (fit.outside b differ)) (once b c differ z more_b))

-- a step at a list by the seat that has its lock
keeps : (k : Key) (s : ListWords) (m new : Mem) (tasks : ℕ → Task) (items : ℕ → List ℕ) (seat b own : ℕ) (task : Task)
    (list : List ℕ) → ListsGood k s m tasks items → lock_in (tasks seat) ≡ Some b → lock_in task ≡ Some b
    → locks_of s.lock new ≡ locks_of s.lock m → LeavesOthers s m new b (own ∷ items b)
    → ((c : ℕ) → b ≢ c → tally own (items c) ≡ 0) → ((other : ℕ) → seat ≢ other → HasNot own (tasks other))
    → ((z : ℕ) → z ≢ own → tally z list ≡ tally z (items b)) → own < k.span
    → TaskFits k s new (put items b list) task → ((other : ℕ) → seat ≢ other → AreApart task (tasks other))
    → ListsGood k s new (put tasks seat task) (put items b list)
keeps k s m new tasks items seat b own task list good has had locks leaves outside others same low fit apart = record {
  locks = subst (λ (l : ℕ → ℕ). LocksFit l (λ t. lock_in (put tasks seat task t))) (sym locks)
      (subst (λ (f : ℕ → Option ℕ). LocksFit (locks_of s.lock m) f) (sym (λ n t. mine t n)) good.locks);
  free = λ c some none. let differ : b ≢ c = λ e. none seat (mine seat ∙ has ∙ ap Some e) in
      subst (λ l. IsList (list_of (s.head c) new) Still l) (sym (put_else items b c list differ))
      (still_left (s.head c) (items c) m new (leaves c some differ (items c) (far c differ))
      (good.free c some (λ t is. none t (mine t ∙ is))));
  fit = put-each (λ t x. TaskFits k s new (put items b list) x) tasks seat task
      (λ t differ. other_fits k s m new items b own list (tasks t) leaves good.once outside same
      (λ is. differ (owner.one seat t has is)) (others t differ) (good.fit t))
      fit;
  inside = put-each (λ c l. (x : ℕ) → 0 < tally x l → x < k.span) items b list (λ c no. good.inside c)
      (λ x more. equal_or x own (λ e. subst (λ v. v < k.span) (sym e) low)
      (λ e. good.inside b x (subst (λ n. 0 < n) (same x e) more)));
  once = pairs-put (λ l r. (x : ℕ) → 0 < tally x l → tally x r ≡ 0) turn items b list
      (λ c differ x more. equal_or x own (λ e. ap (λ v. tally v (items c)) e ∙ outside c differ)
      (λ e. good.once b c differ x (subst (λ n. 0 < n) (same x e) more)))
      good.once;
  apart = pairs-put AreApart apart-sym tasks seat task apart good.apart;
}
  where
    owner : NamesSeat (locks_of s.lock m) (λ t. lock_in (tasks t)) b
    owner = lock_names_its_seat (locks_of s.lock m) (λ t. lock_in (tasks t)) b good.locks

    mine : (t : ℕ) → lock_in (put tasks seat task t) ≡ lock_in (tasks t)
    mine t = equal_or seat t
        (λ e. ap lock_in (put_here tasks seat t task e) ∙ had ∙ sym has ∙ ap (λ v. lock_in (tasks v)) e)
        (λ e. ap lock_in (put_else tasks seat t task e))

    far : (c : ℕ) → b ≢ c → (z : ℕ) → 0 < tally z (own ∷ items b) → tally z (items c) ≡ 0
    far c differ z more = equal_or z own
        (λ e. ap (λ v. tally v (items c)) e ∙ outside c differ)
        (λ e. good.once b c differ z (let t = tally-else z own (items b) e in omega arith))

    turn : (l r : List ℕ) → ((x : ℕ) → 0 < tally x l → tally x r ≡ 0) → (x : ℕ) → 0 < tally x r → tally x l ≡ 0
    turn l r none x more = less_or 0 (tally x l) (λ some. let n = none x some in absurd (omega arith))
        (λ zero. omega arith)

-- the words of links and heads are no locks
link_no_lock : (k : Key) (s : ListWords) (w : Word) → AreLists k s
    → (number (kind_of_word w) ≡ number forwards) ⊎ (number (kind_of_word w) ≡ number backwards) → (c : ℕ)
    → IsOneWord w (s.lock c) → ⊥
link_no_lock k s w are (inl is) c same = (are.locks c).no_forward (sym same.0 ∙ is)
link_no_lock k s w are (inr is) c same = (are.locks c).no_backward (sym same.0 ∙ is)

insert_locks : (k : Key) (s : ListWords) (m : Mem) (b x : ℕ) (at : InsertAt) → AreLists k s
    → locks_of s.lock (after k m (insert_course (list_call s b x) at)) ≡ locks_of s.lock m
insert_locks k s m b x InsertAt.Head are = refl
insert_locks k s m b x (InsertAt.Forward head) are =
    other_stored k s.lock m (Word.Forward x) head (link_no_lock k s (Word.Forward x) are (inl refl))
insert_locks k s m b x (InsertAt.Backward head) are =
    other_stored k s.lock m (Word.Backward x) 0 (link_no_lock k s (Word.Backward x) are (inr refl))
insert_locks k s m b x (InsertAt.OldBackward old) are =
    other_stored k s.lock m (Word.Backward old) (link_word (Some x))
    (link_no_lock k s (Word.Backward old) are (inr refl))
insert_locks k s m b x InsertAt.NewHead are =
    other_stored k s.lock m (s.head b) (link_word (Some x)) (λ c same. are.apart c b (sym same.0, sym same.1))

remove_locks : (k : Key) (s : ListWords) (m : Mem) (b x : ℕ) (at : RemoveAt) → AreLists k s
    → locks_of s.lock (after k m (remove_course (list_call s b x) at)) ≡ locks_of s.lock m
remove_locks k s m b x RemoveAt.Forward are = refl
remove_locks k s m b x (RemoveAt.Backward forward) are = refl
remove_locks k s m b x (RemoveAt.Skip forward backward) are = by (link_of backward)
  where
    by : (o : Option ℕ) → locks_of s.lock (after k m (skip_course (list_call s b x) forward o)) ≡ locks_of s.lock m
    by (Some before) =
        other_stored k s.lock m (Word.Forward before) forward (link_no_lock k s (Word.Forward before) are (inl refl))
    by None = other_stored k s.lock m (s.head b) forward (λ c same. are.apart c b (sym same.0, sym same.1))
remove_locks k s m b x (RemoveAt.SkipBack behind backward) are =
    other_stored k s.lock m (Word.Backward behind) backward (link_no_lock k s (Word.Backward behind) are (inr refl))

-- the laws of each kind of step, for all seats
pub seats_insert : (k : Key) (s : ListWords) (m : Mem) (tasks : ℕ → Task) (items : ℕ → List ℕ) (seat b x : ℕ)
    (at : InsertAt)
    → AreLists k s → tasks seat ≡ Inserting b x at → ListsGood k s m tasks items
    → ListsGood k s (after k m (insert_course (list_call s b x) at))
    (put tasks seat (task_inserted b x (insert_learn at (found m (insert_course (list_call s b x) at)))))
    (put items b (items_inserted x (items b) (insert_learn at (found m (insert_course (list_call s b x) at)))))
seats_insert k s m tasks items seat b x at are is good =
    by (insert_learn at (found m (insert_course (list_call s b x) at)))
    (insert_keeps_list k (list_call s b x) m (items b) at can (mine.outside b) mine.list)
  where
    mine : InsertFits k s m items b x at
    mine = subst (λ t. TaskFits k s m items t) is (good.fit seat)

    can : CanChange k (list_call s b x) (items b)
    can = record { span = are.span; head = are.heads b mine.some; item = mine.inside; inside = good.inside b }

    leaves : LeavesOthers s m (after k m (insert_course (list_call s b x) at)) b (x ∷ items b)
    leaves c some differ members far =
        (other_lists_stand k (list_call s b x) (s.head c) members m (are.heads c some)
        (λ same. differ (are.heads_apart b c same))).inserts (items b) at can far mine.list

    others : (other : ℕ) → seat ≢ other → HasNot x (tasks other)
    others other differ = subst (λ t. AreApart t (tasks other)) is (good.apart seat other differ)

    by : (next : InsertNext)
        → AfterInsert (list_of (s.head b) (after k m (insert_course (list_call s b x) at))) x (items b) next
        → ListsGood k s (after k m (insert_course (list_call s b x) at)) (put tasks seat (task_inserted b x next))
        (put items b (items_inserted x (items b) next))
    by (InsertNext.Goes a) here = keeps k s m (after k m (insert_course (list_call s b x) at)) tasks items seat b x
        (Inserting b x a) (items b) good (ap lock_in is) refl (insert_locks k s m b x at are) leaves
        (λ c e. mine.outside c) others
        (λ z e. refl) mine.inside
        (record {
          some = mine.some;
          inside = mine.inside;
          list = subst (λ l. Inserts (list_of (s.head b) (after k m (insert_course (list_call s b x) at))) x l a)
              (sym (put_here items b b (items b) refl)) here;
          outside = put-each (λ d l. tally x l ≡ 0) items b (items b) (λ d e. mine.outside d) (mine.outside b);
        })
        others
    by InsertNext.Inserted list = keeps k s m (after k m (insert_course (list_call s b x) at)) tasks items seat b x
        (Has b) (x ∷ items b) good (ap lock_in is) refl (insert_locks k s m b x at are) leaves
        (λ c e. mine.outside c) others
        (λ z e. tally-else z x (items b) e) mine.inside (
          mine.some,
          subst (λ l. IsList (list_of (s.head b) (after k m (insert_course (list_call s b x) at))) Still l)
              (sym (put_here items b b (x ∷ items b) refl)) list,
        )
        (λ other differ. tt)

remove_can : (k : Key) (s : ListWords) (m : Mem) (tasks : ℕ → Task) (items : ℕ → List ℕ) (b x : ℕ) (at : RemoveAt)
    → AreLists k s → ListsGood k s m tasks items → (fit : RemoveFits k s m items b x at)
    → CanChange k (list_call s b x) (fit.front ++ (x ∷ fit.back))
remove_can k s m tasks items b x at are good fit = record {
  span = are.span;
  head = are.heads b fit.some;
  item = fit.inside;
  inside = λ z more. equal_or z x (λ e. subst (λ v. v < k.span) (sym e) fit.inside)
      (λ e. good.inside b z
      (subst (λ n. 0 < n) (around z x fit.front fit.back at e ∙ ap (λ l. tally z l) (sym fit.items_are)) more));
}

-- a removal's step, by what it leaves
removed : (k : Key) (s : ListWords) (m : Mem) (tasks : ℕ → Task) (items : ℕ → List ℕ) (seat b x : ℕ)
    (at next : RemoveAt)
    (task : Task) (list : List ℕ) → AreLists k s → tasks seat ≡ Removing b x at → ListsGood k s m tasks items
    → (fit : RemoveFits k s m items b x at) → list ≡ remove_items fit.front x fit.back next → lock_in task ≡ Some b
    → TaskFits k s (after k m (remove_course (list_call s b x) at)) (put items b list) task
    → ((other : ℕ) → HasNot x (tasks other) → AreApart task (tasks other))
    → ListsGood k s (after k m (remove_course (list_call s b x) at)) (put tasks seat task) (put items b list)
removed k s m tasks items seat b x at next task list are is good fit list_is had fits apart =
    keeps k s m (after k m (remove_course (list_call s b x) at)) tasks items seat b x task list good
    (ap lock_in is) had
    (remove_locks k s m b x at are) leaves (λ c e. fit.outside c (λ q. e (sym q))) others
    (λ z e. ap (λ l. tally z l) list_is ∙ sym (around z x fit.front fit.back next e) ∙ here z e) fit.inside fits
    (λ other differ. apart other (others other differ))
  where
    here : (z : ℕ) → z ≢ x → tally z (fit.front ++ (x ∷ fit.back)) ≡ tally z (items b)
    here z e = around z x fit.front fit.back at e ∙ ap (λ l. tally z l) (sym fit.items_are)

    others : (other : ℕ) → seat ≢ other → HasNot x (tasks other)
    others other differ = subst (λ t. AreApart t (tasks other)) is (good.apart seat other differ)

    leaves : LeavesOthers s m (after k m (remove_course (list_call s b x) at)) b (x ∷ items b)
    leaves c some differ members far =
        (other_lists_stand k (list_call s b x) (s.head c) members m (are.heads c some)
        (λ same. differ (are.heads_apart b c same))).removes fit.front fit.back at
        (remove_can k s m tasks items b x at are good fit)
        (λ z more. equal_or z x
        (λ e. far z (let t = tally-here x (items b) in let q = ap (λ v. tally v (x ∷ items b)) e in omega arith))
        (λ e. far z (let t = tally-more z x (items b) in let q = here z e in omega arith)))
        fit.list

removal_goes : (k : Key) (s : ListWords) (m : Mem) (tasks : ℕ → Task) (items : ℕ → List ℕ) (seat b x : ℕ)
    (at next : RemoveAt)
    (list : List ℕ) → AreLists k s → tasks seat ≡ Removing b x at → ListsGood k s m tasks items
    → (fit : RemoveFits k s m items b x at) → list ≡ remove_items fit.front x fit.back next
    → Removes (list_of (s.head b) (after k m (remove_course (list_call s b x) at))) fit.front x fit.back next
    → ListsGood k s (after k m (remove_course (list_call s b x) at)) (put tasks seat (Removing b x next))
    (put items b list)
removal_goes k s m tasks items seat b x at next list are is good fit list_is here =
    removed k s m tasks items seat b x at next (Removing b x next) list are is good fit list_is refl
    (record {
      some = fit.some;
      inside = fit.inside;
      front = fit.front;
      back = fit.back;
      items_are = put_here items b b list refl ∙ list_is;
      list = here;
      outside = λ c e. ap (λ l. tally x l) (put_else items b c list (λ q. e (sym q))) ∙ fit.outside c e;
    })
    (λ other apart. apart)

removal_ends : (k : Key) (s : ListWords) (m : Mem) (tasks : ℕ → Task) (items : ℕ → List ℕ) (seat b x : ℕ)
    (at : RemoveAt)
    (list : List ℕ) → AreLists k s → tasks seat ≡ Removing b x at → ListsGood k s m tasks items
    → (fit : RemoveFits k s m items b x at) → list ≡ fit.front ++ fit.back
    → IsList (list_of (s.head b) (after k m (remove_course (list_call s b x) at))) Still (fit.front ++ fit.back)
    → ListsGood k s (after k m (remove_course (list_call s b x) at)) (put tasks seat (Has b)) (put items b list)
removal_ends k s m tasks items seat b x at list are is good fit list_is here =
    removed k s m tasks items seat b x at (RemoveAt.SkipBack 0 0) (Has b) list are is good fit list_is refl (
      fit.some,
      subst (λ l. IsList (list_of (s.head b) (after k m (remove_course (list_call s b x) at))) Still l)
          (sym (put_here items b b list refl ∙ list_is)) here,
    )
    (λ other apart. tt)

pub seats_remove : (k : Key) (s : ListWords) (m : Mem) (tasks : ℕ → Task) (items : ℕ → List ℕ) (seat b x : ℕ)
    (at : RemoveAt)
    → AreLists k s → tasks seat ≡ Removing b x at → ListsGood k s m tasks items
    → ListsGood k s (after k m (remove_course (list_call s b x) at))
    (put tasks seat (task_removed b x (remove_learn at (found m (remove_course (list_call s b x) at)))))
    (put items b (items_removed x (items b) at))
seats_remove k s m tasks items seat b x RemoveAt.Forward are is good =
    let fit = subst (λ t. TaskFits k s m items t) is (good.fit seat) in
    removal_goes k s m tasks items seat b x RemoveAt.Forward (RemoveAt.Backward (m forwards x))
    (items b) are is good fit
    fit.items_are
    (remove_keeps_list k (list_call s b x) m fit.front fit.back RemoveAt.Forward
    (remove_can k s m tasks items b x RemoveAt.Forward are good fit) fit.list)
seats_remove k s m tasks items seat b x (RemoveAt.Backward forward) are is good =
    let fit = subst (λ t. TaskFits k s m items t) is (good.fit seat) in
    removal_goes k s m tasks items seat b x (RemoveAt.Backward forward) (RemoveAt.Skip forward (m backwards x))
    (items b) are is
    good fit fit.items_are
    (remove_keeps_list k (list_call s b x) m fit.front fit.back (RemoveAt.Backward forward)
    (remove_can k s m tasks items b x (RemoveAt.Backward forward) are good fit) fit.list)
seats_remove k s m tasks items seat b x (RemoveAt.Skip forward backward) are is good =
    by (link_of forward)
    (remove_keeps_list k (list_call s b x) m fit.front fit.back (RemoveAt.Skip forward backward)
    (remove_can k s m tasks items b x (RemoveAt.Skip forward backward) are good fit) fit.list)
  where
    fit : RemoveFits k s m items b x (RemoveAt.Skip forward backward)
    fit = subst (λ t. TaskFits k s m items t) is (good.fit seat)

    alone : (tally x fit.front ≡ 0) × (tally x fit.back ≡ 0)
    alone = once-apart fit.front x fit.back
        (chains_have_no_repeats (list_of (s.head b) m).next (list_of (s.head b) m).head (fit.front ++ (x ∷ fit.back)) 0
        fit.list.list.forward)

    list_is : without x (items b) ≡ fit.front ++ fit.back
    list_is = ap (λ l. without x l) fit.items_are ∙ without-between x fit.front fit.back alone.0 alone.1

    by : (o : Option ℕ)
        → AfterRemove (list_of (s.head b)
        (after k m (remove_course (list_call s b x) (RemoveAt.Skip forward backward))))
        fit.front x fit.back (skip_back backward o)
        → ListsGood k s (after k m (remove_course (list_call s b x) (RemoveAt.Skip forward backward)))
        (put tasks seat (task_removed b x (skip_back backward o))) (put items b (without x (items b)))
    by (Some behind) here = removal_goes k s m tasks items seat b x (RemoveAt.Skip forward backward)
        (RemoveAt.SkipBack behind backward) (without x (items b)) are is good fit list_is here
    by None here = removal_ends k s m tasks items seat b x (RemoveAt.Skip forward backward)
        (without x (items b)) are is good
        fit list_is here
seats_remove k s m tasks items seat b x (RemoveAt.SkipBack behind backward) are is good =
    let fit = subst (λ t. TaskFits k s m items t) is (good.fit seat) in
    removal_ends k s m tasks items seat b x (RemoveAt.SkipBack behind backward) (items b) are is good fit fit.items_are
    (remove_keeps_list k (list_call s b x) m fit.front fit.back (RemoveAt.SkipBack behind backward)
    (remove_can k s m tasks items b x (RemoveAt.SkipBack behind backward) are good fit) fit.list)

-- the lists that a function with its own value put again has
put-same : {A : Type 0} (f : ℕ → A) (i : ℕ) (a : A) → f i ≡ a → put f i a ≡ f
put-same f i a is = λ n j. each j n
  where
    each : (j : ℕ) → put f i a j ≡ f j
    each j = equal_or i j (λ e. put_here f i j a e ∙ sym is ∙ ap f e) (λ e. put_else f i j a e)

-- a seat with a lock begins a change
begins : (k : Key) (s : ListWords) (m : Mem) (tasks : ℕ → Task) (items : ℕ → List ℕ) (seat b x : ℕ) (task : Task)
    → AreLists k s → tasks seat ≡ Has b → ListsGood k s m tasks items → ((c : ℕ) → b ≢ c → tally x (items c) ≡ 0)
    → ((other : ℕ) → seat ≢ other → HasNot x (tasks other)) → x < k.span → lock_in task ≡ Some b
    → TaskFits k s m items task → ((other : ℕ) → HasNot x (tasks other) → AreApart task (tasks other))
    → ListsGood k s m (put tasks seat task) items
begins k s m tasks items seat b x task are is good outside others low had fits apart =
    subst (λ f. ListsGood k s m (put tasks seat task) f) (put-same items b (items b) refl)
    (keeps k s m m tasks items seat b x task (items b) good (ap lock_in is) had refl
    (λ c some differ members far. leaves_all (s.head c) members m) outside others (λ z e. refl) low
    (subst (λ f. TaskFits k s m f task) (sym (put-same items b (items b) refl)) fits)
    (λ other differ. apart other (others other differ)))

pub seats_put : (k : Key) (s : ListWords) (m : Mem) (tasks : ℕ → Task) (items : ℕ → List ℕ) (seat b x : ℕ)
    → AreLists k s
    → tasks seat ≡ Has b → x < k.span → ((c : ℕ) → tally x (items c) ≡ 0) → ((other : ℕ) → HasNot x (tasks other))
    → ListsGood k s m tasks items → ListsGood k s m (put tasks seat (Inserting b x InsertAt.Head)) items
seats_put k s m tasks items seat b x are is low outside others good =
    let (some, list) = subst (λ t. TaskFits k s m items t) is (good.fit seat) in
    begins k s m tasks items seat b x (Inserting b x InsertAt.Head) are is good (λ c differ. outside c)
    (λ other differ. others other) low refl
    (record { some = some; inside = low; list = record { list = list; noted = tt }; outside = outside })
    (λ other apart. apart)

-- a seat without a list's lock has none of the list's items
has_not : (k : Key) (s : ListWords) (m : Mem) (items : ℕ → List ℕ) (b x : ℕ) (task : Task) → lock_in task ≢ Some b
    → 0 < tally x (items b) → TaskFits k s m items task → HasNot x task
has_not k s m items b x Away lock more fit = tt
has_not k s m items b x (Has c) lock more fit = tt
has_not k s m items b x (Inserting c y at) lock more fit = in-not x y (items b) more (fit.outside b)
has_not k s m items b x (Removing c y at) lock more fit =
    in-not x y (items b) more (fit.outside b (λ e. lock (ap Some (sym e))))

pub seats_cut : (k : Key) (s : ListWords) (m : Mem) (tasks : ℕ → Task) (items : ℕ → List ℕ) (seat b x : ℕ)
    → AreLists k s
    → tasks seat ≡ Has b → 0 < tally x (items b) → ListsGood k s m tasks items
    → ListsGood k s m (put tasks seat (Removing b x RemoveAt.Forward)) items
seats_cut k s m tasks items seat b x are is more good =
    let (some, list) = subst (λ t. TaskFits k s m items t) is (good.fit seat) in
    let (front, back, whole) = tally-split x (items b) more in
    begins k s m tasks items seat b x (Removing b x RemoveAt.Forward) are is good
    (λ c differ. good.once b c differ x more)
    (λ other differ. has_not k s m items b x (tasks other)
    (λ has. differ (owner.one seat other (ap lock_in is) has)) more (good.fit other))
    (good.inside b x more) refl
    (record {
      some = some;
      inside = good.inside b x more;
      front = front;
      back = back;
      items_are = whole;
      list = record { list = subst (λ l. IsList (list_of (s.head b) m) Still l) whole list; noted = tt };
      outside = λ c e. good.once b c (λ q. e (sym q)) x more;
    })
    (λ other apart. apart)
  where
    owner : NamesSeat (locks_of s.lock m) (λ t. lock_in (tasks t)) b
    owner = lock_names_its_seat (locks_of s.lock m) (λ t. lock_in (tasks t)) b good.locks

-- a lock's word is no word of a list
lock_leaves : (k : Key) (s : ListWords) (m : Mem) (b v c : ℕ) (members : List ℕ) → AreLists k s → b < s.count
    → LeavesList (s.head c) members m (stored k m (s.lock b) v)
lock_leaves k s m b v c members are some =
    leaves_word k (s.lock b) (s.head c) members m v
    (record {
      valid = are.valid b some;
      no_forward = (are.locks b).no_forward;
      no_backward =
          (are.locks b).no_backward;
    })
    (are.apart b c)

lock_fits : (k : Key) (s : ListWords) (m : Mem) (items : ℕ → List ℕ) (b v : ℕ) (task : Task) → AreLists k s
    → b < s.count
    → TaskFits k s m items task → TaskFits k s (stored k m (s.lock b) v) items task
lock_fits k s m items b v Away are some fit = tt
lock_fits k s m items b v (Has c) are some (low, list) = (
  low,
  still_left (s.head c) (items c) m (stored k m (s.lock b) v)
      (lock_leaves k s m b v c (items c) are some) list,
)
lock_fits k s m items b v (Inserting c y at) are some fit = record {
  some = fit.some;
  inside = fit.inside;
  list = inserts-left (list_of (s.head c) m) (list_of (s.head c) (stored k m (s.lock b) v)) y (items c) at
      (left_by (s.head c) (y ∷ items c) m (stored k m (s.lock b) v)
      (lock_leaves k s m b v c (y ∷ items c) are some)) fit.list;
  outside = fit.outside;
}
lock_fits k s m items b v (Removing c y at) are some fit = record {
  some = fit.some;
  inside = fit.inside;
  front = fit.front;
  back = fit.back;
  items_are = fit.items_are;
  list = removes-left (list_of (s.head c) m) (list_of (s.head c) (stored k m (s.lock b) v)) fit.front y fit.back at
      (left_by (s.head c) (y ∷ (fit.front ++ (y ∷ fit.back))) m (stored k m (s.lock b) v)
      (lock_leaves k s m b v c (y ∷ (fit.front ++ (y ∷ fit.back))) are some)) fit.list;
  outside = fit.outside;
}

pub seats_take : (k : Key) (s : ListWords) (m : Mem) (tasks : ℕ → Task) (items : ℕ → List ℕ) (seat b : ℕ)
    → AreLists k s
    → b < s.count → tasks seat ≡ Away → ListsGood k s m tasks items
    → ListsGood k s (after k m (lock_course (lock_by s.lock seat b)))
    (put tasks seat (task_locked b
    (lock_learn (lock_by s.lock seat b) (found m (lock_course (lock_by s.lock seat b)))))) items
seats_take k s m tasks items seat b are some is good =
    step (eqb (word_at m (s.lock b)) 0)
    (lock_is_won_or_waits k s.lock m (λ t. lock_in (tasks t)) seat b are.locks_apart (are.valid b some)
    (ap lock_in is) good.locks)
  where
    owner : NamesSeat (locks_of s.lock m) (λ t. lock_in (tasks t)) b
    owner = lock_names_its_seat (locks_of s.lock m) (λ t. lock_in (tasks t)) b good.locks

    won : locks_of s.lock m b ≡ 0
        → LocksFit (locks_of s.lock (stored k m (s.lock b) (lock_word seat)))
        (put (λ t. lock_in (tasks t)) seat (Some b))
        → ListsGood k s (stored k m (s.lock b) (lock_word seat)) (put tasks seat (Has b)) items
    won free locks = record {
      locks = subst (λ (f : ℕ → Option ℕ). LocksFit (locks_of s.lock (stored k m (s.lock b) (lock_word seat))) f)
          (sym (λ n t. read_put lock_in tasks seat (Has b) t n)) locks;
      free = λ c low none. still_left (s.head c) (items c) m (stored k m (s.lock b) (lock_word seat))
          (lock_leaves k s m b (lock_word seat) c (items c) are some)
          (good.free c low (λ t has. none t (ap lock_in (put_else tasks seat t (Has b)
          (λ e. let q : None ≡ Some c = sym (ap lock_in is) ∙ ap (λ v. lock_in (tasks v)) e ∙ has in absurd (cc)))
          ∙ has)));
      fit = put-each (λ t x. TaskFits k s (stored k m (s.lock b) (lock_word seat)) items x) tasks seat (Has b)
          (λ t differ. lock_fits k s m items b (lock_word seat) (tasks t) are some (good.fit t))
          (lock_fits k s m items b (lock_word seat) (Has b) are some (some, good.free b some (owner.nobody free)));
      inside = good.inside;
      once = good.once;
      apart = pairs-put AreApart apart-sym tasks seat (Has b) (λ other differ. tt) good.apart;
    }

    step : (w : Bool)
        → AfterLock s.lock (λ t. lock_in (tasks t)) seat b m (cond w (stored k m (s.lock b) (lock_word seat)) m)
        (cond w LockNext.Won LockNext.Waits)
        → ListsGood k s (cond w (stored k m (s.lock b) (lock_word seat)) m)
        (put tasks seat (task_locked b (cond w LockNext.Won LockNext.Waits))) items
    step true (free, locks) = won free locks
    step false waits = subst (λ f. ListsGood k s m f items) (sym (put-same tasks seat Away is)) good

pub seats_free : (k : Key) (s : ListWords) (m : Mem) (tasks : ℕ → Task) (items : ℕ → List ℕ) (seat b : ℕ)
    → AreLists k s
    → tasks seat ≡ Has b → ListsGood k s m tasks items
    → ListsGood k s (after k m (unlock_course (lock_by s.lock seat b))) (put tasks seat Away) items
seats_free k s m tasks items seat b are is good =
    let (some, list) = subst (λ t. TaskFits k s m items t) is (good.fit seat) in
    let freed = freed_lock_is_nobodys k s.lock m (λ t. lock_in (tasks t)) seat b are.locks_apart (are.valid b some)
    (ap lock_in is) good.locks in
    record {
      locks = subst (λ (f : ℕ → Option ℕ). LocksFit (locks_of s.lock (stored k m (s.lock b) 0)) f)
          (sym (λ n t. read_put lock_in tasks seat Away t n)) freed.fit;
      free = λ c low none. still_left (s.head c) (items c) m (stored k m (s.lock b) 0)
          (lock_leaves k s m b 0 c (items c) are some)
          (equal_or b c (λ e. subst (λ d. IsList (list_of (s.head d) m) Still (items d)) e list)
          (λ e. good.free c low (λ t has. none t (ap lock_in (put_else tasks seat t Away
          (λ f. let q : Some b ≡ Some c = sym (ap lock_in is) ∙ ap (λ v. lock_in (tasks v)) f ∙ has in
          let same : b ≡ c = cc in e same)) ∙ has))));
      fit = put-each (λ t x. TaskFits k s (stored k m (s.lock b) 0) items x) tasks seat Away
          (λ t differ. lock_fits k s m items b 0 (tasks t) are some (good.fit t)) tt;
      inside = good.inside;
      once = good.once;
      apart = pairs-put AreApart apart-sym tasks seat Away (λ other differ. tt) good.apart;
    }

pub seats_keep_lists : SeatsKeepLists
seats_keep_lists k s m0 tasks0 items0 m tasks items are first starts = first
seats_keep_lists k s m0 tasks0 items0 m tasks items are first
    (takes {m = n} {tasks = ts} {items = xs} run seat b some is) =
    seats_take k s n ts xs seat b are some is (seats_keep_lists k s m0 tasks0 items0 n ts xs are first run)
seats_keep_lists k s m0 tasks0 items0 m tasks items are first (frees {m = n} {tasks = ts} {items = xs} run seat b is) =
    seats_free k s n ts xs seat b are is (seats_keep_lists k s m0 tasks0 items0 n ts xs are first run)
seats_keep_lists k s m0 tasks0 items0 m tasks items are first
    (puts {m = n} {tasks = ts} {items = xs} run seat b x is low outside others) =
    seats_put k s n ts xs seat b x are is low outside others
    (seats_keep_lists k s m0 tasks0 items0 n ts xs are first run)
seats_keep_lists k s m0 tasks0 items0 m tasks items are first
    (cuts {m = n} {tasks = ts} {items = xs} run seat b x is more) =
    seats_cut k s n ts xs seat b x are is more (seats_keep_lists k s m0 tasks0 items0 n ts xs are first run)
seats_keep_lists k s m0 tasks0 items0 m tasks items are first
    (inserts {m = n} {tasks = ts} {items = xs} run seat b x at is) =
    seats_insert k s n ts xs seat b x at are is (seats_keep_lists k s m0 tasks0 items0 n ts xs are first run)
seats_keep_lists k s m0 tasks0 items0 m tasks items are first
    (removes {m = n} {tasks = ts} {items = xs} run seat b x at is) =
    seats_remove k s n ts xs seat b x at are is (seats_keep_lists k s m0 tasks0 items0 n ts xs are first run)

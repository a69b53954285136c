-- Each step under a bin's lock keeps what holds of bins, and so does taking the lock and freeing it.
use Rattle.std.proofs.Common.{◌≡◌, ◌≢◌, ℕ, ◌+◌, ◌<◌, cond, Option, Some, None}
use Rattle.std.proofs.Common.{◌∷◌, refl, sym, ap, subst, arith, ◌∙◌}
use Rattle.std.proofs.lemmas.Bool.{eq-eqb}
use Rattle.pool_types.specs.Geometry.{bin_count}
use Rattle.pool_words.specs.declared.words.Key.{Key}
use Rattle.pool_words.specs.Words.{forwards, backwards}
use Rattle.word_codes.specs.Links.{link_of}
use Rattle.locked_chain.specs.declared.lock.LockNext.{LockNext}
use Rattle.locked_chain.specs.declared.insert.InsertAt.{InsertAt}
use Rattle.locked_chain.specs.declared.insert.InsertNext.{InsertNext}
use Rattle.locked_chain.specs.declared.remove.RemoveAt.{RemoveAt}
use Rattle.locked_chain.specs.Locks.{lock_course, lock_learn, unlock_course}
use Rattle.locked_chain.specs.Insert.{insert_course, insert_learn}
use Rattle.locked_chain.specs.Remove.{skip_back, remove_course, remove_learn}
use Rattle.backend_bins.specs.Blocks.{bin_of}
use Rattle.word_laws.specs.Memory.{Mem, put, after, found}
use Rattle.word_laws.proofs.CallerLemmas.{equal_or, put-same, put-other, put_else, each}
use Rattle.chain_laws.specs.Chains.{tally, without}
use Rattle.chain_laws.proofs.CallerLemmas.{tally-here, tally-else}
use Rattle.lock_laws.specs.Locks.{lock_by}
use Rattle.lock_laws.specs.Seats as seats
use Rattle.lock_laws.specs.Seats.{lock_in, ListsGood, list_call, items_inserted, items_removed}
use Rattle.lock_laws.proofs.CallerLemmas.{seats_take, seats_free, seats_cut, seats_insert, seats_remove}
use Rattle.guard_laws.specs.Blocks.{Piece, core_in, GuardGood}
use Rattle.guard_laws.proofs.CallerLemmas.{read_puts, read_same}
use Rattle.bin_laws.specs.Bins.{bin_words, Task, list_task, won_at, won_of, coming_of, cut_at, cut_of, Member}
use Rattle.bin_laws.specs.Bins.{in_bin, MembersFit, Shadow, Locals, BinGood}
use Rattle.bin_laws.specs.Steps as steps
use Rattle.bin_laws.specs.Steps.{task_locked, task_leaves, task_linked, task_unlinked, member_unlinked, with_bin}
use Rattle.bin_laws.proofs.Members.{member_linked, member_cut, member_uncut}
use Rattle.bin_laws.proofs.Tallies.{tally-gone, tally-stays}
use Rattle.bin_laws.proofs.Words.{lock_is_other, unlock_is_other, insert_is_other, remove_is_other, bins_are}
use Rattle.bin_laws.proofs.Guarded.{guards_stay, with_list, with_views, same_views, bin_low, is_listed, listed_once}

-- the task of a seat is changed twice
put_twice : {A : Type 0} (f : ℕ → A) (t : ℕ) (a b : A) → put (put f t a) t b ≡ put f t b
put_twice f t a b i j = each (λ y q. q ≡ put f t b y) (put f t a) t b
    (λ y ne. put-other f t a y ne ∙ sym (put-other f t b y ne)) (sym (put-same f t b)) j i

-- B1
pub takes-as : (k : Key) (t : ℕ) (g : Shadow) (m : Mem) (l : Locals) (b : ℕ) → b < bin_count → l.bins t ≡ Task.Away
    → BinGood k g m l
    → BinGood k g (after k m (lock_course (lock_by bin_words.lock t b)))
    (with_bin t (task_locked b (lock_learn (lock_by bin_words.lock t b)
    (found m (lock_course (lock_by bin_words.lock t b))))) l)
takes-as k t g m l b some is good = by next
    (seats_take k bin_words m (λ j. list_task (l.bins j)) g.items t b (bins_are k good.guards.small) some
    (ap list_task is) good.lists)
  where
    next : LockNext
    next = lock_learn (lock_by bin_words.lock t b) (found m (lock_course (lock_by bin_words.lock t b)))

    m' : Mem
    m' = after k m (lock_course (lock_by bin_words.lock t b))

    then : (task : Task) → won_of task ≡ Piece.NoPiece → coming_of task ≡ Piece.NoPiece → cut_of task ≡ Piece.NoPiece
        → ListsGood k bin_words m' (put (λ j. list_task (l.bins j)) t (list_task task)) g.items
        → BinGood k g m' (with_bin t task l)
    then task w c u lists = record {
      guards = guards_stay k t g.guards m l.guards (lock_course (lock_by bin_words.lock t b)) (lock_is_other t b)
          good.guards;
      lists = with_list k m' l.bins g.items t task (list_task task) refl lists;
      once = good.once;
      members = same_views g.guards.place l.bins g.member t task (w ∙ sym (ap won_of is)) (c ∙ sym (ap coming_of is))
          (u ∙ sym (ap cut_of is)) good.members;
    }

    by : (q : LockNext)
        → ListsGood k bin_words m' (put (λ j. list_task (l.bins j)) t (seats.task_locked b q)) g.items
        → BinGood k g m' (with_bin t (task_locked b q) l)
    by LockNext.Won lists = then (Task.Has b) refl refl refl lists
    by LockNext.Waits lists = then Task.Away refl refl refl lists

-- B1 for a block that was won: its bin's list has it
pub leaves-as : (k : Key) (t : ℕ) (g : Shadow) (m : Mem) (l : Locals) (x n : ℕ) → l.bins t ≡ Task.Won x n
    → BinGood k g m l
    → BinGood k g (after k m (lock_course (lock_by bin_words.lock t (bin_of n))))
    (with_bin t (task_leaves x n (lock_learn (lock_by bin_words.lock t (bin_of n))
    (found m (lock_course (lock_by bin_words.lock t (bin_of n)))))) l)
leaves-as k t g m l x n is good = by next
    (seats_take k bin_words m (λ j. list_task (l.bins j)) g.items t (bin_of n) (bins_are k good.guards.small)
    (bin_low n) (ap list_task is) good.lists)
  where
    next : LockNext
    next = lock_learn (lock_by bin_words.lock t (bin_of n)) (found m (lock_course (lock_by bin_words.lock t
        (bin_of n))))

    m' : Mem
    m' = after k m (lock_course (lock_by bin_words.lock t (bin_of n)))

    then : (task : Task) → won_of task ≡ Piece.Got x n → coming_of task ≡ Piece.NoPiece → cut_of task ≡ Piece.NoPiece
        → ListsGood k bin_words m' (λ j. list_task (put l.bins t task j)) g.items → BinGood k g m' (with_bin t task l)
    then task w c u lists = record {
      guards = guards_stay k t g.guards m l.guards (lock_course (lock_by bin_words.lock t (bin_of n)))
          (lock_is_other t (bin_of n)) good.guards;
      lists = lists;
      once = good.once;
      members = same_views g.guards.place l.bins g.member t task (w ∙ sym (ap won_of is)) (c ∙ sym (ap coming_of is))
          (u ∙ sym (ap cut_of is)) good.members;
    }

    has : ℕ → Task
    has = put l.bins t (Task.Has (bin_of n))

    leaving : Task
    leaving = Task.Unlinks x n RemoveAt.Forward

    here : has t ≡ Task.Has (bin_of n)
    here = put-same l.bins t (Task.Has (bin_of n))

    cut : ListsGood k bin_words m' (λ j. list_task (has j)) g.items
        → ListsGood k bin_words m' (λ j. list_task (put l.bins t leaving j)) g.items
    cut lists = subst (λ (f : ℕ → Task). ListsGood k bin_words m' (λ j. list_task (f j)) g.items)
        (put_twice l.bins t (Task.Has (bin_of n)) leaving)
        (with_list k m' has g.items t leaving (list_task leaving) refl
        (seats_cut k bin_words m' (λ j. list_task (has j)) g.items t (bin_of n) x (bins_are k good.guards.small)
        (ap list_task here) (let o = listed in omega arith) lists))
      where
        listed : tally x (g.items (bin_of n)) ≡ 1
        listed = listed_once g.items g.member x n good.once
            (is_listed k m' has g.items g.guards.place (λ j. won_of (l.bins j)) (λ j. cut_of (l.bins j)) g.member t x n
            lists
            (subst (λ (f : ℕ → Piece). MembersFit g.guards.place (λ j. won_of (l.bins j)) f (λ j. cut_of (l.bins j))
            g.member) (sym (read_same coming_of l.bins t (Task.Has (bin_of n)) (sym (ap coming_of is)))) good.members)
            (good.members.won_is t x n (ap won_of is)).1 (ap (λ q. lock_in (list_task q)) here) (ap coming_of here))

    by : (q : LockNext)
        → ListsGood k bin_words m' (put (λ j. list_task (l.bins j)) t (seats.task_locked (bin_of n) q)) g.items
        → BinGood k g m' (with_bin t (task_leaves x n q) l)
    by LockNext.Won lists = then leaving refl refl refl
        (cut (with_list k m' l.bins g.items t (Task.Has (bin_of n)) (seats.Task.Has (bin_of n)) refl lists))
    by LockNext.Waits lists = then (Task.Won x n) refl refl refl
        (with_list k m' l.bins g.items t (Task.Won x n) seats.Task.Away refl lists)

-- B2
pub frees-as : (k : Key) (t : ℕ) (g : Shadow) (m : Mem) (l : Locals) (b : ℕ) → l.bins t ≡ Task.Has b
    → BinGood k g m l
    → BinGood k g (after k m (unlock_course (lock_by bin_words.lock t b))) (with_bin t Task.Away l)
frees-as k t g m l b is good = record {
  guards = guards_stay k t g.guards m l.guards (unlock_course (lock_by bin_words.lock t b)) (unlock_is_other t b)
      good.guards;
  lists = with_list k (after k m (unlock_course (lock_by bin_words.lock t b))) l.bins g.items t Task.Away
      seats.Task.Away refl
      (seats_free k bin_words m (λ j. list_task (l.bins j)) g.items t b (bins_are k good.guards.small)
      (ap list_task is) good.lists);
  once = good.once;
  members = same_views g.guards.place l.bins g.member t Task.Away (sym (ap won_of is)) (sym (ap coming_of is))
      (sym (ap cut_of is)) good.members;
}

-- B3 to B6 of a put
pub links-as : (k : Key) (t : ℕ) (g : Shadow) (m : Mem) (l : Locals) (x n : ℕ) (at : InsertAt)
    → l.bins t ≡ Task.Links x n at → BinGood k g m l
    → BinGood k (record {
      guards = g.guards;
      items = put g.items (bin_of n) (items_inserted x (g.items (bin_of n))
          (insert_learn at (found m (insert_course (list_call bin_words (bin_of n) x) at))));
      member = steps.member_linked x n
          (insert_learn at (found m (insert_course (list_call bin_words (bin_of n) x) at))) g.member;
    })
    (after k m (insert_course (list_call bin_words (bin_of n) x) at))
    (with_bin t (task_linked x n
    (insert_learn at (found m (insert_course (list_call bin_words (bin_of n) x) at)))) l)
links-as k t g m l x n at is good = by next
    (seats_insert k bin_words m (λ j. list_task (l.bins j)) g.items t (bin_of n) x at (bins_are k good.guards.small)
    (ap list_task is) good.lists)
  where
    b : ℕ
    b = bin_of n

    next : InsertNext
    next = insert_learn at (found m (insert_course (list_call bin_words (bin_of n) x) at))

    m' : Mem
    m' = after k m (insert_course (list_call bin_words (bin_of n) x) at)

    comes : g.member x ≡ Member.Comes n t
    comes = good.members.coming_is t x n (ap coming_of is)

    none : (c : ℕ) → tally x (g.items c) ≡ 0
    none c = good.once c x ∙ ap (in_bin c) comes

    -- the item is in front of the bin's list, and in no other
    once : (c y : ℕ) → tally y (put g.items b (x ∷ g.items b) c) ≡ in_bin c (put g.member x (Member.In n) y)
    once c y = equal_or y x (λ same. at_x c y same) (λ ne. other c y ne)
      where
        at_x : (c y : ℕ) → y ≡ x
            → tally y (put g.items b (x ∷ g.items b) c) ≡ in_bin c (put g.member x (Member.In n) y)
        at_x c y same = subst (λ z. tally z (put g.items b (x ∷ g.items b) c) ≡ in_bin c (put g.member x
            (Member.In n) z))
            (sym same) (subst (λ q. tally x (put g.items b (x ∷ g.items b) c) ≡ in_bin c q)
            (sym (put-same g.member x (Member.In n))) (each (λ c xs. tally x xs ≡ in_bin c (Member.In n)) g.items b
            (x ∷ g.items b)
            (λ c ne. none c ∙ sym (put_else (λ _. 0) b c 1 (λ q. ne (sym q))))
            (tally-here x (g.items b) ∙ ap (λ z. 1 + z) (none b) ∙ sym (ap (λ q. cond q 1 0) (eq-eqb b b refl))) c))

        other : (c y : ℕ) → y ≢ x
            → tally y (put g.items b (x ∷ g.items b) c) ≡ in_bin c (put g.member x (Member.In n) y)
        other c y ne = each (λ c xs. tally y xs ≡ in_bin c (g.member y)) g.items b (x ∷ g.items b)
            (λ c _. good.once c y) (tally-else y x (g.items b) ne ∙ good.once b y) c
            ∙ ap (in_bin c) (sym (put-other g.member x (Member.In n) y ne))

    by : (q : InsertNext)
        → ListsGood k bin_words m' (put (λ j. list_task (l.bins j)) t (seats.task_inserted b x q))
        (put g.items b (items_inserted x (g.items b) q))
        → BinGood k (record {
          guards = g.guards;
          items = put g.items b (items_inserted x (g.items b) q);
          member = steps.member_linked x n q g.member;
        }) m' (with_bin t (task_linked x n q) l)
    by (InsertNext.Goes now) lists = record {
      guards = guards_stay k t g.guards m l.guards (insert_course (list_call bin_words b x) at) (insert_is_other b x at)
          good.guards;
      lists = with_list k m' l.bins (put g.items b (g.items b)) t (Task.Links x n now)
          (seats.Task.Inserting b x now) refl lists;
      once = λ c y. each (λ c xs. tally y xs ≡ in_bin c (g.member y)) g.items b (g.items b) (λ c _. good.once c y)
          (good.once b y) c;
      members = same_views g.guards.place l.bins g.member t (Task.Links x n now) (sym (ap won_of is))
          (sym (ap coming_of is)) (sym (ap cut_of is)) good.members;
    }
    by InsertNext.Inserted lists = record {
      guards = guards_stay k t g.guards m l.guards (insert_course (list_call bin_words b x) at) (insert_is_other b x at)
          good.guards;
      lists = with_list k m' l.bins (put g.items b (x ∷ g.items b)) t (Task.Has b) (seats.Task.Has b) refl lists;
      once = once;
      members = with_views g.guards.place l.bins (put g.member x (Member.In n)) t (Task.Has b)
          (λ j. won_of (l.bins j)) (put (λ j. coming_of (l.bins j)) t Piece.NoPiece) (λ j. cut_of (l.bins j))
          (read_same won_of l.bins t (Task.Has b) (sym (ap won_of is))) (read_puts coming_of l.bins t (Task.Has b))
          (read_same cut_of l.bins t (Task.Has b) (sym (ap cut_of is)))
          (member_linked g.guards.place (λ j. won_of (l.bins j)) (λ j. coming_of (l.bins j)) (λ j. cut_of (l.bins j))
          g.member t x n (ap coming_of is) good.members);
    }

-- a link or the head is written, and with that the block is out of the links forward
skipped-as : (k : Key) (t : ℕ) (g : Shadow) (m m' : Mem) (l : Locals) (x n forward backward : ℕ) (task : Task)
    → l.bins t ≡ Task.Unlinks x n (RemoveAt.Skip forward backward) → won_of task ≡ Piece.NoPiece
    → coming_of task ≡ Piece.NoPiece → ((y j : ℕ) → cut_of task ≡ Piece.Got y j → Piece.Got x n ≡ Piece.Got y j)
    → ListsGood k bin_words m' (λ j. list_task (put l.bins t task j))
    (put g.items (bin_of n) (without x (g.items (bin_of n)))) → GuardGood k g.guards (core_in m' l.guards)
    → BinGood k g m l
    → BinGood k (record {
      guards = g.guards;
      items = put g.items (bin_of n) (without x (g.items (bin_of n)));
      member = put g.member x Member.Out;
    }) m' (with_bin t task l)
skipped-as k t g m m' l x n forward backward task is none still mine lists guards good = record {
  guards = guards;
  lists = lists;
  once = λ c y. equal_or y x
      (λ same. subst (λ z. tally z (put g.items b (without x (g.items b)) c) ≡ in_bin c (put g.member x Member.Out z))
      (sym same) (subst (λ q. tally x (put g.items b (without x (g.items b)) c) ≡ in_bin c q)
      (sym (put-same g.member x Member.Out)) (each (λ c xs. tally x xs ≡ 0) g.items b (without x (g.items b))
      (λ c ne. good.once c x ∙ ap (in_bin c) listed ∙ put_else (λ _. 0) b c 1 (λ q. ne (sym q)))
      (tally-gone x (g.items b)) c)))
      (λ ne. each (λ c xs. tally y xs ≡ in_bin c (g.member y)) g.items b (without x (g.items b))
      (λ c _. good.once c y) (tally-stays x y (g.items b) ne ∙ good.once b y) c
      ∙ ap (in_bin c) (sym (put-other g.member x Member.Out y ne)));
  members = with_views g.guards.place l.bins (put g.member x Member.Out) t task
      (put (λ j. won_of (l.bins j)) t Piece.NoPiece) (λ j. coming_of (l.bins j))
      (put (λ j. cut_of (l.bins j)) t (cut_of task))
      (read_puts won_of l.bins t task ∙ ap (put (λ j. won_of (l.bins j)) t) none)
      (read_same coming_of l.bins t task (still ∙ sym (ap coming_of is))) (read_puts cut_of l.bins t task)
      (member_cut g.guards.place (λ j. won_of (l.bins j)) (λ j. coming_of (l.bins j)) (λ j. cut_of (l.bins j))
      g.member t x n (cut_of task) (ap won_of is) listed mine good.members);
}
  where
    b : ℕ
    b = bin_of n

    listed : g.member x ≡ Member.In n
    listed = is_listed k m l.bins g.items g.guards.place (λ j. won_of (l.bins j)) (λ j. cut_of
        (l.bins j)) g.member t x n
        good.lists good.members (good.members.won_is t x n (ap won_of is)).1 (ap (λ q. lock_in (list_task q)) is)
        (ap coming_of is)

-- B3 to B6 of a block that was won
pub unlinks-as : (k : Key) (t : ℕ) (g : Shadow) (m : Mem) (l : Locals) (x n : ℕ) (at : RemoveAt)
    → l.bins t ≡ Task.Unlinks x n at → BinGood k g m l
    → BinGood k (record {
      guards = g.guards;
      items = put g.items (bin_of n) (items_removed x (g.items (bin_of n)) at);
      member = member_unlinked x at g.member;
    })
    (after k m (remove_course (list_call bin_words (bin_of n) x) at))
    (with_bin t (task_unlinked x n
    (remove_learn at (found m (remove_course (list_call bin_words (bin_of n) x) at)))) l)
unlinks-as k t g m l x n at is good = by at is
    (seats_remove k bin_words m (λ j. list_task (l.bins j)) g.items t (bin_of n) x at (bins_are k good.guards.small)
    (ap list_task is) good.lists)
  where
    b : ℕ
    b = bin_of n

    removed : (p : RemoveAt) → Mem
    removed p = after k m (remove_course (list_call bin_words (bin_of n) x) p)

    guards' : (p : RemoveAt) → GuardGood k g.guards (core_in (removed p) l.guards)
    guards' p = guards_stay k t g.guards m l.guards (remove_course (list_call bin_words b x) p) (remove_is_other b x p)
        good.guards

    same_items : (c y : ℕ) → tally y (put g.items b (g.items b) c) ≡ in_bin c (g.member y)
    same_items c y = each (λ c xs. tally y xs ≡ in_bin c (g.member y)) g.items b (g.items b) (λ c _. good.once c y)
        (good.once b y) c

    -- a link was read
    reads : (p now : RemoveAt) → l.bins t ≡ Task.Unlinks x n p → won_at x n now ≡ won_at x n p
        → cut_at x n now ≡ cut_at x n p
        → ListsGood k bin_words (removed p) (put (λ j. list_task (l.bins j)) t (seats.Task.Removing b x now))
        (put g.items b (g.items b))
        → BinGood k (record { guards = g.guards; items = put g.items b (g.items b); member = g.member }) (removed p)
        (with_bin t (Task.Unlinks x n now) l)
    reads p now is w u lists = record {
      guards = guards' p;
      lists = with_list k (removed p) l.bins (put g.items b (g.items b)) t (Task.Unlinks x n now)
          (seats.Task.Removing b x now) refl lists;
      once = same_items;
      members = same_views g.guards.place l.bins g.member t (Task.Unlinks x n now) (w ∙ sym (ap won_of is))
          (sym (ap coming_of is)) (u ∙ sym (ap cut_of is)) good.members;
    }

    skips : (forward backward : ℕ) (behind : Option ℕ) → l.bins t ≡ Task.Unlinks x n (RemoveAt.Skip forward backward)
        → ListsGood k bin_words (removed (RemoveAt.Skip forward backward))
        (put (λ j. list_task (l.bins j)) t (seats.task_removed b x (skip_back backward behind)))
        (put g.items b (without x (g.items b)))
        → BinGood k (record {
          guards = g.guards;
          items = put g.items b (without x (g.items b));
          member = put g.member x Member.Out;
        }) (removed (RemoveAt.Skip forward backward)) (with_bin t (task_unlinked x n (skip_back backward behind)) l)
    skips forward backward (Some behind) is lists = skipped-as k t g m (removed (RemoveAt.Skip forward backward)) l x n
        forward backward (Task.Unlinks x n (RemoveAt.SkipBack behind backward)) is refl refl (λ y j q. q)
        (with_list k (removed (RemoveAt.Skip forward backward)) l.bins (put g.items b (without x (g.items b))) t
        (Task.Unlinks x n (RemoveAt.SkipBack behind backward))
        (seats.Task.Removing b x (RemoveAt.SkipBack behind backward)) refl lists)
        (guards' (RemoveAt.Skip forward backward)) good
    skips forward backward None is lists = skipped-as k t g m (removed (RemoveAt.Skip forward backward)) l x n
        forward backward (Task.Has b) is refl refl (λ y j q. absurd (cc))
        (with_list k (removed (RemoveAt.Skip forward backward)) l.bins (put g.items b (without x (g.items b))) t
        (Task.Has b) (seats.Task.Has b) refl lists) (guards' (RemoveAt.Skip forward backward)) good

    by : (p : RemoveAt) → l.bins t ≡ Task.Unlinks x n p
        → ListsGood k bin_words (removed p) (put (λ j. list_task (l.bins j)) t (seats.task_removed b x
        (remove_learn p (found m (remove_course (list_call bin_words b x) p)))))
        (put g.items b (items_removed x (g.items b) p))
        → BinGood k (record {
          guards = g.guards;
          items = put g.items b (items_removed x (g.items b) p);
          member = member_unlinked x p g.member;
        }) (removed p) (with_bin t (task_unlinked x n
        (remove_learn p (found m (remove_course (list_call bin_words b x) p)))) l)
    by RemoveAt.Forward is lists = reads RemoveAt.Forward (RemoveAt.Backward (m forwards x)) is refl refl lists
    by (RemoveAt.Backward forward) is lists =
        reads (RemoveAt.Backward forward) (RemoveAt.Skip forward (m backwards x)) is refl refl lists
    by (RemoveAt.Skip forward backward) is lists = skips forward backward (link_of forward) is lists
    by (RemoveAt.SkipBack behind backward) is lists = record {
      guards = guards' (RemoveAt.SkipBack behind backward);
      lists = with_list k (removed (RemoveAt.SkipBack behind backward)) l.bins (put g.items b (g.items b)) t
          (Task.Has b)
          (seats.Task.Has b) refl lists;
      once = same_items;
      members = with_views g.guards.place l.bins g.member t (Task.Has b) (λ j. won_of (l.bins j))
          (λ j. coming_of (l.bins j)) (put (λ j. cut_of (l.bins j)) t Piece.NoPiece)
          (read_same won_of l.bins t (Task.Has b) (sym (ap won_of is)))
          (read_same coming_of l.bins t (Task.Has b) (sym (ap coming_of is))) (read_puts cut_of l.bins t (Task.Has b))
          (member_uncut g.guards.place (λ j. won_of (l.bins j)) (λ j. coming_of (l.bins j)) (λ j. cut_of (l.bins j))
          g.member t good.members);
    }

-- Steps on guards keep what holds of bins: those by which no block comes into a bin or leaves one, a win, and a put.
use Rattle.std.proofs.Common.{◌≡◌, ◌≢◌, ◌⊎◌, inl, inr, ℕ, ◌+◌, ◌<◌, Bool, true, false, cond, eqb, Some}
use Rattle.std.proofs.Common.{List, refl, sym, ap, subst, arith, ◌∙◌}
use Rattle.std.proofs.lemmas.Bool.{eq-eqb}
use Rattle.pool_types.specs.Geometry.{bin_count}
use Rattle.pool_words.specs.declared.words.Key.{Key}
use Rattle.pool_words.specs.declared.words.Word.{Word}
use Rattle.pool_words.specs.declared.actions.Action.{Action}
use Rattle.pool_words.specs.declared.actions.Action.TheVariants.{Store}
use Rattle.word_codes.specs.declared.guards.Guard.{Guard}
use Rattle.word_codes.specs.Guards.{guard_word}
use Rattle.guards.specs.declared.win.Side.{Side}
use Rattle.guards.specs.declared.win.Taking.{Taking}
use Rattle.guards.specs.declared.win.WinAt.{WinAt}
use Rattle.guards.specs.declared.win.WinCall.{WinCall}
use Rattle.guards.specs.declared.win.WinNext.{WinNext}
use Rattle.guards.specs.Win.{guard_at, other_side, taken_word, free_word, win_course, win_learn}
use Rattle.locked_chain.specs.declared.insert.InsertAt.{InsertAt}
use Rattle.locked_chain.specs.declared.remove.RemoveAt.{RemoveAt}
use Rattle.backend_bins.specs.Blocks.{bin_of}
use Rattle.word_laws.specs.Memory.{Mem, put, stored, after, found, word_at}
use Rattle.word_laws.proofs.CallerLemmas.{equal_or, each}
use Rattle.chain_laws.specs.Chains.{tally}
use Rattle.lock_laws.specs.Seats as lists
use Rattle.lock_laws.specs.Seats.{lock_in, HasNot, ListsGood, AreLists, list_call}
use Rattle.lock_laws.proofs.CallerLemmas.{lock_names_its_seat, seats_put, seats_cut}
use Rattle.guard_laws.specs.Blocks as blocks
use Rattle.guard_laws.specs.Blocks.{Use, Place, Standing, Piece, Half, core_in, view_of, edge_of, GuardGood}
use Rattle.guard_laws.specs.Steps.{IsOtherAction, GuardStep, task_after, shadow_won, shadow_taken, with_use, with_edge}
use Rattle.guard_laws.specs.Laws.{WinEnds, IsTaken}
use Rattle.guard_laws.proofs.CallerLemmas.{used_moves, read_puts, read_same, steps_keep_guards, others_leave_hands}
use Rattle.guard_laws.proofs.CallerLemmas.{both_words_or_none}
use Rattle.bin_laws.specs.Bins.{bin_words, Task, list_task, won_at, won_of, coming_of, cut_at, cut_of, Member, IsMember}
use Rattle.bin_laws.specs.Bins.{in_bin, MembersFit, Shadow, Locals, BinGood}
use Rattle.bin_laws.specs.Steps.{SameLists, kept_of, IsQuiet, IsReady, task_won}
use Rattle.bin_laws.proofs.Members.{members_stay, member_won, member_comes}
use Rattle.bin_laws.proofs.Words.{guard_stored, left_stored, lists_same}
use Rattle.bin_laws.proofs.Words.{bins_are}

-- a step on bins' words leaves guards
pub guards_stay : (k : Key) (seat : ℕ) (g : blocks.Shadow) (m : Mem) (tasks : ℕ → blocks.Task) (action : Action)
    → IsOtherAction action → GuardGood k g (core_in m tasks)
    → GuardGood k g (core_in (after k m action) tasks)
guards_stay k seat g m tasks action other good =
    steps_keep_guards k seat g m tasks g (after k m action) tasks good (GuardStep.others action other)

-- the lists, once a seat has another task
pub with_list : (k : Key) (m : Mem) (bins : ℕ → Task) (items : ℕ → List ℕ) (t : ℕ) (task : Task) (list : lists.Task)
    → list_task task ≡ list → ListsGood k bin_words m (put (λ j. list_task (bins j)) t list) items
    → ListsGood k bin_words m (λ j. list_task (put bins t task j)) items
with_list k m bins items t task list is good =
    subst (λ (f : ℕ → lists.Task). ListsGood k bin_words m f items) (sym (read_puts list_task bins t task))
    (subst (λ q. ListsGood k bin_words m (put (λ j. list_task (bins j)) t q) items) (sym is) good)

-- the members, where what a seat has won, puts or takes out is given
pub with_views : (place : ℕ → Place) (bins : ℕ → Task) (member : ℕ → Member) (t : ℕ) (task : Task)
    (wons comings cuts : ℕ → Piece)
    → ◌≡◌ {A = ℕ → Piece} (λ j. won_of (put bins t task j)) wons
    → ◌≡◌ {A = ℕ → Piece} (λ j. coming_of (put bins t task j)) comings
    → ◌≡◌ {A = ℕ → Piece} (λ j. cut_of (put bins t task j)) cuts
    → MembersFit place wons comings cuts member
    → MembersFit place (λ j. won_of (put bins t task j)) (λ j. coming_of (put bins t task j))
    (λ j. cut_of (put bins t task j)) member
with_views place bins member t task wons comings cuts a b c fits =
    subst (λ (f : ℕ → Piece). MembersFit place f (λ j. coming_of (put bins t task j)) (λ j. cut_of (put bins t task j))
    member) (sym a)
    (subst (λ (f : ℕ → Piece). MembersFit place wons f (λ j. cut_of (put bins t task j)) member) (sym b)
    (subst (λ (f : ℕ → Piece). MembersFit place wons comings f member) (sym c) fits))

-- a seat goes on, and has won, puts and takes out what it did
pub same_views : (place : ℕ → Place) (bins : ℕ → Task) (member : ℕ → Member) (t : ℕ) (task : Task)
    → won_of task ≡ won_of (bins t) → coming_of task ≡ coming_of (bins t) → cut_of task ≡ cut_of (bins t)
    → MembersFit place (λ j. won_of (bins j)) (λ j. coming_of (bins j)) (λ j. cut_of (bins j)) member
    → MembersFit place (λ j. won_of (put bins t task j)) (λ j. coming_of (put bins t task j))
    (λ j. cut_of (put bins t task j)) member
same_views place bins member t task a b c fits =
    with_views place bins member t task (λ j. won_of (bins j)) (λ j. coming_of (bins j)) (λ j. cut_of (bins j))
    (read_same won_of bins t task a) (read_same coming_of bins t task b) (read_same cut_of bins t task c) fits

pub bin_low : (n : ℕ) → bin_of n < bin_count
bin_low n = omega arith

-- a guard's step by which no block comes into a bin or leaves one
pub guards-as : (k : Key) (t : ℕ) (g : Shadow) (m : Mem) (l : Locals) (h : blocks.Shadow) (m' : Mem)
    (tasks : ℕ → blocks.Task) → GuardStep k t g.guards m l.guards h m' tasks
    → IsQuiet g.guards.place h.place t (kept_of (l.bins t)) → SameLists m m' → BinGood k g m l
    → BinGood k (record { guards = h; items = g.items; member = g.member }) m'
    (record { guards = tasks; bins = l.bins })
guards-as k t g m l h m' tasks step quiet same good = record {
  guards = steps_keep_guards k t g.guards m l.guards h m' tasks good.guards step;
  lists = lists_same k m m' (λ j. list_task (l.bins j)) g.items same good.lists;
  once = good.once;
  members = members_stay g.guards.place h.place (λ j. won_of (l.bins j)) (λ j. coming_of (l.bins j))
      (λ j. cut_of (l.bins j)) g.member quiet.to quiet.from
      (λ o x n j piece f. equal_or o t
      (λ mine. subst (λ b. h.place x ≡ Place.Block x n (Use.Held b j)) (sym mine)
      (quiet.hand x n j (ap (λ b. kept_of (l.bins b)) (sym mine) ∙ kept (l.bins o) x n piece)
      (subst (λ b. g.guards.place x ≡ Place.Block x n (Use.Held b j)) mine f)))
      (λ ne. (others_leave_hands k o t g.guards m l.guards h m' tasks x n j good.guards step (λ q. ne
      (sym q)) f).place))
      good.members;
}
  where
    at_kept : (x n : ℕ) (at : RemoveAt) (y j : ℕ) → (won_at y j at ≡ Piece.Got x n) ⊎ (cut_at y j at ≡ Piece.Got x n)
        → Piece.Got y j ≡ Piece.Got x n
    at_kept x n RemoveAt.Forward y j (inl p) = p
    at_kept x n RemoveAt.Forward y j (inr p) = absurd (cc)
    at_kept x n (RemoveAt.Backward f) y j (inl p) = p
    at_kept x n (RemoveAt.Backward f) y j (inr p) = absurd (cc)
    at_kept x n (RemoveAt.Skip f b) y j (inl p) = p
    at_kept x n (RemoveAt.Skip f b) y j (inr p) = absurd (cc)
    at_kept x n (RemoveAt.SkipBack f b) y j (inl p) = absurd (cc)
    at_kept x n (RemoveAt.SkipBack f b) y j (inr p) = p

    kept : (task : Task) (x n : ℕ) → (won_of task ≡ Piece.Got x n) ⊎ (cut_of task ≡ Piece.Got x n)
        → kept_of task ≡ Piece.Got x n
    kept Task.Away x n (inl p) = absurd (cc)
    kept Task.Away x n (inr p) = absurd (cc)
    kept (Task.Won y j) x n (inl p) = p
    kept (Task.Won y j) x n (inr p) = absurd (cc)
    kept (Task.Has b) x n (inl p) = absurd (cc)
    kept (Task.Has b) x n (inr p) = absurd (cc)
    kept (Task.Links y j at) x n (inl p) = absurd (cc)
    kept (Task.Links y j at) x n (inr p) = absurd (cc)
    kept (Task.Unlinks y j at) x n p = at_kept x n at y j p

-- the seat that has a bin's lock is one
pub one_lock : (k : Key) (m : Mem) (bins : ℕ → Task) (items : ℕ → List ℕ) (b t o : ℕ)
    → ListsGood k bin_words m (λ j. list_task (bins j)) items → lock_in (list_task (bins t)) ≡ Some b
    → lock_in (list_task (bins o)) ≡ Some b → o ≡ t
one_lock k m bins items b t o good mine other =
    (lock_names_its_seat (λ c. word_at m (Word.BinLock c)) (λ j. lock_in (list_task
    (bins j))) b good.locks).one o t other
    mine

-- whose block is coming has its bin's lock, and links it
pub comes_by : (task : Task) (x n : ℕ) → coming_of task ≡ Piece.Got x n → lock_in (list_task task) ≡ Some (bin_of n)
comes_by Task.Away x n p = absurd (cc)
comes_by (Task.Won y j) x n p = absurd (cc)
comes_by (Task.Has b) x n p = absurd (cc)
comes_by (Task.Links y j at) x n p = let q : j ≡ n = cc in ap (λ c. Some (bin_of c)) q
comes_by (Task.Unlinks y j at) x n p = absurd (cc)

-- a member that a seat with its bin's lock has won is in the list
pub is_listed : (k : Key) (m : Mem) (bins : ℕ → Task) (items : ℕ → List ℕ) (place : ℕ → Place)
    (wons cuts : ℕ → Piece) (member : ℕ → Member) (t x n : ℕ)
    → ListsGood k bin_words m (λ j. list_task (bins j)) items
    → MembersFit place wons (λ j. coming_of (bins j)) cuts member → IsMember n (member x)
    → lock_in (list_task (bins t)) ≡ Some (bin_of n) → coming_of (bins t) ≡ Piece.NoPiece → member x ≡ Member.In n
is_listed k m bins items place wons cuts member t x n good fits is lock none = go (member x) refl is
  where
    go : (b : Member) → member x ≡ b → IsMember n b → b ≡ Member.In n
    go Member.Out q h = absurd h
    go (Member.In j) q h = ap Member.In h
    go (Member.Comes j o) q h =
        let c = fits.is_coming o x j q in
        let same = one_lock k m bins items (bin_of n) t o good lock (comes_by (bins o) x j c
        ∙ ap (λ b. Some (bin_of b)) h) in
        let r : Piece.NoPiece ≡ Piece.Got x j = sym none ∙ ap (λ b. coming_of (bins b)) (sym same) ∙ c in absurd (cc)

-- so the list has it
pub listed_once : (items : ℕ → List ℕ) (member : ℕ → Member) (x n : ℕ)
    → ((b x : ℕ) → tally x (items b) ≡ in_bin b (member x)) → member x ≡ Member.In n → tally x (items (bin_of n)) ≡ 1
listed_once items member x n once is =
    once (bin_of n) x ∙ ap (in_bin (bin_of n)) is ∙ ap (λ b. cond b 1 0) (eq-eqb (bin_of n) (bin_of n) refl)

-- the second guard of a block is won
win_leaves_lists : (k : Key) (m : Mem) (c : WinCall) → SameLists m (after k m (win_course c WinAt.Second))
win_leaves_lists k m c = by (eqb (word_at m (guard_at c (other_side c.first))) (free_word c))
  where
    by : (b : Bool) → SameLists m (cond b (stored k m (guard_at c (other_side c.first)) (taken_word c.taking)) m)
    by true = guard_stored k m c (other_side c.first) (taken_word c.taking)
    by false = record { locks = refl; heads = refl; next = refl; previous = refl }

pub wins-as : (k : Key) (t : ℕ) (g : Shadow) (m : Mem) (l : Locals) (c : WinCall)
    → l.guards t ≡ blocks.Task.Wins c WinAt.Second
    → win_learn c WinAt.Second (found m (win_course c WinAt.Second)) ≡ WinNext.Won
    → IsReady c.granules (l.bins t) → BinGood k g m l
    → BinGood k (record { guards = shadow_taken t c g.guards; items = g.items; member = g.member })
    (after k m (win_course c WinAt.Second))
    (record {
      guards = put l.guards t blocks.Task.Away;
      bins = put l.bins t (task_won c.begin c.granules (l.bins t));
    })
wins-as k t g m l c is won ready good = by (l.bins t) refl ready
  where
    m' : Mem
    m' = after k m (win_course c WinAt.Second)

    next : WinNext
    next = win_learn c WinAt.Second (found m (win_course c WinAt.Second))

    x : ℕ
    x = c.begin

    n : ℕ
    n = c.granules

    guards' : GuardGood k (shadow_taken t c g.guards) (core_in m' (put l.guards t blocks.Task.Away))
    guards' = subst (λ (q : WinNext). GuardGood k (shadow_won t c q g.guards)
        (core_in m' (put l.guards t (task_after c q)))) won
        (steps_keep_guards k t g.guards m l.guards (shadow_won t c next g.guards) m'
        (put l.guards t (task_after c next)) good.guards (GuardStep.wins c WinAt.Second is))

    taken : IsTaken g.guards (shadow_taken t c g.guards) m' t c
    taken = subst (λ (q : WinNext). WinEnds g.guards (shadow_won t c q g.guards) m m' t c q) won
        (both_words_or_none k t g.guards m l.guards c WinAt.Second good.guards is)

    lists' : ListsGood k bin_words m' (λ j. list_task (l.bins j)) g.items
    lists' = lists_same k m m' (λ j. list_task (l.bins j)) g.items (win_leaves_lists k m c) good.lists

    place' : ℕ → Place
    place' = (shadow_taken t c g.guards).place

    members' : won_of (l.bins t) ≡ Piece.NoPiece
        → MembersFit place' (put (λ j. won_of (l.bins j)) t (Piece.Got x n)) (λ j. coming_of (l.bins j))
        (λ j. cut_of (l.bins j)) g.member
    members' none = member_won g.guards.place place' (λ j. won_of (l.bins j)) (λ j. coming_of (l.bins j))
        (λ j. cut_of (l.bins j)) g.member t x n c.taking taken.bin
        (used_moves g.guards.place x n Use.Bin
        (Use.Held t c.taking) good.guards.parts.whole taken.bin) none good.members

    -- with the task that the seat has then
    then : (task : Task) → won_of (l.bins t) ≡ Piece.NoPiece → won_of task ≡ Piece.Got x n
        → coming_of task ≡ coming_of (l.bins t) → cut_of task ≡ cut_of (l.bins t)
        → MembersFit place' (λ j. won_of (put l.bins t task j)) (λ j. coming_of (put l.bins t task j))
        (λ j. cut_of (put l.bins t task j)) g.member
    then task none got comes cuts = with_views place' l.bins g.member t task
        (put (λ j. won_of (l.bins j)) t (Piece.Got x n)) (λ j. coming_of (l.bins j)) (λ j. cut_of (l.bins j))
        (read_puts won_of l.bins t task ∙ ap (put (λ j. won_of (l.bins j)) t) got)
        (read_same coming_of l.bins t task comes) (read_same cut_of l.bins t task cuts) (members' none)

    listed : (b : ℕ) → l.bins t ≡ Task.Has b → b ≡ bin_of n → tally x (g.items (bin_of n)) ≡ 1
    listed b has bin = listed_once g.items g.member x n good.once
        (is_listed k m l.bins g.items g.guards.place (λ j. won_of (l.bins j)) (λ j. cut_of (l.bins j)) g.member t x n
        good.lists good.members (good.members.bin_is x n taken.bin)
        (ap (λ q. lock_in (list_task q)) has ∙ ap Some bin) (ap coming_of has))

    by : (task : Task) → l.bins t ≡ task → IsReady n task
        → BinGood k (record { guards = shadow_taken t c g.guards; items = g.items; member = g.member }) m'
        (record { guards = put l.guards t blocks.Task.Away; bins = put l.bins t (task_won x n task) })
    by Task.Away at ready = record {
      guards = guards';
      lists = subst (λ (f : ℕ → lists.Task). ListsGood k bin_words m' f g.items)
          (sym (read_same list_task l.bins t (Task.Won x n) (sym (ap list_task at)))) lists';
      once = good.once;
      members = then (Task.Won x n) (ap won_of at) refl (sym (ap coming_of at)) (sym (ap cut_of at));
    }
    by (Task.Won y j) at ready = absurd ready
    by (Task.Has b) at ready = record {
      guards = guards';
      lists = with_list k m' l.bins g.items t (Task.Unlinks x n RemoveAt.Forward)
          (lists.Task.Removing (bin_of n) x RemoveAt.Forward) refl
          (seats_cut k bin_words m' (λ j. list_task (l.bins j)) g.items t (bin_of n) x (bins_are k good.guards.small)
          (ap list_task at ∙ ap lists.Task.Has ready) (let o = listed b at ready in omega arith) lists');
      once = good.once;
      members = then (Task.Unlinks x n RemoveAt.Forward) (ap won_of at) refl (sym (ap coming_of at))
          (sym (ap cut_of at));
    }
    by (Task.Links y j p) at ready = absurd ready
    by (Task.Unlinks y j p) at ready = absurd ready

-- a block that its seat offers, so far at its begin, is no member
offered_no_member : (k : Key) (t : ℕ) (g : Shadow) (m : Mem) (l : Locals) (x n : ℕ)
    → l.guards t ≡ blocks.Task.Offers x n → l.bins t ≡ Task.Has (bin_of n) → BinGood k g m l → (j : ℕ)
    → IsMember j (g.member x) → ⊥
offered_no_member k t g m l x n is has good j q = go (good.members.is_bin x j q)
  where
    piece : ((taking : Taking) × (g.guards.place x ≡ Place.Block x n (Use.Held t taking)))
        × blocks.IsOf n (g.guards.standing.begins x)
    piece = good.guards.parts.piece_is t x n (ap blocks.piece_of is)

    mine : (o j : ℕ) (i : Taking) → g.guards.place x ≡ Place.Block x j (Use.Held o i) → o ≡ t
    mine o j i f =
        let q : Place.Block x n (Use.Held t piece.0.0) ≡ Place.Block x j (Use.Held o i) = sym piece.0.1 ∙ f in cc

    go : (g.guards.place x ≡ Place.Block x j Use.Bin)
        ⊎ ((o : ℕ) × (i : Taking) × (g.guards.place x ≡ Place.Block x j (Use.Held o i))
        × (won_of (l.bins o) ≡ Piece.Got x j)) → ⊥
    go (inl f) =
        let r : Place.Block x n (Use.Held t piece.0.0) ≡ Place.Block x j Use.Bin = sym piece.0.1 ∙ f in absurd (cc)
    go (inr (o, i, f, w)) =
        let r : Piece.NoPiece ≡ Piece.Got x j = sym (ap won_of has)
        ∙ ap (λ b. won_of (l.bins b)) (sym (mine o j i f)) ∙ w in absurd (cc)

offered_out : (k : Key) (t : ℕ) (g : Shadow) (m : Mem) (l : Locals) (x n : ℕ) → l.guards t ≡ blocks.Task.Offers x n
    → l.bins t ≡ Task.Has (bin_of n) → BinGood k g m l → g.member x ≡ Member.Out
offered_out k t g m l x n is has good = out (g.member x) refl
  where
    out : (b : Member) → g.member x ≡ b → g.member x ≡ Member.Out
    out Member.Out q = q
    out (Member.In j) q =
        absurd (offered_no_member k t g m l x n is has good j (subst (IsMember j) (sym q) refl))
    out (Member.Comes j o) q =
        absurd (offered_no_member k t g m l x n is has good j (subst (IsMember j) (sym q) refl))

-- so no list has it
pub offered_outside : (k : Key) (t : ℕ) (g : Shadow) (m : Mem) (l : Locals) (x n : ℕ)
    → l.guards t ≡ blocks.Task.Offers x n → l.bins t ≡ Task.Has (bin_of n) → BinGood k g m l → (b : ℕ)
    → tally x (g.items b) ≡ 0
offered_outside k t g m l x n is has good b = good.once b x ∙ ap (in_bin b) (offered_out k t g m l x n is has good)

-- G4
pub comes-as : (k : Key) (t : ℕ) (g : Shadow) (m : Mem) (l : Locals) (x n : ℕ) → l.guards t ≡ blocks.Task.Offers x n
    → l.bins t ≡ Task.Has (bin_of n) → BinGood k g m l
    → BinGood k (record {
      guards = with_use x n Use.Bin (with_edge Side.End (x + n) (Standing.Open n) g.guards);
      items = g.items;
      member = put g.member x (Member.Comes n t);
    }) (after k m (Store (Word.Left (x + n)) (guard_word (Guard.Free n))))
    (record {
      guards = put l.guards t blocks.Task.Away;
      bins = put l.bins t (Task.Links x n InsertAt.Head);
    })
comes-as k t g m l x n is has good = record {
  guards = steps_keep_guards k t g.guards m l.guards h m' (put l.guards t blocks.Task.Away) good.guards
      (GuardStep.offered x n is);
  lists = with_list k m' l.bins g.items t task (lists.Task.Inserting (bin_of n) x InsertAt.Head) refl
      (seats_put k bin_words m' (λ j. list_task (l.bins j)) g.items t (bin_of n) x (bins_are k good.guards.small)
      (ap list_task has) low outside (λ o. others (l.bins o) o refl)
      (lists_same k m m' (λ j. list_task (l.bins j)) g.items (left_stored k m (x + n) (guard_word (Guard.Free n)))
      good.lists));
  once = λ b. each (λ y q. tally y (g.items b) ≡ in_bin b q) g.member x (Member.Comes n t) (λ y _. good.once b y)
      (outside b);
  members = with_views h.place l.bins (put g.member x (Member.Comes n t)) t task (λ j. won_of (l.bins j))
      (put (λ j. coming_of (l.bins j)) t (Piece.Got x n)) (λ j. cut_of (l.bins j))
      (read_same won_of l.bins t task (sym (ap won_of has))) (read_puts coming_of l.bins t task)
      (read_same cut_of l.bins t task (sym (ap cut_of has)))
      (member_comes g.guards.place h.place (λ j. won_of (l.bins j)) (λ j. coming_of (l.bins j))
      (λ j. cut_of (l.bins j)) g.member t x n piece.0.0 piece.0.1
      (used_moves g.guards.place x n (Use.Held t piece.0.0) Use.Bin good.guards.parts.whole piece.0.1)
      (ap coming_of has) (ap cut_of has) (offered_out k t g m l x n is has good) good.members);
}
  where
    task : Task
    task = Task.Links x n InsertAt.Head

    h : blocks.Shadow
    h = with_use x n Use.Bin (with_edge Side.End (x + n) (Standing.Open n) g.guards)

    m' : Mem
    m' = after k m (Store (Word.Left (x + n)) (guard_word (Guard.Free n)))

    piece : ((taking : Taking) × (g.guards.place x ≡ Place.Block x n (Use.Held t taking)))
        × blocks.IsOf n (g.guards.standing.begins x)
    piece = good.guards.parts.piece_is t x n (ap blocks.piece_of is)

    low : x < k.span
    low = let l1 = good.guards.parts.within x n (Use.Held t piece.0.0) piece.0.1 in
        let l2 = (good.guards.parts.whole x x n (Use.Held t piece.0.0) piece.0.1).below in omega arith

    mine : (o j : ℕ) (i : Taking) → g.guards.place x ≡ Place.Block x j (Use.Held o i) → o ≡ t
    mine o j i f =
        let q : Place.Block x n (Use.Held t piece.0.0) ≡ Place.Block x j (Use.Held o i) = sym piece.0.1 ∙ f in cc

    no_member : (j : ℕ) → IsMember j (g.member x) → ⊥
    no_member = offered_no_member k t g m l x n is has good

    outside : (b : ℕ) → tally x (g.items b) ≡ 0
    outside = offered_outside k t g m l x n is has good

    won_apart : (o y j : ℕ) → won_of (l.bins o) ≡ Piece.Got y j → x ≢ y
    won_apart o y j w q = no_member j (subst (λ b. IsMember j (g.member b)) (sym q) (good.members.won_is o y j w).1)

    cut_apart : (o y j : ℕ) → cut_of (l.bins o) ≡ Piece.Got y j → x ≢ y
    cut_apart o y j w q =
        let c = good.members.cut_is o y j w in
        let same = mine o j c.0.0 (subst (λ b. g.guards.place b ≡ Place.Block b j (Use.Held o c.0.0)) (sym q) c.0.1) in
        let r : Piece.NoPiece ≡ Piece.Got y j = sym (ap cut_of has) ∙ ap (λ b. cut_of (l.bins b)) (sym same) ∙ w in
        absurd (cc)

    at_apart : (at : RemoveAt) (o y j : ℕ) → l.bins o ≡ Task.Unlinks y j at → x ≢ y
    at_apart RemoveAt.Forward o y j q = won_apart o y j (ap won_of q)
    at_apart (RemoveAt.Backward f) o y j q = won_apart o y j (ap won_of q)
    at_apart (RemoveAt.Skip f b) o y j q = won_apart o y j (ap won_of q)
    at_apart (RemoveAt.SkipBack f b) o y j q = cut_apart o y j (ap cut_of q)

    others : (other : Task) (o : ℕ) → l.bins o ≡ other → HasNot x (list_task (l.bins o))
    others other o q = subst (λ b. HasNot x (list_task b)) (sym q) (go other q)
      where
        go : (other : Task) → l.bins o ≡ other → HasNot x (list_task other)
        go Task.Away q = tt
        go (Task.Won y j) q = tt
        go (Task.Has b) q = tt
        go (Task.Links y j at) q = λ same.
            let c = good.members.coming_is o y j (ap coming_of q) in
            no_member j (subst (IsMember j) (sym (ap g.member same ∙ c)) refl)
        go (Task.Unlinks y j at) q = at_apart at o y j q

-- Each step, and so each run, keeps what holds of blocks and their guards.
use Rattle.std.proofs.Common.{◌≡◌, ◌≢◌, inl, inr, ℕ, ◌+◌, ◌≤◌, Bool, true, false, cond, eqb, refl}
use Rattle.std.proofs.Common.{sym, ap, subst, arith, ◌∙◌}
use Rattle.pool_words.specs.declared.words.Key.{Key}
use Rattle.pool_words.specs.declared.words.Word.{Word}
use Rattle.word_codes.specs.declared.guards.Guard.{Guard}
use Rattle.word_codes.specs.Guards.{guard_of, guard_word, FitsGuard}
use Rattle.word_codes.proofs.CallerLemmas.{guards_read_back}
use Rattle.guards.specs.declared.win.Side.{Side}
use Rattle.guards.specs.declared.win.Taking.{Taking}
use Rattle.guards.specs.declared.win.WinAt.{WinAt}
use Rattle.guards.specs.declared.win.WinCall.{WinCall}
use Rattle.guards.specs.declared.win.WinNext.{WinNext}
use Rattle.guards.specs.Win.{other_side, taken_word, free_word, win_course, win_learn}
use Rattle.word_laws.specs.Memory.{Mem, put, stored, after, found, word_at}
use Rattle.word_laws.proofs.CallerLemmas.{read_put, each}
use Rattle.guard_laws.specs.Blocks.{Use, Place, Standing, Half, Piece, Edges, at_edge, set_edge, edge_of, edge_word}
use Rattle.guard_laws.specs.Blocks.{Task, half_of, piece_of, Shadow, Core, core_in, View, view_of, GuardFits, IsOf}
use Rattle.guard_laws.specs.Blocks.{rest_of}
use Rattle.guard_laws.specs.Blocks.{IsOffered, Parts, CallFits, TaskFits, GuardGood}
use Rattle.guard_laws.specs.Steps.{task_after, shadow_won, with_edge, with_use, IsOwn, GuardStep}
use Rattle.guard_laws.specs.Steps.GuardRun.{starts, steps}
use Rattle.guard_laws.specs.Laws.{StepsKeepGuards, RunsKeepGuards}
use Rattle.guard_laws.proofs.Blocks.{no_edge_within}
use Rattle.guard_laws.proofs.Wins.{free_is_open, first_won, both_won, given_back}
use Rattle.guard_laws.proofs.Puts.{offered_begin, offered_end}
use Rattle.guard_laws.proofs.Regroup.{edge_written, word_marked, no_offer, IsQuiet, quiet_stands, reused}
use Rattle.guard_laws.proofs.Cuts.{cut, joined}
use Rattle.guard_laws.proofs.Regions.{came, left}
use Rattle.guard_laws.proofs.Drains.{drained}
use Rattle.guard_laws.proofs.Words.{edge_stored, word_is, guard_is, taken_reads, free_reads, same_after, same_core}

pub read_puts : {A B : Type 0} (read : A → B) (f : ℕ → A) (t : ℕ) (a : A)
    → ◌≡◌ {A = ℕ → B} (λ j. read (put f t a j)) (put (λ j. read (f j)) t (read a))
read_puts read f t a i j = read_put read f t a j i

pub read_same : {A B : Type 0} (read : A → B) (f : ℕ → A) (t : ℕ) (a : A) → read a ≡ read (f t)
    → ◌≡◌ {A = ℕ → B} (λ j. read (put f t a j)) (λ j. read (f j))
read_same read f t a same i j = each (λ x l. read l ≡ read (f x)) f t a (λ x _. refl) same j i

-- what seats have won and offered, once one of them has another task
pub with_task : (span : ℕ) (h : Shadow) (words : Edges ℕ) (tasks : ℕ → Task) (t : ℕ) (task : Task)
    (halves : ℕ → Half) (pieces : ℕ → Piece)
    → ◌≡◌ {A = ℕ → Half} (λ j. half_of (put tasks t task j)) halves
    → ◌≡◌ {A = ℕ → Piece} (λ j. piece_of (put tasks t task j)) pieces
    → Parts span (record {
      place = h.place;
      standing = h.standing;
      words = words;
      halves = halves;
      pieces = pieces;
    }) → Parts span (view_of h (record { words = words; tasks = put tasks t task }))
with_task span h words tasks t task halves pieces a b parts =
    subst (λ (f : ℕ → Half). Parts span (record {
      place = h.place;
      standing = h.standing;
      words = words;
      halves = f;
      pieces = λ j. piece_of (put tasks t task j);
    })) (sym a)
    (subst (λ (f : ℕ → Piece). Parts span (record {
      place = h.place;
      standing = h.standing;
      words = words;
      halves = halves;
      pieces = f;
    })) (sym b) parts)

good_with : (k : Key) (g h : Shadow) (m : Mem) (words : Edges ℕ) (tasks : ℕ → Task) (t : ℕ) (task : Task)
    → GuardGood k g (core_in m tasks) → TaskFits task
    → Parts k.span (view_of h (record { words = words; tasks = put tasks t task }))
    → GuardGood k h (record { words = words; tasks = put tasks t task })
good_with k g h m words tasks t task good fits parts = record {
  small = good.small;
  parts = parts;
  calls = each (λ o q. TaskFits q) tasks t task (λ o _. good.calls o) fits;
}

-- the seat goes on, with what it has won and offered
task_keeps : (k : Key) (g : Shadow) (m : Mem) (tasks : ℕ → Task) (t : ℕ) (task : Task)
    → half_of task ≡ half_of (tasks t) → piece_of task ≡ piece_of (tasks t) → TaskFits task
    → GuardGood k g (core_in m tasks) → GuardGood k g (core_in m (put tasks t task))
task_keeps k g m tasks t task a b fits good = good_with k g g m (core_in m tasks).words tasks t task good fits
    (with_task k.span g (core_in m tasks).words tasks t task (λ j. half_of (tasks j)) (λ j. piece_of (tasks j))
    (read_same half_of tasks t task a) (read_same piece_of tasks t task b) good.parts)

-- a guard that is offered or won is one of the pool's
pub open_within : (span : ℕ) (v : View) (e : Side) (y n : ℕ) → Parts span v → IsOf n (at_edge v.standing e y) → y ≤ span
open_within span v e y n parts h = let o = parts.offers e y n h in go e o.0 o.1 o.2
  where
    within : (e : Side) (x : ℕ) → edge_of e x n ≡ y → x + n ≤ span → y ≤ span
    within Side.Begin x q l = omega arith
    within Side.End x q l = omega arith

    go : (e : Side) (x : ℕ) → edge_of e x n ≡ y → IsOffered v.place v.pieces e x n → y ≤ span
    go e x q (inl f) = within e x q (parts.within x n Use.Bin f)
    go e x q (inr (s, (t, taking, f, p))) = within e x q (parts.within x n (Use.Held t taking) f)

pub free_within : (span : ℕ) (v : View) (e : Side) (y n : ℕ) → Parts span v
    → guard_of (at_edge v.words e y) ≡ Guard.Free n → y ≤ span
free_within span v e y n parts found = open_within span v e y n parts (subst (IsOf n)
    (sym (free_is_open (at_edge v.standing e y) n (subst (GuardFits (at_edge v.standing e y)) found
    (parts.words_fit e y)))) refl)

pub fits_at : (k : Key) (g : Shadow) (s : Core) (t : ℕ) (task : Task) → s.tasks t ≡ task → GuardGood k g s
    → TaskFits task
fits_at k g s t task is good = subst TaskFits is (good.calls t)

-- G1: the first guard
first-as : (k : Key) (t : ℕ) (g : Shadow) (m : Mem) (tasks : ℕ → Task) (c : WinCall)
    → tasks t ≡ Task.Wins c WinAt.First → GuardGood k g (core_in m tasks)
    → GuardGood k (shadow_won t c (win_learn c WinAt.First (found m (win_course c WinAt.First))) g)
    (core_in (after k m (win_course c WinAt.First))
    (put tasks t (task_after c (win_learn c WinAt.First (found m (win_course c WinAt.First))))))
first-as k t g m tasks c is good = subst (λ (w : Word). Goal w (eqb (word_at m w) (free_word c))) (sym
    (guard_is c c.first fits))
    (by (eqb (word_at m (edge_word c.first y)) (free_word c)) refl)
  where
    fits : CallFits c
    fits = fits_at k g (core_in m tasks) t (Task.Wins c WinAt.First) is good

    y : ℕ
    y = edge_of c.first c.begin c.granules

    Goal : Word → Bool → Type 0
    Goal w b = GuardGood k
        (shadow_won t c (cond b (WinNext.Goes WinAt.Second) (WinNext.NotWon (word_at m w))) g)
        (core_in (cond b (stored k m w (taken_word c.taking)) m)
        (put tasks t (task_after c (cond b (WinNext.Goes WinAt.Second) (WinNext.NotWon (word_at m w))))))

    none : half_of (tasks t) ≡ Half.NoHalf
    none = ap half_of is

    task : Task
    task = Task.Wins c WinAt.Second

    reads : eqb (word_at m (edge_word c.first y)) (free_word c) ≡ true
        → guard_of (at_edge (core_in m tasks).words c.first y) ≡ Guard.Free c.granules
    reads e = sym (ap guard_of (word_is m tasks c.first y)) ∙ free_reads c.granules
        (word_at m (edge_word c.first y)) fits.told e

    h : Shadow
    h = with_edge c.first y (Standing.Won c.granules t c.taking) g

    won : eqb (word_at m (edge_word c.first y)) (free_word c) ≡ true
        → GuardGood k h (core_in (stored k m (edge_word c.first y) (taken_word c.taking)) (put tasks t task))
    won e = edge_stored k m (put tasks t task) c.first y (taken_word c.taking) (GuardGood k h)
        (free_within k.span (view_of g (core_in m tasks)) c.first y c.granules good.parts (reads e))
        (good_with k g h m (set_edge c.first y (taken_word c.taking) (core_in m tasks).words) tasks t task good fits
        (with_task k.span h (set_edge c.first y (taken_word c.taking) (core_in m tasks).words) tasks t task
        (put (λ j. half_of (tasks j)) t (Half.HalfOf c.first c.begin c.granules c.taking)) (λ j. piece_of (tasks j))
        (read_puts half_of tasks t task) (read_same piece_of tasks t task (sym (ap piece_of is)))
        (first_won k.span (view_of g (core_in m tasks)) t c.taking c.first c.begin c.granules (taken_word c.taking) none
        (reads e) (taken_reads c.taking) good.parts)))

    by : (b : Bool) → eqb (word_at m (edge_word c.first y)) (free_word c) ≡ b → Goal (edge_word c.first y) b
    by true e = won e
    by false e = task_keeps k g m tasks t Task.Away (sym none) (sym (ap piece_of is)) tt good

-- G1: the other one
second-as : (k : Key) (t : ℕ) (g : Shadow) (m : Mem) (tasks : ℕ → Task) (c : WinCall)
    → tasks t ≡ Task.Wins c WinAt.Second → GuardGood k g (core_in m tasks)
    → GuardGood k (shadow_won t c (win_learn c WinAt.Second (found m (win_course c WinAt.Second))) g)
    (core_in (after k m (win_course c WinAt.Second))
    (put tasks t (task_after c (win_learn c WinAt.Second (found m (win_course c WinAt.Second))))))
second-as k t g m tasks c is good = subst (λ (w : Word). Goal w (eqb (word_at m w) (free_word c))) (sym
    (guard_is c o fits))
    (by (eqb (word_at m (edge_word o y)) (free_word c)) refl)
  where
    fits : CallFits c
    fits = fits_at k g (core_in m tasks) t (Task.Wins c WinAt.Second) is good

    o : Side
    o = other_side c.first

    y : ℕ
    y = edge_of (other_side c.first) c.begin c.granules

    Goal : Word → Bool → Type 0
    Goal w b = GuardGood k (shadow_won t c (cond b WinNext.Won (WinNext.Goes WinAt.Back)) g)
        (core_in (cond b (stored k m w (taken_word c.taking)) m)
        (put tasks t (task_after c (cond b WinNext.Won (WinNext.Goes WinAt.Back)))))

    half : half_of (tasks t) ≡ Half.HalfOf c.first c.begin c.granules c.taking
    half = ap half_of is

    reads : eqb (word_at m (edge_word o y)) (free_word c) ≡ true
        → guard_of (at_edge (core_in m tasks).words o y) ≡ Guard.Free c.granules
    reads e = sym (ap guard_of (word_is m tasks o y)) ∙ free_reads c.granules (word_at m (edge_word o y)) fits.told e

    h : Shadow
    h = shadow_won t c WinNext.Won g

    won : eqb (word_at m (edge_word o y)) (free_word c) ≡ true
        → GuardGood k h (core_in (stored k m (edge_word o y) (taken_word c.taking)) (put tasks t Task.Away))
    won e = edge_stored k m (put tasks t Task.Away) o y (taken_word c.taking) (GuardGood k h)
        (free_within k.span (view_of g (core_in m tasks)) o y c.granules good.parts (reads e))
        (good_with k g h m (set_edge o y (taken_word c.taking) (core_in m tasks).words) tasks t Task.Away good tt
        (with_task k.span h (set_edge o y (taken_word c.taking) (core_in m tasks).words) tasks t Task.Away
        (put (λ j. half_of (tasks j)) t Half.NoHalf) (λ j. piece_of (tasks j))
        (read_puts half_of tasks t Task.Away) (read_same piece_of tasks t Task.Away (sym (ap piece_of is)))
        (both_won k.span (view_of g (core_in m tasks)) t c.taking c.first c.begin c.granules (taken_word c.taking) half
        (reads e) (taken_reads c.taking) good.parts)))

    by : (b : Bool) → eqb (word_at m (edge_word o y)) (free_word c) ≡ b → Goal (edge_word o y) b
    by true e = won e
    by false e = task_keeps k g m tasks t (Task.Wins c WinAt.Back) (sym half) (sym (ap piece_of is)) fits good

-- G2: the first one is given back
back-as : (k : Key) (t : ℕ) (g : Shadow) (m : Mem) (tasks : ℕ → Task) (c : WinCall)
    → tasks t ≡ Task.Wins c WinAt.Back → GuardGood k g (core_in m tasks)
    → GuardGood k (shadow_won t c WinNext.GivenBack g)
    (core_in (after k m (win_course c WinAt.Back)) (put tasks t Task.Away))
back-as k t g m tasks c is good = subst
    (λ (w : Word). GuardGood k h (core_in (stored k m w (free_word c)) (put tasks t Task.Away)))
    (sym (guard_is c c.first fits))
    (edge_stored k m (put tasks t Task.Away) c.first y (free_word c) (GuardGood k h)
    (open_within k.span (view_of g (core_in m tasks)) c.first y c.granules good.parts
    (subst (IsOf c.granules) (sym (good.parts.half_is t c.first c.begin c.granules c.taking half)) refl))
    (good_with k g h m (set_edge c.first y (free_word c) (core_in m tasks).words) tasks t Task.Away good tt
    (with_task k.span h (set_edge c.first y (free_word c) (core_in m tasks).words) tasks t Task.Away
    (put (λ j. half_of (tasks j)) t Half.NoHalf) (λ j. piece_of (tasks j))
    (read_puts half_of tasks t Task.Away) (read_same piece_of tasks t Task.Away (sym (ap piece_of is)))
    (given_back k.span (view_of g (core_in m tasks)) t c.taking c.first c.begin c.granules (free_word c) half
    (guards_read_back (Guard.Free c.granules) fits.told) good.parts))))
  where
    fits : CallFits c
    fits = fits_at k g (core_in m tasks) t (Task.Wins c WinAt.Back) is good

    y : ℕ
    y = edge_of c.first c.begin c.granules

    h : Shadow
    h = shadow_won t c WinNext.GivenBack g

    half : half_of (tasks t) ≡ Half.HalfOf c.first c.begin c.granules c.taking
    half = ap half_of is

wins-as : (k : Key) (t : ℕ) (g : Shadow) (m : Mem) (tasks : ℕ → Task) (c : WinCall) (at : WinAt)
    → tasks t ≡ Task.Wins c at → GuardGood k g (core_in m tasks)
    → GuardGood k (shadow_won t c (win_learn c at (found m (win_course c at))) g)
    (core_in (after k m (win_course c at))
    (put tasks t (task_after c (win_learn c at (found m (win_course c at))))))
wins-as k t g m tasks c WinAt.First is good = first-as k t g m tasks c is good
wins-as k t g m tasks c WinAt.Second is good = second-as k t g m tasks c is good
wins-as k t g m tasks c WinAt.Back is good = back-as k t g m tasks c is good

-- a block's granules fit into a guard
block_fits : (k : Key) (g : Shadow) (s : Core) (x n : ℕ) (u : Use) → g.place x ≡ Place.Block x n u → GuardGood k g s
    → FitsGuard (Guard.Free n)
block_fits k g s x n u at good = let l = good.parts.within x n u at in let w = good.small in omega arith

-- G3
offers-as : (k : Key) (t : ℕ) (g : Shadow) (m : Mem) (tasks : ℕ → Task) (x n : ℕ) (taking : Taking)
    → tasks t ≡ Task.Away → g.place x ≡ Place.Block x n (Use.Held t taking) → GuardGood k g (core_in m tasks)
    → GuardGood k (with_edge Side.Begin x (Standing.Open n) g)
    (core_in (stored k m (Word.Size x) (guard_word (Guard.Free n))) (put tasks t (Task.Offers x n)))
offers-as k t g m tasks x n taking is at good =
    edge_stored k m (put tasks t task) Side.Begin x w (GuardGood k h)
    (let l = good.parts.within x n (Use.Held t taking) at in omega arith)
    (good_with k g h m (set_edge Side.Begin x w (core_in m tasks).words) tasks t task good tt
    (with_task k.span h (set_edge Side.Begin x w (core_in m tasks).words) tasks t task
    (λ j. half_of (tasks j)) (put (λ j. piece_of (tasks j)) t (Piece.Got x n))
    (read_same half_of tasks t task (sym (ap half_of is))) (read_puts piece_of tasks t task)
    (offered_begin k.span (view_of g (core_in m tasks)) t taking x n w (ap piece_of is) at
    (guards_read_back (Guard.Free n) (block_fits k g (core_in m tasks) x n (Use.Held t taking) at good)) good.parts)))
  where
    task : Task
    task = Task.Offers x n

    w : ℕ
    w = guard_word (Guard.Free n)

    h : Shadow
    h = with_edge Side.Begin x (Standing.Open n) g

-- G4
offered-as : (k : Key) (t : ℕ) (g : Shadow) (m : Mem) (tasks : ℕ → Task) (x n : ℕ)
    → tasks t ≡ Task.Offers x n → GuardGood k g (core_in m tasks)
    → GuardGood k (with_use x n Use.Bin (with_edge Side.End (x + n) (Standing.Open n) g))
    (core_in (stored k m (Word.Left (x + n)) (guard_word (Guard.Free n))) (put tasks t Task.Away))
offered-as k t g m tasks x n is good =
    edge_stored k m (put tasks t Task.Away) Side.End (x + n) w (GuardGood k h)
    (good.parts.within x n (Use.Held t piece.0.0) piece.0.1)
    (good_with k g h m (set_edge Side.End (x + n) w (core_in m tasks).words) tasks t Task.Away good tt
    (with_task k.span h (set_edge Side.End (x + n) w (core_in m tasks).words) tasks t Task.Away
    (λ j. half_of (tasks j)) (put (λ j. piece_of (tasks j)) t Piece.NoPiece)
    (read_same half_of tasks t Task.Away (sym (ap half_of is))) (read_puts piece_of tasks t Task.Away)
    (offered_end k.span (view_of g (core_in m tasks)) t x n w (ap piece_of is)
    (guards_read_back (Guard.Free n) (block_fits k g (core_in m tasks) x n (Use.Held t piece.0.0) piece.0.1 good))
    good.parts)))
  where
    piece : ((taking : Taking) × (g.place x ≡ Place.Block x n (Use.Held t taking))) × IsOf n (g.standing.begins x)
    piece = good.parts.piece_is t x n (ap piece_of is)

    w : ℕ
    w = guard_word (Guard.Free n)

    h : Shadow
    h = with_use x n Use.Bin (with_edge Side.End (x + n) (Standing.Open n) g)

good_as : (k : Key) (g h : Shadow) (m : Mem) (words : Edges ℕ) (tasks : ℕ → Task) → GuardGood k g (core_in m tasks)
    → Parts k.span (view_of h (record { words = words; tasks = tasks }))
    → GuardGood k h (record { words = words; tasks = tasks })
good_as k g h m words tasks good parts = record { small = good.small; parts = parts; calls = good.calls }

pub away_piece : (tasks : ℕ → Task) (t : ℕ) (x n : ℕ) → tasks t ≡ Task.Away → piece_of (tasks t) ≡ Piece.Got x n → ⊥
away_piece tasks t x n is p = let q : Piece.NoPiece ≡ Piece.Got x n = sym (ap piece_of is) ∙ p in absurd (cc)

rest_guard_fits : (taking : Taking) (guard : Guard) → GuardFits (rest_of taking) guard → FitsGuard guard
rest_guard_fits Taking.ForUse guard fits = subst FitsGuard (sym fits) tt
rest_guard_fits Taking.ToJoin Guard.Used fits = tt
rest_guard_fits Taking.ToJoin Guard.Coalescing fits = tt
rest_guard_fits Taking.ToJoin Guard.Wall fits = tt
rest_guard_fits Taking.ToJoin (Guard.Free n) fits = absurd fits

pub edge_low : (e : Side) (x n span : ℕ) → x + n ≤ span → edge_of e x n ≤ span
edge_low Side.Begin x n span l = omega arith
edge_low Side.End x n span l = l

-- G5, G6
marks-as : (k : Key) (t : ℕ) (g : Shadow) (m : Mem) (tasks : ℕ → Task) (e : Side) (x n : ℕ) (taking : Taking)
    (guard : Guard) → tasks t ≡ Task.Away → g.place x ≡ Place.Block x n (Use.Held t taking)
    → GuardFits (rest_of taking) guard → GuardGood k g (core_in m tasks)
    → GuardGood k g (core_in (stored k m (edge_word e (edge_of e x n)) (guard_word guard)) tasks)
marks-as k t g m tasks e x n taking guard is at fits good =
    edge_stored k m tasks e (edge_of e x n) (guard_word guard) (GuardGood k g)
    (edge_low e x n k.span (good.parts.within x n (Use.Held t taking) at))
    (good_as k g g m (set_edge e (edge_of e x n) (guard_word guard) (core_in m tasks).words) tasks good
    (word_marked k.span (view_of g (core_in m tasks)) e (edge_of e x n) (guard_word guard)
    (subst (λ s. GuardFits s (guard_of (guard_word guard)))
    (sym (quiet_stands k.span (view_of g (core_in m tasks)) x n (Use.Held t taking) e at (away_piece tasks t x n is)
    good.parts))
    (subst (GuardFits (rest_of taking)) (sym (guards_read_back guard (rest_guard_fits taking guard fits))) fits))
    good.parts))

-- a word where no block is offered
writes-as : (k : Key) (g : Shadow) (m : Mem) (tasks : ℕ → Task) (e : Side) (y w : ℕ) (s : Standing)
    → ((n : ℕ) → IsOf n s → ⊥) → GuardFits s (guard_of w)
    → ((x n : ℕ) (u : Use) → g.place x ≡ Place.Block x n u → edge_of e x n ≢ y) → y ≤ k.span
    → GuardGood k g (core_in m tasks) → GuardGood k (with_edge e y s g) (core_in (stored k m (edge_word e y) w) tasks)
writes-as k g m tasks e y w s shut fits none low good =
    edge_stored k m tasks e y w (GuardGood k (with_edge e y s g)) low
    (good_as k g (with_edge e y s g) m (set_edge e y w (core_in m tasks).words) tasks good
    (edge_written k.span (view_of g (core_in m tasks)) e y s w
    (no_offer k.span (view_of g (core_in m tasks)) e y none good.parts) shut fits
    (λ x n u at q. absurd (none x n u at q)) good.parts))

own_quiet : (tasks : ℕ → Task) (v : View) (t x n : ℕ) (u : Use) → tasks t ≡ Task.Away
    → ((o : ℕ) → v.pieces o ≡ piece_of (tasks o)) → IsOwn t u → IsQuiet v x n u
own_quiet tasks v t x n Use.Bin is same own = own
own_quiet tasks v t x n (Use.Held o taking) is same own =
    λ p. away_piece tasks o x n (ap tasks own ∙ is) (sym (same o) ∙ p)
own_quiet tasks v t x n Use.Queued is same own = tt
own_quiet tasks v t x n Use.Elsewhere is same own = tt

own_is_no_bin : (t : ℕ) (u : Use) → IsOwn t u → u ≡ Use.Bin → ⊥
own_is_no_bin t u own q = subst (IsOwn t) q own

pub steps_keep_guards : StepsKeepGuards
steps_keep_guards k t g m tasks h m' tasks' good (GuardStep.begins c is fits) =
    task_keeps k g m tasks t (Task.Wins c WinAt.First) (sym (ap half_of is)) (sym (ap piece_of is)) fits good
steps_keep_guards k t g m tasks h m' tasks' good (GuardStep.wins c at is) = wins-as k t g m tasks c at is good
steps_keep_guards k t g m tasks h m' tasks' good (GuardStep.offers x n taking is at) =
    offers-as k t g m tasks x n taking is at good
steps_keep_guards k t g m tasks h m' tasks' good (GuardStep.offered x n is) = offered-as k t g m tasks x n is good
steps_keep_guards k t g m tasks h m' tasks' good (GuardStep.marks e x n taking guard is at fits) =
    marks-as k t g m tasks e x n taking guard is at fits good
steps_keep_guards k t g m tasks h m' tasks' good (GuardStep.readies e x n y taking at low high) =
    writes-as k g m tasks e y (guard_word Guard.Used) Standing.Inner (λ _ f. f)
    (subst (GuardFits Standing.Inner) (sym (guards_read_back Guard.Used tt)) tt)
    (λ z j u f q. no_edge_within g.place e x n y z j (Use.Held t taking) u good.parts.whole at low high f q)
    (let l = good.parts.within x n (Use.Held t taking) at in omega arith) good
steps_keep_guards k t g m tasks h m' tasks' good (GuardStep.splits x a b is some more at used) =
    good_as k g h m (core_in m tasks).words tasks good
    (cut k.span (view_of g (core_in m tasks)) t x a b some more (ap piece_of is) at used good.parts)
steps_keep_guards k t g m tasks h m' tasks' good (GuardStep.merges x a b is one two) =
    good_as k g h m (core_in m tasks).words tasks good
    (joined k.span (view_of g (core_in m tasks)) t x a b (ap piece_of is) one two good.parts)
steps_keep_guards k t g m tasks h m' tasks' good (GuardStep.reuses x n was now is own own' at fits) =
    good_as k g h m (core_in m tasks).words tasks good
    (reused k.span (view_of g (core_in m tasks)) x n was now (own_is_no_bin t now own') at
    (own_quiet tasks (view_of g (core_in m tasks)) t x n was is (λ o. refl) own) fits good.parts)
steps_keep_guards k t g m tasks h m' tasks' good GuardStep.drains =
    good_as k g h m (core_in m tasks).words tasks good (drained k.span (view_of g (core_in m tasks)) t good.parts)
steps_keep_guards k t g m tasks h m' tasks' good (GuardStep.walls e y low none) =
    writes-as k g m tasks e y (guard_word Guard.Wall) Standing.Walled (λ _ f. f)
    (guards_read_back Guard.Wall tt) none low
    good
steps_keep_guards k t g m tasks h m' tasks' good (GuardStep.outlines e y low none) =
    writes-as k g m tasks e y (guard_word Guard.Used) Standing.Inner (λ _ f. f)
    (subst (GuardFits Standing.Inner) (sym (guards_read_back Guard.Used tt)) tt) none low good
steps_keep_guards k t g m tasks h m' tasks' good (GuardStep.comes x n some fits outside used) =
    good_as k g h m (core_in m tasks).words tasks good
    (came k.span (view_of g (core_in m tasks)) t x n some fits outside used good.parts)
steps_keep_guards k t g m tasks h m' tasks' good (GuardStep.leaves x n taking is at) =
    good_as k g h m (core_in m tasks).words tasks good
    (left k.span (view_of g (core_in m tasks)) t x n taking (ap piece_of is) at good.parts)
steps_keep_guards k t g m tasks h m' tasks' good (GuardStep.others action other) =
    same_core m m' tasks (GuardGood k g) (same_after k m action other) good

pub runs_keep_guards : RunsKeepGuards
runs_keep_guards k g m tasks h m' tasks' good starts = good
runs_keep_guards k g m tasks h m' tasks' good (steps {g1} {m1} {t1} run seat step) =
    steps_keep_guards k seat g1 m1 t1 h m' tasks' (runs_keep_guards k g m tasks g1 m1 t1 good run) step

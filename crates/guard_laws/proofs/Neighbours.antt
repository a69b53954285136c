-- A wall or another block stays beside each edge of a block.
use Rattle.std.proofs.Common.{◌≡◌, ◌≢◌, ◌⊎◌, inl, inr, ℕ, ◌+◌, ◌<◌, ◌≤◌, Bool, true, false, cond, eqb, refl, sym, ap}
use Rattle.std.proofs.Common.{subst, arith, ◌∙◌}
use Rattle.pool_words.specs.declared.words.Key.{Key}
use Rattle.pool_words.specs.declared.words.Word.{Word}
use Rattle.word_codes.specs.declared.guards.Guard.{Guard}
use Rattle.word_codes.specs.Guards.{guard_of}
use Rattle.guards.specs.declared.win.Side.{Side}
use Rattle.guards.specs.declared.win.Taking.{Taking}
use Rattle.guards.specs.declared.win.WinAt.{WinAt}
use Rattle.guards.specs.declared.win.WinCall.{WinCall}
use Rattle.guards.specs.declared.win.WinNext.{WinNext}
use Rattle.guards.specs.Win.{guard_at, other_side, free_word, win_course, win_learn}
use Rattle.word_laws.specs.Memory.{Mem, after, found, word_at}
use Rattle.word_laws.proofs.CallerLemmas.{equal_or}
use Rattle.guard_laws.specs.Blocks.{Use, Place, Standing, Piece, Edges, Task, half_of, piece_of, Shadow}
use Rattle.guard_laws.specs.Blocks.{core_in}
use Rattle.guard_laws.specs.Blocks.{at_edge, set_edge, edge_of, edge_word, put_range, rest_of, IsOf, EdgeFits}
use Rattle.guard_laws.specs.Blocks.{GuardFits, BlocksWhole, CallFits, GuardGood}
use Rattle.guard_laws.specs.Steps.{shadow_won, standing_of, standing_drained, use_drained, place_drained}
use Rattle.guard_laws.specs.Steps.{with_use, with_edges, shadow_split, shadow_merged, GuardStep}
use Rattle.guard_laws.specs.Neighbours.{IsEdge, IsCovered, Covered, WalledRun}
use Rattle.guard_laws.specs.Neighbours.WalledRun.{starts, steps}
use Rattle.guard_laws.specs.Laws.{WinEnds, StepsKeepNeighbours, RunsKeepNeighbours}
use Rattle.guard_laws.proofs.Edges.{IsAt, IsOut, edge_else, edge_each, range_in, range_out, in_or}
use Rattle.guard_laws.proofs.Blocks.{same_block, blocks_apart, no_edge_within, Moved, used_moves, ranged_was}
use Rattle.guard_laws.proofs.Wins.{free_is_open}
use Rattle.guard_laws.proofs.Cuts.{split_out, split_front, split_back, in_split, SplitWas, split_was}
use Rattle.guard_laws.proofs.Regions.{not_outside}
use Rattle.guard_laws.proofs.Drains.{drained_was}
use Rattle.guard_laws.proofs.Words.{word_is, guard_is, free_reads}
use Rattle.guard_laws.proofs.Keeps.{fits_at, steps_keep_guards}
use Rattle.guard_laws.proofs.Tells.{both_words_or_none}

-- what a step leaves of edges and walls
record Keeps (g h : Shadow) : Type 0 where
  came : (e : Side) (i : ℕ) → IsEdge h e i → IsEdge g e i ⊎ IsCovered h e i
  stays : (e : Side) (i : ℕ) → IsEdge h e i → IsEdge g (other_side e) i → IsEdge h (other_side e) i
  walls : (e : Side) (i : ℕ) → IsEdge h e i → IsEdge g e i
      → at_edge g.standing (other_side e) i ≡ Standing.Walled → IsCovered h e i

covered_kept : (g h : Shadow) → Keeps g h → Covered g → Covered h
covered_kept g h keeps covered e i edge = by (keeps.came e i edge)
  where
    go : IsEdge g e i → IsCovered g e i → IsCovered h e i
    go old (inl wall) = keeps.walls e i edge old wall
    go old (inr other) = inr (keeps.stays e i edge other)

    by : IsEdge g e i ⊎ IsCovered h e i → IsCovered h e i
    by (inl old) = go old (covered e i old)
    by (inr now) = now

-- the same blocks, whatever their uses
record SamePlaces (place place' : ℕ → Place) : Type 0 where
  to : (x n : ℕ) (u : Use) → place x ≡ Place.Block x n u → (w : Use) × (place' x ≡ Place.Block x n w)
  from : (x n : ℕ) (u : Use) → place' x ≡ Place.Block x n u → (w : Use) × (place x ≡ Place.Block x n w)

abbrev pub WallsStay : Shadow → Shadow → Type 0
WallsStay g h = (e : Side) (i : ℕ) → IsEdge g e i → at_edge g.standing (other_side e) i ≡ Standing.Walled
    → at_edge h.standing (other_side e) i ≡ Standing.Walled

covered_same : (g h : Shadow) → SamePlaces g.place h.place → WallsStay g h → Covered g → Covered h
covered_same g h places walls = covered_kept g h (record {
  came = λ e i edge. inl (back e i edge);
  stays = λ e i edge other. there (other_side e) i other;
  walls = λ e i edge old wall. inl (walls e i old wall);
})
  where
    there : (e : Side) (i : ℕ) → IsEdge g e i → IsEdge h e i
    there e i (y, n, u, q, at) = let p = places.to y n u at in (y, n, p.0, q, p.1)

    back : (e : Side) (i : ℕ) → IsEdge h e i → IsEdge g e i
    back e i (y, n, u, q, at) = let p = places.from y n u at in (y, n, p.0, q, p.1)

same_places : (place : ℕ → Place) → SamePlaces place place
same_places place = record { to = λ x n u at. (u, at); from = λ x n u at. (u, at) }

places_used : (place : ℕ → Place) (x n : ℕ) (was now : Use) → BlocksWhole place → place x ≡ Place.Block x n was
    → SamePlaces place (put_range place x n (Place.Block x n now))
places_used place x n was now whole at = record {
  to = λ y m u f. equal_or y x (λ q. there y m u q f) (λ ne. (u, moved.to y m u ne f));
  from = λ y m u f. equal_or y x (λ q. back y m u q f) (λ ne. (u, moved.from y m u ne f));
}
  where
    moved : Moved place (put_range place x n (Place.Block x n now)) x n now
    moved = used_moves place x n was now whole at

    there : (y m : ℕ) (u : Use) → y ≡ x → place y ≡ Place.Block y m u
        → (w : Use) × (put_range place x n (Place.Block x n now) y ≡ Place.Block y m w)
    there y m u q f =
        let e = (same_block place x x n x m was u at (subst (λ b. place b ≡ Place.Block b m u) q f)).1 in (
          now,
          subst (λ b. put_range place x n (Place.Block x n now) b ≡ Place.Block b m now) (sym q)
              (moved.here ∙ ap (λ j. Place.Block x j now) e),
        )

    back : (y m : ℕ) (u : Use) → y ≡ x → put_range place x n (Place.Block x n now) y ≡ Place.Block y m u
        → (w : Use) × (place y ≡ Place.Block y m w)
    back y m u q f =
        let r : Place.Block x n now ≡ Place.Block x m u = sym moved.here
        ∙ subst (λ b. put_range place x n (Place.Block x n now) b ≡ Place.Block b m u) q f in
        let e : n ≡ m = cc in
        (was, subst (λ b. place b ≡ Place.Block b m was) (sym q) (at ∙ ap (λ j. Place.Block x j was) e))

-- a block's own guard stands as its use wants, and is no wall
edge_no_wall : (pieces : ℕ → Piece) (e : Side) (u : Use) (x n : ℕ) (s : Standing) → EdgeFits pieces e u x n s
    → s ≡ Standing.Walled → ⊥
edge_no_wall pieces e Use.Bin x n s f q = subst (IsOf n) q f
edge_no_wall pieces e (Use.Held t Taking.ForUse) x n s (inl f) q =
    let r : Standing.Resting ≡ Standing.Walled = sym f ∙ q in cc
edge_no_wall pieces e (Use.Held t Taking.ToJoin) x n s (inl f) q =
    let r : Standing.Joining ≡ Standing.Walled = sym f ∙ q in cc
edge_no_wall pieces e (Use.Held t taking) x n s (inr (b, p, f)) q = subst (IsOf n) q f
edge_no_wall pieces e Use.Queued x n s f q = let r : Standing.Waiting ≡ Standing.Walled = sym f ∙ q in cc
edge_no_wall pieces e Use.Elsewhere x n s f q = let r : Standing.Resting ≡ Standing.Walled = sym f ∙ q in cc

own_no_wall : (k : Key) (g : Shadow) (m : Mem) (tasks : ℕ → Task) (e : Side) (x n : ℕ) (u : Use)
    → GuardGood k g (core_in m tasks) → g.place x ≡ Place.Block x n u
    → at_edge g.standing e (edge_of e x n) ≡ Standing.Walled → ⊥
own_no_wall k g m tasks e x n u good at =
    edge_no_wall (λ t. piece_of (tasks t)) e u x n (at_edge g.standing e (edge_of e x n)) (good.parts.edges_fit e x n u
    at)

-- another guard changes, which was no wall
wall_else : (f : Edges Standing) (j : Side) (y : ℕ) (s : Standing) → (at_edge f j y ≡ Standing.Walled → ⊥)
    → (e : Side) (z : ℕ) → at_edge f e z ≡ Standing.Walled → at_edge (set_edge j y s f) e z ≡ Standing.Walled
wall_else f j y s never e z wall = edge_else j y s f e z
    (λ q. never (sym (ap (λ b. at_edge f b y) q.0) ∙ sym (ap (at_edge f e) q.1) ∙ wall)) ∙ wall

wall_stays : (f : Edges Standing) (j : Side) (y : ℕ) (s : Standing) (e : Side) (z : ℕ) → (IsAt e z j y → ⊥)
    → at_edge f e z ≡ Standing.Walled → at_edge (set_edge j y s f) e z ≡ Standing.Walled
wall_stays f j y s e z never wall = edge_else j y s f e z never ∙ wall

-- both edges of a block change
wall_both : (f : Edges Standing) (j i : Side) (y z : ℕ) (s : Standing) → j ≢ i
    → (at_edge f j y ≡ Standing.Walled → ⊥) → (at_edge f i z ≡ Standing.Walled → ⊥) → (e : Side) (w : ℕ)
    → at_edge f e w ≡ Standing.Walled → at_edge (set_edge j y s (set_edge i z s f)) e w ≡ Standing.Walled
wall_both f j i y z s ne first second e w wall = wall_else (set_edge i z s f) j y s
    (λ q. first (sym (edge_else i z s f j y (λ r. ne r.0)) ∙ q)) e w (wall_else f i z s second e w wall)

sides_differ : (j : Side) → other_side j ≢ j
sides_differ Side.Begin q = cc
sides_differ Side.End q = cc

twice : (e : Side) → other_side (other_side e) ≡ e
twice Side.Begin = refl
twice Side.End = refl

of_no_wall : (n : ℕ) (s : Standing) → IsOf n s → s ≡ Standing.Walled → ⊥
of_no_wall n s f q = subst (IsOf n) q f

-- a block is won, or not
wins_keep : (k : Key) (t : ℕ) (g : Shadow) (m : Mem) (tasks : ℕ → Task) (c : WinCall) (at : WinAt)
    → GuardGood k g (core_in m tasks) → tasks t ≡ Task.Wins c at → Covered g
    → Covered (shadow_won t c (win_learn c at (found m (win_course c at))) g)
wins_keep k t g m tasks c WinAt.First good is covered =
    subst (λ (w : Word). Goal w (eqb (word_at m w) (free_word c))) (sym (guard_is c c.first fits))
    (by (eqb (word_at m (edge_word c.first y)) (free_word c)) refl)
  where
    fits : CallFits c
    fits = fits_at k g (core_in m tasks) t (Task.Wins c WinAt.First) is good

    y : ℕ
    y = edge_of c.first c.begin c.granules

    Goal : Word → Bool → Type 0
    Goal w b = Covered (shadow_won t c (cond b (WinNext.Goes WinAt.Second) (WinNext.NotWon (word_at m w))) g)

    reads : eqb (word_at m (edge_word c.first y)) (free_word c) ≡ true
        → guard_of (at_edge (core_in m tasks).words c.first y) ≡ Guard.Free c.granules
    reads e = sym (ap guard_of (word_is m tasks c.first y)) ∙ free_reads c.granules
        (word_at m (edge_word c.first y)) fits.told e

    open' : eqb (word_at m (edge_word c.first y)) (free_word c) ≡ true → IsOf c.granules (at_edge g.standing c.first y)
    open' e = subst (IsOf c.granules) (sym (free_is_open (at_edge g.standing c.first y) c.granules
        (subst (GuardFits (at_edge g.standing c.first y)) (reads e) (good.parts.words_fit c.first y)))) refl

    by : (b : Bool) → eqb (word_at m (edge_word c.first y)) (free_word c) ≡ b → Goal (edge_word c.first y) b
    by true e = covered_same g (shadow_won t c (WinNext.Goes WinAt.Second) g) (same_places g.place)
        (λ s i edge wall. wall_else g.standing c.first y (Standing.Won c.granules t c.taking)
        (of_no_wall c.granules (at_edge g.standing c.first y) (open' e)) (other_side s) i wall) covered
    by false e = covered
wins_keep k t g m tasks c WinAt.Second good is covered =
    by (eqb (word_at m (guard_at c (other_side c.first))) (free_word c))
    (both_words_or_none k t g m tasks c WinAt.Second good is)
  where
    by : (b : Bool) → WinEnds g (shadow_won t c (cond b WinNext.Won (WinNext.Goes WinAt.Back)) g) m
        (after k m (win_course c WinAt.Second)) t c (cond b WinNext.Won (WinNext.Goes WinAt.Back))
        → Covered (shadow_won t c (cond b WinNext.Won (WinNext.Goes WinAt.Back)) g)
    by true ends = covered_same g (shadow_won t c WinNext.Won g)
        (places_used g.place c.begin c.granules Use.Bin (Use.Held t c.taking) good.parts.whole ends.bin)
        (λ s i edge wall. wall_both g.standing (other_side c.first) c.first
        (edge_of (other_side c.first) c.begin c.granules) (edge_of c.first c.begin c.granules) (rest_of c.taking)
        (sides_differ c.first)
        (own_no_wall k g m tasks (other_side c.first) c.begin c.granules Use.Bin good ends.bin)
        (own_no_wall k g m tasks c.first c.begin c.granules Use.Bin good ends.bin) (other_side s) i wall) covered
    by false ends = covered
wins_keep k t g m tasks c WinAt.Back good is covered =
    covered_same g (shadow_won t c WinNext.GivenBack g) (same_places g.place)
    (λ s i edge wall. wall_else g.standing c.first (edge_of c.first c.begin c.granules) (Standing.Open c.granules)
    (of_no_wall c.granules (at_edge g.standing c.first (edge_of c.first c.begin c.granules))
    (subst (IsOf c.granules)
    (sym (good.parts.half_is t c.first c.begin c.granules c.taking (ap half_of is))) refl)) (other_side s) i wall)
    covered

-- a block in hand is cut in two
splits_keep : (k : Key) (t : ℕ) (g : Shadow) (m : Mem) (tasks : ℕ → Task) (x a b : ℕ) → 0 < a → 0 < b
    → g.place x ≡ Place.Block x (a + b) (Use.Held t Taking.ForUse) → GuardGood k g (core_in m tasks) → Covered g
    → Covered (shadow_split t x a b g)
splits_keep k t g m tasks x a b some more at good = covered_kept g h (record {
  came = λ e i (edge : IsEdge h e i). by e i edge.0 edge.1 edge.2 edge.3
      (split_was g.place x a b u edge.0 edge.1 edge.2 edge.4);
  stays = λ e i edge (other : IsEdge g (other_side e) i). there
      (other_side e) i other.0 other.1 other.2 other.3 other.4;
  walls = λ e i edge old wall. inl (wall_stays (set_edge Side.End (x + a) Standing.Resting g.standing) Side.Begin
      (x + a)
      Standing.Resting (other_side e) i (λ q. apart e i old q.1)
      (wall_stays g.standing Side.End (x + a) Standing.Resting (other_side e) i (λ q. apart e i old q.1) wall));
})
  where
    u : Use
    u = Use.Held t Taking.ForUse

    h : Shadow
    h = shadow_split t x a b g

    front : h.place x ≡ Place.Block x a u
    front = split_front g.place x a b u x (omega arith) (omega arith)

    back : h.place (x + a) ≡ Place.Block (x + a) b u
    back = split_back g.place x a b u (x + a) (omega arith) (omega arith)

    apart : (e : Side) (i : ℕ) → IsEdge g e i → i ≡ x + a → ⊥
    apart e i (y, n, w, q, f) r =
        no_edge_within g.place e x (a + b) (x + a) y n u w good.parts.whole at (omega arith) (omega arith) f (q ∙ r)

    by : (e : Side) (i z n : ℕ) (w : Use) → edge_of e z n ≡ i → SplitWas g.place x a b u z n w
        → IsEdge g e i ⊎ IsCovered h e i
    by Side.Begin i z n w q (SplitWas.is_front r s v) = inl (x, a + b, u, sym r ∙ q, at)
    by Side.End i z n w q (SplitWas.is_front r s v) = inr (inr (x + a, b, u, omega arith, back))
    by Side.Begin i z n w q (SplitWas.is_back r s v) = inr (inr (x, a, u, omega arith, front))
    by Side.End i z n w q (SplitWas.is_back r s v) = inl (x, a + b, u, omega arith, at)
    by e i z n w q (SplitWas.is_other out f) = inl (z, n, w, q, f)

    cut_edge : (e : Side) (i n : ℕ) → edge_of e x n ≡ i → n ≡ a + b → IsEdge h e i
    cut_edge Side.Begin i n q r = (x, a, u, q, front)
    cut_edge Side.End i n q r = (x + a, b, u, omega arith, back)

    there : (e : Side) (i y n : ℕ) (w : Use) → edge_of e y n ≡ i → g.place y ≡ Place.Block y n w → IsEdge h e i
    there e i y n w q f = equal_or y x
        (λ r. cut_edge e i n (subst (λ z. edge_of e z n ≡ i) r q)
        (sym (same_block g.place x x (a + b) x n u w at (subst (λ z. g.place z ≡ Place.Block z n w) r f)).1))
        (λ ne. (
          y,
          n,
          w,
          q,
          split_out g.place x a b u y
              (blocks_apart g.place x (a + b) y n u w good.parts.whole at f ne).out ∙ f,
        ))

-- two blocks in hand are one
merges_keep : (k : Key) (t : ℕ) (g : Shadow) (m : Mem) (tasks : ℕ → Task) (x a b : ℕ)
    → g.place x ≡ Place.Block x a (Use.Held t Taking.ToJoin)
    → g.place (x + a) ≡ Place.Block (x + a) b (Use.Held t Taking.ToJoin) → GuardGood k g (core_in m tasks)
    → GuardGood k (shadow_merged t x a b g) (core_in m tasks) → Covered g → Covered (shadow_merged t x a b g)
merges_keep k t g m tasks x a b one two good then = covered_kept g h (record {
  came = λ e i (edge : IsEdge h e i). by e i edge.0 edge.1 edge.2 edge.3
      (ranged_was g.place x (a + b) u edge.0 edge.1 edge.2 edge.4);
  stays = λ e i edge (other : IsEdge g (other_side e) i). there e (other_side e) i edge other.0 other.1 other.2 other.3
      other.4;
  walls = λ e i edge old wall. inl (wall_stays (set_edge Side.End (x + a) Standing.Inner g.standing) Side.Begin (x + a)
      Standing.Inner (other_side e) i (λ q. apart e i edge q.1)
      (wall_stays g.standing Side.End (x + a) Standing.Inner (other_side e) i (λ q. apart e i edge q.1) wall));
})
  where
    u : Use
    u = Use.Held t Taking.ToJoin

    h : Shadow
    h = shadow_merged t x a b g

    some : 0 < a
    some = let l = (good.parts.whole x x a u one).below in omega arith

    more : 0 < b
    more = let l = (good.parts.whole (x + a) (x + a) b u two).below in omega arith

    here : h.place x ≡ Place.Block x (a + b) u
    here = range_in g.place x (a + b) (Place.Block x (a + b) u) x (omega arith) (omega (arith, some))

    apart : (e : Side) (i : ℕ) → IsEdge h e i → i ≡ x + a → ⊥
    apart e i (y, n, w, q, f) r =
        no_edge_within h.place e x (a + b) (x + a) y n u w then.parts.whole here (omega (arith, some))
        (omega (arith, more)) f (q ∙ r)

    by : (e : Side) (i z n : ℕ) (w : Use) → edge_of e z n ≡ i
        → ((z ≡ x) × (n ≡ a + b) × (w ≡ u)) ⊎ (IsOut x (a + b) z × (g.place z ≡ Place.Block z n w))
        → IsEdge g e i ⊎ IsCovered h e i
    by Side.Begin i z n w q (inl (r, s, v)) = inl (x, a, u, sym r ∙ q, one)
    by Side.End i z n w q (inl (r, s, v)) = inl (x + a, b, u, omega arith, two)
    by e i z n w q (inr (out, f)) = inl (z, n, w, q, f)

    left_edge : (e o : Side) (i n : ℕ) → IsEdge h e i → edge_of o x n ≡ i → n ≡ a → IsEdge h o i
    left_edge e Side.Begin i n edge q r = (x, a + b, u, q, here)
    left_edge e Side.End i n edge q r = absurd (apart e i edge (omega arith))

    right_edge : (e o : Side) (i n : ℕ) → IsEdge h e i → edge_of o (x + a) n ≡ i → n ≡ b → IsEdge h o i
    right_edge e Side.Begin i n edge q r = absurd (apart e i edge (omega arith))
    right_edge e Side.End i n edge q r = (x, a + b, u, omega arith, here)

    outside : (y : ℕ) → IsOut x a y → IsOut (x + a) b y → IsOut x (a + b) y
    outside y p o = in_split x a b y
        (λ low high. absurd (within p low high)) (λ low high. absurd (beyond o low high)) (λ out. out)
      where
        within : IsOut x a y → x ≤ y → y < x + a → ⊥
        within (inl l) low high = omega arith
        within (inr l) low high = omega arith

        beyond : IsOut (x + a) b y → x + a ≤ y → y < x + a + b → ⊥
        beyond (inl l) low high = omega arith
        beyond (inr l) low high = omega arith

    there : (e o : Side) (i : ℕ) → IsEdge h e i → (y n : ℕ) (w : Use) → edge_of o y n ≡ i
        → g.place y ≡ Place.Block y n w → IsEdge h o i
    there e o i edge y n w q f = equal_or y x
        (λ r. left_edge e o i n edge (subst (λ z. edge_of o z n ≡ i) r q)
        (sym (same_block g.place x x a x n u w one (subst (λ z. g.place z ≡ Place.Block z n w) r f)).1))
        (λ ne. equal_or y (x + a)
        (λ r. right_edge e o i n edge (subst (λ z. edge_of o z n ≡ i) r q)
        (sym (same_block g.place (x + a) (x + a) b (x + a) n u w two
        (subst (λ z. g.place z ≡ Place.Block z n w) r f)).1))
        (λ ne2. (
          y,
          n,
          w,
          q,
          range_out g.place x (a + b) (Place.Block x (a + b) u) y (outside y
              (blocks_apart g.place x a y n u w good.parts.whole one f ne).out
              (blocks_apart g.place (x + a) b y n u w good.parts.whole two f ne2).out) ∙ f,
        )))

-- a region comes between walls or blocks
comes_keep : (k : Key) (t : ℕ) (g : Shadow) (x n : ℕ) → 0 < n
    → ((z : ℕ) → x ≤ z → z < x + n → g.place z ≡ Place.Outside) → ((e : Side) → IsCovered g e (edge_of e x n))
    → Covered g
    → Covered (with_use x n (Use.Held t Taking.ForUse) (with_edges x n Standing.Resting g))
comes_keep k t g x n some outside beside = covered_kept g h (record {
  came = λ e i (edge : IsEdge h e i). by e i edge.0 edge.1 edge.2 edge.3
      (ranged_was g.place x n u edge.0 edge.1 edge.2 edge.4);
  stays = λ e i edge (other : IsEdge g (other_side e) i). there (other_side e) i other;
  walls = λ e i edge old wall. walls e i wall;
})
  where
    u : Use
    u = Use.Held t Taking.ForUse

    h : Shadow
    h = with_use x n u (with_edges x n Standing.Resting g)

    here : h.place x ≡ Place.Block x n u
    here = range_in g.place x n (Place.Block x n u) x (omega arith) (omega arith)

    there : (e : Side) (i : ℕ) → IsEdge g e i → IsEdge h e i
    there e i (y, j, w, q, f) = (
      y,
      j,
      w,
      q,
      range_out g.place x n (Place.Block x n u) y (in_or x n y
          (λ low high. absurd (not_outside g.place x n outside y y j w low high f)) (λ out. out)) ∙ f,
    )

    walls : (e : Side) (i : ℕ) → at_edge g.standing (other_side e) i ≡ Standing.Walled → IsCovered h e i
    walls Side.Begin i wall = equal_or i (x + n) (λ r. inr (x, n, u, sym r, here))
        (λ ne. inl (wall_stays (set_edge Side.Begin x Standing.Resting g.standing) Side.End (x + n) Standing.Resting
        Side.End i (λ q. ne q.1)
        (wall_stays g.standing Side.Begin x Standing.Resting Side.End i (λ q. let r = q.0 in cc) wall)))
    walls Side.End i wall = equal_or i x (λ r. inr (x, n, u, sym r, here))
        (λ ne. inl (wall_stays (set_edge Side.Begin x Standing.Resting g.standing) Side.End (x + n) Standing.Resting
        Side.Begin i (λ q. let r = q.0 in cc)
        (wall_stays g.standing Side.Begin x Standing.Resting Side.Begin i (λ q. ne q.1) wall)))

    then : (e : Side) (i : ℕ) → IsCovered g e i → IsCovered h e i
    then e i (inl wall) = walls e i wall
    then e i (inr other) = inr (there (other_side e) i other)

    by : (e : Side) (i z j : ℕ) (w : Use) → edge_of e z j ≡ i
        → ((z ≡ x) × (j ≡ n) × (w ≡ u)) ⊎ (IsOut x n z × (g.place z ≡ Place.Block z j w))
        → IsEdge g e i ⊎ IsCovered h e i
    by e i z j w q (inl (r, s, v)) = inr (then e i (subst (IsCovered g e)
        (ap (λ y. edge_of e y n) (sym r) ∙ ap (edge_of e z) (sym s) ∙ q) (beside e)))
    by e i z j w q (inr (out, f)) = inl (z, j, w, q, f)

-- a region leaves from between walls
leaves_keep : (k : Key) (t : ℕ) (g : Shadow) (m : Mem) (tasks : ℕ → Task) (x n : ℕ) (taking : Taking)
    → g.place x ≡ Place.Block x n (Use.Held t taking) → GuardGood k g (core_in m tasks)
    → ((e : Side) → at_edge g.standing (other_side e) (edge_of e x n) ≡ Standing.Walled) → Covered g
    → Covered (record {
      place = put_range g.place x n Place.Outside;
      standing = set_edge Side.End (x + n) Standing.Inner (set_edge Side.Begin x Standing.Inner g.standing);
    })
leaves_keep k t g m tasks x n taking at good walled = covered_kept g h (record {
  came = λ e i edge. inl (back e i edge);
  stays = λ e i edge (other : IsEdge g (other_side e) i). there e i (back e i edge) other.0 other.1 other.2 other.3
      other.4;
  walls = λ e i edge old wall. inl (wall_both g.standing Side.End Side.Begin (x + n) x Standing.Inner (λ q. cc)
      (own_no_wall k g m tasks Side.End x n u good at) (own_no_wall k g m tasks Side.Begin x n u good at) (other_side e)
      i wall);
})
  where
    u : Use
    u = Use.Held t taking

    h : Shadow
    h = record {
      place = put_range g.place x n Place.Outside;
      standing = set_edge Side.End (x + n) Standing.Inner (set_edge Side.Begin x Standing.Inner g.standing);
    }

    was : (y j : ℕ) (w : Use) → h.place y ≡ Place.Block y j w → g.place y ≡ Place.Block y j w
    was y j w f = in_or x n y
        (λ low high. absurd (let r : Place.Outside ≡ Place.Block y j w =
        sym (range_in g.place x n Place.Outside y low high) ∙ f in cc))
        (λ out. sym (range_out g.place x n Place.Outside y out) ∙ f)

    back : (e : Side) (i : ℕ) → IsEdge h e i → IsEdge g e i
    back e i (y, j, w, q, f) = (y, j, w, q, was y j w f)

    -- no block is beside the region
    alone : (e : Side) (i : ℕ) → IsEdge g e i → edge_of (other_side e) x n ≡ i → ⊥
    alone e i (y, j, w, q, f) r = own_no_wall k g m tasks e y j w good f
        (ap (at_edge g.standing e) (q ∙ sym r)
        ∙ subst (λ s. at_edge g.standing s (edge_of (other_side e) x n) ≡ Standing.Walled) (twice e)
        (walled (other_side e)))

    there : (e : Side) (i : ℕ) → IsEdge g e i → (y j : ℕ) (w : Use) → edge_of (other_side e) y j ≡ i
        → g.place y ≡ Place.Block y j w → IsEdge h (other_side e) i
    there e i edge y j w q f = equal_or y x
        (λ r. absurd (alone e i edge
        (ap (edge_of (other_side e) x)
        (same_block g.place x x n x j u w at (subst (λ z. g.place z ≡ Place.Block z j w) r f)).1
        ∙ subst (λ z. edge_of (other_side e) z j ≡ i) r q)))
        (λ ne. (
          y,
          j,
          w,
          q,
          range_out g.place x n Place.Outside y
              (blocks_apart g.place x n y j u w good.parts.whole at f ne).out ∙ f,
        ))

drained_wall : (f : Edges Standing) (e : Side) (i : ℕ) → at_edge f e i ≡ Standing.Walled
    → at_edge (record { begins = λ y. standing_drained (f.begins y); ends = λ y. standing_drained (f.ends y) }) e i
    ≡ Standing.Walled
drained_wall f Side.Begin i wall = ap standing_drained wall
drained_wall f Side.End i wall = ap standing_drained wall

places_drained : (t : ℕ) (place : ℕ → Place) → SamePlaces place (λ y. place_drained t (place y))
places_drained t place = record {
  to = λ x n u at. (use_drained t u, ap (place_drained t) at);
  from = λ x n u at. let was = drained_was t (place x) x n u at in (was.0, was.1);
}

pub steps_keep_neighbours : StepsKeepNeighbours
steps_keep_neighbours k t g m tasks h m' tasks' good covered (GuardStep.begins c is fits) walls = covered
steps_keep_neighbours k t g m tasks h m' tasks' good covered (GuardStep.wins c at is) walls =
    wins_keep k t g m tasks c at good is covered
steps_keep_neighbours k t g m tasks h m' tasks' good covered (GuardStep.offers x n taking is at) walls =
    covered_same g h (same_places g.place) (λ e i edge wall. wall_else g.standing Side.Begin x (Standing.Open n)
    (own_no_wall k g m tasks Side.Begin x n (Use.Held t taking) good at) (other_side e) i wall) covered
steps_keep_neighbours k t g m tasks h m' tasks' good covered (GuardStep.offered x n is) walls =
    let held = (good.parts.piece_is t x n (ap piece_of is)).0 in
    covered_same g h (places_used g.place x n (Use.Held t held.0) Use.Bin good.parts.whole held.1)
    (λ e i edge wall. wall_else g.standing Side.End (x + n) (Standing.Open n)
    (own_no_wall k g m tasks Side.End x n (Use.Held t held.0) good held.1) (other_side e) i wall) covered
steps_keep_neighbours k t g m tasks h m' tasks' good covered (GuardStep.marks e x n taking guard is at fits) walls =
    covered
steps_keep_neighbours k t g m tasks h m' tasks' good covered (GuardStep.readies e x n y taking at low high) walls =
    covered_same g h (same_places g.place) (λ s i (edge : IsEdge g s i) wall.
    wall_stays g.standing e y Standing.Inner (other_side s) i
    (λ q. no_edge_within g.place s x n y edge.0 edge.1 (Use.Held t taking) edge.2 good.parts.whole at low high edge.4
    (edge.3 ∙ q.1)) wall) covered
steps_keep_neighbours k t g m tasks h m' tasks' good covered (GuardStep.splits x a b is some more at used) walls =
    splits_keep k t g m tasks x a b some more at good covered
steps_keep_neighbours k t g m tasks h m' tasks' good covered (GuardStep.merges x a b is one two) walls =
    merges_keep k t g m tasks x a b one two good
    (steps_keep_guards k t g m tasks h m' tasks' good (GuardStep.merges x a b is one two)) covered
steps_keep_neighbours k t g m tasks h m' tasks' good covered (GuardStep.reuses x n was now is own own' at fits) walls =
    covered_same g h (places_used g.place x n was now good.parts.whole at)
    (λ e i edge wall. wall_both g.standing Side.End Side.Begin (x + n) x (standing_of now) (λ q. cc)
    (own_no_wall k g m tasks Side.End x n was good at) (own_no_wall k g m tasks Side.Begin x n was good at)
    (other_side e) i wall) covered
steps_keep_neighbours k t g m tasks h m' tasks' good covered GuardStep.drains walls =
    covered_same g h (places_drained t g.place) (λ e i edge wall. drained_wall g.standing (other_side e) i wall) covered
steps_keep_neighbours k t g m tasks h m' tasks' good covered (GuardStep.walls e y low none) walls =
    covered_same g h (same_places g.place) (λ s i edge wall. edge_each (λ j z v. (z ≡ i) × (j ≡ other_side s)
    → v ≡ Standing.Walled) e y Standing.Walled g.standing
    (λ j z never q. ap (at_edge g.standing j) q.0 ∙ ap (λ b. at_edge g.standing b i) q.1 ∙ wall) (λ q. refl)
    (other_side s) i (refl, refl)) covered
steps_keep_neighbours k t g m tasks h m' tasks' good covered (GuardStep.outlines e y low none) walls =
    covered_same g h (same_places g.place) (λ s i (edge : IsEdge g s i) wall.
    wall_stays g.standing e y Standing.Inner (other_side s) i
    (λ q. walls edge.0 edge.1 edge.2 edge.4
    (subst (λ b. edge_of b edge.0 edge.1 ≡ y) (sym (twice s) ∙ ap other_side q.0) (edge.3 ∙ q.1))) wall) covered
steps_keep_neighbours k t g m tasks h m' tasks' good covered (GuardStep.comes x n some fits outside used) walls =
    comes_keep k t g x n some outside walls covered
steps_keep_neighbours k t g m tasks h m' tasks' good covered (GuardStep.leaves x n taking is at) walls =
    leaves_keep k t g m tasks x n taking at good walls covered
steps_keep_neighbours k t g m tasks h m' tasks' good covered (GuardStep.others action other) walls = covered

pub runs_keep_neighbours : RunsKeepNeighbours
runs_keep_neighbours k g m tasks h m' tasks' good covered run = (all g m tasks h m' tasks' good covered run).1
  where
    all : (g : Shadow) (m : Mem) (tasks : ℕ → Task) (h : Shadow) (m' : Mem) (tasks' : ℕ → Task)
        → GuardGood k g (core_in m tasks) → Covered g → WalledRun k g m tasks h m' tasks'
        → GuardGood k h (core_in m' tasks') × Covered h
    all g m tasks h m' tasks' good covered starts = (good, covered)
    all g m tasks h m' tasks' good covered (steps {g1} {m1} {t1} run seat step walls) =
        let before = all g m tasks g1 m1 t1 good covered run in (
          steps_keep_guards k seat g1 m1 t1 h m' tasks' before.0 step,
          steps_keep_neighbours k seat g1 m1 t1 h m' tasks' before.0 before.1 step walls,
        )

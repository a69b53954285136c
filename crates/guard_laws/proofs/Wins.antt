-- Winning the guards of a block, and giving one back.
use Rattle.std.proofs.Common.{◌≡◌, ◌≢◌, ◌⊎◌, inl, inr, ℕ, ◌+◌, ◌≤◌, refl, sym, ap, subst, arith, ◌∙◌}
use Rattle.word_codes.specs.declared.guards.Guard.{Guard}
use Rattle.word_codes.specs.Guards.{guard_of}
use Rattle.guards.specs.declared.win.Side.{Side}
use Rattle.guards.specs.declared.win.Taking.{Taking}
use Rattle.guards.specs.Win.{other_side}
use Rattle.word_laws.specs.Memory.{put}
use Rattle.word_laws.proofs.CallerLemmas.{put-same, put-other, each}
use Rattle.guard_laws.specs.Blocks.{Use, Place, Standing, Half, Piece, Edges, at_edge, set_edge, edge_of, put_range}
use Rattle.guard_laws.specs.Blocks.{View}
use Rattle.guard_laws.specs.Blocks.{taken_guard, GuardFits, IsOf, rest_of, EdgeFits, IsOffered, Parts}
use Rattle.guard_laws.proofs.Edges.{IsAt, edge_each, edge_both, edge_here, edge_else, range_out}
use Rattle.guard_laws.proofs.Blocks.{same_block, blocks_apart, edges_apart, use_was, whole_used}

pub taken_not_free : (taking : Taking) (n : ℕ) → taken_guard taking ≡ Guard.Free n → ⊥
taken_not_free Taking.ForUse n q = cc
taken_not_free Taking.ToJoin n q = cc

pub free_is_open : (s : Standing) (n : ℕ) → GuardFits s (Guard.Free n) → s ≡ Standing.Open n
free_is_open Standing.Inner n f = absurd f
free_is_open Standing.Resting n f = absurd (cc)
free_is_open Standing.Walled n f = absurd (cc)
free_is_open Standing.Joining n f = absurd f
free_is_open Standing.Waiting n f = absurd (cc)
free_is_open (Standing.Open m) n f = cc
free_is_open (Standing.Won m t taking) n f = absurd (taken_not_free taking n (sym f))

-- an open guard stays told as open or won of so many granules
edge_kept : (pieces : ℕ → Piece) (e : Side) (u : Use) (x n m : ℕ) (s s' : Standing) → IsOf m s
    → ((j : ℕ) → IsOf j s → IsOf j s') → EdgeFits pieces e u x n s → EdgeFits pieces e u x n s'
edge_kept pieces e Use.Bin x n m s s' was to f = to n f
edge_kept pieces e (Use.Held t Taking.ForUse) x n m s s' was to (inl f) = absurd (subst (IsOf m) f was)
edge_kept pieces e (Use.Held t Taking.ToJoin) x n m s s' was to (inl f) = absurd (subst (IsOf m) f was)
edge_kept pieces e (Use.Held t taking) x n m s s' was to (inr (q, p, f)) = inr (q, p, to n f)
edge_kept pieces e Use.Queued x n m s s' was to f = absurd (subst (IsOf m) f was)
edge_kept pieces e Use.Elsewhere x n m s s' was to f = absurd (subst (IsOf m) f was)

pub rest_is_not_of : (taking : Taking) (n : ℕ) → IsOf n (rest_of taking) → ⊥
rest_is_not_of Taking.ForUse n f = f
rest_is_not_of Taking.ToJoin n f = f

pub rest_fits : (taking : Taking) (guard : Guard) → guard ≡ taken_guard taking → GuardFits (rest_of taking) guard
rest_fits Taking.ForUse guard is = is
rest_fits Taking.ToJoin guard is = subst (GuardFits Standing.Joining) (sym is) tt

-- the first guard of a block
pub first_won : (span : ℕ) (v : View) (t : ℕ) (taking : Taking) (k : Side) (x n w : ℕ) → v.halves t ≡ Half.NoHalf
    → guard_of (at_edge v.words k (edge_of k x n)) ≡ Guard.Free n → guard_of w ≡ taken_guard taking → Parts span v
    → Parts span (record v {
      standing = set_edge k (edge_of k x n) (Standing.Won n t taking) v.standing;
      words = set_edge k (edge_of k x n) w v.words;
      halves = put v.halves t (Half.HalfOf k x n taking);
    })
first_won span v t taking k x n w none found told parts = record {
  whole = parts.whole;
  within = parts.within;
  words_fit = edge_both (λ e z s g. GuardFits s (guard_of g)) k y won w v.standing v.words parts.words_fit told;
  edges_fit = λ e b m u at. edge_each
      (λ j z s. EdgeFits v.pieces j u b m (at_edge v.standing j z) → EdgeFits v.pieces j u b m s) k y won v.standing
      (λ _ _ _ f. f)
      (λ f. edge_kept v.pieces k u b m n (at_edge v.standing k y) won (subst (IsOf n) (sym open') refl)
      (λ j h. subst (IsOf j) open' h) f) e (edge_of e b m) (parts.edges_fit e b m u at);
  offers = λ e z m h. parts.offers e z m (old_of e z m h);
  won_is = edge_each (λ e z s. (m o : ℕ) (j : Taking) → s ≡ Standing.Won m o j
      → (f : ℕ) × (edge_of e f m ≡ z) × (put v.halves t half o ≡ Half.HalfOf e f m j)) k y won v.standing
      (λ e z _ m o j f. let old = parts.won_is e z m o j f in (
        old.0,
        old.1,
        put-other v.halves t half o (λ q. no_half e old.0 m j (sym none ∙ ap v.halves (sym q) ∙ old.2))
            ∙ old.2,
      ))
      mine;
  half_is = each (λ o h. (e : Side) (f m : ℕ) (j : Taking) → h ≡ Half.HalfOf e f m j
      → at_edge (set_edge k y won v.standing) e (edge_of e f m) ≡ Standing.Won m o j) v.halves t half
      (λ o ne e f m j h. let old = parts.half_is o e f m j h in
      edge_else k y won v.standing e (edge_of e f m)
      (λ q. open_won m o j (sym open' ∙ sym (same_edge e (edge_of e f m) q.0 q.1) ∙ old)) ∙ old)
      here;
  piece_is = λ o f m p. let old = parts.piece_is o f m p in (old.0, new_of Side.Begin f m old.1);
}
  where
    y : ℕ
    y = edge_of k x n

    won : Standing
    won = Standing.Won n t taking

    half : Half
    half = Half.HalfOf k x n taking

    open' : at_edge v.standing k y ≡ Standing.Open n
    open' = free_is_open (at_edge v.standing k y) n
        (subst (GuardFits (at_edge v.standing k y)) found (parts.words_fit k y))

    no_half : (e : Side) (f m : ℕ) (j : Taking) → Half.NoHalf ≡ Half.HalfOf e f m j → ⊥
    no_half e f m j q = cc

    open_won : (m o : ℕ) (j : Taking) → Standing.Open n ≡ Standing.Won m o j → ⊥
    open_won m o j q = cc

    same_edge : (e : Side) (z : ℕ) → e ≡ k → z ≡ y → at_edge v.standing e z ≡ at_edge v.standing k y
    same_edge e z a b = ap (λ j. at_edge v.standing j z) a ∙ ap (at_edge v.standing k) b

    old_of : (e : Side) (z m : ℕ) → IsOf m (at_edge (set_edge k y won v.standing) e z) → IsOf m (at_edge v.standing e z)
    old_of e z m = edge_each (λ j b s. IsOf m s → IsOf m (at_edge v.standing j b)) k y won v.standing (λ _ _ _ f. f)
        (λ f. subst (IsOf m) (sym open') f) e z

    new_of : (e : Side) (z m : ℕ) → IsOf m (at_edge v.standing e z) → IsOf m (at_edge (set_edge k y won v.standing) e z)
    new_of e z m = edge_each (λ j b s. IsOf m (at_edge v.standing j b) → IsOf m s) k y won v.standing (λ _ _ _ f. f)
        (λ f. subst (IsOf m) open' f) e z

    mine : (m o : ℕ) (j : Taking) → won ≡ Standing.Won m o j
        → (f : ℕ) × (edge_of k f m ≡ y) × (put v.halves t half o ≡ Half.HalfOf k f m j)
    mine m o j q =
        let q0 : n ≡ m = cc in let q1 : t ≡ o = cc in let q2 : taking ≡ j = cc in
        let r : half ≡ Half.HalfOf k x m j = cc in
        (x, ap (edge_of k x) (sym q0), ap (put v.halves t half) (sym q1) ∙ put-same v.halves t half ∙ r)

    here : (e : Side) (f m : ℕ) (j : Taking) → half ≡ Half.HalfOf e f m j
        → at_edge (set_edge k y won v.standing) e (edge_of e f m) ≡ Standing.Won m t j
    here e f m j q =
        let q0 : k ≡ e = cc in let q1 : x ≡ f = cc in let q2 : n ≡ m = cc in let q3 : taking ≡ j = cc in
        let r : won ≡ Standing.Won m t j = cc in
        subst (λ b. at_edge (set_edge k y won v.standing) b (edge_of b f m) ≡ Standing.Won m t j) q0
        (ap (at_edge (set_edge k y won v.standing) k) (ap (λ b. edge_of k b m) (sym q1) ∙ ap (edge_of k x) (sym q2))
        ∙ edge_here k y won v.standing ∙ r)

-- both guards are won or open, so the block is in a bin
pub open_is_bin : (span : ℕ) (v : View) (t : ℕ) (taking : Taking) (k : Side) (x n : ℕ)
    → at_edge v.standing k (edge_of k x n) ≡ Standing.Won n t taking
    → at_edge v.standing (other_side k) (edge_of (other_side k) x n) ≡ Standing.Open n → Parts span v
    → v.place x ≡ Place.Block x n Use.Bin
open_is_bin span v t taking k x n won open' parts = go (parts.offers Side.End (x + n) n (of k won open'))
  where
    of : (k : Side) → at_edge v.standing k (edge_of k x n) ≡ Standing.Won n t taking
        → at_edge v.standing (other_side k) (edge_of (other_side k) x n) ≡ Standing.Open n
        → IsOf n (v.standing.ends (x + n))
    of Side.Begin a b = subst (IsOf n) (sym b) refl
    of Side.End a b = subst (IsOf n) (sym a) refl

    go : (z : ℕ) × (z + n ≡ x + n) × IsOffered v.place v.pieces Side.End z n → v.place x ≡ Place.Block x n Use.Bin
    go (z, is, inl f) = let q : z ≡ x = omega arith in subst (λ b. v.place b ≡ Place.Block b n Use.Bin) q f
    go (z, is, inr (s, f)) = absurd (cc)

-- the other one: the block is in the seat's hand
pub both_won : (span : ℕ) (v : View) (t : ℕ) (taking : Taking) (k : Side) (x n w : ℕ)
    → v.halves t ≡ Half.HalfOf k x n taking
    → guard_of (at_edge v.words (other_side k) (edge_of (other_side k) x n)) ≡ Guard.Free n
    → guard_of w ≡ taken_guard taking → Parts span v
    → Parts span (record v {
      place = put_range v.place x n (Place.Block x n (Use.Held t taking));
      standing = set_edge (other_side k) (edge_of (other_side k) x n) (rest_of taking)
          (set_edge k (edge_of k x n) (rest_of taking) v.standing);
      words = set_edge (other_side k) (edge_of (other_side k) x n) w v.words;
      halves = put v.halves t Half.NoHalf;
    })
both_won span v t taking k x n w half found told parts = record {
  whole = whole_used v.place x n Use.Bin (Use.Held t taking) at parts.whole;
  within = λ z m u f. within_of z m u (use_was v.place x n Use.Bin (Use.Held t taking) parts.whole at z m u f);
  words_fit = edge_both (λ e z s g. GuardFits s (guard_of g)) o y' R w (set_edge k y R v.standing) v.words
      (edge_each (λ e z s. GuardFits s (guard_of (at_edge v.words e z))) k y R v.standing
      (λ e z _. parts.words_fit e z) (rest_fits taking (guard_of (at_edge v.words k y))
      (subst (λ s. GuardFits s (guard_of (at_edge v.words k y))) mine (parts.words_fit k y))))
      (rest_fits taking (guard_of w) told);
  edges_fit = λ e z m u f.
      edges_of e z m u (use_was v.place x n Use.Bin (Use.Held t taking) parts.whole at z m u f);
  offers = edge_each
      (λ e z s. (m : ℕ) → IsOf m s → (f : ℕ) × (edge_of e f m ≡ z) × IsOffered new v.pieces e f m)
      o y' R (set_edge k y R v.standing)
      (λ e z no2. edge_each (λ e z s. (IsAt e z o y' → ⊥) → (m : ℕ) → IsOf m s
      → (f : ℕ) × (edge_of e f m ≡ z) × IsOffered new v.pieces e f m) k y R v.standing
      (λ e z no1 never m h. let old = parts.offers e z m h in
      (old.0, old.1, kept e old.0 m old.2 (λ q. edge_not e z old.0 m no1 never old.1 q old.2)))
      (λ _ m h. absurd (rest_is_not_of taking m h)) e z no2)
      (λ m h. absurd (rest_is_not_of taking m h));
  won_is = λ e z m p j f. let old = still_won e z m p j f in let q = parts.won_is e z m p j old.0 in (
    q.0,
    q.1,
    put-other v.halves t Half.NoHalf p (λ same.
        old.1 (half_same e q.0 z m j (sym half ∙ ap v.halves (sym same) ∙ q.2) q.1)) ∙ q.2,
  );
  half_is = each (λ p h. (e : Side) (z m : ℕ) (j : Taking) → h ≡ Half.HalfOf e z m j
      → at_edge stands e (edge_of e z m) ≡ Standing.Won m p j) v.halves t Half.NoHalf
      (λ p ne e z m j f. still e (edge_of e z m) m p j ne (parts.half_is p e z m j f))
      (λ e z m j f. absurd (cc));
  piece_is = λ p z m f. let old = parts.piece_is p z m f in
      let ne : z ≢ x = λ q. not_held m p old.0.0 (subst (λ b. v.place b ≡ Place.Block b m
      (Use.Held p old.0.0)) q old.0.1) in (
        (old.0.0, other_kept z m (Use.Held p old.0.0) ne old.0.1),
        subst (IsOf m) (sym (edge_stays Side.Begin z m (Use.Held p old.0.0) ne old.0.1)) old.1,
      );
}
  where
    o : Side
    o = other_side k

    y : ℕ
    y = edge_of k x n

    y' : ℕ
    y' = edge_of (other_side k) x n

    R : Standing
    R = rest_of taking

    new : ℕ → Place
    new = put_range v.place x n (Place.Block x n (Use.Held t taking))

    stands : Edges Standing
    stands = set_edge o y' R (set_edge k y R v.standing)

    mine : at_edge v.standing k y ≡ Standing.Won n t taking
    mine = parts.half_is t k x n taking half

    open' : at_edge v.standing o y' ≡ Standing.Open n
    open' = free_is_open (at_edge v.standing o y') n
        (subst (GuardFits (at_edge v.standing o y')) found (parts.words_fit o y'))

    at : v.place x ≡ Place.Block x n Use.Bin
    at = open_is_bin span v t taking k x n mine open' parts

    within_of : (z m : ℕ) (u : Use)
        → ((z ≡ x) × (m ≡ n) × (u ≡ Use.Held t taking)) ⊎ ((z ≢ x) × (v.place z ≡ Place.Block z m u)) → z + m ≤ span
    within_of z m u (inl (a, b, c)) = let l = parts.within x n Use.Bin at in omega arith
    within_of z m u (inr (ne, f)) = parts.within z m u f

    not_held : (m p : ℕ) (j : Taking) → v.place x ≡ Place.Block x m (Use.Held p j) → ⊥
    not_held m p j f = let q : Place.Block x n Use.Bin ≡ Place.Block x m (Use.Held p j) = sym at ∙ f in absurd (cc)

    other_kept : (z m : ℕ) (u : Use) → z ≢ x → v.place z ≡ Place.Block z m u → new z ≡ Place.Block z m u
    other_kept z m u ne f = range_out v.place x n (Place.Block x n (Use.Held t taking)) z
        (blocks_apart v.place x n z m Use.Bin u parts.whole at f ne).out ∙ f

    edge_stays : (e : Side) (z m : ℕ) (u : Use) → z ≢ x → v.place z ≡ Place.Block z m u
        → at_edge stands e (edge_of e z m) ≡ at_edge v.standing e (edge_of e z m)
    edge_stays e z m u ne f =
        edge_else o y' R (set_edge k y R v.standing) e (edge_of e z m)
        (λ q. edges_apart v.place o e x n z m Use.Bin u parts.whole at f ne q.0 q.1)
        ∙ edge_else k y R v.standing e (edge_of e z m)
        (λ q. edges_apart v.place k e x n z m Use.Bin u parts.whole at f ne q.0 q.1)

    both_rest : (k e : Side) → at_edge (set_edge (other_side k) (edge_of (other_side k) x n) R
        (set_edge k (edge_of k x n) R v.standing)) e (edge_of e x n) ≡ R
    both_rest Side.Begin Side.Begin = put-same v.standing.begins x R
    both_rest Side.Begin Side.End = put-same v.standing.ends (x + n) R
    both_rest Side.End Side.Begin = put-same v.standing.begins x R
    both_rest Side.End Side.End = put-same v.standing.ends (x + n) R

    edges_of : (e : Side) (z m : ℕ) (u : Use)
        → ((z ≡ x) × (m ≡ n) × (u ≡ Use.Held t taking)) ⊎ ((z ≢ x) × (v.place z ≡ Place.Block z m u))
        → EdgeFits v.pieces e u z m (at_edge stands e (edge_of e z m))
    edges_of e z m u (inl (a, b, c)) =
        subst (λ j. EdgeFits v.pieces e j z m (at_edge stands e (edge_of e z m))) (sym c)
        (inl (ap (at_edge stands e) (ap (λ j. edge_of e j m) a ∙ ap (edge_of e x) b) ∙ both_rest k e))
    edges_of e z m u (inr (ne, f)) =
        subst (EdgeFits v.pieces e u z m) (sym (edge_stays e z m u ne f)) (parts.edges_fit e z m u f)

    kept : (e : Side) (z m : ℕ) → IsOffered v.place v.pieces e z m → z ≢ x → IsOffered new v.pieces e z m
    kept e z m (inl f) ne = inl (other_kept z m Use.Bin ne f)
    kept e z m (inr (s, (p, j, f, g))) ne = inr (s, (p, j, other_kept z m (Use.Held p j) ne f, g))

    length_is : (e : Side) (z m : ℕ) → z ≡ x → IsOffered v.place v.pieces e z m → m ≡ n
    length_is e z m q (inl f) =
        sym (same_block v.place x x n x m Use.Bin Use.Bin at (subst (λ b. v.place b ≡ Place.Block b m Use.Bin) q f)).1
    length_is e z m q (inr (s, (p, j, f, g))) =
        absurd (not_held m p j (subst (λ b. v.place b ≡ Place.Block b m (Use.Held p j)) q f))

    pick : (k e : Side) (z : ℕ) → (IsAt e z k (edge_of k x n) → ⊥)
        → (IsAt e z (other_side k) (edge_of (other_side k) x n) → ⊥) → z ≡ edge_of e x n → ⊥
    pick Side.Begin Side.Begin z a b c = a (refl, c)
    pick Side.Begin Side.End z a b c = b (refl, c)
    pick Side.End Side.Begin z a b c = b (refl, c)
    pick Side.End Side.End z a b c = a (refl, c)

    edge_not : (e : Side) (z f m : ℕ) → (IsAt e z k y → ⊥) → (IsAt e z o y' → ⊥) → edge_of e f m ≡ z → f ≡ x
        → IsOffered v.place v.pieces e f m → ⊥
    edge_not e z f m no1 no2 is q h = pick k e z no1 no2
        (sym is ∙ ap (λ j. edge_of e j m) q ∙ ap (edge_of e x) (length_is e f m q h))

    still_won : (e : Side) (z m p : ℕ) (j : Taking) → at_edge stands e z ≡ Standing.Won m p j
        → (at_edge v.standing e z ≡ Standing.Won m p j) × (IsAt e z k y → ⊥)
    still_won e z m p j = edge_each
        (λ e z s. s ≡ Standing.Won m p j → (at_edge v.standing e z ≡ Standing.Won m p j) × (IsAt e z k y → ⊥))
        o y' R (set_edge k y R v.standing)
        (λ e z _. edge_each (λ e z s. s ≡ Standing.Won m p j
        → (at_edge v.standing e z ≡ Standing.Won m p j) × (IsAt e z k y → ⊥)) k y R v.standing
        (λ e z never f. (f, never)) (λ f. absurd (rest_is_not_of taking m (subst (IsOf m) (sym f) refl))) e z)
        (λ f. absurd (rest_is_not_of taking m (subst (IsOf m) (sym f) refl))) e z

    half_same : (e : Side) (f z m : ℕ) (j : Taking) → Half.HalfOf k x n taking ≡ Half.HalfOf e f m j
        → edge_of e f m ≡ z → IsAt e z k y
    half_same e f z m j q is =
        let q0 : k ≡ e = cc in let q1 : x ≡ f = cc in let q2 : n ≡ m = cc in
        (sym q0, sym is ∙ sym (ap (λ b. edge_of b x n) q0 ∙ ap (λ b. edge_of e b n) q1 ∙ ap (edge_of e f) q2))

    still : (e : Side) (z m p : ℕ) (j : Taking) → p ≢ t → at_edge v.standing e z ≡ Standing.Won m p j
        → at_edge stands e z ≡ Standing.Won m p j
    still e z m p j ne f =
        edge_else o y' R (set_edge k y R v.standing) e z
        (λ q. open_won (sym open' ∙ sym (ap (λ b. at_edge v.standing b z) q.0 ∙ ap (at_edge v.standing o) q.1) ∙ f))
        ∙ edge_else k y R v.standing e z
        (λ q. ne (won_seat (sym mine ∙ sym (ap (λ b. at_edge v.standing b z) q.0 ∙ ap (at_edge v.standing k) q.1) ∙ f)))
        ∙ f
      where
        open_won : Standing.Open n ≡ Standing.Won m p j → ⊥
        open_won q = cc

        won_seat : Standing.Won n t taking ≡ Standing.Won m p j → p ≡ t
        won_seat q = cc

-- a guard that was won alone is given back
pub given_back : (span : ℕ) (v : View) (t : ℕ) (taking : Taking) (k : Side) (x n w : ℕ)
    → v.halves t ≡ Half.HalfOf k x n taking → guard_of w ≡ Guard.Free n → Parts span v
    → Parts span (record v {
      standing = set_edge k (edge_of k x n) (Standing.Open n) v.standing;
      words = set_edge k (edge_of k x n) w v.words;
      halves = put v.halves t Half.NoHalf;
    })
given_back span v t taking k x n w half told parts = record {
  whole = parts.whole;
  within = parts.within;
  words_fit = edge_both (λ e z s g. GuardFits s (guard_of g)) k y now w v.standing v.words parts.words_fit told;
  edges_fit = λ e b m u at. edge_each
      (λ j z s. EdgeFits v.pieces j u b m (at_edge v.standing j z) → EdgeFits v.pieces j u b m s) k y now v.standing
      (λ _ _ _ f. f)
      (λ f. edge_kept v.pieces k u b m n (at_edge v.standing k y) now (subst (IsOf n) (sym mine) refl)
      (λ j h. subst (IsOf j) mine h) f) e (edge_of e b m) (parts.edges_fit e b m u at);
  offers = λ e z m h. parts.offers e z m (edge_each (λ j b s. IsOf m s → IsOf m (at_edge v.standing j b)) k y now
      v.standing (λ _ _ _ f. f) (λ f. subst (IsOf m) (sym mine) f) e z h);
  won_is = edge_each (λ e z s. (m o : ℕ) (j : Taking) → s ≡ Standing.Won m o j
      → (f : ℕ) × (edge_of e f m ≡ z) × (put v.halves t Half.NoHalf o ≡ Half.HalfOf e f m j)) k y now v.standing
      (λ e z never m o j f. let old = parts.won_is e z m o j f in (
        old.0,
        old.1,
        put-other v.halves t Half.NoHalf o
            (λ q. never (half_same e old.0 z m j (sym half ∙ ap v.halves (sym q) ∙ old.2) old.1)) ∙ old.2,
      ))
      (λ m o j f. absurd (cc));
  half_is = each (λ o h. (e : Side) (f m : ℕ) (j : Taking) → h ≡ Half.HalfOf e f m j
      → at_edge (set_edge k y now v.standing) e (edge_of e f m) ≡ Standing.Won m o j) v.halves t Half.NoHalf
      (λ o ne e f m j h. let old = parts.half_is o e f m j h in edge_else k y now v.standing e (edge_of e f m)
      (λ q. ne (won_seat m o j (sym mine ∙ sym (ap (λ b. at_edge v.standing b (edge_of e f m)) q.0
      ∙ ap (at_edge v.standing k) q.1) ∙ old))) ∙ old)
      (λ e f m j h. absurd (cc));
  piece_is = λ o f m p. let old = parts.piece_is o f m p in (
    old.0,
    edge_each (λ j b s. IsOf m (at_edge v.standing j b) → IsOf m s) k y now v.standing (λ _ _ _ h. h)
        (λ h. subst (IsOf m) mine h) Side.Begin f old.1,
  );
}
  where
    y : ℕ
    y = edge_of k x n

    now : Standing
    now = Standing.Open n

    mine : at_edge v.standing k y ≡ Standing.Won n t taking
    mine = parts.half_is t k x n taking half

    won_seat : (m o : ℕ) (j : Taking) → Standing.Won n t taking ≡ Standing.Won m o j → o ≡ t
    won_seat m o j q = cc

    half_same : (e : Side) (f z m : ℕ) (j : Taking) → Half.HalfOf k x n taking ≡ Half.HalfOf e f m j
        → edge_of e f m ≡ z → IsAt e z k y
    half_same e f z m j q is =
        let q0 : k ≡ e = cc in let q1 : x ≡ f = cc in let q2 : n ≡ m = cc in
        (sym q0, sym is ∙ sym (ap (λ b. edge_of b x n) q0 ∙ ap (λ b. edge_of e b n) q1 ∙ ap (edge_of e f) q2))

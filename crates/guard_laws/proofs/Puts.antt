-- A block in hand is offered, at its begin and then at its end, and is in a bin.
use Rattle.std.proofs.Common.{◌≡◌, ◌≢◌, ◌⊎◌, inl, inr, ℕ, ◌+◌, ◌≤◌, refl, sym, ap, subst, arith, ◌∙◌}
use Rattle.word_codes.specs.declared.guards.Guard.{Guard}
use Rattle.word_codes.specs.Guards.{guard_of}
use Rattle.guards.specs.declared.win.Side.{Side}
use Rattle.guards.specs.declared.win.Taking.{Taking}
use Rattle.word_laws.specs.Memory.{put}
use Rattle.word_laws.proofs.CallerLemmas.{equal_or, put-same, put-other, each}
use Rattle.guard_laws.specs.Blocks.{Use, Place, Standing, Piece, Edges, at_edge, set_edge, edge_of, put_range, View}
use Rattle.guard_laws.specs.Blocks.{GuardFits, IsOf, rest_of, EdgeFits, IsOffered, Parts}
use Rattle.guard_laws.proofs.Edges.{edge_each, edge_both, edge_else, range_in, range_out}
use Rattle.guard_laws.proofs.Blocks.{same_block, blocks_apart, edges_apart, use_was, whole_used}

rest_won : (taking j : Taking) (m o : ℕ) → rest_of taking ≡ Standing.Won m o j → ⊥
rest_won Taking.ForUse j m o q = cc
rest_won Taking.ToJoin j m o q = cc

-- a seat that offers another block, or none, still does
other_edge : (pieces : ℕ → Piece) (t : ℕ) (p : Piece) (e : Side) (u : Use) (z m : ℕ) (s : Standing)
    → (Piece.Got z m ≡ pieces t → ⊥) → EdgeFits pieces e u z m s → EdgeFits (put pieces t p) e u z m s
other_edge pieces t p e Use.Bin z m s never f = f
other_edge pieces t p e (Use.Held o taking) z m s never (inl f) = inl f
other_edge pieces t p e (Use.Held o taking) z m s never (inr (b, g, f)) =
    inr (b, put-other pieces t p o (λ q. never (sym g ∙ ap pieces q)) ∙ g, f)
other_edge pieces t p e Use.Queued z m s never f = f
other_edge pieces t p e Use.Elsewhere z m s never f = f

-- G3: the block is offered at its begin
pub offered_begin : (span : ℕ) (v : View) (t : ℕ) (taking : Taking) (x n w : ℕ) → v.pieces t ≡ Piece.NoPiece
    → v.place x ≡ Place.Block x n (Use.Held t taking) → guard_of w ≡ Guard.Free n → Parts span v
    → Parts span (record v {
      standing = set_edge Side.Begin x (Standing.Open n) v.standing;
      words = set_edge Side.Begin x w v.words;
      pieces = put v.pieces t (Piece.Got x n);
    })
offered_begin span v t taking x n w none at told parts = record {
  whole = parts.whole;
  within = parts.within;
  words_fit = edge_both (λ e z s g. GuardFits s (guard_of g)) Side.Begin x now w v.standing v.words parts.words_fit
      told;
  edges_fit = λ e z m u f. equal_or z x
      (λ same. at_x e z m u same f)
      (λ ne. other_edge v.pieces t mine e u z m (at_edge stands e (edge_of e z m)) (λ q. no_piece (q ∙ none))
      (subst (EdgeFits v.pieces e u z m) (sym (edge_else Side.Begin x now v.standing e (edge_of e z m)
      (λ q. edges_apart v.place Side.Begin e x n z m (Use.Held t taking) u parts.whole at f ne q.0 q.1)))
      (parts.edges_fit e z m u f)));
  offers = edge_each
      (λ e z s. (m : ℕ) → IsOf m s → (f : ℕ) × (edge_of e f m ≡ z) × IsOffered v.place (put v.pieces t mine) e f m)
      Side.Begin x now v.standing
      (λ e z _ m h. let old = parts.offers e z m h in (old.0, old.1, kept e old.0 m old.2))
      (λ m h. (
        x,
        refl,
        inr (
          refl,
          (
            t,
            taking,
            at ∙ ap (λ b. Place.Block x b (Use.Held t taking)) h,
            put-same v.pieces t mine ∙ ap (Piece.Got x) h,
          ),
        ),
      ));
  won_is = λ e z m o j f. parts.won_is e z m o j (edge_each
      (λ e z s. s ≡ Standing.Won m o j → at_edge v.standing e z ≡ Standing.Won m o j) Side.Begin x now v.standing
      (λ _ _ _ g. g) (λ g. absurd (cc)) e z f);
  half_is = λ o e f m j h. let old = parts.half_is o e f m j h in
      edge_else Side.Begin x now v.standing e (edge_of e f m) (λ q. rest_won taking j m o
      (sym rests ∙ sym (ap (λ b. at_edge v.standing b (edge_of e f m)) q.0 ∙ ap (at_edge v.standing Side.Begin) q.1)
      ∙ old)) ∙ old;
  piece_is = each (λ o p. (z m : ℕ) → p ≡ Piece.Got z m
      → ((j : Taking) × (v.place z ≡ Place.Block z m (Use.Held o j))) × IsOf m (stands.begins z)) v.pieces t mine
      (λ o ne z m f. let old = parts.piece_is o z m f in (
        old.0,
        subst (IsOf m) (sym (put-other v.standing.begins x now z
            (λ q. ne (one_hand m o old.0.0 (subst (λ b. v.place b ≡ Place.Block b m (Use.Held o old.0.0)) q old.0.1)))))
            old.1,
      ))
      got;
}
  where
    now : Standing
    now = Standing.Open n

    mine : Piece
    mine = Piece.Got x n

    stands : Edges Standing
    stands = set_edge Side.Begin x now v.standing

    no_piece : {z m : ℕ} → Piece.Got z m ≡ Piece.NoPiece → ⊥
    no_piece q = cc

    rests : v.standing.begins x ≡ rest_of taking
    rests = go (parts.edges_fit Side.Begin x n (Use.Held t taking) at)
      where
        go : (v.standing.begins x ≡ rest_of taking)
            ⊎ ((Side.Begin ≡ Side.Begin) × (v.pieces t ≡ mine) × IsOf n (v.standing.begins x))
            → v.standing.begins x ≡ rest_of taking
        go (inl f) = f
        go (inr (s, p, f)) = absurd (no_piece (sym p ∙ none))

    one_hand : (m o : ℕ) (j : Taking) → v.place x ≡ Place.Block x m (Use.Held o j) → o ≡ t
    one_hand m o j f = let q : Place.Block x n (Use.Held t taking) ≡ Place.Block x m (Use.Held o j) = sym at ∙ f in cc

    here : IsOf n (stands.begins x)
    here = subst (IsOf n) (sym (put-same v.standing.begins x now)) refl

    got : (z m : ℕ) → mine ≡ Piece.Got z m
        → ((j : Taking) × (v.place z ≡ Place.Block z m (Use.Held t j))) × IsOf m (stands.begins z)
    got z m q =
        let q0 : x ≡ z = cc in let q1 : n ≡ m = cc in
        subst (λ b. ((j : Taking) × (v.place b ≡ Place.Block b m (Use.Held t j))) × IsOf m (stands.begins b)) q0
        (subst (λ b. ((j : Taking) × (v.place x ≡ Place.Block x b (Use.Held t j))) × IsOf b (stands.begins x)) q1
        ((taking, at), here))

    kept : (e : Side) (z m : ℕ) → IsOffered v.place v.pieces e z m → IsOffered v.place (put v.pieces t mine) e z m
    kept e z m (inl f) = inl f
    kept e z m (inr (s, (o, j, f, p))) =
        inr (s, (o, j, f, put-other v.pieces t mine o (λ q. no_piece (sym p ∙ ap v.pieces q ∙ none)) ∙ p))

    at_begin : (e : Side) → EdgeFits (put v.pieces t mine) e (Use.Held t taking) x n (at_edge stands e (edge_of e x n))
    at_begin Side.Begin = inr (refl, put-same v.pieces t mine, here)
    at_begin Side.End = go (parts.edges_fit Side.End x n (Use.Held t taking) at)
      where
        go : (v.standing.ends (x + n) ≡ rest_of taking)
            ⊎ ((Side.End ≡ Side.Begin) × (v.pieces t ≡ mine) × IsOf n (v.standing.ends (x + n)))
            → (v.standing.ends (x + n) ≡ rest_of taking)
            ⊎ ((Side.End ≡ Side.Begin) × (put v.pieces t mine t ≡ mine) × IsOf n (v.standing.ends (x + n)))
        go (inl f) = inl f
        go (inr (s, p, f)) = absurd (cc)

    at_x : (e : Side) (z m : ℕ) (u : Use) → z ≡ x → v.place z ≡ Place.Block z m u
        → EdgeFits (put v.pieces t mine) e u z m (at_edge stands e (edge_of e z m))
    at_x e z m u same f =
        let q = same_block v.place x x n x m (Use.Held t taking) u at
        (subst (λ b. v.place b ≡ Place.Block b m u) same f) in
        subst (λ b. EdgeFits (put v.pieces t mine) e u b m (at_edge stands e (edge_of e b m))) (sym same)
        (subst (λ b. EdgeFits (put v.pieces t mine) e u x b (at_edge stands e (edge_of e x b))) q.1
        (subst (λ b. EdgeFits (put v.pieces t mine) e b x n (at_edge stands e (edge_of e x n))) q.2 (at_begin e)))

-- G4: and at its end
pub offered_end : (span : ℕ) (v : View) (t x n w : ℕ) → v.pieces t ≡ Piece.Got x n → guard_of w ≡ Guard.Free n
    → Parts span v
    → Parts span (record v {
      place = put_range v.place x n (Place.Block x n Use.Bin);
      standing = set_edge Side.End (x + n) (Standing.Open n) v.standing;
      words = set_edge Side.End (x + n) w v.words;
      pieces = put v.pieces t Piece.NoPiece;
    })
offered_end span v t x n w is told parts = record {
  whole = whole_used v.place x n (Use.Held t taking) Use.Bin at parts.whole;
  within = λ z m u f. within_of z m u (use_was v.place x n (Use.Held t taking) Use.Bin parts.whole at z m u f);
  words_fit = edge_both (λ e z s g. GuardFits s (guard_of g)) Side.End (x + n) now w v.standing v.words parts.words_fit
      told;
  edges_fit = λ e z m u f.
      edges_of e z m u (use_was v.place x n (Use.Held t taking) Use.Bin parts.whole at z m u f);
  offers = edge_each
      (λ e z s. (m : ℕ) → IsOf m s → (f : ℕ) × (edge_of e f m ≡ z) × IsOffered new (put v.pieces t none) e f m)
      Side.End (x + n) now v.standing
      (λ e z _ m h. let old = parts.offers e z m h in (old.0, old.1, kept e old.0 m old.2))
      (λ m h. (x, ap (λ b. x + b) (sym h), inl (here ∙ ap (λ b. Place.Block x b Use.Bin) h)));
  won_is = λ e z m o j f. parts.won_is e z m o j (edge_each
      (λ e z s. s ≡ Standing.Won m o j → at_edge v.standing e z ≡ Standing.Won m o j) Side.End (x + n) now v.standing
      (λ _ _ _ g. g) (λ g. absurd (cc)) e z f);
  half_is = λ o e f m j h. let old = parts.half_is o e f m j h in
      edge_else Side.End (x + n) now v.standing e (edge_of e f m) (λ q. rest_won taking j m o
      (sym rests ∙ sym (ap (λ b. at_edge v.standing b (edge_of e f m)) q.0 ∙ ap (at_edge v.standing Side.End) q.1)
      ∙ old)) ∙ old;
  piece_is = each (λ o p. (z m : ℕ) → p ≡ Piece.Got z m
      → ((j : Taking) × (new z ≡ Place.Block z m (Use.Held o j))) × IsOf m (v.standing.begins z)) v.pieces t none
      (λ o ne z m f. let old = parts.piece_is o z m f in (
        (
          old.0.0,
          other_kept z m (Use.Held o old.0.0)
              (λ q. ne (one_hand m o old.0.0 (subst (λ b. v.place b ≡ Place.Block b m (Use.Held o old.0.0)) q old.0.1)))
              old.0.1,
        ),
        old.1,
      ))
      (λ z m f. absurd (cc));
}
  where
    none : Piece
    none = Piece.NoPiece

    now : Standing
    now = Standing.Open n

    taking : Taking
    taking = (parts.piece_is t x n is).0.0

    at : v.place x ≡ Place.Block x n (Use.Held t taking)
    at = (parts.piece_is t x n is).0.1

    new : ℕ → Place
    new = put_range v.place x n (Place.Block x n Use.Bin)

    stands : Edges Standing
    stands = set_edge Side.End (x + n) now v.standing

    here : new x ≡ Place.Block x n Use.Bin
    here = let l = (parts.whole x x n (Use.Held t taking) at).below in
        range_in v.place x n (Place.Block x n Use.Bin) x (omega arith) l

    within_of : (z m : ℕ) (u : Use)
        → ((z ≡ x) × (m ≡ n) × (u ≡ Use.Bin)) ⊎ ((z ≢ x) × (v.place z ≡ Place.Block z m u)) → z + m ≤ span
    within_of z m u (inl (a, b, c)) = let l = parts.within x n (Use.Held t taking) at in omega arith
    within_of z m u (inr (ne, f)) = parts.within z m u f

    rests : v.standing.ends (x + n) ≡ rest_of taking
    rests = go (parts.edges_fit Side.End x n (Use.Held t taking) at)
      where
        go : (v.standing.ends (x + n) ≡ rest_of taking)
            ⊎ ((Side.End ≡ Side.Begin) × (v.pieces t ≡ Piece.Got x n) × IsOf n (v.standing.ends (x + n)))
            → v.standing.ends (x + n) ≡ rest_of taking
        go (inl f) = f
        go (inr (s, p, f)) = absurd (cc)

    one_hand : (m o : ℕ) (j : Taking) → v.place x ≡ Place.Block x m (Use.Held o j) → o ≡ t
    one_hand m o j f = let q : Place.Block x n (Use.Held t taking) ≡ Place.Block x m (Use.Held o j) = sym at ∙ f in cc

    other_kept : (z m : ℕ) (u : Use) → z ≢ x → v.place z ≡ Place.Block z m u → new z ≡ Place.Block z m u
    other_kept z m u ne f = range_out v.place x n (Place.Block x n Use.Bin) z
        (blocks_apart v.place x n z m (Use.Held t taking) u parts.whole at f ne).out ∙ f

    got_other : (z m : ℕ) → z ≢ x → Piece.Got z m ≡ Piece.Got x n → ⊥
    got_other z m ne q = ne (cc)

    at_both : (e : Side) → IsOf n (at_edge stands e (edge_of e x n))
    at_both Side.Begin = (parts.piece_is t x n is).1
    at_both Side.End = subst (IsOf n) (sym (put-same v.standing.ends (x + n) now)) refl

    edges_of : (e : Side) (z m : ℕ) (u : Use)
        → ((z ≡ x) × (m ≡ n) × (u ≡ Use.Bin)) ⊎ ((z ≢ x) × (v.place z ≡ Place.Block z m u))
        → EdgeFits (put v.pieces t none) e u z m (at_edge stands e (edge_of e z m))
    edges_of e z m u (inl (a, b, c)) =
        subst (λ j. EdgeFits (put v.pieces t none) e j z m (at_edge stands e (edge_of e z m))) (sym c)
        (subst (λ j. IsOf j (at_edge stands e (edge_of e z j))) (sym b)
        (subst (λ j. IsOf n (at_edge stands e (edge_of e j n))) (sym a) (at_both e)))
    edges_of e z m u (inr (ne, f)) = other_edge v.pieces t none e u z m (at_edge stands e (edge_of e z m))
        (λ q. got_other z m ne (q ∙ is))
        (subst (EdgeFits v.pieces e u z m) (sym (edge_else Side.End (x + n) now v.standing e (edge_of e z m)
        (λ q. edges_apart v.place Side.End e x n z m (Use.Held t taking) u parts.whole at f ne q.0 q.1)))
        (parts.edges_fit e z m u f))

    kept : (e : Side) (z m : ℕ) → IsOffered v.place v.pieces e z m → IsOffered new (put v.pieces t none) e z m
    kept e z m (inl f) =
        inl (other_kept z m Use.Bin (λ q. not_bin m (subst (λ b. v.place b ≡ Place.Block b m Use.Bin) q f)) f)
      where
        not_bin : (m : ℕ) → v.place x ≡ Place.Block x m Use.Bin → ⊥
        not_bin m f =
            let q : Place.Block x n (Use.Held t taking) ≡ Place.Block x m Use.Bin = sym at ∙ f in absurd (cc)
    kept e z m (inr (s, (o, j, f, p))) = equal_or z x
        (λ same. inl (
        let q = (same_block v.place x x n x m (Use.Held t taking) (Use.Held o j) at
        (subst (λ b. v.place b ≡ Place.Block b m (Use.Held o j)) same f)).1 in
        subst (λ b. new b ≡ Place.Block b m Use.Bin) (sym same) (here ∙ ap (λ b. Place.Block x b Use.Bin) q)))
        (λ ne. inr (
          s,
          (
            o,
            j,
            other_kept z m (Use.Held o j) ne f,
            put-other v.pieces t none o (λ q. got_other z m ne (sym p ∙ ap v.pieces q ∙ is)) ∙ p,
          ),
        ))

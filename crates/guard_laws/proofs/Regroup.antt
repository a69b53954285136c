-- Blocks that are in no bin have another use, are cut, joined, come or leave; and guards where no block is offered say
-- something else.
use Rattle.std.proofs.Common.{◌≡◌, ◌≢◌, ◌⊎◌, inl, inr, ℕ, ◌+◌, ◌≤◌, refl, sym, ap, subst, arith, ◌∙◌}
use Rattle.std.specs.Prelude.{⊤}
use Rattle.word_codes.specs.Guards.{guard_of}
use Rattle.guards.specs.declared.win.Side.{Side}
use Rattle.guards.specs.declared.win.Taking.{Taking}
use Rattle.guard_laws.specs.Blocks.{Use, Place, Standing, Piece, Edges, at_edge, set_edge, edge_of, put_range, View}
use Rattle.guard_laws.specs.Blocks.{GuardFits, IsOf, rest_of, EdgeFits, BlocksWhole, IsOffered, Parts}
use Rattle.guard_laws.specs.Steps.{standing_of}
use Rattle.guard_laws.proofs.Edges.{edge_each, edge_both, edge_here, edge_else, range_out}
use Rattle.guard_laws.proofs.Blocks.{same_block, blocks_apart, edges_apart, use_was, whole_used}

-- all offers stay, and no other comes
pub record SameOffers (f f' : Edges Standing) : Type 0 where
  pub old : (e : Side) (y n : ℕ) → IsOf n (at_edge f e y) → at_edge f' e y ≡ at_edge f e y
  pub new : (e : Side) (y n : ℕ) → IsOf n (at_edge f' e y) → at_edge f' e y ≡ at_edge f e y

pub record Regrouped (span : ℕ) (v : View) (place : ℕ → Place) (standing : Edges Standing) (words : Edges ℕ)
    : Type 0 where
  pub whole : BlocksWhole place
  pub within : (x n : ℕ) (u : Use) → place x ≡ Place.Block x n u → x + n ≤ span
  pub words_fit : (e : Side) (y : ℕ) → GuardFits (at_edge standing e y) (guard_of (at_edge words e y))
  pub edges_fit : (e : Side) (x n : ℕ) (u : Use) → place x ≡ Place.Block x n u
      → EdgeFits v.pieces e u x n (at_edge standing e (edge_of e x n))
  pub bins : (x n : ℕ) → v.place x ≡ Place.Block x n Use.Bin → place x ≡ Place.Block x n Use.Bin
  pub put_stays : (t x n : ℕ) (taking : Taking) → v.pieces t ≡ Piece.Got x n
      → v.place x ≡ Place.Block x n (Use.Held t taking) → place x ≡ Place.Block x n (Use.Held t taking)
  pub offers : SameOffers v.standing standing

pub regrouped : (span : ℕ) (v : View) (place : ℕ → Place) (standing : Edges Standing) (words : Edges ℕ)
    → Parts span v → Regrouped span v place standing words
    → Parts span (record v { place = place; standing = standing; words = words })
regrouped span v place standing words parts now = record {
  whole = now.whole;
  within = now.within;
  words_fit = now.words_fit;
  edges_fit = now.edges_fit;
  offers = λ e y n h. let old = parts.offers e y n (subst (IsOf n) (now.offers.new e y n h) h) in
      (old.0, old.1, kept e old.0 n old.2);
  won_is = λ e y n t taking f. parts.won_is e y n t taking
      (sym (now.offers.new e y n (subst (IsOf n) (sym f) refl)) ∙ f);
  half_is = λ t e x n taking f. let old = parts.half_is t e x n taking f in
      now.offers.old e (edge_of e x n) n (subst (IsOf n) (sym old) refl) ∙ old;
  piece_is = λ t x n p. let old = parts.piece_is t x n p in (
    (old.0.0, now.put_stays t x n old.0.0 p old.0.1),
    subst (IsOf n) (sym (now.offers.old Side.Begin x n old.1)) old.1,
  );
}
  where
    kept : (e : Side) (x n : ℕ) → IsOffered v.place v.pieces e x n → IsOffered place v.pieces e x n
    kept e x n (inl f) = inl (now.bins x n f)
    kept e x n (inr (s, (t, taking, f, p))) = inr (s, (t, taking, now.put_stays t x n taking p f, p))

-- an edge where nothing is offered, neither before nor after
pub quiet_edge : (f : Edges Standing) (k : Side) (y : ℕ) (s : Standing) → ((n : ℕ) → IsOf n (at_edge f k y) → ⊥)
    → ((n : ℕ) → IsOf n s → ⊥) → SameOffers f (set_edge k y s f)
quiet_edge f k y s was now = record {
  old = λ e z n. edge_each (λ e z r. IsOf n (at_edge f e z) → r ≡ at_edge f e z) k y s f (λ _ _ _ _. refl)
      (λ h. absurd (was n h)) e z;
  new = λ e z n. edge_each (λ e z r. IsOf n r → r ≡ at_edge f e z) k y s f (λ _ _ _ _. refl)
      (λ h. absurd (now n h)) e z;
}

pub offers_then : (f g h : Edges Standing) → SameOffers f g → SameOffers g h → SameOffers f h
offers_then f g h a b = record {
  old = λ e y n o. let p = a.old e y n o in b.old e y n (subst (IsOf n) (sym p) o) ∙ p;
  new = λ e y n o. let p = b.new e y n o in p ∙ a.new e y n (subst (IsOf n) p o);
}

-- words at an edge where nothing is offered
pub edge_written : (span : ℕ) (v : View) (k : Side) (y : ℕ) (s : Standing) (w : ℕ)
    → ((n : ℕ) → IsOf n (at_edge v.standing k y) → ⊥) → ((n : ℕ) → IsOf n s → ⊥) → GuardFits s (guard_of w)
    → ((x n : ℕ) (u : Use) → v.place x ≡ Place.Block x n u → edge_of k x n ≡ y → EdgeFits v.pieces k u x n s)
    → Parts span v
    → Parts span (record v { standing = set_edge k y s v.standing; words = set_edge k y w v.words })
edge_written span v k y s w was now fits edge parts =
    regrouped span v v.place (set_edge k y s v.standing) (set_edge k y w v.words) parts (record {
      whole = parts.whole;
      within = parts.within;
      words_fit = edge_both (λ e z s g. GuardFits s (guard_of g)) k y s w v.standing v.words parts.words_fit fits;
      edges_fit = λ e x n u at. edge_each
          (λ e z s. edge_of e x n ≡ z → EdgeFits v.pieces e u x n s) k y s v.standing
          (λ e z _ q. subst (λ b. EdgeFits v.pieces e u x n (at_edge v.standing e b)) q (parts.edges_fit e x n u at))
          (λ q. edge x n u at q) e (edge_of e x n) refl;
      bins = λ x n f. f;
      put_stays = λ t x n taking p f. f;
      offers = quiet_edge v.standing k y s was now;
    })

-- a guard is marked, and what stands behind it stays
pub word_marked : (span : ℕ) (v : View) (k : Side) (y w : ℕ) → GuardFits (at_edge v.standing k y) (guard_of w)
    → Parts span v → Parts span (record v { words = set_edge k y w v.words })
word_marked span v k y w fits parts = record {
  whole = parts.whole;
  within = parts.within;
  words_fit = edge_each (λ e z g. GuardFits (at_edge v.standing e z) (guard_of g)) k y w v.words
      (λ e z _. parts.words_fit e z) fits;
  edges_fit = parts.edges_fit;
  offers = parts.offers;
  won_is = parts.won_is;
  half_is = parts.half_is;
  piece_is = parts.piece_is;
}

-- nothing is offered where no block has that edge
pub no_offer : (span : ℕ) (v : View) (k : Side) (y : ℕ)
    → ((x n : ℕ) (u : Use) → v.place x ≡ Place.Block x n u → edge_of k x n ≢ y) → Parts span v
    → (n : ℕ) → IsOf n (at_edge v.standing k y) → ⊥
no_offer span v k y none parts n h = let o = parts.offers k y n h in go o.0 o.1 o.2
  where
    go : (x : ℕ) → edge_of k x n ≡ y → IsOffered v.place v.pieces k x n → ⊥
    go x q (inl f) = none x n Use.Bin f q
    go x q (inr (s, (t, taking, f, p))) = none x n (Use.Held t taking) f q

-- a block in no bin that no seat offers
abbrev pub IsQuiet : View → ℕ → ℕ → Use → Type 0
IsQuiet v x n Use.Bin = ⊥
IsQuiet v x n (Use.Held t taking) = v.pieces t ≡ Piece.Got x n → ⊥
IsQuiet v x n Use.Queued = ⊤
IsQuiet v x n Use.Elsewhere = ⊤

pub standing_is_not_of : (u : Use) (n : ℕ) → IsOf n (standing_of u) → ⊥
standing_is_not_of Use.Bin n f = f
standing_is_not_of (Use.Held t Taking.ForUse) n f = f
standing_is_not_of (Use.Held t Taking.ToJoin) n f = f
standing_is_not_of Use.Queued n f = f
standing_is_not_of Use.Elsewhere n f = f

pub quiet_stands : (span : ℕ) (v : View) (x n : ℕ) (u : Use) (e : Side) → v.place x ≡ Place.Block x n u
    → IsQuiet v x n u → Parts span v → at_edge v.standing e (edge_of e x n) ≡ standing_of u
quiet_stands span v x n Use.Bin e at quiet parts = absurd quiet
quiet_stands span v x n (Use.Held t taking) e at quiet parts = go (parts.edges_fit e x n (Use.Held t taking) at)
  where
    go : (at_edge v.standing e (edge_of e x n) ≡ rest_of taking)
        ⊎ ((e ≡ Side.Begin) × (v.pieces t ≡ Piece.Got x n) × IsOf n (at_edge v.standing e (edge_of e x n)))
        → at_edge v.standing e (edge_of e x n) ≡ rest_of taking
    go (inl f) = f
    go (inr (s, p, f)) = absurd (quiet p)
quiet_stands span v x n Use.Queued e at quiet parts = parts.edges_fit e x n Use.Queued at
quiet_stands span v x n Use.Elsewhere e at quiet parts = parts.edges_fit e x n Use.Elsewhere at

pub quiet_offers : (span : ℕ) (v : View) (x n : ℕ) (u : Use) (e : Side) → v.place x ≡ Place.Block x n u
    → IsQuiet v x n u → Parts span v → (m : ℕ) → IsOf m (at_edge v.standing e (edge_of e x n)) → ⊥
quiet_offers span v x n u e at quiet parts m h =
    standing_is_not_of u m (subst (IsOf m) (quiet_stands span v x n u e at quiet parts) h)

pub is_at_rest : (pieces : ℕ → Piece) (e : Side) (u : Use) (x n : ℕ) (s : Standing) → (u ≡ Use.Bin → ⊥)
    → s ≡ standing_of u → EdgeFits pieces e u x n s
is_at_rest pieces e Use.Bin x n s never f = absurd (never refl)
is_at_rest pieces e (Use.Held t taking) x n s never f = inl f
is_at_rest pieces e Use.Queued x n s never f = f
is_at_rest pieces e Use.Elsewhere x n s never f = f

-- both edges of a block
pub at_both : (f : Edges Standing) (x n : ℕ) (s : Standing) (e : Side)
    → at_edge (set_edge Side.End (x + n) s (set_edge Side.Begin x s f)) e (edge_of e x n) ≡ s
at_both f x n s Side.Begin = edge_here Side.Begin x s f
at_both f x n s Side.End = edge_here Side.End (x + n) s (set_edge Side.Begin x s f)

-- a block has another use
pub reused : (span : ℕ) (v : View) (x n : ℕ) (was now : Use) → (now ≡ Use.Bin → ⊥)
    → v.place x ≡ Place.Block x n was → IsQuiet v x n was
    → ((e : Side) → GuardFits (standing_of now) (guard_of (at_edge v.words e (edge_of e x n)))) → Parts span v
    → Parts span (record v {
      place = put_range v.place x n (Place.Block x n now);
      standing = set_edge Side.End (x + n) (standing_of now) (set_edge Side.Begin x (standing_of now) v.standing);
    })
reused span v x n was now no_bin at quiet fits parts = regrouped span v new stands v.words parts (record {
  whole = whole_used v.place x n was now at parts.whole;
  within = λ z m u f. within_of z m u (use_was v.place x n was now parts.whole at z m u f);
  words_fit = edge_each (λ e z s. GuardFits s (guard_of (at_edge v.words e z))) Side.End (x + n) s first
      (λ e z _. edge_each (λ e z s. GuardFits s (guard_of (at_edge v.words e z))) Side.Begin x s v.standing
      (λ e z _. parts.words_fit e z) (fits Side.Begin) e z) (fits Side.End);
  edges_fit = λ e z m u f. edges_of e z m u (use_was v.place x n was now parts.whole at z m u f);
  bins = λ z m f. kept z m Use.Bin (λ q. not_bin was quiet (is_was z m Use.Bin q f)) f;
  put_stays = λ t z m taking p f. kept z m (Use.Held t taking)
      (λ q. not_got was quiet t z m taking q (is_was z m (Use.Held t taking) q f) (is_long z m
      (Use.Held t taking) q f) p) f;
  offers = offers_then v.standing first stands
      (quiet_edge v.standing Side.Begin x s (quiet_offers span v x n was Side.Begin at quiet parts)
      (standing_is_not_of now))
      (quiet_edge first Side.End (x + n) s (quiet_offers span v x n was Side.End at quiet parts)
      (standing_is_not_of now));
})
  where
    s : Standing
    s = standing_of now

    new : ℕ → Place
    new = put_range v.place x n (Place.Block x n now)

    first : Edges Standing
    first = set_edge Side.Begin x s v.standing

    stands : Edges Standing
    stands = set_edge Side.End (x + n) s first

    within_of : (z m : ℕ) (u : Use)
        → ((z ≡ x) × (m ≡ n) × (u ≡ now)) ⊎ ((z ≢ x) × (v.place z ≡ Place.Block z m u)) → z + m ≤ span
    within_of z m u (inl (a, b, c)) = let l = parts.within x n was at in omega arith
    within_of z m u (inr (ne, f)) = parts.within z m u f

    is_was : (z m : ℕ) (u : Use) → z ≡ x → v.place z ≡ Place.Block z m u → was ≡ u
    is_was z m u q f =
        (same_block v.place x x n x m was u at (subst (λ b. v.place b ≡ Place.Block b m u) q f)).2

    is_long : (z m : ℕ) (u : Use) → z ≡ x → v.place z ≡ Place.Block z m u → n ≡ m
    is_long z m u q f =
        (same_block v.place x x n x m was u at (subst (λ b. v.place b ≡ Place.Block b m u) q f)).1

    not_bin : (was : Use) → IsQuiet v x n was → was ≡ Use.Bin → ⊥
    not_bin was quiet q = subst (IsQuiet v x n) q quiet

    not_got : (was : Use) → IsQuiet v x n was → (t z m : ℕ) (taking : Taking) → z ≡ x → was ≡ Use.Held t taking
        → n ≡ m → v.pieces t ≡ Piece.Got z m → ⊥
    not_got was quiet t z m taking q r l p =
        subst (IsQuiet v x n) r quiet (p ∙ ap (λ b. Piece.Got b m) q ∙ ap (Piece.Got x) (sym l))

    kept : (z m : ℕ) (u : Use) → z ≢ x → v.place z ≡ Place.Block z m u → new z ≡ Place.Block z m u
    kept z m u ne f = range_out v.place x n (Place.Block x n now) z
        (blocks_apart v.place x n z m was u parts.whole at f ne).out ∙ f

    edges_of : (e : Side) (z m : ℕ) (u : Use)
        → ((z ≡ x) × (m ≡ n) × (u ≡ now)) ⊎ ((z ≢ x) × (v.place z ≡ Place.Block z m u))
        → EdgeFits v.pieces e u z m (at_edge stands e (edge_of e z m))
    edges_of e z m u (inl (a, b, c)) = is_at_rest v.pieces e u z m (at_edge stands e (edge_of e z m))
        (λ q. no_bin (sym c ∙ q))
        (ap (at_edge stands e) (ap (λ j. edge_of e j m) a ∙ ap (edge_of e x) b) ∙ at_both v.standing x n s e
        ∙ ap standing_of (sym c))
    edges_of e z m u (inr (ne, f)) = subst (EdgeFits v.pieces e u z m)
        (sym (edge_else Side.End (x + n) s first e (edge_of e z m)
        (λ q. edges_apart v.place Side.End e x n z m was u parts.whole at f ne q.0 q.1)
        ∙ edge_else Side.Begin x s v.standing e (edge_of e z m)
        (λ q. edges_apart v.place Side.Begin e x n z m was u parts.whole at f ne q.0 q.1)))
        (parts.edges_fit e z m u f)

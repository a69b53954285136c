-- A region comes as a block in hand, and leaves.
use Rattle.std.proofs.Common.{◌≡◌, ◌≢◌, ◌⊎◌, inl, inr, ℕ, ◌+◌, ◌<◌, ◌≤◌, sym, ap, subst, arith, ◌∙◌}
use Rattle.word_codes.specs.declared.guards.Guard.{Guard}
use Rattle.word_codes.specs.Guards.{guard_of}
use Rattle.guards.specs.declared.win.Side.{Side}
use Rattle.guards.specs.declared.win.Taking.{Taking}
use Rattle.guard_laws.specs.Blocks.{Use, Place, Standing, Piece, Edges, at_edge, set_edge, edge_of, put_range, View}
use Rattle.guard_laws.specs.Blocks.{IsNotFree, GuardFits, rest_of, EdgeFits, IsWhole, BlocksWhole, Parts}
use Rattle.guard_laws.proofs.Edges.{IsOut, edge_each, edge_else, range_out, in_or, range_each}
use Rattle.guard_laws.proofs.Blocks.{edges_apart, own_inner, whole_ranged, ranged_was}
use Rattle.guard_laws.proofs.Regroup.{regrouped, quiet_edge, offers_then, no_offer, quiet_stands, at_both}
use Rattle.guard_laws.proofs.Regroup.{quiet_offers}
use Rattle.guard_laws.proofs.Cuts.{shut_is_not_free, apart_out}

-- no block has a granule, or an edge, of a range that lies in none
pub not_outside : (place : ℕ → Place) (x n : ℕ) → ((z : ℕ) → x ≤ z → z < x + n → place z ≡ Place.Outside)
    → (z y m : ℕ) (w : Use) → x ≤ z → z < x + n → place z ≡ Place.Block y m w → ⊥
not_outside place x n outside z y m w low high f =
    let q : Place.Outside ≡ Place.Block y m w = sym (outside z low high) ∙ f in absurd (cc)

pub outside_no_edge : (place : ℕ → Place) (x n : ℕ) → 0 < n → BlocksWhole place
    → ((z : ℕ) → x ≤ z → z < x + n → place z ≡ Place.Outside)
    → (e : Side) (z m : ℕ) (w : Use) → place z ≡ Place.Block z m w → edge_of e z m ≢ edge_of e x n
outside_no_edge place x n some whole outside Side.Begin z m w f q =
    not_outside place x n outside z z m w (omega arith) (omega arith) f
outside_no_edge place x n some whole outside Side.End z m w f q =
    let l = (whole z z m w f).below in
    in_or x n z (λ low high. not_outside place x n outside z z m w low high f) (λ o. behind l o)
  where
    behind : z < z + m → IsOut x n z → ⊥
    behind l (inl h) = not_outside place x n outside x z m w (omega arith) (omega arith)
        ((whole z z m w f).all x (omega arith) (omega arith))
    behind l (inr h) = omega arith

pub came : (span : ℕ) (v : View) (t x n : ℕ) → 0 < n → x + n ≤ span
    → ((z : ℕ) → x ≤ z → z < x + n → v.place z ≡ Place.Outside)
    → ((e : Side) → guard_of (at_edge v.words e (edge_of e x n)) ≡ Guard.Used) → Parts span v
    → Parts span (record v {
      place = put_range v.place x n (Place.Block x n (Use.Held t Taking.ForUse));
      standing = set_edge Side.End (x + n) Standing.Resting (set_edge Side.Begin x Standing.Resting v.standing);
    })
came span v t x n some fits outside used parts = regrouped span v new stands v.words parts (record {
  whole = whole_ranged v.place x n u some parts.whole (λ z y m w low high f. absurd
      (not_outside v.place x n outside z y m w low high f));
  within = λ z m w f. within_of z m w (ranged_was v.place x n u z m w f);
  words_fit = edge_each (λ e z s. GuardFits s (guard_of (at_edge v.words e z))) Side.End (x + n) R first
      (λ e z _. edge_each (λ e z s. GuardFits s (guard_of (at_edge v.words e z))) Side.Begin x R v.standing
      (λ e z _. parts.words_fit e z) (used Side.Begin) e z) (used Side.End);
  edges_fit = λ e z m w f. edges_of e z m w (ranged_was v.place x n u z m w f);
  bins = λ z m f. kept z m Use.Bin f;
  put_stays = λ o z m taking p f. kept z m (Use.Held o taking) f;
  offers = offers_then v.standing first stands
      (quiet_edge v.standing Side.Begin x R (no_offer span v Side.Begin x (no_edge Side.Begin) parts) (λ _ f. f))
      (quiet_edge first Side.End (x + n) R (no_offer span v Side.End (x + n) (no_edge Side.End) parts) (λ _ f. f));
})
  where
    u : Use
    u = Use.Held t Taking.ForUse

    R : Standing
    R = Standing.Resting

    new : ℕ → Place
    new = put_range v.place x n (Place.Block x n u)

    first : Edges Standing
    first = set_edge Side.Begin x R v.standing

    stands : Edges Standing
    stands = set_edge Side.End (x + n) R first

    no_edge : (e : Side) (z m : ℕ) (w : Use) → v.place z ≡ Place.Block z m w → edge_of e z m ≢ edge_of e x n
    no_edge = outside_no_edge v.place x n some parts.whole outside

    kept : (z m : ℕ) (w : Use) → v.place z ≡ Place.Block z m w → new z ≡ Place.Block z m w
    kept z m w f = range_out v.place x n (Place.Block x n u) z
        (in_or x n z (λ low high. absurd (not_outside v.place x n outside z z m w low high f)) (λ o. o)) ∙ f

    within_of : (z m : ℕ) (w : Use)
        → ((z ≡ x) × (m ≡ n) × (w ≡ u)) ⊎ (IsOut x n z × (v.place z ≡ Place.Block z m w)) → z + m ≤ span
    within_of z m w (inl (p, q, r)) = omega arith
    within_of z m w (inr (o, f)) = parts.within z m w f

    edges_of : (e : Side) (z m : ℕ) (w : Use)
        → ((z ≡ x) × (m ≡ n) × (w ≡ u)) ⊎ (IsOut x n z × (v.place z ≡ Place.Block z m w))
        → EdgeFits v.pieces e w z m (at_edge stands e (edge_of e z m))
    edges_of e z m w (inl (p, q, r)) =
        subst (λ j. EdgeFits v.pieces e j z m (at_edge stands e (edge_of e z m))) (sym r)
        (inl (ap (at_edge stands e) (ap (λ j. edge_of e j m) p ∙ ap (edge_of e x) q) ∙ at_both v.standing x n R e))
    edges_of e z m w (inr (o, f)) = subst (EdgeFits v.pieces e w z m)
        (sym (edge_else Side.End (x + n) R first e (edge_of e z m) (λ q. other Side.End e q.0 q.1)
        ∙ edge_else Side.Begin x R v.standing e (edge_of e z m) (λ q. other Side.Begin e q.0 q.1)))
        (parts.edges_fit e z m w f)
      where
        other : (k e : Side) → e ≡ k → edge_of e z m ≡ edge_of k x n → ⊥
        other Side.Begin Side.Begin a b = no_edge Side.Begin z m w f b
        other Side.End Side.End a b = no_edge Side.End z m w f b
        other Side.Begin Side.End a b = cc
        other Side.End Side.Begin a b = cc

pub rest_is_not_free : (taking : Taking) (guard : Guard) → GuardFits (rest_of taking) guard → IsNotFree guard
rest_is_not_free Taking.ForUse guard is = subst IsNotFree (sym is) tt
rest_is_not_free Taking.ToJoin guard is = shut_is_not_free guard is

pub left : (span : ℕ) (v : View) (t x n : ℕ) (taking : Taking) → v.pieces t ≡ Piece.NoPiece
    → v.place x ≡ Place.Block x n (Use.Held t taking) → Parts span v
    → Parts span (record v {
      place = put_range v.place x n Place.Outside;
      standing = set_edge Side.End (x + n) Standing.Inner (set_edge Side.Begin x Standing.Inner v.standing);
    })
left span v t x n taking none at parts = regrouped span v new stands v.words parts (record {
  whole = range_each (λ y p. (f m : ℕ) (w : Use) → p ≡ Place.Block f m w
      → IsWhole new y f m w) v.place x n Place.Outside
      outer (λ y low high f m w e. absurd (cc));
  within = λ z m w f. parts.within z m w (was z m w f).1;
  words_fit = edge_each (λ e z s. GuardFits s (guard_of (at_edge v.words e z))) Side.End (x + n) I first
      (λ e z _. edge_each (λ e z s. GuardFits s (guard_of (at_edge v.words e z))) Side.Begin x I v.standing
      (λ e z _. parts.words_fit e z) (not_free Side.Begin) e z) (not_free Side.End);
  edges_fit = λ e z m w f. edges_of e z m w (was z m w f).0 (was z m w f).1;
  bins = λ z m f. kept z m Use.Bin f (λ q. held_bin q);
  put_stays = λ o z m j p f. kept z m (Use.Held o j) f (λ q. held_got o z m j q p);
  offers = offers_then v.standing first stands
      (quiet_edge v.standing Side.Begin x I (quiet_offers span v x n u Side.Begin at (no_piece x n) parts) (λ _ f. f))
      (quiet_edge first Side.End (x + n) I (quiet_offers span v x n u Side.End at (no_piece x n) parts) (λ _ f. f));
})
  where
    u : Use
    u = Use.Held t taking

    I : Standing
    I = Standing.Inner

    new : ℕ → Place
    new = put_range v.place x n Place.Outside

    first : Edges Standing
    first = set_edge Side.Begin x I v.standing

    stands : Edges Standing
    stands = set_edge Side.End (x + n) I first

    no_piece : (z m : ℕ) → v.pieces t ≡ Piece.Got z m → ⊥
    no_piece z m p = let c : Piece.NoPiece ≡ Piece.Got z m = sym none ∙ p in absurd (cc)

    held_bin : u ≡ Use.Bin → ⊥
    held_bin q = cc

    held_got : (o z m : ℕ) (j : Taking) → u ≡ Use.Held o j → v.pieces o ≡ Piece.Got z m → ⊥
    held_got o z m j q p = let r : t ≡ o = cc in no_piece z m (ap v.pieces r ∙ p)

    not_free : (e : Side) → IsNotFree (guard_of (at_edge v.words e (edge_of e x n)))
    not_free e = rest_is_not_free taking (guard_of (at_edge v.words e (edge_of e x n)))
        (subst (λ s. GuardFits s (guard_of (at_edge v.words e (edge_of e x n))))
        (quiet_stands span v x n u e at (no_piece x n) parts) (parts.words_fit e (edge_of e x n)))

    was : (z m : ℕ) (w : Use) → new z ≡ Place.Block z m w → IsOut x n z × (v.place z ≡ Place.Block z m w)
    was z m w = range_each (λ z p. p ≡ Place.Block z m w → IsOut x n z × (v.place z ≡ Place.Block z m w)) v.place x n
        Place.Outside (λ z o e. (o, e)) (λ z l h e. absurd (cc)) z

    clash : (z y f m : ℕ) (w : Use) → IsWhole v.place y f m w → v.place z ≡ Place.Block f m w → IsOut x n y → x ≤ z
        → z < x + n → ⊥
    clash z y f m w old is (inl o) low high =
        let i = own_inner v.place x n u parts.whole at z f m w low high is in
        let i0 = i.0 in let i1 = i.1 in let p = old.from in omega arith
    clash z y f m w old is (inr o) low high =
        let i = own_inner v.place x n u parts.whole at z f m w low high is in
        let i0 = i.0 in let i1 = i.1 in let p = old.below in omega arith

    outer : (y : ℕ) → IsOut x n y → (f m : ℕ) (w : Use) → v.place y ≡ Place.Block f m w → IsWhole new y f m w
    outer y out f m w e = let old = parts.whole y f m w e in record {
      from = old.from;
      below = old.below;
      all = λ z l h. in_or x n z
          (λ low high. absurd (clash z y f m w old (old.all z l h) out low high))
          (λ o. range_out v.place x n Place.Outside z o ∙ old.all z l h);
    }

    kept : (z m : ℕ) (w : Use) → v.place z ≡ Place.Block z m w → (u ≡ w → ⊥) → new z ≡ Place.Block z m w
    kept z m w f other = range_out v.place x n Place.Outside z
        (apart_out v.place x n u z m w parts.whole at f (λ q _ _. other q)) ∙ f

    edges_of : (e : Side) (z m : ℕ) (w : Use) → IsOut x n z → v.place z ≡ Place.Block z m w
        → EdgeFits v.pieces e w z m (at_edge stands e (edge_of e z m))
    edges_of e z m w o f = subst (EdgeFits v.pieces e w z m)
        (sym (edge_else Side.End (x + n) I first e (edge_of e z m)
        (λ q. edges_apart v.place Side.End e x n z m u w parts.whole at f (other o) q.0 q.1)
        ∙ edge_else Side.Begin x I v.standing e (edge_of e z m)
        (λ q. edges_apart v.place Side.Begin e x n z m u w parts.whole at f (other o) q.0 q.1)))
        (parts.edges_fit e z m w f)
      where
        other : IsOut x n z → z ≢ x
        other (inl l) q = omega arith
        other (inr l) q = let s = (parts.whole x x n u at).below in omega arith

-- A block in hand is cut in two, and two are joined.
use Rattle.std.proofs.Common.{◌≡◌, ◌≢◌, ◌⊎◌, inl, inr, ℕ, ◌+◌, ◌<◌, ◌≤◌, sym, ap, subst, arith, ◌∙◌}
use Rattle.word_codes.specs.declared.guards.Guard.{Guard}
use Rattle.word_codes.specs.Guards.{guard_of}
use Rattle.guards.specs.declared.win.Side.{Side}
use Rattle.guards.specs.declared.win.Taking.{Taking}
use Rattle.guard_laws.specs.Blocks.{Use, Place, Standing, Piece, Edges, at_edge, set_edge, edge_of, put_range, View}
use Rattle.guard_laws.specs.Blocks.{IsShut, IsNotFree, GuardFits, IsOf, EdgeFits, IsWhole, BlocksWhole, Parts}
use Rattle.guard_laws.specs.Steps.{place_split}
use Rattle.guard_laws.proofs.Edges.{IsOut, edge_each, edge_here, edge_else, range_in, range_out, in_or}
use Rattle.guard_laws.proofs.Blocks.{same_block, edges_apart, no_edge_within, own_inner, whole_ranged, ranged_was}
use Rattle.guard_laws.proofs.Regroup.{regrouped, quiet_edge, offers_then, no_offer, quiet_stands}

-- the granules of both pieces
pub split_out : (place : ℕ → Place) (x a b : ℕ) (u : Use) (z : ℕ) → IsOut x (a + b) z
    → place_split x a b u place z ≡ place z
split_out place x a b u z out =
    range_out (put_range place x a (Place.Block x a u)) (x + a) b (Place.Block (x + a) b u) z (behind out)
    ∙ range_out place x a (Place.Block x a u) z (before out)
  where
    behind : IsOut x (a + b) z → IsOut (x + a) b z
    behind (inl l) = inl (omega arith)
    behind (inr l) = inr (omega arith)

    before : IsOut x (a + b) z → IsOut x a z
    before (inl l) = inl l
    before (inr l) = inr (omega arith)

pub split_front : (place : ℕ → Place) (x a b : ℕ) (u : Use) (z : ℕ) → x ≤ z → z < x + a
    → place_split x a b u place z ≡ Place.Block x a u
split_front place x a b u z low high =
    range_out (put_range place x a (Place.Block x a u)) (x + a) b (Place.Block (x + a) b u) z (inl high)
    ∙ range_in place x a (Place.Block x a u) z low high

pub split_back : (place : ℕ → Place) (x a b : ℕ) (u : Use) (z : ℕ) → x + a ≤ z → z < x + a + b
    → place_split x a b u place z ≡ Place.Block (x + a) b u
split_back place x a b u z low high =
    range_in (put_range place x a (Place.Block x a u)) (x + a) b (Place.Block (x + a) b u) z low high

-- three parts of the indices
pub in_split : {P : Type 0} (x a b z : ℕ) → (x ≤ z → z < x + a → P) → (x + a ≤ z → z < x + a + b → P)
    → (IsOut x (a + b) z → P) → P
in_split x a b z front back out = in_or x a z front (λ o. in_or (x + a) b z back (λ p. out (go o p)))
  where
    go : IsOut x a z → IsOut (x + a) b z → IsOut x (a + b) z
    go (inl l) p = inl l
    go (inr l) (inl m) = absurd (omega arith)
    go (inr l) (inr m) = inr (omega arith)

split_whole : (place : ℕ → Place) (x a b : ℕ) (u : Use) → BlocksWhole place → place x ≡ Place.Block x (a + b) u
    → BlocksWhole (place_split x a b u place)
split_whole place x a b u whole at y f m w e = in_split x a b y
    (λ low high. front (sym (split_front place x a b u y low high) ∙ e) low high)
    (λ low high. back (sym (split_back place x a b u y low high) ∙ e) low high)
    (λ out. outer (sym (split_out place x a b u y out) ∙ e) out)
  where
    front : Place.Block x a u ≡ Place.Block f m w → x ≤ y → y < x + a → IsWhole (place_split x a b u place) y f m w
    front q low high = let q0 : x ≡ f = cc in let q1 : a ≡ m = cc in record {
      from = omega arith;
      below = omega arith;
      all = λ z l h. split_front place x a b u z (omega arith) (omega arith) ∙ q;
    }

    back : Place.Block (x + a) b u ≡ Place.Block f m w → x + a ≤ y → y < x + a + b
        → IsWhole (place_split x a b u place) y f m w
    back q low high = let q0 : x + a ≡ f = cc in let q1 : b ≡ m = cc in record {
      from = omega arith;
      below = omega arith;
      all = λ z l h. split_back place x a b u z (omega arith) (omega arith) ∙ q;
    }

    clash : (z : ℕ) → IsWhole place y f m w → place z ≡ Place.Block f m w → IsOut x (a + b) y → x ≤ z → z < x + (a + b)
        → ⊥
    clash z old is (inl o) low high =
        let i = own_inner place x (a + b) u whole at z f m w low high is in
        let i0 = i.0 in let i1 = i.1 in let p = old.from in omega arith
    clash z old is (inr o) low high =
        let i = own_inner place x (a + b) u whole at z f m w low high is in
        let i0 = i.0 in let i1 = i.1 in let p = old.below in omega arith

    outer : place y ≡ Place.Block f m w → IsOut x (a + b) y → IsWhole (place_split x a b u place) y f m w
    outer is out = let old = whole y f m w is in record {
      from = old.from;
      below = old.below;
      all = λ z l h. in_or x (a + b) z
          (λ low high. absurd (clash z old (old.all z l h) out low high))
          (λ o. split_out place x a b u z o ∙ old.all z l h);
    }

-- what begins at an index once a block is cut
pub data SplitWas (place : ℕ → Place) (x a b : ℕ) (u : Use) (z m : ℕ) (w : Use) : Type 0 where
  is_front : z ≡ x → m ≡ a → w ≡ u → SplitWas place x a b u z m w
  is_back : z ≡ x + a → m ≡ b → w ≡ u → SplitWas place x a b u z m w
  is_other : IsOut x (a + b) z → place z ≡ Place.Block z m w → SplitWas place x a b u z m w

pub split_was : (place : ℕ → Place) (x a b : ℕ) (u : Use) (z m : ℕ) (w : Use)
    → place_split x a b u place z ≡ Place.Block z m w → SplitWas place x a b u z m w
split_was place x a b u z m w e = in_split x a b z
    (λ low high. let q : Place.Block x a u ≡ Place.Block z m w = sym (split_front place x a b u z low high) ∙ e in
    is_front (cc) (cc) (cc))
    (λ low high. let q : Place.Block (x + a) b u ≡ Place.Block z m w = sym (split_back place x a b u z low high) ∙ e in
    is_back (cc) (cc) (cc))
    (λ out. is_other out (sym (split_out place x a b u z out) ∙ e))

-- a block that is no part of the one in hand is out of it
pub apart_out : (place : ℕ → Place) (x n : ℕ) (u : Use) (z m : ℕ) (w : Use) → BlocksWhole place
    → place x ≡ Place.Block x n u → place z ≡ Place.Block z m w → (u ≡ w → n ≡ m → z ≡ x → ⊥) → IsOut x n z
apart_out place x n u z m w whole at f never = in_or x n z
    (λ low high. let s = same_block place z x n z m u w ((whole x x n u at).all z low high) f in
    absurd (never s.2 s.1 (sym s.0)))
    (λ o. o)

pub cut : (span : ℕ) (v : View) (t : ℕ) (x a b : ℕ) → 0 < a → 0 < b → v.pieces t ≡ Piece.NoPiece
    → v.place x ≡ Place.Block x (a + b) (Use.Held t Taking.ForUse)
    → ((e : Side) → guard_of (at_edge v.words e (x + a)) ≡ Guard.Used) → Parts span v
    → Parts span (record v {
      place = place_split x a b (Use.Held t Taking.ForUse) v.place;
      standing = set_edge Side.Begin (x + a) Standing.Resting (set_edge Side.End (x + a) Standing.Resting v.standing);
    })
cut span v t x a b some more none at used parts = regrouped span v new stands v.words parts (record {
  whole = split_whole v.place x a b u parts.whole at;
  within = λ z m w f. within_of z m w (split_was v.place x a b u z m w f);
  words_fit = edge_each (λ e z s. GuardFits s (guard_of (at_edge v.words e z))) Side.Begin (x + a) R first
      (λ e z _. edge_each (λ e z s. GuardFits s (guard_of (at_edge v.words e z))) Side.End (x + a) R v.standing
      (λ e z _. parts.words_fit e z) (used Side.End) e z) (used Side.Begin);
  edges_fit = λ e z m w f. edges_of e z m w (split_was v.place x a b u z m w f);
  bins = λ z m f. kept z m Use.Bin f (λ q _ _. held_bin q);
  put_stays = λ o z m taking p f. kept z m (Use.Held o taking) f (λ q _ _. held_got o z m taking q p);
  offers = offers_then v.standing first stands
      (quiet_edge v.standing Side.End (x + a) R (no_offer span v Side.End (x + a) (no_edge Side.End) parts)
      (λ _ f. f))
      (quiet_edge first Side.Begin (x + a) R
      (no_offer span v Side.Begin (x + a) (no_edge Side.Begin) parts) (λ _ f. f));
})
  where
    u : Use
    u = Use.Held t Taking.ForUse

    R : Standing
    R = Standing.Resting

    new : ℕ → Place
    new = place_split x a b u v.place

    first : Edges Standing
    first = set_edge Side.End (x + a) R v.standing

    stands : Edges Standing
    stands = set_edge Side.Begin (x + a) R first

    held_bin : u ≡ Use.Bin → ⊥
    held_bin q = cc

    held_got : (o z m : ℕ) (taking : Taking) → u ≡ Use.Held o taking → v.pieces o ≡ Piece.Got z m → ⊥
    held_got o z m taking q p =
        let r : t ≡ o = cc in
        let c : Piece.NoPiece ≡ Piece.Got z m = sym none ∙ ap v.pieces r ∙ p in cc

    no_edge : (e : Side) (z m : ℕ) (w : Use) → v.place z ≡ Place.Block z m w → edge_of e z m ≢ x + a
    no_edge e z m w f q = no_edge_within v.place e x (a + b) (x + a) z m u w parts.whole at (omega arith)
        (omega arith) f q

    kept : (z m : ℕ) (w : Use) → v.place z ≡ Place.Block z m w → (u ≡ w → a + b ≡ m → z ≡ x → ⊥)
        → new z ≡ Place.Block z m w
    kept z m w f never =
        split_out v.place x a b u z (apart_out v.place x (a + b) u z m w parts.whole at f never) ∙ f

    within_of : (z m : ℕ) (w : Use) → SplitWas v.place x a b u z m w → z + m ≤ span
    within_of z m w (is_front p q r) = let l = parts.within x (a + b) u at in omega arith
    within_of z m w (is_back p q r) = let l = parts.within x (a + b) u at in omega arith
    within_of z m w (is_other o f) = parts.within z m w f

    was_resting : (e : Side) → at_edge v.standing e (edge_of e x (a + b)) ≡ R
    was_resting e = quiet_stands span v x (a + b) u e at (λ p.
        let c : Piece.NoPiece ≡ Piece.Got x (a + b) = sym none ∙ p in absurd (cc)) parts

    stays : (e : Side) (y : ℕ) → y ≢ x + a → at_edge stands e y ≡ at_edge v.standing e y
    stays e y ne = edge_else Side.Begin (x + a) R first e y (λ q. ne q.1)
        ∙ edge_else Side.End (x + a) R v.standing e y (λ q. ne q.1)

    at_cut : (e : Side) → at_edge stands e (x + a) ≡ R
    at_cut Side.Begin = edge_here Side.Begin (x + a) R first
    at_cut Side.End = edge_here Side.End (x + a) R v.standing

    rests : (e : Side) (z m : ℕ) (w : Use) → w ≡ u → at_edge stands e (edge_of e z m) ≡ R
        → EdgeFits v.pieces e w z m (at_edge stands e (edge_of e z m))
    rests e z m w q f = subst (λ j. EdgeFits v.pieces e j z m (at_edge stands e (edge_of e z m))) (sym q) (inl f)

    front_edge : (e : Side) → at_edge stands e (edge_of e x a) ≡ R
    front_edge Side.Begin = stays Side.Begin x (λ q. omega arith) ∙ was_resting Side.Begin
    front_edge Side.End = at_cut Side.End

    back_edge : (e : Side) → at_edge stands e (edge_of e (x + a) b) ≡ R
    back_edge Side.Begin = at_cut Side.Begin
    back_edge Side.End = stays Side.End (x + a + b) (λ q. omega arith)
        ∙ ap (at_edge v.standing Side.End) (let q : x + a + b ≡ x + (a + b) = omega arith in q) ∙ was_resting Side.End

    edges_of : (e : Side) (z m : ℕ) (w : Use) → SplitWas v.place x a b u z m w
        → EdgeFits v.pieces e w z m (at_edge stands e (edge_of e z m))
    edges_of e z m w (is_front p q r) = rests e z m w r
        (ap (at_edge stands e) (ap (λ j. edge_of e j m) p ∙ ap (edge_of e x) q) ∙ front_edge e)
    edges_of e z m w (is_back p q r) = rests e z m w r
        (ap (at_edge stands e) (ap (λ j. edge_of e j m) p ∙ ap (edge_of e (x + a)) q) ∙ back_edge e)
    edges_of e z m w (is_other o f) =
        subst (EdgeFits v.pieces e w z m) (sym (stays e (edge_of e z m) (no_edge e z m w f)))
        (parts.edges_fit e z m w f)

pub shut_is_not_free : (guard : Guard) → IsShut guard → IsNotFree guard
shut_is_not_free Guard.Used f = tt
shut_is_not_free Guard.Coalescing f = tt
shut_is_not_free Guard.Wall f = tt
shut_is_not_free (Guard.Free n) f = f

pub joined : (span : ℕ) (v : View) (t : ℕ) (x a b : ℕ) → v.pieces t ≡ Piece.NoPiece
    → v.place x ≡ Place.Block x a (Use.Held t Taking.ToJoin)
    → v.place (x + a) ≡ Place.Block (x + a) b (Use.Held t Taking.ToJoin) → Parts span v
    → Parts span (record v {
      place = put_range v.place x (a + b) (Place.Block x (a + b) (Use.Held t Taking.ToJoin));
      standing = set_edge Side.Begin (x + a) Standing.Inner (set_edge Side.End (x + a) Standing.Inner v.standing);
    })
joined span v t x a b none one two parts = regrouped span v new stands v.words parts (record {
  whole = whole_ranged v.place x (a + b) u (let s = some in omega arith) parts.whole inner;
  within = λ z m w f. within_of z m w (ranged_was v.place x (a + b) u z m w f);
  words_fit = edge_each (λ e z s. GuardFits s (guard_of (at_edge v.words e z))) Side.Begin (x + a) I first
      (λ e z _. edge_each (λ e z s. GuardFits s (guard_of (at_edge v.words e z))) Side.End (x + a) I v.standing
      (λ e z _. parts.words_fit e z) (not_free Side.End end_stands) e z) (not_free Side.Begin begin_stands);
  edges_fit = λ e z m w f. edges_of e z m w (ranged_was v.place x (a + b) u z m w f);
  bins = λ z m f. kept z m Use.Bin f (λ q. held_bin q);
  put_stays = λ o z m taking p f. kept z m (Use.Held o taking) f (λ q. held_got o z m taking q p);
  offers = offers_then v.standing first stands
      (quiet_edge v.standing Side.End (x + a) I (λ n f. subst (IsOf n) end_stands f) (λ _ f. f))
      (quiet_edge first Side.Begin (x + a) I (λ n f. subst (IsOf n) begin_stands f) (λ _ f. f));
})
  where
    u : Use
    u = Use.Held t Taking.ToJoin

    I : Standing
    I = Standing.Inner

    new : ℕ → Place
    new = put_range v.place x (a + b) (Place.Block x (a + b) u)

    first : Edges Standing
    first = set_edge Side.End (x + a) I v.standing

    stands : Edges Standing
    stands = set_edge Side.Begin (x + a) I first

    some : 0 < a
    some = let l = (parts.whole x x a u one).below in omega arith

    more : 0 < b
    more = let l = (parts.whole (x + a) (x + a) b u two).below in omega arith

    held_bin : u ≡ Use.Bin → ⊥
    held_bin q = cc

    held_got : (o z m : ℕ) (taking : Taking) → u ≡ Use.Held o taking → v.pieces o ≡ Piece.Got z m → ⊥
    held_got o z m taking q p =
        let r : t ≡ o = cc in
        let c : Piece.NoPiece ≡ Piece.Got z m = sym none ∙ ap v.pieces r ∙ p in cc

    no_piece : (z m : ℕ) → v.pieces t ≡ Piece.Got z m → ⊥
    no_piece z m p = let c : Piece.NoPiece ≡ Piece.Got z m = sym none ∙ p in absurd (cc)

    end_stands : v.standing.ends (x + a) ≡ Standing.Joining
    end_stands = quiet_stands span v x a u Side.End one (no_piece x a) parts

    begin_stands : v.standing.begins (x + a) ≡ Standing.Joining
    begin_stands = quiet_stands span v (x + a) b u Side.Begin two (no_piece (x + a) b) parts

    not_free : (e : Side) → at_edge v.standing e (x + a) ≡ Standing.Joining
        → IsNotFree (guard_of (at_edge v.words e (x + a)))
    not_free e is = shut_is_not_free (guard_of (at_edge v.words e (x + a)))
        (subst (λ s. GuardFits s (guard_of (at_edge v.words e (x + a)))) is (parts.words_fit e (x + a)))

    -- each granule of both is in one of them
    inner : (z y m : ℕ) (w : Use) → x ≤ z → z < x + (a + b) → v.place z ≡ Place.Block y m w
        → (x ≤ y) × (y + m ≤ x + (a + b))
    inner z y m w low high f = in_or x a z
        (λ l h. let i = own_inner v.place x a u parts.whole one z y m w l h f in
        let i0 = i.0 in let i1 = i.1 in (omega arith, omega arith))
        (λ o. behind o)
      where
        behind : IsOut x a z → (x ≤ y) × (y + m ≤ x + (a + b))
        behind (inl l) = absurd (omega arith)
        behind (inr l) =
            let i = own_inner v.place (x + a) b u parts.whole two z y m w l (omega arith) f in
            let i0 = i.0 in let i1 = i.1 in (omega arith, omega arith)

    out_of_both : (z m : ℕ) (w : Use) → v.place z ≡ Place.Block z m w → (u ≡ w → ⊥) → IsOut x (a + b) z
    out_of_both z m w f never = go
        (apart_out v.place x a u z m w parts.whole one f (λ q _ _. never q))
        (apart_out v.place (x + a) b u z m w parts.whole two f (λ q _ _. never q))
      where
        go : IsOut x a z → IsOut (x + a) b z → IsOut x (a + b) z
        go (inl l) p = inl l
        go (inr l) (inl h) = absurd (omega arith)
        go (inr l) (inr h) = inr (omega arith)

    kept : (z m : ℕ) (w : Use) → v.place z ≡ Place.Block z m w → (u ≡ w → ⊥) → new z ≡ Place.Block z m w
    kept z m w f never = range_out v.place x (a + b) (Place.Block x (a + b) u) z (out_of_both z m w f never) ∙ f

    within_of : (z m : ℕ) (w : Use)
        → ((z ≡ x) × (m ≡ a + b) × (w ≡ u)) ⊎ (IsOut x (a + b) z × (v.place z ≡ Place.Block z m w)) → z + m ≤ span
    within_of z m w (inl (p, q, r)) = let l = parts.within (x + a) b u two in omega arith
    within_of z m w (inr (o, f)) = parts.within z m w f

    outer : (e : Side) → at_edge v.standing e (edge_of e x (a + b)) ≡ Standing.Joining
    outer Side.Begin = quiet_stands span v x a u Side.Begin one (no_piece x a) parts
    outer Side.End = ap (at_edge v.standing Side.End) (let q : x + (a + b) ≡ x + a + b = omega arith in q)
        ∙ quiet_stands span v (x + a) b u Side.End two (no_piece (x + a) b) parts

    far : (e : Side) → edge_of e x (a + b) ≢ x + a
    far Side.Begin q = let s = some in omega arith
    far Side.End q = let s = more in omega arith

    stays : (e : Side) (y : ℕ) → (e ≡ Side.Begin → y ≢ x + a) → (e ≡ Side.End → y ≢ x + a)
        → at_edge stands e y ≡ at_edge v.standing e y
    stays e y begins ends = edge_else Side.Begin (x + a) I first e y (λ q. begins q.0 q.1)
        ∙ edge_else Side.End (x + a) I v.standing e y (λ q. ends q.0 q.1)

    edges_of : (e : Side) (z m : ℕ) (w : Use)
        → ((z ≡ x) × (m ≡ a + b) × (w ≡ u)) ⊎ (IsOut x (a + b) z × (v.place z ≡ Place.Block z m w))
        → EdgeFits v.pieces e w z m (at_edge stands e (edge_of e z m))
    edges_of e z m w (inl (p, q, r)) =
        subst (λ j. EdgeFits v.pieces e j z m (at_edge stands e (edge_of e z m))) (sym r)
        (inl (ap (at_edge stands e) (ap (λ j. edge_of e j m) p ∙ ap (edge_of e x) q)
        ∙ stays e (edge_of e x (a + b)) (λ _. far e) (λ _. far e) ∙ outer e))
    edges_of e z m w (inr (o, f)) = subst (EdgeFits v.pieces e w z m)
        (sym (stays e (edge_of e z m)
        (λ k q. edges_apart v.place Side.Begin e (x + a) b z m u w parts.whole two f (not_second o) k q)
        (λ k q. edges_apart v.place Side.End e x a z m u w parts.whole one f (not_first o) k q)))
        (parts.edges_fit e z m w f)
      where
        not_first : IsOut x (a + b) z → z ≢ x
        not_first (inl l) q = omega arith
        not_first (inr l) q = let s = some in omega arith

        not_second : IsOut x (a + b) z → z ≢ x + a
        not_second (inl l) q = omega arith
        not_second (inr l) q = let s = more in omega arith

-- Blocks are apart, and stay whole when one of them has another use.
use Rattle.std.proofs.Common.{◌≡◌, ◌≢◌, ◌⊎◌, inl, inr, ℕ, ◌+◌, ◌<◌, ◌≤◌, sym, arith, ◌∙◌}
use Rattle.guards.specs.declared.win.Side.{Side}
use Rattle.word_laws.proofs.CallerLemmas.{less_or}
use Rattle.guard_laws.specs.Blocks.{Use, Place, edge_of, put_range, IsWhole, BlocksWhole}
use Rattle.guard_laws.proofs.Edges.{IsOut, range_in, range_out, in_or, range_each}

pub same_block : (place : ℕ → Place) (z x n y m : ℕ) (u w : Use) → place z ≡ Place.Block x n u
    → place z ≡ Place.Block y m w → (x ≡ y) × (n ≡ m) × (u ≡ w)
same_block place z x n y m u w e f = (cc, cc, cc)

pub record IsApart (x n y m : ℕ) : Type 0 where
  pub out : IsOut x n y
  pub ends : y + m ≢ x + n

pub blocks_apart : (place : ℕ → Place) (x n y m : ℕ) (u w : Use) → BlocksWhole place → place x ≡ Place.Block x n u
    → place y ≡ Place.Block y m w → y ≢ x → IsApart x n y m
blocks_apart place x n y m u w whole e f ne = record {
  out = in_or x n y (λ low high.
      absurd (ne (sym (same_block place y x n y m u w ((whole x x n u e).all y low high) f).0))) (λ o. o);
  ends = λ k.
      let ax = (whole x x n u e).below in let bx = (whole y y m w f).below in
      less_or x y
      (λ l. ne (sym (same_block place y x n y m u w ((whole x x n u e).all y (omega arith) (omega arith)) f).0))
      (λ l. ne (sym (same_block place x x n y m u w e ((whole y y m w f).all x l (omega arith))).0));
}

pub edges_apart : (place : ℕ → Place) (k e : Side) (x n y m : ℕ) (u w : Use) → BlocksWhole place
    → place x ≡ Place.Block x n u → place y ≡ Place.Block y m w → y ≢ x → e ≡ k → edge_of e y m ≡ edge_of k x n → ⊥
edges_apart place Side.Begin Side.Begin x n y m u w whole at f ne q r = ne r
edges_apart place Side.End Side.End x n y m u w whole at f ne q r =
    (blocks_apart place x n y m u w whole at f ne).ends r
edges_apart place Side.Begin Side.End x n y m u w whole at f ne q r = cc
edges_apart place Side.End Side.Begin x n y m u w whole at f ne q r = cc

-- no block begins or ends within another
pub no_edge_within : (place : ℕ → Place) (e : Side) (x n at y m : ℕ) (u w : Use) → BlocksWhole place
    → place x ≡ Place.Block x n u → x < at → at < x + n → place y ≡ Place.Block y m w → edge_of e y m ≡ at → ⊥
no_edge_within place Side.Begin x n at y m u w whole is low high f q =
    let s = same_block place y x n y m u w ((whole x x n u is).all y (omega arith) (omega arith)) f in
    let s0 = s.0 in omega arith
no_edge_within place Side.End x n at y m u w whole is low high f q =
    let b = (whole y y m w f).below in
    less_or x y
    (λ l. let s = same_block place y x n y m u w ((whole x x n u is).all y (omega arith) (omega arith)) f in
    let s0 = s.0 in omega arith)
    (λ l. let s = same_block place x x n y m u w is ((whole y y m w f).all x l (omega arith)) in
    let s0 = s.0 in let s1 = s.1 in omega arith)

-- what begins at an index once a block has another use
pub use_was : (place : ℕ → Place) (x n : ℕ) (u v : Use) → BlocksWhole place → place x ≡ Place.Block x n u
    → (z m : ℕ) (w : Use) → put_range place x n (Place.Block x n v) z ≡ Place.Block z m w
    → ((z ≡ x) × (m ≡ n) × (w ≡ v)) ⊎ ((z ≢ x) × (place z ≡ Place.Block z m w))
use_was place x n u v whole at z m w = range_each
    (λ z p. p ≡ Place.Block z m w → ((z ≡ x) × (m ≡ n) × (w ≡ v)) ⊎ ((z ≢ x) × (place z ≡ Place.Block z m w)))
    place x n (Place.Block x n v)
    (λ z o e. inr ((λ same. out_not z same o), e)) (λ z l h e. inl (cc, cc, cc)) z
  where
    out_not : (z : ℕ) → z ≡ x → IsOut x n z → ⊥
    out_not z same (inl h) = omega arith
    out_not z same (inr h) = let l = (whole x x n u at).below in omega arith

-- a range that is a block, or lies in no block, is another block now
pub whole_ranged : (place : ℕ → Place) (x n : ℕ) (v : Use) → 0 < n → BlocksWhole place
    → ((z y m : ℕ) (w : Use) → x ≤ z → z < x + n → place z ≡ Place.Block y m w → (x ≤ y) × (y + m ≤ x + n))
    → BlocksWhole (put_range place x n (Place.Block x n v))
whole_ranged place x n v some whole inner = range_each
    (λ y p. (first granules : ℕ) (w : Use) → p ≡ Place.Block first granules w
    → IsWhole (put_range place x n (Place.Block x n v)) y first granules w) place x n (Place.Block x n v)
    (λ y out first granules w e. let old = whole y first granules w e in record {
      from = old.from;
      below = old.below;
      all = λ z l m. in_or x n z
          (λ low high. absurd (clash first granules w z y (old.all z l m) old out low high))
          (λ o. range_out place x n (Place.Block x n v) z o ∙ old.all z l m);
    })
    (λ y l h first granules w e. let q0 : x ≡ first = cc in let q1 : n ≡ granules = cc in record {
      from = omega arith;
      below = omega arith;
      all = λ z i j. range_in place x n (Place.Block x n v) z (omega arith) (omega arith) ∙ e;
    })
  where
    clash : (first granules : ℕ) (w : Use) (z y : ℕ) → place z ≡ Place.Block first granules w
        → IsWhole place y first granules w → IsOut x n y → x ≤ z → z < x + n → ⊥
    clash first granules w z y a b (inl o) low high =
        let i = inner z first granules w low high a in let i0 = i.0 in
        let i1 = i.1 in let f = b.from in let g = b.below in omega arith
    clash first granules w z y a b (inr o) low high =
        let i = inner z first granules w low high a in let i0 = i.0 in
        let i1 = i.1 in let f = b.from in let g = b.below in omega arith

-- a block's own granules lie in no other
pub own_inner : (place : ℕ → Place) (x n : ℕ) (u : Use) → BlocksWhole place → place x ≡ Place.Block x n u
    → (z y m : ℕ) (w : Use) → x ≤ z → z < x + n → place z ≡ Place.Block y m w → (x ≤ y) × (y + m ≤ x + n)
own_inner place x n u whole at z y m w low high f =
    let s = same_block place z x n y m u w ((whole x x n u at).all z low high) f in
    let s0 = s.0 in let s1 = s.1 in (omega arith, omega arith)

pub whole_used : (place : ℕ → Place) (x n : ℕ) (u v : Use) → place x ≡ Place.Block x n u → BlocksWhole place
    → BlocksWhole (put_range place x n (Place.Block x n v))
whole_used place x n u v at whole = whole_ranged place x n v (let l = (whole x x n u at).below in omega arith) whole
    (own_inner place x n u whole at)

-- what begins at an index once a range is another block
pub ranged_was : (place : ℕ → Place) (x n : ℕ) (v : Use) (z m : ℕ) (w : Use)
    → put_range place x n (Place.Block x n v) z ≡ Place.Block z m w
    → ((z ≡ x) × (m ≡ n) × (w ≡ v)) ⊎ (IsOut x n z × (place z ≡ Place.Block z m w))
ranged_was place x n v z m w = range_each
    (λ z p. p ≡ Place.Block z m w → ((z ≡ x) × (m ≡ n) × (w ≡ v)) ⊎ (IsOut x n z × (place z ≡ Place.Block z m w)))
    place x n (Place.Block x n v) (λ z o e. inr (o, e)) (λ z l h e. inl (cc, cc, cc)) z

-- a block has another use, and no other block has
pub record Moved (place place' : ℕ → Place) (x n : ℕ) (u : Use) : Type 0 where
  pub here : place' x ≡ Place.Block x n u
  pub to : (y m : ℕ) (w : Use) → y ≢ x → place y ≡ Place.Block y m w → place' y ≡ Place.Block y m w
  pub from : (y m : ℕ) (w : Use) → y ≢ x → place' y ≡ Place.Block y m w → place y ≡ Place.Block y m w

pub used_moves : (place : ℕ → Place) (x n : ℕ) (was now : Use) → BlocksWhole place → place x ≡ Place.Block x n was
    → Moved place (put_range place x n (Place.Block x n now)) x n now
used_moves place x n was now whole at = record {
  here = let l = (whole x x n was at).below in range_in place x n (Place.Block x n now) x (omega arith) l;
  to = λ y m w ne f. range_out place x n (Place.Block x n now) y (blocks_apart place x n y m was w whole at f ne).out
      ∙ f;
  from = λ y m w ne f. old y m w ne (use_was place x n was now whole at y m w f);
}
  where
    old : (y m : ℕ) (w : Use) → y ≢ x
        → ((y ≡ x) × (m ≡ n) × (w ≡ now)) ⊎ ((y ≢ x) × (place y ≡ Place.Block y m w)) → place y ≡ Place.Block y m w
    old y m w ne (inl (a, b, c)) = absurd (ne a)
    old y m w ne (inr (a, f)) = f

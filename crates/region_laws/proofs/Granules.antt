-- Blocks and regions: each block lies in one settled region, and none at the edges of one that is not settled.
use Rattle.std.proofs.Common.{◌≡◌, ◌≢◌, inl, inr, ℕ, ◌+◌, ◌<◌, ◌≤◌, Option, Some, None, refl, sym, ap, subst, arith}
use Rattle.std.proofs.Common.{◌∙◌}
use Rattle.pool_types.specs.declared.policy.RegionRec.{RegionRec}
use Rattle.pool_words.specs.declared.words.Key.{Key}
use Rattle.word_codes.specs.Places.{slot_of}
use Rattle.guards.specs.declared.win.Side.{Side}
use Rattle.word_laws.specs.Memory.{put}
use Rattle.word_laws.proofs.CallerLemmas.{less_or, equal_or, put-same, put-other, each}
use Rattle.guard_laws.specs.Blocks.{Use, Place, edge_of, put_range, BlocksWhole}
use Rattle.guard_laws.specs.Steps.{IsNoEdge}
use Rattle.guard_laws.proofs.CallerLemmas.{range_in, range_out, in_or, range_each, IsOut}
use Rattle.office_laws.specs.Regions as office
use Rattle.office_laws.specs.Regions.{AreApart, OutFits}
use Rattle.office_laws.specs.Laws.{HasGranule}
use Rattle.office_laws.specs.Steps.{shadow_removed}
use Rattle.region_laws.specs.Granules.{IsInside, GranulesFit}
use Rattle.region_laws.proofs.Status.{SameStatus}

some_is : {A : Type 0} (a b : A) → Some a ≡ Some b → a ≡ b
some_is a b is = cc

-- the settled region of a block
pub record Settled (settled : ℕ → Option RegionRec) (x n : ℕ) : Type 0 where
  pub slot : ℕ
  pub one : RegionRec
  pub is : settled slot ≡ Some one
  pub from : one.first ≤ x
  pub below : x < one.first + one.granules
  pub to : x + n ≤ one.first + one.granules

pub block_region : (k : Key) (g : office.Shadow) (settled : ℕ → Option RegionRec) (place : ℕ → Place) (x n : ℕ)
    (u : Use) → GranulesFit k g settled place → OutFits g.out g.counter
    → ((s : ℕ) (one : RegionRec) → g.live s ≡ Some one → g.out s ≡ Some one) → BlocksWhole place
    → place x ≡ Place.Block x n u → Settled settled x n
block_region k g settled place x n u fits outs known whole at =
    let here = fits.outside x (subst IsInside (sym at) tt) in
    let s = here.0 in
    let a = here.1 in
    let is = here.2 in
    let from = here.3.0 in
    let below = here.3.1 in
    record {
      slot = s;
      one = a;
      is = is;
      from = from;
      below = below;
      to = less_or (a.first + a.granules) (x + n)
          (λ past. absurd (clash s a is from below past))
          (λ within. within);
    }
  where
    out_of : (s : ℕ) (one : RegionRec) → settled s ≡ Some one → g.out s ≡ Some one
    out_of s one is = known s one (fits.known s one is)

    clash : (s : ℕ) (a : RegionRec) → settled s ≡ Some a → a.first ≤ x → x < a.first + a.granules
        → a.first + a.granules < x + n → ⊥
    clash s a is from below past =
        let z = a.first + a.granules in
        let low : x ≤ z = omega arith in
        let there = fits.outside z (subst IsInside (sym ((whole x x n u at).all z low past)) tt) in
        by there.0 there.1 there.2 there.3.0 there.3.1
      where
        by : (s' : ℕ) (b : RegionRec) → settled s' ≡ Some b → b.first ≤ a.first + a.granules
            → a.first + a.granules < b.first + b.granules → ⊥
        by s' b is' l h = equal_or s s'
            (λ e. let q = some_is a b (sym is ∙ ap settled e ∙ is') in
            let qf = ap (λ (r : RegionRec). r.first) q in
            let qg = ap (λ (r : RegionRec). r.granules) q in omega arith)
            (λ ne. apart (outs.apart s s' a b ne (out_of s a is) (out_of s' b is')))
          where
            apart : AreApart a b → ⊥
            apart (inl one) = omega arith
            apart (inr two) = omega arith

-- the region that is to be settled
pub record IsUnsettled (g : office.Shadow) (settled : ℕ → Option RegionRec) (one : RegionRec) : Type 0 where
  pub out : g.out (slot_of one.number) ≡ Some one
  pub none : settled (slot_of one.number) ≡ None

other_slot : (settled : ℕ → Option RegionRec) (s slot : ℕ) (b : RegionRec) → settled slot ≡ None → settled s ≡ Some b
    → s ≢ slot
other_slot settled s slot b none is e = let q : None ≡ Some b = sym none ∙ sym (ap settled e) ∙ is in cc

-- no block begins or ends in it, nor at its wall
pub no_edge : (k : Key) (g : office.Shadow) (settled : ℕ → Option RegionRec) (place : ℕ → Place) (one : RegionRec)
    (e : Side) (y : ℕ) → GranulesFit k g settled place → OutFits g.out g.counter
    → ((s : ℕ) (one : RegionRec) → g.live s ≡ Some one → g.out s ≡ Some one) → BlocksWhole place
    → IsUnsettled g settled one → one.first ≤ y → y ≤ one.first + one.granules → IsNoEdge place e y
no_edge k g settled place one e y fits outs known whole un low high x n u at =
    let r = block_region k g settled place x n u fits outs known whole at in
    let below = (whole x x n u at).below in
    by e r.slot r.one r.is r.from r.below r.to below
  where
    by : (e : Side) (s : ℕ) (b : RegionRec) → settled s ≡ Some b → b.first ≤ x → x < b.first + b.granules
        → x + n ≤ b.first + b.granules → x < x + n → edge_of e x n ≢ y
    by e s b is from below to some = at_side e (outs.apart s (slot_of one.number) b one
        (other_slot settled s (slot_of one.number) b un.none is) (known s b (fits.known s b is)) un.out)
      where
        at_side : (e : Side) → AreApart b one → edge_of e x n ≢ y
        at_side Side.Begin (inl before) same = omega (arith, same)
        at_side Side.Begin (inr behind) same = omega (arith, same)
        at_side Side.End (inl before) same = omega (arith, same)
        at_side Side.End (inr behind) same = omega (arith, same)

-- all its granules are outside
pub all_outside : (k : Key) (g : office.Shadow) (settled : ℕ → Option RegionRec) (place : ℕ → Place) (one : RegionRec)
    → GranulesFit k g settled place → OutFits g.out g.counter
    → ((s : ℕ) (one : RegionRec) → g.live s ≡ Some one → g.out s ≡ Some one) → IsUnsettled g settled one → (z : ℕ)
    → one.first ≤ z → z < one.first + one.granules → place z ≡ Place.Outside
all_outside k g settled place one fits outs known un z low high = by (place z) refl
  where
    apart : (s : ℕ) (b : RegionRec) → settled s ≡ Some b → b.first ≤ z → z < b.first + b.granules → ⊥
    apart s b is from below = clash (outs.apart s (slot_of one.number) b one
        (other_slot settled s (slot_of one.number) b un.none is) (known s b (fits.known s b is)) un.out)
      where
        clash : AreApart b one → ⊥
        clash (inl before) = omega arith
        clash (inr behind) = omega arith

    by : (q : Place) → place z ≡ q → q ≡ Place.Outside
    by Place.Outside is = refl
    by (Place.Block x n u) is =
        let r = fits.outside z (subst IsInside (sym is) tt) in absurd (apart r.0 r.1 r.2 r.3.0 r.3.1)

-- the same, where granules are in blocks as before, and the office has the same regions
pub granules_stay : (k : Key) (g : office.Shadow) (settled : ℕ → Option RegionRec) (place place' : ℕ → Place)
    → SameStatus place place' → GranulesFit k g settled place → GranulesFit k g settled place'
granules_stay k g settled place place' same fits = record {
  known = fits.known;
  within = fits.within;
  inside = λ s one y is has. (same y).0 (fits.inside s one y is has);
  outside = λ y is. fits.outside y ((same y).1 is);
}

-- a region is settled
pub granules_settled : (k : Key) (g : office.Shadow) (settled : ℕ → Option RegionRec) (place : ℕ → Place)
    (one : RegionRec) (u : Use) → g.live (slot_of one.number) ≡ Some one → settled (slot_of one.number) ≡ None
    → GranulesFit k g settled place
    → GranulesFit k g (put settled (slot_of one.number) (Some one))
    (put_range place one.first one.granules (Place.Block one.first one.granules u))
granules_settled k g settled place one u live none fits = record {
  known = λ s b. each (λ s q. q ≡ Some b → g.live s ≡ Some b) settled slot (Some one) (λ s _ is. fits.known s b is)
      (λ is. live ∙ is) s;
  within = fits.within;
  inside = λ s b y. each (λ s q. q ≡ Some b → HasGranule b y → IsInside (new y)) settled slot (Some one)
      (λ s _ is has. wider y (fits.inside s b y is has))
      (λ is has. subst IsInside (sym (let q = some_is one b is in
      range_in place one.first one.granules (Place.Block one.first one.granules u) y
      (subst (λ (r : RegionRec). r.first ≤ y) (sym q) has.0)
      (subst (λ (r : RegionRec). y < r.first + r.granules) (sym q) has.1))) tt) s;
  outside = λ y is. in_or one.first one.granules y
      (λ low high. (slot, one, put-same settled slot (Some one), (low, high)))
      (λ out. let old = fits.outside y (subst IsInside
      (range_out place one.first one.granules (Place.Block one.first one.granules u) y out) is) in (
        old.0,
        old.1,
        put-other settled slot (Some one) old.0
            (other_slot settled old.0 slot old.1 none old.2) ∙ old.2,
        old.3,
      ));
}
  where
    slot : ℕ
    slot = slot_of one.number

    new : ℕ → Place
    new = put_range place one.first one.granules (Place.Block one.first one.granules u)

    wider : (y : ℕ) → IsInside (place y) → IsInside (new y)
    wider = range_each (λ y q. IsInside (place y) → IsInside q) place one.first one.granules
        (Place.Block one.first one.granules u) (λ y _ is. is) (λ y _ _ _. tt)

-- a region goes
pub granules_removed : (k : Key) (g : office.Shadow) (settled : ℕ → Option RegionRec) (place : ℕ → Place) (slot : ℕ)
    (one : RegionRec) → g.live slot ≡ Some one → OutFits g.out g.counter
    → ((s : ℕ) (one : RegionRec) → g.live s ≡ Some one → g.out s ≡ Some one) → GranulesFit k g settled place
    → GranulesFit k (shadow_removed (Some slot) g) (put settled slot None)
    (put_range place one.first one.granules Place.Outside)
granules_removed k g settled place slot one live outs known fits = record {
  known = λ s b is. let ne = else s b is in
      put-other g.live slot None s ne ∙ fits.known s b (sym (put-other settled slot None s ne) ∙ is);
  within = λ s b. each (λ s q. q ≡ Some b → b.first + b.granules ≤ k.span) g.out slot None
      (λ s _ is. fits.within s b is) (λ is. absurd (let q : None ≡ Some b = is in cc)) s;
  inside = λ s b y is has. let ne = else s b is in
      let was = sym (put-other settled slot None s ne) ∙ is in
      subst IsInside (sym (range_out place one.first one.granules Place.Outside y (out_is s b y ne was has)))
      (fits.inside s b y was has);
  outside = λ y is. in_or one.first one.granules y
      (λ low high. absurd (subst IsInside (range_in place one.first one.granules Place.Outside y low high) is))
      (λ out. let old = fits.outside y (subst IsInside
      (range_out place one.first one.granules Place.Outside y out) is) in
      let ne = not_slot old.0 old.1 y out old.2 old.3 in
      (old.0, old.1, put-other settled slot None old.0 ne ∙ old.2, old.3));
}
  where
    else : (s : ℕ) (b : RegionRec) → put settled slot None s ≡ Some b → s ≢ slot
    else s b is e = let q : None ≡ Some b = sym (ap (put settled slot None) e ∙ put-same settled slot None) ∙ is in cc

    out_is : (s : ℕ) (b : RegionRec) (y : ℕ) → s ≢ slot → settled s ≡ Some b → HasGranule b y
        → IsOut one.first one.granules y
    out_is s b y ne is has = by (outs.apart s slot b one ne (known s b (fits.known s b is)) (known slot one live))
      where
        by : AreApart b one → IsOut one.first one.granules y
        by (inl before) = let h = has.1 in inl (omega arith)
        by (inr behind) = let l = has.0 in inr (omega arith)

    not_slot : (s : ℕ) (b : RegionRec) (y : ℕ) → IsOut one.first one.granules y → settled s ≡ Some b → HasGranule b y
        → s ≢ slot
    not_slot s b y out is has e =
        let q = some_is b one (sym (fits.known s b is) ∙ ap g.live e ∙ live) in
        let qf = ap (λ (r : RegionRec). r.first) q in
        let qg = ap (λ (r : RegionRec). r.granules) q in
        let l = has.0 in let h = has.1 in by out qf qg l h
      where
        by : IsOut one.first one.granules y → b.first ≡ one.first → b.granules ≡ one.granules → b.first ≤ y
            → y < b.first + b.granules → ⊥
        by (inl low) qf qg l h = omega arith
        by (inr far) qf qg l h = omega arith

-- Places, and the ranges that they lie in.
use Rattle.std.proofs.Common.{◌≡◌, inl, inr, ℕ, ◌+◌, ◌<◌, ◌≤◌, true, false, ◌&&◌, ◌==◌, eq-eqb, ◌∙◌, ap, arith, nat_le, nat_lt}
use Rattle.std.proofs.lemmas.Bool.{and_parts, and_from, eqb-true, leb-true, ltb-true, le-leb, lt-ltb, cases_Bool}
use Rattle.pool_types.specs.declared.values.Place.{Place}
use Rattle.part_model.specs.declared.moves.Range.{Range}
use Rattle.part_model.specs.Holding.{lies_in, same_region, IsApart}

-- what a test of the region tells, and what shows it
pub same_region-parts : (one other : Place) → same_region one other ≡ true → (one.pool ≡ other.pool) × (one.region ≡ other.region)
same_region-parts one other same =
    let both = and_parts (one.pool == other.pool) (one.region == other.region) same in
    (eqb-true one.pool other.pool both.0, eqb-true one.region other.region both.1)

pub same_region-is : (one other : Place) → one.pool ≡ other.pool → one.region ≡ other.region → same_region one other ≡ true
same_region-is one other pool region =
    and_from (one.pool == other.pool) (one.region == other.region) (eq-eqb one.pool other.pool pool) (eq-eqb one.region other.region region)

-- what it tells that a byte lies in a range, and what shows it
pub record LiesIn (byte : Place) (range : Range) : Type 0 where
  pub region : same_region byte range.place ≡ true
  pub from : range.place.offset ≤ byte.offset
  pub below : byte.offset < range.place.offset + range.bytes

pub lies_in-parts : (byte : Place) (range : Range) → lies_in byte range ≡ true → LiesIn byte range
lies_in-parts byte range inside =
    let outer = and_parts (same_region byte range.place && nat_le range.place.offset byte.offset) (nat_lt byte.offset (range.place.offset + range.bytes)) inside in
    let inner = and_parts (same_region byte range.place) (nat_le range.place.offset byte.offset) outer.0 in
    record { region = inner.0; from = leb-true _ _ inner.1; below = ltb-true _ _ outer.1 }

pub lies_in-is : (byte : Place) (range : Range) → same_region byte range.place ≡ true → range.place.offset ≤ byte.offset → byte.offset < range.place.offset + range.bytes → lies_in byte range ≡ true
lies_in-is byte range region from below =
    and_from (same_region byte range.place && nat_le range.place.offset byte.offset) (nat_lt byte.offset (range.place.offset + range.bytes))
    (and_from (same_region byte range.place) (nat_le range.place.offset byte.offset) region (le-leb _ _ from)) (lt-ltb _ _ below)

-- a byte by its region and its offset
pub place_is : (byte place : Place) → same_region byte place ≡ true → byte ≡ record { pool = place.pool; region = place.region; offset = byte.offset }
place_is byte place same =
    let both = same_region-parts byte place same in
    let at : ℕ → ℕ → Place = λ p r. record { pool = p; region = r; offset = byte.offset } in
    ap (λ p. at p byte.region) both.0 ∙ ap (λ r. at place.pool r) both.1

-- a byte that the facts of a range rule out
pub lies_in-not : (byte : Place) (range : Range) → (lies_in byte range ≡ true → ⊥) → lies_in byte range ≡ false
lies_in-not byte range never = elim (cases_Bool (lies_in byte range)) [ inl inside ↦ absurd (never inside) | inr outside ↦ outside ]

-- a range that ends where another begins, or before
pub apart_before : (one other : Range) → one.place.offset + one.bytes ≤ other.place.offset → IsApart one other
apart_before one other ends byte inside =
    lies_in-not byte other (λ within.
    let low = lies_in-parts byte one inside in
    let high = lies_in-parts byte other within in
    omega (arith, ends, low.below, high.from))

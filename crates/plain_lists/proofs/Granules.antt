-- Which granules some granules in a row are.
use Rattle.std.proofs.Common.{◌≡◌, ℕ, ◌+◌, ◌<◌, ◌≤◌, Bool, true, false, nat_le, nat_lt, inl, inr, ap, arith}
use Rattle.std.specs.Prelude.{if◌then◌else◌}
use Rattle.std.specs.declared.option.Option.{Option}
use Rattle.std.proofs.lemmas.Bool.{and_parts, and_from, and_left, and_right, le-leb, lt-leb, lt-ltb, le-ltb, leb-true, ltb-true, cases_lt}
use Rattle.pool_types.specs.declared.values.Region.{Region}
use Rattle.plain_lists.specs.Lists.{lies_on}
use Rattle.plain_lists.specs.Good.{has_granule}
use Rattle.list_laws.proofs.Counts.{one_if}

-- a granule of them, one before them and one behind them
pub lies_on-true : (first granules granule : ℕ) → first ≤ granule → granule < first + granules → lies_on first granules granule ≡ true
lies_on-true first granules granule from below = and_from (nat_le first granule) (nat_lt granule (first + granules)) (le-leb first granule from) (lt-ltb granule (first + granules) below)

pub lies_on-before : (first granules granule : ℕ) → granule < first → lies_on first granules granule ≡ false
lies_on-before first granules granule before = and_left (nat_le first granule) (nat_lt granule (first + granules)) (lt-leb first granule before)

pub lies_on-behind : (first granules granule : ℕ) → first + granules ≤ granule → lies_on first granules granule ≡ false
lies_on-behind first granules granule behind = and_right (nat_le first granule) (nat_lt granule (first + granules)) (le-ltb granule (first + granules) behind)

pub lies_on-parts : (first granules granule : ℕ) → lies_on first granules granule ≡ true → (first ≤ granule) × (granule < first + granules)
lies_on-parts first granules granule on =
    let both = and_parts (nat_le first granule) (nat_lt granule (first + granules)) on in
    (leb-true first granule both.0, ltb-true granule (first + granules) both.1)

-- granules in a row, and more behind them
pub lies_on-joined : (first granules more granule : ℕ) →
    one_if (lies_on first (granules + more) granule) ≡ one_if (lies_on first granules granule) + one_if (lies_on (first + granules) more granule)
lies_on-joined first granules more granule =
    elim (cases_lt granule first) [
      | inl before ↦
          let whole = ap one_if (lies_on-before first (granules + more) granule before) in
          let front = ap one_if (lies_on-before first granules granule before) in
          let back = ap one_if (lies_on-before (first + granules) more granule (omega (arith, before))) in omega (arith, whole, front, back)
      | inr from ↦ elim (cases_lt granule (first + granules)) [
        | inl within ↦
            let whole = ap one_if (lies_on-true first (granules + more) granule from (omega (arith, within))) in
            let front = ap one_if (lies_on-true first granules granule from within) in
            let back = ap one_if (lies_on-before (first + granules) more granule within) in omega (arith, whole, front, back)
        | inr past ↦ elim (cases_lt granule (first + granules + more)) [
          | inl within ↦
              let whole = ap one_if (lies_on-true first (granules + more) granule from (omega (arith, within))) in
              let front = ap one_if (lies_on-behind first granules granule past) in
              let back = ap one_if (lies_on-true (first + granules) more granule past within) in omega (arith, whole, front, back)
          | inr behind ↦
              let whole = ap one_if (lies_on-behind first (granules + more) granule (omega (arith, behind))) in
              let front = ap one_if (lies_on-behind first granules granule past) in
              let back = ap one_if (lies_on-behind (first + granules) more granule behind) in omega (arith, whole, front, back)
        ]
      ]
    ]

-- no granules
pub lies_on-none : (first granule : ℕ) → one_if (lies_on first 0 granule) ≡ 0
lies_on-none first granule =
    elim (cases_lt granule first) [
      | inl before ↦ ap one_if (lies_on-before first 0 granule before)
      | inr from ↦ ap one_if (lies_on-behind first 0 granule (omega (arith, from)))
    ]

-- a granule is in the region once, or not at all
pub has_granule-once : (region : Option Region) (granule : ℕ) → (if has_granule region granule then 1 else 0) ≤ 1
has_granule-once region granule = go (has_granule region granule)
  where
    go : (b : Bool) → ◌≤◌ (if b then 1 else 0) 1
    go true = omega arith
    go false = omega arith

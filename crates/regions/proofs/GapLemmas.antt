-- What a walk over the gaps knows.
use Rattle.std.proofs.Common.{◌≡◌, ℕ, ◌+◌, ◌-◌, ◌<◌, ◌≤◌, true, false, arith, ◌∙◌, sym, List, ◌⊎◌, inl, inr}
use Rattle.std.proofs.lemmas.Bool.{cases_lt}
use Rattle.pool_types.specs.declared.policy.RegionRec.{RegionRec}
use Rattle.regions.specs.Gaps.{is_taken, IsGap, IsLongestGap}

-- the indices from here are free up to the end, and there the span ends or an index is taken
pub record IsFreeTo (span : ℕ) (records : List RegionRec) (at end : ℕ) : Type 0 where
  pub from : at ≤ end
  pub within : end ≤ span
  pub free : (index : ℕ) → at ≤ index → index < end → is_taken records index ≡ false
  pub stop : end < span → is_taken records end ≡ true

-- a gap that starts in such indices ends in them
pub ends_in : (span : ℕ) (records : List RegionRec) (at end other many : ℕ) → IsFreeTo span records at end → IsGap span records other many → other ≤ end → other + many ≤ end
ends_in span records at end other many reach gap below = by_cases (cases_lt end span) (cases_lt end (other + many))
  where
    by_cases : (end < span) ⊎ (span ≤ end) → (end < other + many) ⊎ (other + many ≤ end) → other + many ≤ end
    by_cases before (inr within) = within
    by_cases (inr past) (inl more) = omega (arith, gap.within)
    by_cases (inl before) (inl more) = let same : false ≡ true = sym (gap.free end below more) ∙ reach.stop before in absurd (cc)

-- the longest of the gaps that start below this index, the lowest of equals
pub record IsLongestBelow (span : ℕ) (records : List RegionRec) (at start count : ℕ) : Type 0 where
  pub gap : IsGap span records start count
  pub longest : (other many : ℕ) → other < at → IsGap span records other many → many ≤ count
  pub lowest : (other : ℕ) → other < at → IsGap span records other count → start ≤ other
  pub from : start ≤ at

pub longest_whole : (span : ℕ) (records : List RegionRec) (at start count : ℕ) → IsLongestBelow span records at start count → span ≤ at → IsLongestGap span records start count
longest_whole span records at start count best past = record {
  gap = best.gap;
  longest = λ other many gap. many_at other many gap (cases_lt other at);
  lowest = λ other gap. lowest_at other gap (cases_lt other at);
}
  where
    many_at : (other many : ℕ) → IsGap span records other many → (other < at) ⊎ (at ≤ other) → many ≤ count
    many_at other many gap (inl below) = best.longest other many below gap
    many_at other many gap (inr above) = omega (arith, gap.within)

    lowest_at : (other : ℕ) → IsGap span records other count → (other < at) ⊎ (at ≤ other) → start ≤ other
    lowest_at other gap (inl below) = best.lowest other below gap
    lowest_at other gap (inr above) = omega (arith, best.from)

-- a longer reach is the longest from now on
pub longest_new : (span : ℕ) (records : List RegionRec) (at end start count : ℕ) → IsLongestBelow span records at start count → IsFreeTo span records at end → count < end - at → IsLongestBelow span records (end + 1) at (end - at)
longest_new span records at end start count best reach more = record {
  gap = record { within = omega (arith, reach.within, reach.from); free = λ index from below. reach.free index from (omega (arith, reach.from)) };
  longest = λ other many below gap. many_at other many below gap (cases_lt other at);
  lowest = λ other below gap. lowest_at other gap (cases_lt other at);
  from = omega (arith, reach.from);
}
  where
    many_at : (other many : ℕ) → other < end + 1 → IsGap span records other many → (other < at) ⊎ (at ≤ other) → many ≤ end - at
    many_at other many below gap (inl before) = omega (arith, best.longest other many before gap)
    many_at other many below gap (inr after) = omega (arith, ends_in span records at end other many reach gap (omega arith))

    lowest_at : (other : ℕ) → IsGap span records other (end - at) → (other < at) ⊎ (at ≤ other) → at ≤ other
    lowest_at other gap (inl before) = omega (arith, best.longest other (end - at) before gap)
    lowest_at other gap (inr after) = after

-- one that is no longer changes nothing
pub longest_old : (span : ℕ) (records : List RegionRec) (at end start count : ℕ) → IsLongestBelow span records at start count → IsFreeTo span records at end → end - at ≤ count → at < span → IsLongestBelow span records (end + 1) start count
longest_old span records at end start count best reach less inside = record {
  gap = best.gap;
  longest = λ other many below gap. many_at other many below gap (cases_lt other at);
  lowest = λ other below gap. lowest_at other below gap (cases_lt other at);
  from = omega (arith, reach.from, best.from);
}
  where
    many_at : (other many : ℕ) → other < end + 1 → IsGap span records other many → (other < at) ⊎ (at ≤ other) → many ≤ count
    many_at other many below gap (inl before) = best.longest other many before gap
    many_at other many below gap (inr after) = omega (arith, ends_in span records at end other many reach gap (omega arith))

    lowest_at : (other : ℕ) → other < end + 1 → IsGap span records other count → (other < at) ⊎ (at ≤ other) → start ≤ other
    lowest_at other below gap (inl before) = best.lowest other before gap
    lowest_at other below gap (inr after) = omega (arith, best.from)

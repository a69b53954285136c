-- The regions that are gone through: live ones, by rising numbers, no two of which have a granule in common.
use Rattle.std.proofs.Common.{◌≡◌, ◌⊎◌, inl, inr, ℕ, zero, suc, ◌+◌, ◌*◌, ◌/◌, ◌^◌, ◌<◌, ◌≤◌, Bool, true, false, cond}
use Rattle.std.proofs.Common.{List, ◌++◌, refl, sym, ap, subst, arith}
use Rattle.std.specs.Prelude.{Contains, leb, ltb, ◌&&◌, Option, Some, None}
use Rattle.std.proofs.lemmas.Bool.Decides.{nat_tests}
use Rattle.std.proofs.lemmas.List.Elements.{Contains-append_cases}
use Rattle.list_laws.proofs.Members.{Contains-none}
use Rattle.pool_types.specs.declared.values.Grant.{Grant}
use Rattle.pool_types.specs.declared.values.Leak.{Leak}
use Rattle.pool_types.specs.Sums.{capped}
use Rattle.pool_words.specs.declared.words.Word.{Word}
use Rattle.pool_words.specs.Words.{granule_units, region_slots}
use Rattle.word_codes.specs.declared.region_words.RegionWord.{RegionWord}
use Rattle.word_codes.specs.RegionWords.{region_of}
use Rattle.word_codes.proofs.CallerLemmas.{capped_is}
use Rattle.word_totals.specs.Leaking.{leaks_by, leaks_of, leaks_of_region, lesser, nearer, nearest, next_region}
use Rattle.word_totals.specs.Leaking.{region_leaks}
use Rattle.word_totals.specs.Reading.{Still, load}
use Rattle.step_grants.specs.Grants.{IsAt}
use Rattle.step_laws.specs.Laws.{HasIndexOf}
use Rattle.leak_laws.specs.Laws.{AreOnce}
use Rattle.leak_laws.proofs.Units.{InRow, IsBetween, NoneShared, once_both, region_row}

lesser_is : (best : Option RegionWord) (one region : RegionWord) → lesser best one ≡ Some region
    → (best ≡ Some region) ⊎ (one ≡ region)
lesser_is None one region e = inr (cc)
lesser_is (Some other) one region e = by (ltb one.number other.number) e
  where
    by : (b : Bool) → cond b (Some one) (Some other) ≡ Some region → (Some other ≡ Some region) ⊎ (one ≡ region)
    by true e = inr (cc)
    by false e = inl e

-- the best so far, or this one
nearer_is : (from : ℕ) (best : Option RegionWord) (one region : RegionWord) → nearer from best one ≡ Some region
    → (best ≡ Some region) ⊎ ((one ≡ region) × (one.live ≡ true) × (from ≤ one.number))
unfolding nearer
nearer_is from best one region e = by (one.live && leb from one.number) refl e
  where
    this : (one.live && leb from one.number) ≡ true → (best ≡ Some region) ⊎ (one ≡ region)
        → (best ≡ Some region) ⊎ ((one ≡ region) × (one.live ≡ true) × (from ≤ one.number))
    this tells (inl was) = inl was
    this tells (inr same) = inr (same, grind (arith, nat_tests), grind (arith, nat_tests))

    by : (b : Bool) → (one.live && leb from one.number) ≡ b → cond b (lesser best one) best ≡ Some region
        → (best ≡ Some region) ⊎ ((one ≡ region) × (one.live ≡ true) × (from ≤ one.number))
    by true tells e = this tells (lesser_is best one region e)
    by false tells e = inl e

-- what a region's word says of granules and numbers is small
record IsSmall (region : RegionWord) : Type 0 where
  first : region.first < 2 ^ 14
  granules : region.granules < 2 ^ 14
  number : region.number < 2 ^ 22

are_small : (w : ℕ) → IsSmall (region_of w)
unfolding region_of
are_small w = record { first = omega arith; granules = omega arith; number = omega arith }

module _ (s : Still) where
  -- a live region that a slot's word says
  pub record IsLive (region : RegionWord) : Type 0 where
    pub slot : ℕ
    pub is : region_of (load s (Word.Region slot)) ≡ region
    pub live : region.live ≡ true

  -- a live region, by a number from this one on
  abbrev pub IsFrom : ℕ → RegionWord → Type 0
  IsFrom from region = IsLive region × (from ≤ region.number)

  small : (region : RegionWord) → IsLive region → IsSmall region
  small region live = subst IsSmall live.is (are_small (load s (Word.Region live.slot)))

  nearest_is : (from left slot : ℕ) (best : Option RegionWord) (region : RegionWord)
      → nearest s from left slot best ≡ Some region → (best ≡ Some region) ⊎ IsFrom from region
  unfolding nearest
  nearest_is from zero slot best region e = inl e
  nearest_is from (suc left) slot best region e = by (nearest_is from left (capped (slot + 1))
      (nearer from best (region_of (load s (Word.Region slot)))) region e)
    where
      here : (best ≡ Some region) ⊎ ((region_of (load s (Word.Region slot)) ≡ region)
          × ((region_of (load s (Word.Region slot))).live ≡ true)
          × (from ≤ (region_of (load s (Word.Region slot))).number))
          → (best ≡ Some region) ⊎ IsFrom from region
      here (inl was) = inl was
      here (inr now) = inr (
        record {
          slot = slot;
          is = now.0;
          live = subst (λ (r : RegionWord). r.live ≡ true) now.0 now.1;
        },
        subst (λ (r : RegionWord). from ≤ r.number) now.0 now.2,
      )

      by : (nearer from best (region_of (load s (Word.Region slot))) ≡ Some region) ⊎ IsFrom from region
          → (best ≡ Some region) ⊎ IsFrom from region
      by (inl was) = here (nearer_is from best (region_of (load s (Word.Region slot))) region was)
      by (inr found) = inr found

  next_is : (from : ℕ) (region : RegionWord) → next_region s from ≡ Some region → IsFrom from region
  unfolding next_region
  next_is from region e = by (nearest_is from region_slots 0 None region e)
    where
      by : (None ≡ Some region) ⊎ IsFrom from region → IsFrom from region
      by (inl none) = absurd (cc)
      by (inr found) = found

  module _ (words : ℕ → ℕ) (one : (u v : ℕ) (grant : Grant) → IsAt words grant u → IsAt words grant v → u ≡ v)
      (loads : (u : ℕ) → load s (Word.Mark u) ≡ words u)
      (apart : (a b : RegionWord) (e : ℕ) → IsLive a → IsLive b → HasIndexOf a e → HasIndexOf b e → a ≡ b) where
    -- a grant at a unit of a live region
    pub record InRegion (from : ℕ) (grant : Grant) : Type 0 where
      pub region : RegionWord
      pub is : IsFrom from region
      pub between : IsBetween words (region.first * granule_units)
          ((region.first + region.granules) * granule_units) grant

    pub record FromHere (from : ℕ) (leaks : List Leak) : Type 0 where
      pub each : (leak : Leak) → Contains leaks leak → InRegion from leak.grant
      pub once : AreOnce leaks

    -- the granule of a unit of a region is the region's
    index_of : (region : RegionWord) (grant : Grant)
        (b : IsBetween words (region.first * granule_units) ((region.first + region.granules) * granule_units) grant)
        → HasIndexOf region (b.unit / granule_units)
    index_of region grant b = let low = b.from in let high = b.below in (omega arith, omega arith)

    -- no grant is in two regions
    other_region : (a b : RegionWord) (grant : Grant) → IsLive a → IsLive b
        → IsBetween words (a.first * granule_units) ((a.first + a.granules) * granule_units) grant
        → IsBetween words (b.first * granule_units) ((b.first + b.granules) * granule_units) grant → a ≡ b
    other_region a b grant here there x y =
        let u = one x.unit y.unit grant x.there y.there in
        apart a b (x.unit / granule_units) here there (index_of a grant x)
        (subst (λ (n : ℕ). HasIndexOf b (n / granule_units)) (sym u) (index_of b grant y))

    later : (from next : ℕ) (grant : Grant) → from ≤ next → InRegion next grant → InRegion from grant
    later from next grant up x = record {
      region = x.region;
      is = (x.is.0, let high = x.is.1 in omega arith);
      between = x.between;
    }

    -- a region's leaks, and those of the regions behind it
    module _ (from : ℕ) (region : RegionWord) (ys : List Leak) (is : IsFrom from region)
        (behind : FromHere (region.number + 1) ys) where
      xs : List Leak
      xs = leaks_of_region s region

      row : InRow words (region.first * granule_units) ((region.first + region.granules) * granule_units) xs
      unfolding xs
      row = let fits = small region is.0 in region_row words one s loads region fits.first fits.granules

      none : NoneShared words one xs ys
      none x y has there same =
          let mine = row.each x has in
          let its = behind.each y there in
          let e : region ≡ its.region = other_region region its.region x.grant is.0 its.is.0 mine
          (subst (λ (g : Grant). IsBetween words (its.region.first * granule_units)
          ((its.region.first + its.region.granules) * granule_units) g) same its.between) in
          let n : region.number ≡ its.region.number = ap (λ (r : RegionWord). r.number) e in
          let high = its.is.1 in
          omega arith

      pub both_here : FromHere from (leaks_of_region s region ++ ys)
      unfolding xs
      both_here = record {
        each = λ leak inside. by leak (Contains-append_cases xs ys leak inside);
        once = once_both words one xs ys row.once behind.once none;
      }
        where
          by : (leak : Leak) → Contains xs leak ⊎ Contains ys leak → InRegion from leak.grant
          by leak (inl inside) = record { region = region; is = is; between = row.each leak inside }
          by leak (inr inside) =
              let up = is.1 in later from (region.number + 1) leak.grant (omega arith) (behind.each leak inside)

    from_here : (left from : ℕ) → FromHere from (region_leaks s left from)
    unfolding region_leaks
    from_here zero from = record { each = λ leak inside. absurd (Contains-none leak inside); once = tt }
    from_here (suc left) from = by (next_region s from) refl (λ above. from_here left above)
      where
        by : (found : Option RegionWord) → next_region s from ≡ found
            → ((above : ℕ) → FromHere above (region_leaks s left above))
            → FromHere from (leaks_by s found (λ above. region_leaks s left above))
        by None e rest = record { each = λ leak inside. absurd (Contains-none leak inside); once = tt }
        by (Some region) e rest =
            let is = next_is from region e in
            let fits = small region is.0 in
            let number = fits.number in
            both_here from region (region_leaks s left (capped (region.number + 1))) is
            (subst (λ (n : ℕ). FromHere (region.number + 1) (region_leaks s left n))
            (sym (capped_is (region.number + 1) (omega arith))) (rest (region.number + 1)))

    pub all_here : FromHere 0 (leaks_of s)
    unfolding leaks_of
    all_here = from_here region_slots 0

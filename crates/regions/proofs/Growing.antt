-- An office to which a region came is sound.
use Rattle.std.proofs.Common.{◌≡◌, ℕ, ◌+◌, ◌-◌, ◌*◌, ◌/◌, ◌%◌, ◌<◌, ◌≤◌, Bool, true, false, arith, ap, ◌∙◌, sym, refl, List, [], ◌∷◌, ◌++◌, ◌⊎◌, inl, inr, length, get_or, subst}
use Rattle.std.specs.Prelude.{◌==◌, ◌&&◌, All}
use Rattle.std.specs.List.{list_any}
use Rattle.std.proofs.lemmas.Bool.{cases_lt}
use Rattle.std.proofs.lemmas.Bool.Decides.{nat_tests}
use Rattle.std.proofs.lemmas.Grind.{common_steps}
use Rattle.std.proofs.lemmas.List.{map-append, get_or-map, length-map}
use Rattle.std.proofs.lemmas.List.Elements.{All-append, All-cons, All-nil}
use Rattle.std.proofs.lemmas.List.Folds.{list_any_at}
use Rattle.std.proofs.lemmas.List.Quantifiers.{all_pairs_push}
use Rattle.pool_types.specs.declared.policy.RegionRec.{RegionRec}
use Rattle.pool_types.specs.declared.values.Region.{Region}
use Rattle.pool_types.specs.Limits.{region_numbers}
use Rattle.pool_types.specs.Regions.{overlaps, IsFresh}
use Rattle.regions.specs.Gaps.{has_index, IsGap}
use Rattle.regions.specs.Obtaining.{HasNumber}
use Rattle.regions.specs.Offices.{Desk, desk_of, IsSound, IsWellPlaced, AreApart}
use Rattle.regions.specs.Placing.{IsPlaced, IsWhole, IsCut, IsRecord, parity_of, whole_granules}
use Rattle.regions.proofs.SlotLemmas.{next_free}

-- where no element passes, the one at a place does not
not_at : {X : Type 0} (p : X → Bool) (xs : List X) (k : ℕ) (d : X) → k < length xs → list_any p xs ≡ false → p (get_or xs k d) ≡ false
not_at p xs k d below none = by_value (p (get_or xs k d)) refl
  where
    by_value : (b : Bool) → p (get_or xs k d) ≡ b → p (get_or xs k d) ≡ false
    by_value true is = let some : list_any p xs ≡ true = list_any_at p xs k d below is in cc
    by_value false is = is

-- what a placing comes to: the indices are free and of the parity, and no more granules than there are
pub record IsSeated (span : ℕ) (records : List RegionRec) (parity whole first granules : ℕ) : Type 0 where
  pub even_or_odd : first % 2 ≡ parity
  pub gap : IsGap span records first (granules + 1)
  pub most : granules ≤ whole

seated_whole : (span : ℕ) (records : List RegionRec) (parity whole first granules : ℕ) → IsWhole span records parity whole first granules → IsSeated span records parity whole first granules
seated_whole span records parity whole first granules place = record {
  even_or_odd = place.fits.even_or_odd;
  gap = record {
    within = omega (arith, place.all, place.fits.gap.within);
    free = λ index from below. place.fits.gap.free index from (omega (arith, place.all));
  };
  most = omega (arith, place.all);
}

seated_cut : (span : ℕ) (records : List RegionRec) (parity whole first granules : ℕ) → IsCut span records parity whole first granules → IsSeated span records parity whole first granules
seated_cut span records parity whole first granules place = record {
  even_or_odd = place.even_or_odd;
  gap = gap;
  most = most_at (cases_lt whole granules);
}
  where
    gap : IsGap span records first (granules + 1)
    gap = record {
      within = omega (arith, place.ends, place.longest.gap.within);
      free = λ index from below. place.longest.gap.free index (omega (arith, place.from)) (omega (arith, place.ends));
    }

    most_at : (whole < granules) ⊎ (granules ≤ whole) → granules ≤ whole
    most_at (inr less) = less
    most_at (inl more) = absurd (place.nowhere first (record {
      even_or_odd = place.even_or_odd;
      gap = record { within = omega (arith, gap.within); free = λ index from below. gap.free index from (omega arith) };
    }))

pub seated : (span : ℕ) (records : List RegionRec) (parity whole first granules : ℕ) → IsPlaced span records parity whole first granules → IsSeated span records parity whole first granules
seated span records parity whole first granules (inl place) = seated_whole span records parity whole first granules place
seated span records parity whole first granules (inr place) = seated_cut span records parity whole first granules place

-- granules that are no more than the whole ones lie in the region
pub room_for : (bytes waste granules : ℕ) → waste < 8192 → 8192 ≤ bytes → granules ≤ (bytes - waste) / 8192 → waste + granules * 8192 ≤ bytes
room_for bytes waste granules small least most = omega arith

-- the record is lawful
lawful : (span : ℕ) (records : List RegionRec) (one : RegionRec) → IsRecord span records one → 8192 ≤ one.region.bytes → IsWellPlaced span (one.number + 1) one
lawful span records one is_record least =
    let place : IsSeated span records (parity_of one) (whole_granules one) one.first one.granules = seated span records (parity_of one) (whole_granules one) one.first one.granules is_record.placed in
    record {
      used = omega arith;
      within = omega (arith, place.gap.within);
      even_or_odd = place.even_or_odd;
      aligned = is_record.aligned;
      some = least;
      room = room_for one.region.bytes one.waste one.granules is_record.aligned.least least place.most;
    }

-- no region has an index of a gap
spans_apart : (span : ℕ) (records : List RegionRec) (first granules : ℕ) → IsGap span records first (granules + 1) → (k : ℕ) (d : RegionRec) → k < length records →
    ((get_or records k d).first + (get_or records k d).granules < first) ⊎ (first + granules < (get_or records k d).first)
spans_apart span records first granules gap k d below = at (get_or records k d) refl
  where
    at : (one : RegionRec) → get_or records k d ≡ one → (one.first + one.granules < first) ⊎ (first + granules < one.first)
    at one is = by_cases (cases_lt (one.first + one.granules) first) (cases_lt (first + granules) one.first)
      where
        free_at : (index : ℕ) → first ≤ index → index < first + (granules + 1) → has_index one index ≡ false
        free_at index from to = ap (λ x. has_index x index) (sym is) ∙ not_at (λ x. has_index x index) records k d below (gap.free index from to)

        by_cases : (one.first + one.granules < first) ⊎ (first ≤ one.first + one.granules) → (first + granules < one.first) ⊎ (one.first ≤ first + granules) →
            (one.first + one.granules < first) ⊎ (first + granules < one.first)
        by_cases (inl before) other = inl before
        by_cases other (inl after) = inr after
        by_cases (inr late) (inr early) = absurd (both (cases_lt first one.first))
          where
            both : (first < one.first) ⊎ (one.first ≤ first) → ⊥
            both (inl less) = let free : has_index one one.first ≡ false = free_at one.first (omega arith) (omega arith) in grind (arith, nat_tests)
            both (inr more) = let free : has_index one first ≡ false = free_at first (omega arith) (omega arith) in grind (arith, nat_tests)

not_both : (a b : Bool) → a ≡ true → (a && b) ≡ false → b ≡ false
not_both true b is none = none
not_both false b is none = cc

module _ {R : Type 0} (out : R → List Region) (old : Desk R) (one : RegionRec) (raw : R) (bytes : ℕ)
    (sound : IsSound out old) (numbered : HasNumber old one.number) (least : 8192 ≤ bytes) (fresh : IsFresh (out old.raw) bytes one.region) (is_record : IsRecord old.limits.span old.records one) where
  few : length old.records < 64
  few = let full = numbered.open_is in grind (arith, nat_tests)

  low : one.number < region_numbers
  low = let full = numbered.open_is in grind (arith, nat_tests)

  apart_from : (k : ℕ) (d : RegionRec) → k < length old.records → AreApart (get_or old.records k d) one
  apart_from k d below =
      let place : IsSeated old.limits.span old.records (parity_of one) (whole_granules one) one.first one.granules = seated old.limits.span old.records (parity_of one) (whole_granules one) one.first one.granules is_record.placed in
      record {
        numbers = omega (arith, (sound.each k d below).used, numbered.next_is.from);
        slots = λ same. other_slot same;
        spans = spans_apart old.limits.span old.records one.first one.granules place.gap k d below;
        bytes = not_met;
      }
    where
      other_slot : (get_or old.records k d).number % 64 ≡ one.number % 64 → ⊥
      other_slot same =
          let free : ((get_or old.records k d).number % 64 == one.number % 64) ≡ false = not_at (λ x. x.number % 64 == one.number % 64) old.records k d below (next_free old.records old.counter one.number numbered.next_is few) in
          grind (arith, nat_tests)

      not_met : overlaps (get_or old.records k d).region one.region ≡ false
      not_met =
          let same : get_or (out old.raw) k d.region ≡ (get_or old.records k d).region = ap (λ xs. get_or xs k d.region) sound.regions ∙ get_or-map (λ x. x.region) old.records k d d.region below in
          let inside : k < length (out old.raw) = rw (sound.regions, length-map) below in
          ap (λ x. overlaps x one.region) (sym same) ∙ not_at (λ x. overlaps x one.region) (out old.raw) k d.region inside fresh.apart

  pub grown : out raw ≡ out old.raw ++ one.region ∷ [] → IsSound out (desk_of old.policy old.limits (old.records ++ one ∷ []) (one.number + 1) true raw)
  grown out_grows = record {
    allowed = sound.allowed;
    regions = out_grows ∙ ap (λ xs. xs ++ one.region ∷ []) sound.regions ∙ sym (map-append (λ x. x.region) old.records (one ∷ []));
    most = grind (arith, common_steps, few);
    numbers = omega (arith, low);
    each = All-append (IsWellPlaced old.limits.span (one.number + 1)) old.records (one ∷ []) still new_one;
    pairs = all_pairs_push AreApart old.records one sound.pairs apart_from;
    before = λ same. absurd (cc);
    one = first_one;
  }
    where
      still : All (IsWellPlaced old.limits.span (one.number + 1)) old.records
      still k d below = let had : IsWellPlaced old.limits.span old.counter (get_or old.records k d) = sound.each k d below in record {
        used = omega (arith, had.used, numbered.next_is.from);
        within = had.within;
        even_or_odd = had.even_or_odd;
        aligned = had.aligned;
        some = had.some;
        room = had.room;
      }

      new_one : All (IsWellPlaced old.limits.span (one.number + 1)) (one ∷ [])
      new_one = All-cons (IsWellPlaced old.limits.span (one.number + 1)) one [] (lawful old.limits.span old.records one is_record (omega (arith, fresh.room))) (All-nil (IsWellPlaced old.limits.span (one.number + 1)))

      first_one : old.policy.fixed ≡ true → length (old.records ++ one ∷ []) ≤ 1
      first_one fixed =
          let never : old.has_got ≡ false = not_both old.policy.fixed old.has_got fixed numbered.may in
          let none : old.records ≡ [] = sound.before never in
          rw none (omega arith)

-- the same of the number and the region that the record is made of
pub came : {R : Type 0} (out : R → List Region) (old : Desk R) (one : RegionRec) (raw : R) (bytes number : ℕ) (region : Region) → one.number ≡ number → one.region ≡ region →
    IsSound out old → HasNumber old number → 8192 ≤ bytes → IsFresh (out old.raw) bytes region → IsRecord old.limits.span old.records one → out raw ≡ out old.raw ++ region ∷ [] →
    IsSound out (desk_of old.policy old.limits (old.records ++ one ∷ []) (number + 1) true raw)
came out old one raw bytes number region number_is region_is sound numbered least fresh is_record out_grows =
    subst (λ (n : ℕ). IsSound out (desk_of old.policy old.limits (old.records ++ one ∷ []) (n + 1) true raw)) number_is
    (grown out old one raw bytes sound (subst (λ (n : ℕ). HasNumber old n) (sym number_is) numbered) least
    (subst (λ (r : Region). IsFresh (out old.raw) bytes r) (sym region_is) fresh) is_record (out_grows ∙ ap (λ r. out old.raw ++ r ∷ []) (sym region_is)))

-- An office without one of its regions is sound.
use Rattle.std.proofs.Common.{◌≡◌, ℕ, suc, ◌<◌, ◌≤◌, true, false, arith, ap, ◌∙◌, sym, refl, List, [], ◌∷◌, ◌++◌, ◌⊎◌, inl, inr, length, get_or, take, drop, subst}
use Rattle.std.specs.Prelude.{remove}
use Rattle.std.proofs.lemmas.Bool.{cases_lt}
use Rattle.std.proofs.lemmas.Bool.Decides.{nat_tests}
use Rattle.std.proofs.lemmas.List.{map-append, get_or-map, length-map, take-map, drop-map, length-append}
use Rattle.std.proofs.lemmas.List.Edits.{length-remove}
use Rattle.std.proofs.lemmas.List.Elements.{All-append, All-take, All-drop}
use Rattle.std.proofs.lemmas.List.Quantifiers.{all_pairs_remove}
use Rattle.std.proofs.Math.Seq.{get_or-append_seam}
use Rattle.pool_types.specs.declared.policy.RegionRec.{RegionRec}
use Rattle.pool_types.specs.declared.values.Region.{Region}
use Rattle.pool_types.specs.Regions.{overlaps, Loses}
use Rattle.regions.specs.Offices.{Desk, desk_of, IsSound, IsWellPlaced, AreApart, regions_of}

-- a region with a byte overlaps itself
overlaps_itself : (one : Region) → 1 ≤ one.bytes → overlaps one one ≡ true
overlaps_itself one some = grind (arith, nat_tests)

-- a list loses the element at a place where it has that region
pub record IsLostAt (old new : List Region) (one : Region) : Type 0 where
  pub place : ℕ
  pub below : place < length old
  pub there : get_or old place one ≡ one
  pub rest : new ≡ take place old ++ drop (suc place) old

lost_at : (old new : List Region) (one : Region) → Loses old one new → IsLostAt old new one
lost_at old new one loses = record {
  place = length loses.front;
  below = rw loses.before (rw length-append (omega arith));
  there = rw loses.before (get_or-append_seam loses.front one loses.back one);
  rest = rw (loses.before, loses.after) (sym (remove_seam loses.front one loses.back));
}
  where
    remove_seam : (front : List Region) (one : Region) (back : List Region) → take (length front) (front ++ one ∷ back) ++ drop (suc (length front)) (front ++ one ∷ back) ≡ front ++ back
    remove_seam [] one back = refl
    remove_seam (x ∷ front) one back = ap (λ xs. x ∷ xs) (remove_seam front one back)

module _ {R : Type 0} (out : R → List Region) (old : Desk R) (raw : R) (place : ℕ) (one : RegionRec)
    (sound : IsSound out old) (below : place < length old.records) (there : get_or old.records place one ≡ one) (loses : Loses (out old.raw) one.region (out raw)) where
  -- the region stands at one place alone
  only_at : (k : ℕ) → k < length old.records → (get_or old.records k one).region ≡ one.region → k ≡ place
  only_at k inside same = by_cases (cases_lt k place) (cases_lt place k)
    where
      some : 8192 ≤ one.region.bytes
      some = subst (λ (x : RegionRec). 8192 ≤ x.region.bytes) there (sound.each place one below).some

      met : true ≡ false → k ≡ place
      met wrong = cc

      by_cases : (k < place) ⊎ (place ≤ k) → (place < k) ⊎ (k ≤ place) → k ≡ place
      by_cases (inr more) (inr less) = omega arith
      by_cases (inl before) other =
          met (sym (overlaps_itself one.region (omega (arith, some))) ∙ ap (λ x. overlaps x one.region) (sym same) ∙ ap (λ x. overlaps (get_or old.records k one).region x.region) (sym there) ∙ (sound.pairs k place one before below).bytes)
      by_cases other (inl after) =
          met (sym (overlaps_itself one.region (omega (arith, some))) ∙ ap (λ x. overlaps x.region one.region) (sym there) ∙ ap (λ x. overlaps (get_or old.records place one).region x) (sym same) ∙ (sound.pairs place k one after inside).bytes)

  homes : out raw ≡ regions_of (remove old.records place)
  homes =
      let lost : IsLostAt (out old.raw) (out raw) one.region = lost_at (out old.raw) (out raw) one.region loses in
      let inside : lost.place < length old.records = subst (λ (n : ℕ). lost.place < n) (ap length sound.regions ∙ length-map old.records (λ x. x.region)) lost.below in
      let same : (get_or old.records lost.place one).region ≡ one.region = sym (get_or-map (λ x. x.region) old.records lost.place one one.region inside) ∙ ap (λ xs. get_or xs lost.place one.region) (sym sound.regions) ∙ lost.there in
      let is_place : lost.place ≡ place = only_at lost.place inside same in
      rw (lost.rest, is_place, sound.regions, take-map, drop-map) (sym (map-append (λ x. x.region) (take place old.records) (drop (suc place) old.records)))

  pub shrunk : IsSound out (desk_of old.policy old.limits (remove old.records place) old.counter old.has_got raw)
  shrunk = record {
    allowed = sound.allowed;
    regions = homes;
    most = omega (arith, length-remove old.records place below, sound.most);
    numbers = sound.numbers;
    each = All-append (IsWellPlaced old.limits.span old.counter) (take place old.records) (drop (suc place) old.records)
        (All-take (IsWellPlaced old.limits.span old.counter) place old.records sound.each)
        (All-drop (IsWellPlaced old.limits.span old.counter) (suc place) old.records sound.each);
    pairs = all_pairs_remove AreApart old.records place below sound.pairs;
    before = λ never. absurd (omega (arith, ap length (sound.before never)));
    one = λ fixed. omega (arith, length-remove old.records place below, sound.one fixed);
  }

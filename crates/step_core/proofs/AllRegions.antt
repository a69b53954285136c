-- All regions, one after another.
use Rattle.std.proofs.Common.{◌≡◌, ℕ, suc, ◌+◌, ◌≤◌, Bool, true, false, arith, ap, ◌∙◌, refl, List, [], ◌∷◌, length, subst, length-append}
use Rattle.pool_types.specs.Limits.{most_regions}
use Rattle.pool_types.specs.declared.endings.Destroyed.{Destroyed}
use Rattle.pool_types.specs.declared.policy.RegionRec.{RegionRec}
use Rattle.pool_types.specs.declared.values.Region.{Region}
use Rattle.regions.specs.Offices.{Desk}
use Rattle.step_core.specs.Endings.{Passes, PassesAll, no_regions, with_passed, count_of}

-- one region more is counted
count-with_passed : (d : Destroyed) (one : RegionRec) (answer : Bool) → count_of (with_passed d one answer) ≡ suc (count_of d)
count-with_passed d one true = rw length-append (omega arith)
count-with_passed d one false = rw length-append (omega arith)

-- nothing in any of the three lists
pub none_of : (d : Destroyed) → d.returned.items ≡ [] → d.refused.items ≡ [] → d.kept.items ≡ [] → d ≡ no_regions
none_of d returned refused kept =
    ap (λ xs. record d { returned = record { items = xs } }) returned ∙
    ap (λ xs. record no_regions { refused = record { items = xs }; kept = d.kept }) refused ∙
    ap (λ xs. record no_regions { kept = record { items = xs } }) kept

module _ {R : Type 0} (out : R → List Region) (faults : R → ℕ) (passed : R → Region → Bool → R → Type 0) where
  -- what is left to pass from the one state on, is left of all from the other on
  abbrev pub LeadsTo : List RegionRec → Destroyed → R → List RegionRec → Destroyed → R → Type 0
  LeadsTo first none raw now so_far now_raw = (last : Destroyed) (end : R) →
      PassesAll out faults passed now so_far now_raw last end → PassesAll out faults passed first none raw last end

  pub ends_here : (records : List RegionRec) (d : Destroyed) (raw : R) → length records ≡ 0 →
      PassesAll out faults passed records d raw d raw
  ends_here [] d raw none = (refl, refl)
  ends_here (one ∷ rest) d raw none = let no : ⊥ = omega arith in absurd no

  -- one region passed leaves one fewer, and leads on
  pub record GoesOn (first : List RegionRec) (none : Destroyed) (raw : R) (old new : Desk R) (last : Destroyed) (left : ℕ) : Type 0 where
    pub fewer : length new.records ≡ left
    pub room : count_of last + length new.records ≤ most_regions
    pub leads : LeadsTo first none raw new.records last new.raw

  on_by : (first : List RegionRec) (none : Destroyed) (raw : R) (old new : Desk R) (so_far last : Destroyed) (left : ℕ)
      (records : List RegionRec) → length records ≡ suc left → count_of so_far + length records ≤ most_regions →
      Passes out faults passed records old so_far new last → LeadsTo first none raw records so_far old.raw →
      GoesOn first none raw old new last left
  on_by first none raw old new so_far last left [] many room passes leads = let no : ⊥ = omega arith in absurd no
  on_by first none raw old new so_far last left (one ∷ rest) many room (answer, told, after, is_last) leads =
      let records : new.records ≡ rest = ap (λ (d : Desk R). d.records) after in
      let fewer : length new.records ≡ left = rw records (omega (arith, many)) in
      let count : count_of last ≡ suc (count_of so_far) = rw is_last (count-with_passed so_far one answer) in
      record {
        fewer = fewer;
        room = rw (count, records) (omega (arith, room));
        leads = λ end final h. leads end final (
          answer,
          new.raw,
          told,
          subst (λ (r : List RegionRec). PassesAll out faults passed r (with_passed so_far one answer) new.raw end final) records
              (subst (λ (d : Destroyed). PassesAll out faults passed new.records d new.raw end final) is_last h),
        );
      }

  pub goes_on : (first : List RegionRec) (none : Destroyed) (raw : R) (old new : Desk R) (so_far last : Destroyed) (left : ℕ) →
      length old.records ≡ suc left → count_of so_far + length old.records ≤ most_regions →
      Passes out faults passed old.records old so_far new last → LeadsTo first none raw old.records so_far old.raw →
      GoesOn first none raw old new last left
  goes_on first none raw old new so_far last left many room passes leads =
      on_by first none raw old new so_far last left old.records many room passes leads

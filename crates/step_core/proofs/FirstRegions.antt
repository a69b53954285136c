-- The region with the lowest number, which is the first that is passed on.
use Rattle.std.proofs.Common.{◌≡◌, ℕ, ◌<◌, ◌≤◌, Bool, arith, ap, sym, List, [], ◌∷◌, ◌⊎◌, inl, inr, length, get_or, subst, Some}
use Rattle.std.specs.Prelude.{remove, slice_get}
use Rattle.std.specs.List.{AllPairs}
use Rattle.std.proofs.lemmas.Bool.{cases_lt}
use Rattle.std.proofs.lemmas.Option.{same_Some}
use Rattle.pool_types.specs.declared.endings.Destroyed.{Destroyed}
use Rattle.pool_types.specs.declared.policy.RegionRec.{RegionRec}
use Rattle.pool_types.specs.declared.values.Region.{Region}
use Rattle.pool_types.specs.Regions.{Loses}
use Rattle.regions.specs.Offices.{Desk, IsSound, AreApart}
use Rattle.regions.specs.Obtaining.{Gives}
use Rattle.step_core.specs.Endings.{Passes, IsPassed, with_passed}

-- no other region begins where the first does
first_only : (one : RegionRec) (rest : List RegionRec) (place : ℕ) (it : RegionRec) → AllPairs AreApart (one ∷ rest) →
    place < length (one ∷ rest) → get_or (one ∷ rest) place it ≡ it → it.first ≡ one.first → place ≡ 0
first_only one rest place it apart inside there starts = by_cases (cases_lt 0 place)
  where
    later_apart : 0 < place → AreApart one it
    later_apart later = subst (λ (x : RegionRec). AreApart one x) there (apart 0 place it later inside)

    by_cases : (0 < place) ⊎ (place ≤ 0) → place ≡ 0
    by_cases (inr none) = omega arith
    by_cases (inl later) =
        elim (later_apart later).spans [ inl before ↦ omega arith | inr before ↦ omega arith ]

-- the records begin with this one
record BeginsWith (records : List RegionRec) (one : RegionRec) : Type 0 where
  rest : List RegionRec
  is : records ≡ one ∷ rest

begins_with : (records : List RegionRec) (one : RegionRec) → slice_get records 0 ≡ Some one → BeginsWith records one
begins_with [] one there = cc
begins_with (x ∷ rest) one there = record { rest = rest; is = ap (λ y. y ∷ rest) (same_Some x one there) }

module _ {R : Type 0} (out : R → List Region) (faults : R → ℕ) (passed : R → Region → Bool → R → Type 0)
    (old new : Desk R) (one : RegionRec) (answer : Bool) (sound : IsSound out old)
    (gives : Gives out faults passed old one.first answer new) where
  at_first : (rest : List RegionRec) → old.records ≡ one ∷ rest → gives.position ≡ 0
  at_first rest is = first_only one rest gives.position gives.one
      (subst (λ r. AllPairs AreApart r) is sound.pairs)
      (subst (λ (r : List RegionRec). gives.position < length r) is gives.below)
      (subst (λ r. get_or r gives.position gives.one ≡ gives.one) is gives.there)
      gives.starts

  same_one : (rest : List RegionRec) → old.records ≡ one ∷ rest → gives.one ≡ one
  same_one rest is = sym (subst (λ r. get_or r 0 gives.one ≡ gives.one) is
      (subst (λ p. get_or old.records p gives.one ≡ gives.one) (at_first rest is) gives.there))

  pub passes_first : (so_far last : Destroyed) → slice_get old.records 0 ≡ Some one →
      last ≡ with_passed so_far one answer → Passes out faults passed old.records old so_far new last
  passes_first so_far last there is_last =
      let begins : BeginsWith old.records one = begins_with old.records one there in
      let same : gives.one ≡ one = same_one begins.rest begins.is in
      let after : new ≡ record old { records = begins.rest; raw = new.raw } =
      subst (λ r. new ≡ record old { records = remove r 0; raw = new.raw }) begins.is
      (subst (λ p. new ≡ record old { records = remove old.records p; raw = new.raw }) (at_first begins.rest begins.is) gives.after) in
      let told : IsPassed out faults passed old.raw one.region answer new.raw = record {
        answered = subst (λ (r : RegionRec). passed old.raw r.region answer new.raw) same gives.answered;
        shrinks = subst (λ (r : RegionRec). Loses (out old.raw) r.region (out new.raw)) same gives.out_shrinks;
        cause = gives.cause;
      } in
      subst (λ r. Passes out faults passed r old so_far new last) (sym begins.is)
      (answer, told, after, is_last)

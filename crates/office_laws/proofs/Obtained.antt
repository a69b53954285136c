-- What the office's contract says of a region that it obtained.
use Rattle.std.proofs.Common.{◌≡◌, ℕ, ◌<◌, Option, Some, None, List, [], ◌∷◌}
use Rattle.std.proofs.Common.{◌++◌, length}
use Rattle.std.proofs.Common.{get_or, length-append, refl, subst, arith, ◌∙◌}
use Rattle.std.specs.Prelude.{slice_index_or}
use Rattle.std.specs.List.{AllPairs}
use Rattle.std.proofs.lemmas.List.{get_or_append_left}
use Rattle.std.proofs.Math.Seq.{get_or-append_seam}
use Rattle.pool_types.specs.declared.policy.RegionRec.{RegionRec}
use Rattle.word_codes.specs.Places.{slot_of}
use Rattle.regions.specs.Offices as offices
use Rattle.office_laws.specs.Laws.{ObtainedRegionsAreFresh}

-- of an earlier record and the last one
last_pair : (P : RegionRec → RegionRec → Type 0) (records : List RegionRec) (a one : RegionRec) (i : ℕ)
    → i < length records → slice_index_or records i a ≡ a → AllPairs P (records ++ one ∷ []) → P a one
last_pair P records a one i low is pairs =
    let long : length records < length (records ++ one ∷ []) =
    (let n = length-append records (one ∷ []) in omega arith) in
    subst (λ x. P x one) (get_or_append_left records (one ∷ []) a i low ∙ is)
    (subst (P (get_or (records ++ one ∷ []) i a)) (get_or-append_seam records one [] a)
    (pairs i (length records) a low long))

pub obtained_regions_are_fresh : ObtainedRegionsAreFresh
obtained_regions_are_fresh g records span counter one fits got = record {
  number = got.from;
  slot = free (g.out (slot_of one.number)) refl;
  fits = record {
    number = let u = got.placed.used in let n = got.numbers in omega arith;
    first = let w = got.placed.within in let s = got.small in omega arith;
    granules = let w = got.placed.within in let s = got.small in omega arith;
    waste = let w = got.placed.aligned.least in omega arith;
  };
  apart = λ s other is. (pair s other is).spans;
}
  where
    pair : (s : ℕ) (other : RegionRec) → g.out s ≡ Some other → offices.AreApart other one
    pair s other is =
        let at = got.known s other is in last_pair offices.AreApart records other one at.0 at.1 at.2 got.pairs

    free : (q : Option RegionRec) → g.out (slot_of one.number) ≡ q → q ≡ None
    free None is = refl
    free (Some a) is = absurd ((pair (slot_of one.number) a is).slots (fits.each (slot_of one.number) a is).slot)

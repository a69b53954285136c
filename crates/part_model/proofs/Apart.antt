-- Parts that are apart, one more at a time.
use Rattle.std.proofs.Common.{◌≡◌, ◌↔◌, ℕ, ◌+◌, ◌<◌, List, ◌∷◌, drop, get_or, length, sym, subst}
use Rattle.std.proofs.lemmas.List.{drop_more}
use Rattle.part_model.specs.declared.moves.Range.{Range}
use Rattle.part_model.specs.declared.moves.Part.{Part}
use Rattle.part_model.specs.Holding.{IsApart, IsApartFromAll, AreApart}

pub apart_from_more : (range : Range) (parts : List Part) (i : ℕ) (d : Part) → i < length parts → IsApart range (get_or parts i d).range →
    (IsApartFromAll range (drop i parts) ↔ IsApartFromAll range parts) → (IsApartFromAll range (drop (i + 1) parts) ↔ IsApartFromAll range parts)
apart_from_more range parts i d below here (to_all, from_all) =
    let front : drop i parts ≡ get_or parts i d ∷ drop (i + 1) parts = drop_more parts i d below in (
      λ rest. to_all (subst (λ ps. IsApartFromAll range ps) (sym front) (here, rest)),
      λ all. (subst (λ ps. IsApartFromAll range ps) front (from_all all)).1,
    )

pub apart_one : (parts : List Part) (i : ℕ) (d : Part) → i < length parts → (AreApart (drop i parts) ↔ AreApart parts) → AreApart parts →
    IsApartFromAll (get_or parts i d).range (drop (i + 1) parts)
apart_one parts i d below (to_all, from_all) all =
    let front : drop i parts ≡ get_or parts i d ∷ drop (i + 1) parts = drop_more parts i d below in
    (subst AreApart front (from_all all)).0

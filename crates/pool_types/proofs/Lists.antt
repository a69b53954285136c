-- A list loses the element at an index.
use Rattle.std.proofs.Common.{◌≡◌, ◌∷◌, ◌++◌, ◌<◌, ℕ, suc, List, take, drop, sym, length, ap, ◌∙◌, refl}
use Rattle.std.proofs.lemmas.List.{take-append-drop}
use Rattle.std.proofs.Math.Seq.{drop-cons}
use Rattle.std.specs.Prelude.{slice_index_or}
use Rattle.std.specs.List.{remove}
use Rattle.pool_types.specs.declared.values.Region.{Region}
use Rattle.pool_types.specs.Regions.{Loses}

pub loses_at : (old : List Region) (region : Region) (index : ℕ) → index < length old → slice_index_or old index region ≡ region → Loses old region (remove old index)
loses_at old region index below there = record {
  front = take index old;
  back = drop (suc index) old;
  before = sym (take-append-drop index old) ∙ ap (λ rest. take index old ++ rest) (drop-cons old index region below ∙ ap (λ first. first ∷ drop (suc index) old) there);
  after = refl;
}

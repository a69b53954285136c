-- What each block is used for, once one of them is used otherwise.
use Rattle.std.proofs.Common.{◌≡◌, ◌≢◌, ℕ, refl, sym, subst, ◌∙◌}
use Rattle.word_laws.specs.Memory.{put}
use Rattle.word_laws.proofs.CallerLemmas.{equal_or, put-same, put-other}
use Rattle.guard_laws.specs.Blocks.{Use, Place, Piece, put_range, BlocksWhole}
use Rattle.guard_laws.proofs.CallerLemmas.{used_moves}
use Rattle.slab_laws.specs.Books.{Keeper}
use Rattle.object_laws.specs.Objects.{Held}
use Rattle.use_laws.specs.Uses.{Purpose, IsKept, block_in, PurposeFits, UseFits, UsesFit}

-- the same blocks of slabs and objects begin at a granule
pub record SameAt (x : ℕ) (place place' : Place) (keeper keeper' : Keeper) (held held' : ℕ → Held) : Type 0 where
  pub to : (n : ℕ) → place ≡ Place.Block x n Use.Elsewhere → place' ≡ Place.Block x n Use.Elsewhere
  pub from : (n : ℕ) → place' ≡ Place.Block x n Use.Elsewhere → place ≡ Place.Block x n Use.Elsewhere
  pub kept : IsKept keeper → IsKept keeper'
  pub was_kept : IsKept keeper' → IsKept keeper
  pub has : (u n : ℕ) → block_in (held u) ≡ Piece.Got x n → block_in (held' u) ≡ Piece.Got x n
  pub had : (u n : ℕ) → block_in (held' u) ≡ Piece.Got x n → block_in (held u) ≡ Piece.Got x n

fits_stay : (x : ℕ) (place place' : Place) (keeper keeper' : Keeper) (held held' : ℕ → Held) (purpose : Purpose)
    → SameAt x place place' keeper keeper' held held' → PurposeFits x place keeper held purpose
    → PurposeFits x place' keeper' held' purpose
fits_stay x place place' keeper keeper' held held' Purpose.Spare same fits = λ n is. fits n (same.from n is)
fits_stay x place place' keeper keeper' held held' Purpose.Slab same (rests, kept) = (same.to 2 rests, same.kept kept)
fits_stay x place place' keeper keeper' held held' (Purpose.Object u) same fits = record {
  granules = fits.granules;
  rests = same.to fits.granules fits.rests;
  has = same.has u fits.granules fits.has;
  from = fits.from;
  below = fits.below;
}
fits_stay x place place' keeper keeper' held held' Purpose.Shelved same (n, rests) = (n, same.to n rests)

pub use_stays : (x : ℕ) (place place' : Place) (keeper keeper' : Keeper) (held held' : ℕ → Held) (purpose : Purpose)
    → SameAt x place place' keeper keeper' held held' → UseFits x place keeper held purpose
    → UseFits x place' keeper' held' purpose
use_stays x place place' keeper keeper' held held' purpose same use' = record {
  fits = fits_stay x place place' keeper keeper' held held' purpose same use'.fits;
  slab = λ is. use'.slab (same.was_kept is);
  object = λ u n is. use'.object u n (same.had u n is);
}

-- slabs stay slabs, and large objects keep their blocks, but for those of the block that begins at a granule
pub record SameBut (x : ℕ) (keeper keeper' : ℕ → Keeper) (held held' : ℕ → Held) : Type 0 where
  pub kept : (y : ℕ) → y ≢ x → IsKept (keeper y) → IsKept (keeper' y)
  pub was_kept : (y : ℕ) → y ≢ x → IsKept (keeper' y) → IsKept (keeper y)
  pub has : (y u n : ℕ) → y ≢ x → block_in (held u) ≡ Piece.Got y n → block_in (held' u) ≡ Piece.Got y n
  pub had : (y u n : ℕ) → y ≢ x → block_in (held' u) ≡ Piece.Got y n → block_in (held u) ≡ Piece.Got y n

-- one block has another use
pub uses_set : (place : ℕ → Place) (keeper keeper' : ℕ → Keeper) (held held' : ℕ → Held) (purpose : ℕ → Purpose)
    (x n : ℕ) (was now : Use) (purpose' : Purpose) → BlocksWhole place → place x ≡ Place.Block x n was
    → SameBut x keeper keeper' held held' → UseFits x (Place.Block x n now) (keeper' x) held' purpose'
    → UsesFit place keeper held purpose
    → UsesFit (put_range place x n (Place.Block x n now)) keeper' held' (put purpose x purpose')
uses_set place keeper keeper' held held' purpose x n was now purpose' whole at same here uses y = equal_or y x
    (λ is. subst (λ z. UseFits z (put_range place x n (Place.Block x n now) z) (keeper' z) held'
    (put purpose x purpose' z)) (sym is) now_here)
    (λ ne. subst (UseFits y (put_range place x n (Place.Block x n now) y) (keeper' y) held')
    (sym (put-other purpose x purpose' y ne))
    (use_stays y (place y) (put_range place x n (Place.Block x n now) y) (keeper y) (keeper' y) held held' (purpose y)
    (elsewhere ne) (uses y)))
  where
    new : ℕ → Place
    new = put_range place x n (Place.Block x n now)

    now_here : UseFits x (new x) (keeper' x) held' (put purpose x purpose' x)
    now_here = subst (UseFits x (new x) (keeper' x) held') (sym (put-same purpose x purpose'))
        (subst (λ q. UseFits x q (keeper' x) held' purpose') (sym (used_moves place x n was now whole at).here) here)

    elsewhere : y ≢ x → SameAt y (place y) (new y) (keeper y) (keeper' y) held held'
    elsewhere ne = let moved = used_moves place x n was now whole at in record {
      to = λ m is. moved.to y m Use.Elsewhere ne is;
      from = λ m is. moved.from y m Use.Elsewhere ne is;
      kept = same.kept y ne;
      was_kept = same.was_kept y ne;
      has = λ u m is. same.has y u m ne is;
      had = λ u m is. same.had y u m ne is;
    }

-- where no block is at rest, nothing is kept and no object has it
pub record IsSpare (x : ℕ) (keeper : Keeper) (held : ℕ → Held) : Type 0 where
  pub slab : IsKept keeper → ⊥
  pub object : (u n : ℕ) → block_in (held u) ≡ Piece.Got x n → ⊥

spare_is : (x : ℕ) (place : Place) (keeper : Keeper) (held : ℕ → Held) (purpose : Purpose)
    → ((n : ℕ) → place ≢ Place.Block x n Use.Elsewhere) → UseFits x place keeper held purpose
    → purpose ≡ Purpose.Spare
spare_is x place keeper held Purpose.Spare not use' = refl
spare_is x place keeper held Purpose.Slab not use' = absurd (not 2 use'.fits.0)
spare_is x place keeper held (Purpose.Object u) not use' = let f = use'.fits in absurd (not f.granules f.rests)
spare_is x place keeper held Purpose.Shelved not use' = absurd (not use'.fits.0 use'.fits.1)

pub spare_so : (x : ℕ) (place : Place) (keeper : Keeper) (held : ℕ → Held) (purpose : Purpose)
    → ((n : ℕ) → place ≢ Place.Block x n Use.Elsewhere) → UseFits x place keeper held purpose
    → IsSpare x keeper held
spare_so x place keeper held purpose not use' =
    let spare = spare_is x place keeper held purpose not use' in record {
      slab = λ is. let q : Purpose.Spare ≡ Purpose.Slab = sym spare ∙ use'.slab is in absurd (cc);
      object = λ u n is. let q : Purpose.Spare ≡ Purpose.Object u = sym spare ∙ use'.object u n is in absurd (cc);
    }

pub held_not_rest : (place : Place) (x n : ℕ) (u : Use) → place ≡ Place.Block x n u → u ≢ Use.Elsewhere → (m : ℕ)
    → place ≢ Place.Block x m Use.Elsewhere
held_not_rest place x n u at ne m is =
    ne (let q : Place.Block x n u ≡ Place.Block x m Use.Elsewhere = sym at ∙ is in cc)

-- slabs and objects are as they were, in the same blocks
pub same_all : (keeper keeper' : ℕ → Keeper) (held held' : ℕ → Held) (place : ℕ → Place) (purpose : ℕ → Purpose)
    → ((y : ℕ) → IsKept (keeper y) → IsKept (keeper' y)) → ((y : ℕ) → IsKept (keeper' y) → IsKept (keeper y))
    → ((u : ℕ) → block_in (held' u) ≡ block_in (held u)) → UsesFit place keeper held purpose
    → UsesFit place keeper' held' purpose
same_all keeper keeper' held held' place purpose kept was_kept blocks uses y =
    use_stays y (place y) (place y) (keeper y) (keeper' y) held held' (purpose y) (record {
      to = λ n is. is;
      from = λ n is. is;
      kept = kept y;
      was_kept = was_kept y;
      has = λ u n is. blocks u ∙ is;
      had = λ u n is. sym (blocks u) ∙ is;
    }) (uses y)

-- Indices in their ranges name words of the pool, and which granule, slab and block end they lead to.
use Rattle.std.proofs.Common.{Bool, arith, cond, false, leb, ltb, refl, true, ℕ, ◌+◌, ◌<◌, ◌||◌, ◌≡◌, ◌≤◌}
use Rattle.pool_types.specs.Geometry.{slab_granules}
use Rattle.pool_types.specs.Limits.{most_span}
use Rattle.pool_types.specs.Sums.{capped}
use Rattle.pool_words.specs.declared.words.Key.{Key}
use Rattle.pool_words.specs.declared.words.Word.{Word}
use Rattle.word_codes.specs.Places.{granule_of, slab_granule}
use Rattle.word_laws.specs.Memory.{Valid}
use Rattle.step_ranges.specs.Ranges.{IsBlock, IsKey, IsSlab, granules_end, units_end}
use Rattle.std.proofs.lemmas.Bool.Decides.{nat_tests}
use Rattle.word_codes.proofs.CallerLemmas.{capped_is}

pub choose : {A : Type 0} (P : A → Type 0) (b : Bool) (x y : A) → P x → P y → P (cond b x y)
choose P true x y p q = p
choose P false x y p q = q

pub choose_by : {A : Type 0} (P : A → Type 0) (b : Bool) (x y : A) → (b ≡ true → P x) → (b ≡ false → P y)
    → P (cond b x y)
choose_by P true x y p q = p refl
choose_by P false x y p q = q refl

pub or_right : (a b : Bool) → (a || b) ≡ false → b ≡ false
or_right true b e = absurd (cc)
or_right false b e = e

pub below_by : (i j : ℕ) → ltb i j ≡ true → i < j
below_by i j e = grind (arith, nat_tests)

pub least_by : (i j : ℕ) → leb i j ≡ true → i ≤ j
least_by i j e = grind (arith, nat_tests)

pub above_by : (i j : ℕ) → leb i j ≡ false → j < i
above_by i j e = grind (arith, nat_tests)

module _ (k : Key) where
  pub is_mark : (unit : ℕ) → unit < units_end k → Valid k (Word.Mark unit)
  is_mark unit below = omega arith

  pub is_kind : (granule : ℕ) → granule < granules_end k → Valid k (Word.Kind granule)
  is_kind granule below = omega arith

  pub is_granule : (granule : ℕ) → granule < granules_end k → Valid k (Word.Forward granule)
  is_granule granule below = omega arith

  pub is_guard : (granule : ℕ) → granule ≤ granules_end k → Valid k (Word.Size granule)
  is_guard granule below = omega arith

  pub granule_below : (unit : ℕ) → unit < units_end k → granule_of unit < granules_end k
  granule_below unit below = omega arith

  pub slab_there : (unit : ℕ) → unit < units_end k → IsSlab k (slab_granule (granule_of unit))
  slab_there unit below = record { even = omega arith; below = omega arith }

  pub slab_at : (slab : ℕ) → IsSlab k slab → IsBlock k slab_granules slab
  slab_at slab is = let even = is.even in let below = is.below in record { begins = below; ends = omega arith }

  module _ (key : IsKey k) where
    pub end_few : granules_end k ≤ most_span
    end_few = omega (arith, key.span)

    pub end_some : slab_granules ≤ granules_end k
    end_some = omega (arith, key.spans)

    pub end_last : k.span ≤ granules_end k + 1
    end_last = omega arith

    pub block_few : (granules first : ℕ) → IsBlock k granules first → first + granules ≤ most_span
    block_few granules first b = omega (arith, end_few, b.ends)

    pub end_is : (granules first : ℕ) → IsBlock k granules first → capped (first + granules) ≡ first + granules
    end_is granules first b = capped_is (first + granules) (omega (arith, block_few granules first b))

-- Where pieces of a block begin and end.
use Rattle.std.proofs.Common.{◌≡◌, ◌+◌, ◌-◌, ◌%◌, ◌<◌, ◌≤◌, ◌^◌, ℕ, Bool, true, false, cond, eqb, ltb, leb, arith}
use Rattle.std.proofs.lemmas.Bool.Decides.{nat_tests}
use Rattle.pool_types.specs.Sums.{capped}
use Rattle.backend_bins.specs.declared.blocks.Block.{Block}
use Rattle.backend_bins.specs.declared.blocks.Want.{Want}
use Rattle.backend_bins.specs.Blocks.{fits}

pub eqb_self_minus : (n : ℕ) → eqb (n - n) 0 ≡ true
eqb_self_minus n = grind (arith, nat_tests)

-- a block of which a piece is wanted has it, behind at most one granule
pub record HasPiece (first granules skipped wanted : ℕ) : Type 0 where
  pub small : skipped ≤ 1
  pub fits : skipped + wanted ≤ granules
  pub lies : first + granules < 2 ^ 32

within : (skipped granules n : ℕ) → n < 2 ^ 32 → leb (capped (skipped + granules)) n ≡ true → skipped + granules ≤ n
within skipped granules n low is =
    let most : capped (skipped + granules) ≤ n = grind (arith, nat_tests) in omega arith

pub has_piece : (w : Want) (b : Block) → fits w b ≡ true → b.first + b.granules < 2 ^ 32
    → HasPiece b.first b.granules (cond w.slab (b.first % 2) 0) w.granules
has_piece w b has lies = by w.slab has
  where
    by : (slab : Bool) → leb (capped (cond slab (b.first % 2) 0 + w.granules)) b.granules ≡ true
        → HasPiece b.first b.granules (cond slab (b.first % 2) 0) w.granules
    by true is = record {
      small = omega arith;
      fits = within (b.first % 2) w.granules b.granules (omega arith) is;
      lies = lies;
    }
    by false is = record {
      small = omega arith;
      fits = within 0 w.granules b.granules (omega arith) is;
      lies = lies;
    }

pub is_some : (n : ℕ) → ltb 0 n ≡ true → 0 < n
is_some n is = grind (arith, nat_tests)

pub is_none : (n : ℕ) → ltb 0 n ≡ false → n ≡ 0
is_none n is = grind (arith, nat_tests)

-- before the piece lie as many granules as are skipped
pub front_cut : (f n k w : ℕ) → HasPiece f n k w → n ≡ (capped (f + k) - f) + (n - (capped (f + k) - f))
front_cut f n k w has = let small = has.small in let fits = has.fits in let lies = has.lies in omega arith

pub rest_some : (f n k w : ℕ) → HasPiece f n k w → 0 < w → 0 < n - (capped (f + k) - f)
rest_some f n k w has some = let small = has.small in let fits = has.fits in let lies = has.lies in omega arith

-- where the rest begins, behind what was cut off before the piece, if anything was
pub rest_begins : (f n k w : ℕ) → HasPiece f n k w → f + (capped (f + k) - f) ≡ capped (f + k)
rest_begins f n k w has = let small = has.small in let fits = has.fits in let lies = has.lies in omega arith

pub whole_begins : (f n k w : ℕ) → HasPiece f n k w → capped (f + k) - f ≡ 0 → f ≡ capped (f + k)
whole_begins f n k w has none = let small = has.small in let fits = has.fits in let lies = has.lies in omega arith

-- how long it is: the piece, and what lies behind it
pub rest_has : (f n k w : ℕ) → HasPiece f n k w
    → n - (capped (f + k) - f) ≡ w + (capped (f + n) - capped (capped (f + k) + w))
rest_has f n k w has = let small = has.small in let fits = has.fits in let lies = has.lies in omega arith

pub whole_has : (f n k w : ℕ) → HasPiece f n k w → capped (f + k) - f ≡ 0
    → n ≡ w + (capped (f + n) - capped (capped (f + k) + w))
whole_has f n k w has none = let small = has.small in let fits = has.fits in let lies = has.lies in omega arith

pub back_begins : (f n k w : ℕ) → HasPiece f n k w → capped (capped (f + k) + w) ≡ capped (f + k) + w
back_begins f n k w has = let small = has.small in let fits = has.fits in let lies = has.lies in omega arith

pub more_minus : (a b : ℕ) → (a + b) - a ≡ b
more_minus a b = omega arith

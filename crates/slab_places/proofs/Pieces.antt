-- A piece for a slab begins at an even granule.
use Rattle.std.proofs.Common.{◌≡◌, ◌∙◌, ℕ, Bool, true, cond, ◌+◌, ◌%◌, ◌<◌, ◌^◌, sym, ap, subst, arith}
use Rattle.std.proofs.lemmas.Bool.Decides.{nat_tests}
use Rattle.pool_types.specs.Sums.{capped}
use Rattle.backend_bins.specs.declared.blocks.Block.{Block}
use Rattle.backend_bins.specs.declared.blocks.Want.{Want}
use Rattle.backend_bins.specs.Blocks.{first_skipped, piece_of}
use Rattle.slab_moves.specs.Says.{IsEven}

pub small_is : (n : ℕ) → capped n < 2 ^ 32 → capped n ≡ n
small_is n low = grind (arith, nat_tests)

even_up : (first : ℕ) → IsEven (first + first % 2)
even_up first = omega arith

pub piece_even : (w : Want) (b : Block) → w.slab ≡ true → (piece_of w b).first < 2 ^ 32 → IsEven (piece_of w b).first
piece_even w b slab low =
    let up : b.first + first_skipped w b.first ≡ b.first + b.first % 2
    = ap (λ (s : Bool). b.first + cond s (b.first % 2) 0) slab in
    subst IsEven (sym (small_is (b.first + first_skipped w b.first) low ∙ up)) (even_up b.first)

-- The piece of a block that fits, and the block's rests.
use Rattle.std.proofs.Common.{◌≡◌, ℕ, ◌+◌, ◌%◌, ◌^◌, ◌<◌, ◌≤◌, Bool, true, false, cond, leb, refl, arith}
use Rattle.std.proofs.lemmas.Bool.Decides.{nat_tests}
use Rattle.pool_types.specs.Sums.{capped}
use Rattle.backend_bins.specs.declared.blocks.Want.{Want}
use Rattle.backend_bins.specs.Blocks.{block, first_skipped, piece_of}
use Rattle.backend_bins.specs.Laws.{IsCut, PiecesAreCut, cut_of}

within : (skipped granules n : ℕ) → n < 2 ^ 32 → leb (capped (skipped + granules)) n ≡ true → skipped + granules ≤ n
within skipped granules n few fit =
    let most : capped (skipped + granules) ≤ n = grind (arith, nat_tests) in
    omega arith

even_after : (first : ℕ) → (first + first % 2) % 2 ≡ 0
even_after first = omega arith

cut_at : (seat first granules n : ℕ) (slab : Bool) → first + n < 2 ^ 32 → cond slab (first % 2) 0 + granules ≤ n
    → IsCut (cut_of seat (let w : Want = record { granules = granules; slab = slab } in w) (block first n))
cut_at seat first granules n true few room = record {
  begins = refl;
  piece = omega arith;
  back = refl;
  ends = omega arith;
  whole = omega arith;
}
cut_at seat first granules n false few room = record {
  begins = refl;
  piece = omega arith;
  back = refl;
  ends = omega arith;
  whole = omega arith;
}

even_at : (first granules n : ℕ) (slab : Bool) → first + n < 2 ^ 32 → cond slab (first % 2) 0 + granules ≤ n
    → slab ≡ true
    → (piece_of (let w : Want = record { granules = granules; slab = slab } in w) (block first n)).first % 2 ≡ 0
even_at first granules n true few room is = omega (arith, even_after first)
even_at first granules n false few room is = absurd (cc)

pub pieces_are_cut : PiecesAreCut
pieces_are_cut seat w b few fit =
    let room : first_skipped w b.first + w.granules ≤ b.granules =
    within (first_skipped w b.first) w.granules b.granules (omega arith) fit in
    record {
      cut = cut_at seat b.first w.granules b.granules w.slab few room;
      even = even_at b.first w.granules b.granules w.slab few room;
    }

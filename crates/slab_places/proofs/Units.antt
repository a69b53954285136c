-- A large object begins in its block, at whatever address the block does: the block has room for the way to the next
-- multiple of the alignment.
use Rattle.std.proofs.Common.{◌≡◌, ◌∙◌, ℕ, ◌+◌, ◌-◌, ◌*◌, ◌/◌, ◌<◌, ◌≤◌, ◌^◌, max, sym, ap, subst, arith}
use Rattle.std.proofs.Math.Nat.{div-mul-le_self}
use Rattle.std.proofs.lemmas.Bool.Decides.{nat_tests}
use Rattle.pool_types.specs.Geometry.{granule_bytes, line_bytes, unit_bytes}
use Rattle.pool_types.specs.Sums.{capped}
use Rattle.backend_bins.specs.declared.blocks.Block.{Block}
use Rattle.word_codes.specs.declared.region_words.RegionWord.{RegionWord}
use Rattle.word_codes.specs.RegionWords.{address_of, first_unit, large_begin, large_unit}
use Rattle.slab_moves.specs.Says.{HasUnit}

-- so many granules have room for the object behind a line, at a multiple of the alignment
abbrev pub HasRoom : ℕ → ℕ → Type 0
HasRoom granules alignment = max alignment 1 + line_bytes ≤ granules * granule_bytes

capped_most : (n : ℕ) → capped n ≤ n
capped_most n = grind (arith, nat_tests)

capped_small : (n : ℕ) → n < 2 ^ 63 → capped n ≡ n
capped_small n low = grind (arith, nat_tests)

-- the object begins by less than a line and the alignment behind the block
near : (start multiple : ℕ) → 0 < multiple → large_begin start multiple - start < line_bytes + multiple
near start multiple some =
    let inner = capped_most (start + line_bytes) in
    let outer = capped_most (capped (start + line_bytes) + (multiple - 1)) in
    let below = div-mul-le_self (capped (capped (start + line_bytes) + (multiple - 1))) multiple in
    omega arith

lies : (b : Block) (way : ℕ) → b.first + b.granules < 2 ^ 32 → way < b.granules * granule_bytes
    → HasUnit b (capped (first_unit b.first + way / unit_bytes))
lies b way low short =
    let first : first_unit b.first ≡ b.first * 1024 = capped_small (b.first * 1024) (omega arith) in
    let unit : capped (first_unit b.first + way / unit_bytes) ≡ b.first * 1024 + way / 8
    = ap (λ n. capped (n + way / 8)) first ∙ capped_small (b.first * 1024 + way / 8) (omega arith) in
    subst (HasUnit b) (sym unit) (record { from = omega arith; below = omega arith })

pub unit_lies : (r : RegionWord) (base : ℕ) (b : Block) (alignment : ℕ) → b.first + b.granules < 2 ^ 32
    → HasRoom b.granules alignment → HasUnit b (large_unit r base b.first alignment)
unfolding large_unit
unit_lies r base b alignment low room =
    let start = address_of r base (first_unit b.first) in
    let short = near start (max alignment 1) (omega arith) in
    lies b (large_begin start (max alignment 1) - start) low (omega arith)

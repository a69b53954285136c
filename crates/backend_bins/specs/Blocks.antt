-- Blocks of granules, the bins that they are in, and the pieces that are wanted of them.
use Rattle.std.specs.Prelude.{ℕ, ◌+◌, ◌-◌, ◌%◌, min, Bool, cond, leb}
use Rattle.pool_types.specs.Geometry.{bin_count}
use Rattle.pool_types.specs.Sums.{capped}
use Rattle.backend_bins.specs.declared.blocks.Block.{Block}
use Rattle.backend_bins.specs.declared.blocks.Want.{Want}

-- the granule behind a block
abbrev pub block_end : Block → ℕ
block_end b = capped (b.first + b.granules)

abbrev pub block : ℕ → ℕ → Block
block first granules = record { first = first; granules = granules }

abbrev pub last_bin : ℕ
last_bin = bin_count - 1

-- the bin of blocks of so many granules; the last one has all longer blocks too
abbrev pub bin_of : ℕ → ℕ
bin_of granules = min granules bin_count - 1

-- a slab begins at an even granule
abbrev pub first_skipped : Want → ℕ → ℕ
first_skipped w first = cond w.slab (first % 2) 0

abbrev pub fits : Want → Block → Bool
fits w b = leb (capped (first_skipped w b.first + w.granules)) b.granules

abbrev pub piece_of : Want → Block → Block
piece_of w b = block (capped (b.first + first_skipped w b.first)) w.granules

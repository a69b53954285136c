-- What a step moves, by the units and granules at which it lies.
use Rattle.std.specs.Prelude.{ℕ, ◌*◌, ◌%◌, ◌^◌}
use Rattle.pool_types.specs.Geometry.{granule_bytes}
use Rattle.pool_types.specs.Sums.{capped}
use Rattle.part_model.specs.declared.holders.Holder.{Holder}
use Rattle.word_codes.specs.RegionWords.{first_unit}
use Rattle.backend_bins.specs.declared.blocks.Block.{Block}
use Rattle.word_parts.specs.declared.shifts.Moved.{Moved}
use Rattle.word_parts.specs.declared.shifts.Shift.{Shift}

abbrev pub shift : ℕ → ℕ → Holder → Holder → Shift
shift unit bytes from to = record { unit = unit; bytes = bytes; from = from; to = to }

-- the bytes of so many granules
abbrev pub bytes_of : ℕ → ℕ
bytes_of granules = capped (granules * granule_bytes)

-- a block goes from one holder to another
abbrev pub block_moved : Block → Holder → Holder → Moved
block_moved block from to = Moved.One (shift (first_unit block.first) (bytes_of block.granules) from to)

-- the cache bin of blocks of so many granules
abbrev pub cached_in : ℕ → Holder
cached_in granules = Holder.Cached (granules % 2 ^ 16)

-- What the backend does with the blocks in bins.
use Prim.Native.Nat.{zero, suc}
use Rattle.std.specs.Prelude.{ℕ, ◌+◌, ◌-◌, ◌%◌, Bool, ◌&&◌, ◌||◌, ◌==◌, not, min, nat_le, List, [], ◌∷◌, ◌++◌}
use Rattle.std.specs.Prelude.{if◌then◌else◌, find, filter, Some, None}
use Rattle.std.specs.declared.option.Option.{Option}
use Rattle.plain_lists.specs.Lists.{Block}

-- the bin of a block: one for each number of granules to 511, and the last for all above
abbrev pub bin_of : Block → ℕ
bin_of block = min block.granules 512 - 1

-- the least even index from this one on
abbrev pub even_from : ℕ → ℕ
even_from index = index + index % 2

-- a slab fits: two granules in a row, of which the first has an even index
abbrev pub fits : Block → Bool
fits block = nat_le (even_from block.first + 2) (block.first + block.granules)

-- the first block that fits, of the bins from this one on, each from its newest block on; so many bins are looked at
unfoldable pub fit_from : ℕ → ℕ → List Block → Option Block
fit_from zero bin blocks = None
fit_from (suc more) bin blocks =
    or_later (find (λ block. (bin_of block == bin) && fits block) blocks) (fit_from more (bin + 1) blocks)
  where
    or_later : Option Block → Option Block → Option Block
    or_later (Some block) later = Some block
    or_later None later = later

-- the block that a scan for a slab takes: it looks at the bins from that of two granules to the last
abbrev pub first_fit : List Block → Option Block
first_fit blocks = fit_from 511 1 blocks

-- both are the same block: they begin at one index
abbrev pub is_same : Block → Block → Bool
is_same one other = one.first == other.first

-- the block, where it has a granule
abbrev pub some_block : ℕ → ℕ → List Block
some_block first granules = if granules == 0 then [] else record { first = first; granules = granules } ∷ []

-- What is left of a block where a slab is cut out of it at the least even index: what lies in front of the slab goes
-- into its bin first, and then what lies behind it.
abbrev pub rests : Block → List Block
rests block =
    some_block (even_from block.first + 2) (block.first + block.granules - (even_from block.first + 2))
    ++ some_block block.first (even_from block.first - block.first)

-- the blocks after a slab was cut out of one of them
abbrev pub after_cut : Block → List Block → List Block
after_cut block blocks = rests block ++ filter (λ other. not (is_same block other)) blocks

-- the one ends where the other begins
abbrev pub meets : Block → Block → Bool
meets one other = one.first + one.granules == other.first

-- the neighbours of a block: they touch it
abbrev pub touches : Block → Block → Bool
touches one other = meets one other || meets other one

-- where a block begins once it is joined with the neighbour before it
abbrev pub joined_first : Block → Option Block → ℕ
joined_first block (Some before) = before.first
joined_first block None = block.first

-- how many granules a neighbour has, where there is one
abbrev pub granules_in : Option Block → ℕ
granules_in (Some block) = block.granules
granules_in None = 0

-- the neighbours before and behind
abbrev pub block_before : Block → List Block → Option Block
block_before block blocks = find (λ other. meets other block) blocks

abbrev pub block_behind : Block → List Block → Option Block
block_behind block blocks = find (λ other. meets block other) blocks

-- the block joined with its free neighbours
abbrev pub joined : Block → List Block → Block
joined block blocks = record {
  first = joined_first block (block_before block blocks);
  granules = granules_in (block_before block blocks) + (block.granules + granules_in (block_behind block blocks));
}

-- the blocks after one was put: it is joined with its free neighbours, which leave their bins, and goes into its bin
abbrev pub after_put : Block → List Block → List Block
after_put block blocks = joined block blocks ∷ filter (λ other. not (touches block other)) blocks

-- the slab at the index, as a block
abbrev pub slab_block : ℕ → Block
slab_block index = record { first = index; granules = 2 }

-- the blocks after slabs were put, one after another
abbrev pub after_puts : List ℕ → List Block → List Block
after_puts [] blocks = blocks
after_puts (index ∷ indices) blocks = after_puts indices (after_put (slab_block index) blocks)

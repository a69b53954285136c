-- What a scan of the bins (a search of the free lists) looks at, and which block fits.
use Rattle.std.specs.Prelude.{◌≡◌, ◌≢◌, ℕ, ◌+◌, ◌-◌, ◌*◌, ◌/◌, ◌%◌, ◌≤◌, ◌&&◌, min, nat_le, true, List, [], ◌∷◌}
use Rattle.std.specs.Prelude.{length, filter, Contains, Some}
use Rattle.pool_types.specs.declared.values.Place.{Place}
use Rattle.pool_types.specs.declared.values.Request.{Request}
use Rattle.pool_types.specs.declared.values.Request.TheVariants.{Malloc, Aligned, Realloc, AlignedRealloc, Free}
use Rattle.pool_types.specs.declared.values.Request.TheVariants.{Msize, Identify, Exit}
use Rattle.pool_types.specs.declared.policy.Limits.{Limits}
use Rattle.pool_types.specs.declared.policy.RegionRec.{RegionRec}
use Rattle.pool_types.specs.declared.rows.Keeper.TheVariants.{Seat, Orphan}
use Rattle.pool_types.specs.Geometry.{granule_bytes, slab_granules, slab_bytes, bin_count}
use Rattle.part_model.specs.declared.holders.Holder.TheVariants.{Rest, Private, Public, SlabCache}
use Rattle.part_model.specs.declared.moves.Range.{Range}
use Rattle.part_model.specs.Holding.{lies_in}
use Rattle.size_classes.specs.declared.Served.{Served}
use Rattle.size_classes.specs.declared.Served.TheVariants.{Small, Large, Bad}
use Rattle.size_classes.specs.Served.{served_plain, served}
use Rattle.machine.specs.States.{State, Slab}
use Rattle.machine.specs.Ranges.{IsIn, slab_range}
use Rattle.machine.specs.Journal.{Look, Sight, Nothing_seen, Bins_seen, Raw_called, Tick_drawn, Items_seen}
use Rattle.machine.specs.Lawful.{IsKeptOf}

-- what the new object of a request is served as
abbrev pub served_for : Request → Served
served_for (Malloc size) = served_plain size
served_for (Aligned size alignment) = served size alignment
served_for (Realloc place size) = served_plain size
served_for (AlignedRealloc place size alignment) = served size alignment
served_for (Free place) = Bad
served_for (Msize place) = Bad
served_for (Identify place) = Bad
served_for Exit = Bad

-- the last bin
abbrev pub last_bin : ℕ
last_bin = bin_count - 1

-- the bin of a block of so many granules: one for each number of granules, and the last for all above
abbrev pub bin_for : ℕ → ℕ
bin_for granules = min granules bin_count - 1

-- the bin of a block of so many bytes
abbrev pub bin_of : ℕ → ℕ
bin_of bytes = bin_for (bytes / granule_bytes)

-- the first bin whose blocks can fit
abbrev pub first_bin : Served → ℕ
first_bin (Small class) = bin_for slab_granules
first_bin (Large granules alignment) = bin_for granules
first_bin Bad = 0

-- a slab lies in the block: two granules, of which the first has an address that is a multiple of a slab's bytes
pub record HasSlab (limits : Limits) (state : State) (block : Range) : Type 0 where
  pub region : RegionRec
  pub live : Contains state.regions region
  pub there : IsIn limits block.place region
  pub offset : ℕ
  pub above : block.place.offset ≤ offset
  pub inside : offset + slab_bytes ≤ block.place.offset + block.bytes
  pub even : (region.region.base + offset) % slab_bytes ≡ 0

-- the block fits
abbrev pub Fits : Limits → State → Served → Range → Type 0
Fits limits state (Small class) block = HasSlab limits state block
Fits limits state (Large granules alignment) block = granules * granule_bytes ≤ block.bytes
Fits limits state Bad block = ⊥

-- the blocks in the lists of the bins that a look is at
abbrev pub blocks_seen : Look → List Range
blocks_seen look =
    filter (λ block. nat_le look.first (bin_of block.bytes) && nat_le (bin_of block.bytes) look.last) look.lists

-- a look, and the state in which it was made
pub record Looked : Type 0 where
  pub state : State
  pub look : Look

-- the look of a step, if it made one
abbrev pub look_of : State → Sight → List Looked
look_of state (Bins_seen look) = record { state = state; look = look } ∷ []
look_of state Nothing_seen = []
look_of state (Raw_called call) = []
look_of state (Tick_drawn tick) = []
look_of state (Items_seen granules items) = []

-- The looks are at the bins from this one to the last, at each once and in order. None of the blocks in their lists
-- fits, and the number of these blocks is `seen`.
abbrev pub AreInVain : Limits → Served → ℕ → List Looked → ℕ → Type 0
AreInVain limits served bin [] seen = (bin ≡ bin_count) × (seen ≡ 0)
AreInVain limits served bin (looked ∷ rest) seen =
    (looked.look.first ≡ bin) × (bin ≤ looked.look.last)
    × ((block : Range) → Contains (blocks_seen looked.look) block → Fits limits looked.state served block → ⊥)
    × ((more : ℕ) × AreInVain limits served (looked.look.last + 1) rest more
    × (seen ≡ length (blocks_seen looked.look) + more))

-- a byte of a slab of the class that the seat keeps
abbrev pub IsOwnByte : State → ℕ → ℕ → Place → Type 0
IsOwnByte state seat class byte = (slab : Slab) × IsKeptOf state class (Seat seat) slab
    × (lies_in byte (slab_range slab.place) ≡ true)

-- no slab of the class that the seat keeps has an object to give
pub record NoneToGive (state : State) (seat class : ℕ) : Type 0 where
  pub rest : (byte : Place) → IsOwnByte state seat class byte → state.held byte ≢ Some Rest
  pub private : (byte : Place) → IsOwnByte state seat class byte → state.held byte ≢ Some Private

-- nor has the seat a slab in its slab cache
pub record NoneFree (state : State) (seat class : ℕ) : Type 0 where
  pub given : NoneToGive state seat class
  pub open given use *
  pub stored : (byte : Place) → state.held byte ≢ Some (SlabCache seat)

-- no object of a slab of the class that the seat keeps was freed by another seat and not yet taken back, and no slab
-- of the class is an orphan
pub record NoneWaits (state : State) (seat class : ℕ) : Type 0 where
  pub public : (byte : Place) → IsOwnByte state seat class byte → state.held byte ≢ Some Public
  pub orphan : (slab : Slab) → IsKeptOf state class Orphan slab → ⊥

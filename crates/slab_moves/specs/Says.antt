-- What a local says where a slab or a large object is to begin in a block that it has in hand: that it has its place.
use Rattle.std.specs.Prelude.{◌≡◌, ℕ, ◌+◌, ◌<◌, ◌≤◌, ⊤}
use Rattle.backend_bins.specs.declared.blocks.Block.{Block}
use Rattle.word_codes.specs.Places.{granule_of, slab_granule}
use Rattle.chain_laws.specs.Chains.{tally}
use Rattle.step_local.specs.declared.frames.At.{At}
use Rattle.step_local.specs.declared.frames.LargeAt.{LargeAt}
use Rattle.step_local.specs.declared.frames.Local.{Local}
use Rattle.step_local.specs.declared.frames.SmallAt.{SmallAt}

-- a slab begins at an even granule
abbrev pub IsEven : ℕ → Type 0
IsEven e = slab_granule e ≡ e

-- the unit is one of a granule of the block
pub record HasUnit (b : Block) (unit : ℕ) : Type 0 where
  pub from : b.first ≤ granule_of unit
  pub below : granule_of unit < b.first + b.granules

abbrev pub SmallSays : SmallAt → Type 0
SmallSays (SmallAt.Next slab) = IsEven slab
SmallSays (SmallAt.Public slab) = IsEven slab
SmallSays (SmallAt.Own slab) = IsEven slab
SmallSays (SmallAt.Kind slab) = IsEven slab
SmallSays (SmallAt.Cache slab) = IsEven slab
SmallSays _ = ⊤

abbrev pub LargeSays : Block → LargeAt → Type 0
LargeSays b LargeAt.Tick = ⊤
LargeSays b (LargeAt.Kind unit) = HasUnit b unit
LargeSays b (LargeAt.Grant unit) = ⊤

abbrev pub PlaceSays : Block → At → Type 0
PlaceSays b (At.Small at) = SmallSays at
PlaceSays b (At.Large at) = LargeSays b at
PlaceSays b _ = ⊤

-- what is said by a local itself, and not by the words
pub record SlabSays (l : Local) : Type 0 where
  pub cached : (x : ℕ) → 0 < tally x l.heap.cached.items → IsEven x
  pub place : PlaceSays l.call.block l.at

-- slabs that begin and end, and those in the slab cache; a tick, and the begin of a large object
abbrev pub IsSlabSmall : SmallAt → Type 0
IsSlabSmall (SmallAt.Behind slab head) = ⊥
IsSlabSmall (SmallAt.Private slab head below) = ⊥
IsSlabSmall (SmallAt.Rest slab unit) = ⊥
IsSlabSmall _ = ⊤

abbrev pub IsSlabLarge : LargeAt → Type 0
IsSlabLarge LargeAt.Tick = ⊤
IsSlabLarge (LargeAt.Kind unit) = ⊤
IsSlabLarge (LargeAt.Grant unit) = ⊥

abbrev pub IsSlabAt : At → Type 0
IsSlabAt (At.Small at) = IsSlabSmall at
IsSlabAt (At.Large at) = IsSlabLarge at
IsSlabAt _ = ⊥

pub record IsAtSlab (l : Local) : Type 0 where
  pub at : IsSlabAt l.at
  pub says : SlabSays l

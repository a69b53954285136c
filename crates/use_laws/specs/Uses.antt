-- What each block at rest is used for: by a slab, by a large object, or by the cache, and by one of them alone.
use Rattle.std.specs.Prelude.{◌≡◌, ◌≢◌, ℕ, ◌+◌, ◌<◌, ◌≤◌, ⊤}
use Rattle.word_codes.specs.Places.{granule_of}
use Rattle.guard_laws.specs.Blocks.{Use, Place, Piece}
use Rattle.slab_laws.specs.Books.{Keeper}
use Rattle.object_laws.specs.Objects.{Held}

-- what the block that begins at a granule is used for
pub data Purpose : Type 0 where
  -- no block at rest begins there: it is in a bin, in a seat's hand or queued, or there is none
  Spare : Purpose
  -- for a slab, also for an empty one that a seat has in its cache
  Slab : Purpose
  -- for the large object that begins at this unit
  Object : (unit : ℕ) → Purpose
  -- it lies in the cache of large blocks
  Shelved : Purpose

-- a slab begins there, or an empty one that is cached
abbrev pub IsKept : Keeper → Type 0
IsKept Keeper.Nobody = ⊥
IsKept (Keeper.By seat) = ⊤
IsKept Keeper.Orphan = ⊤
IsKept (Keeper.Adopting seat) = ⊤
IsKept (Keeper.Cached seat) = ⊤

-- the block that a large object has
abbrev pub block_in : Held → Piece
block_in Held.NotOut = Piece.NoPiece
block_in Held.Private = Piece.NoPiece
block_in Held.Listed = Piece.NoPiece
block_in (Held.Object grant) = Piece.NoPiece
block_in (Held.InHand seat) = Piece.NoPiece
block_in (Held.Ready seat first granules) = Piece.Got first granules
block_in (Held.Large grant first granules) = Piece.Got first granules

-- the large object that begins at a unit has the block, and begins in it
pub record HasBlock (x : ℕ) (place : Place) (u : ℕ) (held : Held) : Type 0 where
  pub granules : ℕ
  pub rests : place ≡ Place.Block x granules Use.Elsewhere
  pub has : block_in held ≡ Piece.Got x granules
  pub from : x ≤ granule_of u
  pub below : granule_of u < x + granules

abbrev pub PurposeFits : ℕ → Place → Keeper → (ℕ → Held) → Purpose → Type 0
PurposeFits x place keeper held Purpose.Spare = (n : ℕ) → place ≢ Place.Block x n Use.Elsewhere
PurposeFits x place keeper held Purpose.Slab = (place ≡ Place.Block x 2 Use.Elsewhere) × IsKept keeper
PurposeFits x place keeper held (Purpose.Object u) = HasBlock x place u (held u)
PurposeFits x place keeper held Purpose.Shelved = (n : ℕ) × (place ≡ Place.Block x n Use.Elsewhere)

-- the block that begins at a granule is used for one thing: there are no slab and no large object but those
pub record UseFits (x : ℕ) (place : Place) (keeper : Keeper) (held : ℕ → Held) (purpose : Purpose) : Type 0 where
  pub fits : PurposeFits x place keeper held purpose
  pub slab : IsKept keeper → purpose ≡ Purpose.Slab
  pub object : (u n : ℕ) → block_in (held u) ≡ Piece.Got x n → purpose ≡ Purpose.Object u

abbrev pub UsesFit : (ℕ → Place) → (ℕ → Keeper) → (ℕ → Held) → (ℕ → Purpose) → Type 0
UsesFit place keeper held purpose = (x : ℕ) → UseFits x (place x) (keeper x) held (purpose x)

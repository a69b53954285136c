-- The texts of moves: who holds bytes, who keeps a slab, and what goes from one to another.
use Rattle.std.specs.Prelude.{ℕ, List, ◌++◌, codes, Option, Some, None}
use Rattle.std.specs.Fmt.{decimal}
use Rattle.pool_types.specs.declared.rows.Row.{Row}
use Rattle.pool_types.specs.declared.rows.KeeperChange.{KeeperChange}
use Rattle.pool_types.specs.declared.rows.Keeper.{Keeper}
use Rattle.pool_types.specs.declared.rows.Keeper.TheVariants as keeper
use Rattle.part_model.specs.declared.holders.Holder.{Holder}
use Rattle.part_model.specs.declared.holders.Holder.TheVariants.{Waste, Head, Rest, Private, Public, Object, LargeHead, SlabCache, Cached, Bin, Queue, Hand}
use Rattle.part_model.specs.declared.moves.Range.{Range}
use Rattle.part_model.specs.declared.moves.Part.{Part}
use Rattle.pool_types.specs.Rows.{row_name}
use Rattle.pool_types.specs.Texts.{place_text}
use Rattle.report_text.specs.Pieces.{name_of, grant_text}

-- who holds bytes
abbrev pub holder_text : List (List ℕ) → Holder → List ℕ
holder_text names Waste = codes "waste"
holder_text names Head = codes "head"
holder_text names Rest = codes "rest"
holder_text names Private = codes "private"
holder_text names Public = codes "public"
holder_text names (Object grant) = codes "object:" ++ grant_text names grant
holder_text names (LargeHead grant) = codes "large-head:" ++ grant_text names grant
holder_text names (SlabCache seat) = codes "slab-cache:" ++ name_of names seat
holder_text names (Cached granules) = codes "cached:" ++ decimal granules
holder_text names Bin = codes "bin"
holder_text names Queue = codes "queue"
holder_text names (Hand seat) = codes "hand:" ++ name_of names seat

-- one side of a move; bytes of a region that is not in the pool have no holder
abbrev pub side_text : List (List ℕ) → Option Holder → List ℕ
side_text names None = codes "none"
side_text names (Some holder) = holder_text names holder

-- who keeps a slab
abbrev pub keeper_text : List (List ℕ) → Keeper → List ℕ
keeper_text names (keeper.Seat seat) = name_of names seat
keeper_text names keeper.Orphan = codes "orphan"
keeper_text names (keeper.Hand seat) = codes "hand:" ++ name_of names seat

-- a move's number, the thread that made it and the row of its step
unfoldable pub step_text : List (List ℕ) → ℕ → ℕ → Row → List ℕ
step_text names number seat row = decimal number ++ (codes " " ++ (name_of names seat ++ (codes " " ++ row_name row)))

-- bytes in a row: the place of the first, and how many
unfoldable pub range_text : Range → List ℕ
range_text range = place_text range.place ++ (codes " " ++ decimal range.bytes)

-- from one holder to another
unfoldable pub sides_text : List (List ℕ) → Part → List ℕ
sides_text names part = side_text names part.from ++ (codes " " ++ side_text names part.to)

-- from one keeper to another
unfoldable pub keepers_text : List (List ℕ) → KeeperChange → List ℕ
keepers_text names change = keeper_text names change.from ++ (codes " " ++ keeper_text names change.to)

-- the line of a part of a move
unfoldable pub move_text : List (List ℕ) → ℕ → ℕ → Row → Part → List ℕ
move_text names number seat row part =
    codes "move "
    ++ (step_text names number seat row
    ++ (codes " " ++ (range_text part.range ++ (codes " " ++ (sides_text names part ++ codes "\n")))))

-- the line of a slab that goes from one keeper to another
unfoldable pub keeper_move_text : List (List ℕ) → ℕ → ℕ → Row → KeeperChange → List ℕ
keeper_move_text names number seat row change =
    codes "keeper "
    ++ (step_text names number seat row
    ++ (codes " " ++ (place_text change.slab ++ (codes " " ++ (keepers_text names change ++ codes "\n")))))

-- The move of a step, whole.
use Rattle.std.specs.Prelude.{ℕ, List, [], ◌∷◌, ◌++◌, Option, Some, None}
use Rattle.pool_types.specs.declared.policy.RegionRec.{RegionRec}
use Rattle.pool_types.specs.declared.rows.Keeper.{Keeper}
use Rattle.pool_types.specs.declared.rows.KeeperChange.{KeeperChange}
use Rattle.size_classes.specs.Classes.{class_at}
use Rattle.part_model.specs.declared.moves.Part.{Part}
use Rattle.pool_words.specs.declared.words.Key.{Key}
use Rattle.pool_words.specs.declared.words.Word.{Word}
use Rattle.pool_words.specs.Actions.{value}
use Rattle.word_codes.specs.Links.{link_of}
use Rattle.word_codes.specs.RegionWords.{first_unit}
use Rattle.step_local.specs.declared.frames.Local.{Local}
use Rattle.word_parts.specs.declared.chains.Chain.{Chain}
use Rattle.word_parts.specs.declared.shifts.Moved.{Moved}
use Rattle.word_parts.specs.declared.places.Spot.{Spot}
use Rattle.word_parts.specs.Chains.{chain_spots}
use Rattle.word_parts.specs.Parts.{moved_parts}
use Rattle.word_parts.specs.Places.{place_at}
use Rattle.step_parts.specs.Positions.{moved_of}

-- the parts and the slabs that go to another keeper, each by region and offset; the class of the slab that enters the
-- slab book, and the region that comes
pub record Moving : Type 0 where
  pub parts : List Part
  pub book : List KeeperChange
  pub entered : Option ℕ
  pub region : Option RegionRec

abbrev pub no_moves : Moving
no_moves = record { parts = []; book = []; entered = None; region = None }

-- the word at which a cache bin's list is cut
abbrev pub cut_word : ℕ → Option ℕ → Word
cut_word granules (Some block) = Word.CacheLink block
cut_word granules None = Word.CacheHead granules

-- the items of the chain that a step takes, in the order of their places
abbrev pub moved_spots : Key → List ℕ → Moved → List Spot
moved_spots k words Moved.Nothing = []
moved_spots k words (Moved.One s) = []
moved_spots k words (Moved.Granted block unit grant) = []
moved_spots k words (Moved.Ended block unit grant) = []
moved_spots k words (Moved.SlabBegun slab class) = []
moved_spots k words (Moved.SlabEnded slab class handed) = []
moved_spots k words (Moved.Kept slab from to) = []
moved_spots k words (Moved.Taken chain first) = chain_spots k words chain first
moved_spots k words (Moved.Cut granules kept) =
    chain_spots k words (Chain.Cached granules) (link_of (value k words (cut_word granules kept)))
moved_spots k words (Moved.Comes one) = []
moved_spots k words (Moved.Leaves first) = []

-- a slab, by its first unit, goes from one keeper to another
abbrev pub keeper_change : Key → List ℕ → ℕ → Keeper → Keeper → KeeperChange
keeper_change k words unit from to = record { slab = place_at k words unit; from = from; to = to }

-- these changes, and orphans that come into the hand
abbrev pub chain_book : Key → List ℕ → ℕ → List KeeperChange → List Spot → List KeeperChange
chain_book k words seat book [] = book
chain_book k words seat book (spot ∷ spots) =
    chain_book k words seat (book ++ keeper_change k words spot.unit Keeper.Orphan (Keeper.Hand seat) ∷ []) spots

abbrev pub taken_book : Key → List ℕ → ℕ → List KeeperChange → List Spot → Chain → List KeeperChange
taken_book k words seat book spots (Chain.Listed bytes) = book
taken_book k words seat book spots Chain.Queued = book
taken_book k words seat book spots Chain.Orphans = chain_book k words seat book spots
taken_book k words seat book spots (Chain.Cached granules) = book

-- these changes, and those of what a step moves
abbrev pub moved_book : Key → List ℕ → ℕ → List KeeperChange → List Spot → Moved → List KeeperChange
moved_book k words seat book spots Moved.Nothing = book
moved_book k words seat book spots (Moved.One s) = book
moved_book k words seat book spots (Moved.Granted block unit grant) = book
moved_book k words seat book spots (Moved.Ended block unit grant) = book
moved_book k words seat book spots (Moved.SlabBegun slab class) = book
moved_book k words seat book spots (Moved.SlabEnded slab class handed) = book
moved_book k words seat book spots (Moved.Kept slab from to) =
    book ++ keeper_change k words (first_unit slab) from to ∷ []
moved_book k words seat book spots (Moved.Taken chain first) = taken_book k words seat book spots chain
moved_book k words seat book spots (Moved.Cut granules kept) = book
moved_book k words seat book spots (Moved.Comes one) = book
moved_book k words seat book spots (Moved.Leaves first) = book

-- the class of the slab that enters the book
abbrev pub entered_by : Moved → Option ℕ
entered_by Moved.Nothing = None
entered_by (Moved.One s) = None
entered_by (Moved.Granted block unit grant) = None
entered_by (Moved.Ended block unit grant) = None
entered_by (Moved.SlabBegun slab class) = class_at class
entered_by (Moved.SlabEnded slab class handed) = None
entered_by (Moved.Kept slab from to) = None
entered_by (Moved.Taken chain first) = None
entered_by (Moved.Cut granules kept) = None
entered_by (Moved.Comes one) = None
entered_by (Moved.Leaves first) = None

-- the region that comes
abbrev pub region_by : Moved → Option RegionRec
region_by Moved.Nothing = None
region_by (Moved.One s) = None
region_by (Moved.Granted block unit grant) = None
region_by (Moved.Ended block unit grant) = None
region_by (Moved.SlabBegun slab class) = None
region_by (Moved.SlabEnded slab class handed) = None
region_by (Moved.Kept slab from to) = None
region_by (Moved.Taken chain first) = None
region_by (Moved.Cut granules kept) = None
region_by (Moved.Comes one) = Some one
region_by (Moved.Leaves first) = None

abbrev pub moves_by : Key → List ℕ → List RegionRec → ℕ → List Spot → Moved → Moving
moves_by k words regions seat spots moved = record {
  parts = moved_parts k words regions seat [] spots moved;
  book = moved_book k words seat [] spots moved;
  entered = entered_by moved;
  region = region_by moved;
}

abbrev pub moving_of : Key → List ℕ → List RegionRec → ℕ → Moved → Moving
moving_of k words regions seat moved = moves_by k words regions seat (moved_spots k words moved) moved

-- what the next step of a local moves: of the words and the regions that are out, both before the step, and by the
-- number that the step finds
unfoldable pub moves_of : Key → List ℕ → List RegionRec → Local → ℕ → Moving
moves_of k words regions l f = moving_of k words regions l.seat (moved_of l f)

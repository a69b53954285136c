-- The turns of a run, and the state after one.
use Rattle.std.specs.Prelude.{ℕ, ◌+◌, ◌-◌, ◌&&◌, ◌==◌, not, Bool, true, false, if◌then◌else◌, List, [], ◌∷◌, ◌++◌}
use Rattle.std.specs.Prelude.{map, filter, Option, Some, None}
use Rattle.std.specs.List.{list_any, flat_map}
use Rattle.pool_types.specs.declared.values.Place.{Place}
use Rattle.pool_types.specs.declared.values.Answer.{Answer}
use Rattle.pool_types.specs.declared.values.Region.{Region}
use Rattle.pool_types.specs.declared.policy.RegionRec.{RegionRec}
use Rattle.pool_types.specs.declared.rows.Row.{Row}
use Rattle.pool_types.specs.declared.rows.KeeperChange.{KeeperChange}
use Rattle.part_model.specs.declared.holders.Holder.{Holder}
use Rattle.part_model.specs.declared.holders.Holder.TheVariants.{Object}
use Rattle.part_model.specs.declared.holders.HolderKind.TheVariants.{Bin as OfBin}
use Rattle.part_model.specs.declared.moves.Range.{Range}
use Rattle.part_model.specs.declared.moves.Part.{Part}
use Rattle.part_model.specs.Holding.{after_parts}
use Rattle.part_model.specs.Totals.{has_holder, is_at}
use Rattle.machine.specs.States.{State, Slab}
use Rattle.machine.specs.Ranges.{same_place, range_at, overlaps}

-- a change of the book of slabs: a slab enters, the slab at a place leaves, or a slab goes from one keeper to another
pub data BookChange : Type 0 where
  Enters : Slab → BookChange
  Leaves : Place → BookChange
  Passes : KeeperChange → BookChange

-- A look at the bins from the first to the last. With it stand the blocks that were in the lists of all bins at that
-- step, as the state can't tell where one block ends and the next begins.
pub record Look : Type 0 where
  pub first : ℕ
  pub last : ℕ
  pub lists : List Range

-- a call of the raw callback: it was asked for so many bytes and gave a region, or failed; or it was passed a region
-- and took it, or failed
pub data RawCall : Type 0 where
  Asked : ℕ → Option Region → RawCall
  Passed : Region → Bool → RawCall

-- What a turn found that an answer cites and that the state doesn't show: a look at bins, what the raw callback
-- answered, the number of the cache's clock that a step drew, or how many blocks of so many granules the cache said
-- that it has. All else that a turn finds is in the state.
pub data Sight : Type 0 where
  Nothing_seen : Sight
  Bins_seen : Look → Sight
  Raw_called : RawCall → Sight
  Tick_drawn : ℕ → Sight
  Items_seen : ℕ → ℕ → Sight

-- A turn of a seat (a step of a schedule): the number of its step, the kind of step (none in a run of whole calls), the
-- move with all its parts, the changes of the book, the record of a region that comes, what the turn found, and the
-- answer of the call that it ends. Of the number nothing is asked: a turn that makes no step has that of another turn.
pub record Turn : Type 0 where
  pub number : ℕ
  pub seat : ℕ
  pub row : Option Row
  pub parts : List Part
  pub book : List BookChange
  pub region : Option RegionRec
  pub seen : Sight
  pub answer : Option Answer

-- the holder is an object
abbrev pub is_object : Option Holder → Bool
is_object (Some (Object grant)) = true
is_object holder = false

-- the seats' last numbers after a move: a move that makes an object draws the seat's next number
abbrev pub last_after : (ℕ → ℕ) → ℕ → List Part → ℕ → ℕ
last_after last seat parts other =
    if list_any (λ part. is_object part.to) parts && (other == seat) then last seat + 1 else last other

-- one of the parts takes bytes of the region out of the pool
abbrev pub goes : List Part → RegionRec → Bool
goes parts region = list_any (λ part. not (has_holder part.to) && (part.range.place.region == region.number)) parts

-- the regions without those of which a part goes
abbrev pub regions_left : List RegionRec → List Part → List RegionRec
regions_left regions parts =
    if list_any (λ part. not (has_holder part.to)) parts then filter (λ region. not (goes parts region)) regions
    else regions

-- the live regions after a move
abbrev pub regions_after : List RegionRec → List Part → Option RegionRec → List RegionRec
regions_after regions parts None = regions_left regions parts
regions_after regions parts (Some region) = regions_left regions parts ++ region ∷ []

-- the least region number never used after a move
abbrev pub next_after : ℕ → Option RegionRec → ℕ
next_after next None = next
next_after next (Some region) = region.number + 1

-- the slab with the new keeper, where it is the one that changes
abbrev pub slab_after : KeeperChange → Slab → Slab
slab_after change slab =
    if same_place slab.place change.slab then record { place = slab.place; class = slab.class; keeper = change.to }
    else slab

-- the book after one change
abbrev pub book_after_change : List Slab → BookChange → List Slab
book_after_change book (Enters slab) = book ++ slab ∷ []
book_after_change book (Leaves place) = filter (λ slab. not (same_place slab.place place)) book
book_after_change book (Passes change) = map (slab_after change) book

-- the book after several changes
abbrev pub book_after : List Slab → List BookChange → List Slab
book_after book [] = book
book_after book (change ∷ changes) = book_after (book_after_change book change) changes

-- the range, where it has a byte
abbrev pub some_range : Range → List Range
some_range range = if range.bytes == 0 then [] else range ∷ []

-- what is left of a block where a range is taken out of it: what lies before the range, and what lies behind it
abbrev pub block_left : Range → Range → List Range
block_left taken block =
    if overlaps taken block
    then some_range (range_at block.place block.place.offset (taken.place.offset - block.place.offset))
    ++ some_range (range_at block.place (taken.place.offset + taken.bytes)
    (block.place.offset + block.bytes - (taken.place.offset + taken.bytes)))
    else block ∷ []

-- the blocks in bins after one part: what comes from bins is taken out of its block, and what goes to bins is a block
abbrev pub blocks_after_part : List Range → Part → List Range
blocks_after_part blocks part =
    (if is_at OfBin part.from then flat_map (block_left part.range) blocks else blocks)
    ++ (if is_at OfBin part.to then part.range ∷ [] else [])

-- the blocks in bins after several parts
abbrev pub blocks_after : List Range → List Part → List Range
blocks_after blocks [] = blocks
blocks_after blocks (part ∷ parts) = blocks_after (blocks_after_part blocks part) parts

-- the state after a turn
abbrev pub after_turn : State → Turn → State
after_turn state turn = record {
  held = after_parts state.held turn.parts;
  regions = regions_after state.regions turn.parts turn.region;
  next = next_after state.next turn.region;
  book = book_after state.book turn.book;
  last = last_after state.last turn.seat turn.parts;
  blocks = blocks_after state.blocks turn.parts;
}

-- the state after several turns
abbrev pub after_turns : State → List Turn → State
after_turns state [] = state
after_turns state (turn ∷ turns) = after_turns (after_turn state turn) turns

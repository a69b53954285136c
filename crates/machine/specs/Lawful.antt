-- The moves that are lawful in a state, one case for each kind of move. That each byte is where its part says, and
-- which pairs of holders there are, is said besides.
use Rattle.std.specs.Prelude.{◌≡◌, ◌≢◌, ◌⊎◌, ℕ, ◌+◌, ◌-◌, ◌%◌, ◌<◌, ◌≤◌, Bool, true, false, List, [], ◌∷◌, map}
use Rattle.std.specs.Prelude.{Contains, Option, Some, None}
use Rattle.std.specs.Int.{IsPowerOfTwo}
use Rattle.pool_types.specs.declared.values.Place.{Place}
use Rattle.pool_types.specs.declared.values.Grant.{Grant}
use Rattle.pool_types.specs.declared.policy.Limits.{Limits}
use Rattle.pool_types.specs.declared.policy.RegionRec.{RegionRec}
use Rattle.pool_types.specs.declared.rows.Keeper.{Keeper}
use Rattle.pool_types.specs.declared.rows.Keeper.TheVariants.{Seat, Orphan, Hand as InHand}
use Rattle.pool_types.specs.Geometry.{line_bytes}
use Rattle.part_model.specs.declared.holders.Holder.{Holder}
use Rattle.part_model.specs.declared.holders.Holder.TheVariants.{Head, Rest, Private, Public, Object, LargeHead}
use Rattle.part_model.specs.declared.holders.Holder.TheVariants.{SlabCache, Cached, Bin, Queue, Hand}
use Rattle.part_model.specs.declared.moves.Range.{Range}
use Rattle.part_model.specs.declared.moves.Part.{Part}
use Rattle.part_model.specs.Holding.{lies_in}
use Rattle.pool_types.specs.Geometry.{class_count}
use Rattle.size_classes.specs.Classes.{class_objects}
use Rattle.machine.specs.States.{Terms, State, Slab}
use Rattle.machine.specs.Ranges.{Each, part_of, parts_of, range_at, lies_in_parts, IsGranules, IsBlock, IsSlabRoom}
use Rattle.machine.specs.Ranges.{slab_range, head_range, objects_range, object_range, behind_object, IsObjectOf}
use Rattle.machine.specs.Regions.{coming_parts, leaving_parts, IsNewRegion}
use Rattle.machine.specs.Journal.{BookChange, Enters, Leaves, Passes}

-- the next grant of a seat
abbrev pub next_grant : State → ℕ → Grant
next_grant state seat = record { seat = seat; number = state.last seat + 1 }

-- the slab of a class that a seat makes at a place
abbrev pub new_slab : Place → ℕ → ℕ → Slab
new_slab place class seat = record { place = place; class = class; keeper = Seat seat }

-- the object is the highest of its slab's rest: nothing behind it is rest
abbrev pub IsHighestRest : State → Slab → ℕ → Type 0
IsHighestRest state slab object = (byte : Place) → lies_in byte (behind_object slab object) ≡ true →
    state.held byte ≢ Some Rest

-- what a slab is of that has no object out
abbrev pub is_of_slab : Option Holder → Bool
is_of_slab (Some Head) = true
is_of_slab (Some Rest) = true
is_of_slab (Some Private) = true
is_of_slab holder = false

-- the part takes bytes of the slab into the seat's hand
pub record TakesOfSlab (slab : Slab) (seat : ℕ) (part : Part) : Type 0 where
  pub inside : (byte : Place) → lies_in byte part.range ≡ true → lies_in byte (slab_range slab.place) ≡ true
  pub of_slab : is_of_slab part.from ≡ true
  pub to_hand : part.to ≡ Some (Hand seat)

-- the parts take all bytes of the slab into the seat's hand
pub record TakesSlab (slab : Slab) (seat : ℕ) (parts : List Part) : Type 0 where
  pub each : Each (TakesOfSlab slab seat) parts
  pub whole : (byte : Place) → lies_in byte (slab_range slab.place) ≡ true → lies_in_parts byte parts ≡ true

-- objects of a slab go from one holder to another
abbrev pub object_parts : Slab → List ℕ → Option Holder → Option Holder → List Part
object_parts slab objects from to = parts_of (map (object_range slab) objects) from to

-- each public byte of the slab lies in one of the parts
abbrev pub AreAllPublic : State → Slab → List Part → Type 0
AreAllPublic state slab parts =
    (byte : Place) → lies_in byte (slab_range slab.place) ≡ true → state.held byte ≡ Some Public →
    lies_in_parts byte parts ≡ true

-- the bytes of a block before its object, and the object
abbrev pub large_head_range : Range → ℕ → Range
large_head_range block head = range_at block.place block.place.offset head

abbrev pub large_object_range : Range → ℕ → Range
large_object_range block head = range_at block.place (block.place.offset + head) (block.bytes - head)

-- The object begins at the first address that is at least a line into the block and a multiple of the alignment, which
-- is a power of two from a line on. `head` is how many bytes lie before it.
pub record IsCut (limits : Limits) (state : State) (block : Range) (alignment head : ℕ) : Type 0 where
  pub granules : ℕ
  pub whole : IsBlock limits state block granules
  pub open whole use {region}
  pub power : IsPowerOfTwo alignment
  pub line : line_bytes ≤ alignment
  pub least : line_bytes ≤ head
  pub aligned : (region.region.base + block.place.offset + head) % alignment ≡ 0
  pub first : (other : ℕ) → line_bytes ≤ other → other < head →
      (region.region.base + block.place.offset + other) % alignment ≢ 0
  pub some : head < block.bytes

-- all bytes of the grant's object and of its head lie in the block
abbrev pub IsAllOf : State → Range → Grant → Type 0
IsAllOf state block grant =
    (byte : Place) → (state.held byte ≡ Some (Object grant)) ⊎ (state.held byte ≡ Some (LargeHead grant)) →
    lies_in byte block ≡ true

-- slabs go from one keeper to another
abbrev pub pass : Keeper → Keeper → Slab → BookChange
pass from to slab = Passes (record { slab = slab.place; from = from; to = to })

-- the slab is in the book, and has this keeper
abbrev pub IsKept : State → Keeper → Slab → Type 0
IsKept state keeper slab = Contains state.book slab × (slab.keeper ≡ keeper)

-- the slab is in the book, is of the class, and has this keeper
abbrev pub IsKeptOf : State → ℕ → Keeper → Slab → Type 0
IsKeptOf state class keeper slab = IsKept state keeper slab × (slab.class ≡ class)

-- The lawful moves of a seat: which parts, which changes of the book, and which region comes.
pub data IsLawful (terms : Terms) (state : State) (seat : ℕ) : List Part → List BookChange → Option RegionRec →
    Type 0 where
  -- a step that moves nothing
  nothing_moves : IsLawful terms state seat [] [] None
  -- A region comes, all its bytes: its granules to the seat's hand, what lies before and behind them to waste. (No
  -- holder to Hand and Waste)
  region_comes : (region : RegionRec) → IsNewRegion terms state region →
      IsLawful terms state seat (coming_parts terms.limits.pool seat region) [] (Some region)
  -- A region leaves, all its bytes. (Hand and Waste to no holder)
  region_leaves : (region : RegionRec) → Contains state.regions region →
      IsLawful terms state seat (leaving_parts terms.limits.pool seat region) [] None
  -- Whole blocks go from the seat's hand to bins, to the queue, or to the cache of blocks of so many granules.
  blocks_put : (blocks : List Range) →
      Each (λ block. (granules : ℕ) × IsBlock terms.limits state block granules) blocks →
      IsLawful terms state seat (parts_of blocks (Some (Hand seat)) (Some Bin)) [] None
  blocks_queued : (blocks : List Range) →
      Each (λ block. (granules : ℕ) × IsBlock terms.limits state block granules) blocks →
      IsLawful terms state seat (parts_of blocks (Some (Hand seat)) (Some Queue)) [] None
  blocks_cached : (granules : ℕ) (blocks : List Range) →
      Each (λ block. IsBlock terms.limits state block granules) blocks →
      IsLawful terms state seat (parts_of blocks (Some (Hand seat)) (Some (Cached granules))) [] None
  -- Whole granules go from bins, from the queue, or from the cache to the seat's hand.
  bins_taken : (ranges : List Range) →
      Each (λ range. (granules : ℕ) × IsGranules terms.limits state range granules) ranges →
      IsLawful terms state seat (parts_of ranges (Some Bin) (Some (Hand seat))) [] None
  queue_taken : (ranges : List Range) →
      Each (λ range. (granules : ℕ) × IsGranules terms.limits state range granules) ranges →
      IsLawful terms state seat (parts_of ranges (Some Queue) (Some (Hand seat))) [] None
  cache_taken : (granules : ℕ) (ranges : List Range) →
      Each (λ range. IsGranules terms.limits state range granules) ranges →
      IsLawful terms state seat (parts_of ranges (Some (Cached granules)) (Some (Hand seat))) [] None
  -- A whole slab that is not in the book goes from the seat's hand to its slab cache, and back.
  slab_stored : (place : Place) → IsSlabRoom terms.limits state place →
      IsLawful terms state seat (part_of (slab_range place) (Some (Hand seat)) (Some (SlabCache seat)) ∷ []) [] None
  slab_fetched : (place : Place) → IsSlabRoom terms.limits state place →
      IsLawful terms state seat (part_of (slab_range place) (Some (SlabCache seat)) (Some (Hand seat)) ∷ []) [] None
  -- A slab begins: it enters the book, kept by the seat. (Hand to Head and Rest)
  slab_begins : (place : Place) (class : ℕ) → class < class_count → IsSlabRoom terms.limits state place →
      IsLawful terms state seat
      (part_of (head_range place class) (Some (Hand seat)) (Some Head)
      ∷ part_of (objects_range place class) (Some (Hand seat)) (Some Rest)
      ∷ [])
      (Enters (new_slab place class seat) ∷ []) None
  -- All bytes of a slab that the seat keeps go to its hand: it leaves the book. (Head, Rest and Private to Hand)
  slab_ends : (slab : Slab) (parts : List Part) → IsKept state (Seat seat) slab → TakesSlab slab seat parts →
      IsLawful terms state seat parts (Leaves slab.place ∷ []) None
  -- The highest object of the rest of a slab that the seat keeps is granted, under the seat's next number. (Rest to
  -- Object)
  rest_granted : (slab : Slab) (object : ℕ) → IsKept state (Seat seat) slab → object < class_objects slab.class →
      IsHighestRest state slab object →
      IsLawful terms state seat
      (part_of (object_range slab object) (Some Rest) (Some (Object (next_grant state seat))) ∷ []) [] None
  -- A private object of a slab that the seat keeps is granted, under the seat's next number. (Private to Object)
  private_granted : (slab : Slab) (object : ℕ) → IsKept state (Seat seat) slab → object < class_objects slab.class →
      IsLawful terms state seat
      (part_of (object_range slab object) (Some Private) (Some (Object (next_grant state seat))) ∷ []) [] None
  -- An object of a slab is freed by the seat that keeps the slab. (Object to Private)
  object_freed : (slab : Slab) (object : ℕ) (grant : Grant) → IsKept state (Seat seat) slab →
      object < class_objects slab.class →
      IsLawful terms state seat (part_of (object_range slab object) (Some (Object grant)) (Some Private) ∷ []) [] None
  -- An object of a slab is freed by a seat that does not keep the slab. (Object to Hand)
  object_taken : (slab : Slab) (object : ℕ) (grant : Grant) → IsObjectOf state slab object → slab.keeper ≢ Seat seat →
      IsLawful terms state seat (part_of (object_range slab object) (Some (Object grant)) (Some (Hand seat))
      ∷ []) [] None
  -- An object of a slab that a seat has in hand is made public. (Hand to Public)
  object_listed : (slab : Slab) (object : ℕ) → IsObjectOf state slab object →
      IsLawful terms state seat (part_of (object_range slab object) (Some (Hand seat)) (Some Public) ∷ []) [] None
  -- All public objects of a slab that the seat keeps become private. (Public to Private)
  public_taken : (slab : Slab) (objects : List ℕ) → IsKept state (Seat seat) slab →
      Each (λ object. object < class_objects slab.class) objects →
      AreAllPublic state slab (object_parts slab objects (Some Public) (Some Private)) →
      IsLawful terms state seat (object_parts slab objects (Some Public) (Some Private)) [] None
  -- A block is cut and granted, under the seat's next number. (Hand to LargeHead and Object)
  block_granted : (block : Range) (alignment head : ℕ) → IsCut terms.limits state block alignment head →
      IsLawful terms state seat
      (part_of (large_head_range block head) (Some (Hand seat)) (Some (LargeHead (next_grant state seat)))
      ∷ part_of (large_object_range block head) (Some (Hand seat)) (Some (Object (next_grant state seat)))
      ∷ [])
      [] None
  -- A large object is freed by any seat, with its head. (LargeHead and Object to Hand)
  block_freed : (block : Range) (granules head : ℕ) (grant : Grant) → IsGranules terms.limits state block granules →
      0 < head → head < block.bytes →
      IsAllOf state block grant →
      IsLawful terms state seat
      (part_of (large_head_range block head) (Some (LargeHead grant)) (Some (Hand seat))
      ∷ part_of (large_object_range block head) (Some (Object grant)) (Some (Hand seat))
      ∷ [])
      [] None
  -- A slab that the seat keeps becomes an orphan.
  slab_orphaned : (slab : Slab) → IsKept state (Seat seat) slab →
      IsLawful terms state seat [] (pass (Seat seat) Orphan slab ∷ []) None
  -- All orphans of a class go to the seat's hand.
  orphans_taken : (class : ℕ) (slabs : List Slab) → Each (IsKeptOf state class Orphan) slabs →
      ((slab : Slab) → IsKeptOf state class Orphan slab → Contains slabs slab) →
      IsLawful terms state seat [] (map (pass Orphan (InHand seat)) slabs) None
  -- A slab in the seat's hand is adopted, or becomes an orphan again.
  slab_adopted : (slab : Slab) → IsKept state (InHand seat) slab →
      IsLawful terms state seat [] (pass (InHand seat) (Seat seat) slab ∷ []) None
  slab_returned : (slab : Slab) → IsKept state (InHand seat) slab →
      IsLawful terms state seat [] (pass (InHand seat) Orphan slab ∷ []) None

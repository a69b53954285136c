-- The parts of a move. What has no byte is no part.
use Rattle.std.specs.Prelude.{ℕ, zero, suc, ◌+◌, ◌-◌, ◌*◌, min, cond, eqb, List, [], ◌∷◌, ◌++◌, Option, Some, None}
use Rattle.pool_types.specs.Geometry.{unit_bytes}
use Rattle.pool_types.specs.Sums.{capped}
use Rattle.pool_types.specs.declared.policy.RegionRec.{RegionRec}
use Rattle.pool_types.specs.declared.values.Grant.{Grant}
use Rattle.size_classes.specs.Classes.{class_size, class_objects}
use Rattle.part_model.specs.declared.holders.Holder.{Holder}
use Rattle.part_model.specs.declared.moves.Part.{Part}
use Rattle.pool_words.specs.declared.words.Key.{Key}
use Rattle.word_codes.specs.RegionWords.{first_unit}
use Rattle.heap_slabs.specs.Records.{unit_of}
use Rattle.backend_bins.specs.declared.blocks.Block.{Block}
use Rattle.backend_bins.specs.Blocks.{block_end}
use Rattle.word_parts.specs.declared.chains.Chain.{Chain}
use Rattle.word_parts.specs.declared.shifts.Moved.{Moved}
use Rattle.word_parts.specs.declared.shifts.Shift.{Shift}
use Rattle.word_parts.specs.declared.places.Spot.{Spot}
use Rattle.word_parts.specs.Chains.{chain_shift}
use Rattle.word_parts.specs.Shifts.{bytes_of, shift}
use Rattle.word_parts.specs.Places.{place_at}

-- the bytes from one unit to another
abbrev pub bytes_between : ℕ → ℕ → ℕ
bytes_between from to = capped ((to - from) * unit_bytes)

-- the part of bytes that go from one holder to another
abbrev pub part_of : Key → List ℕ → Shift → Part
part_of k words s = record {
  range = record { place = place_at k words s.unit; bytes = s.bytes };
  from = Some s.from;
  to = Some s.to;
}

-- the parts with one more, if it has a byte
abbrev pub with_part : List Part → Part → List Part
with_part parts part = cond (eqb part.range.bytes 0) parts (parts ++ part ∷ [])

abbrev pub with_shift : Key → List ℕ → List Part → Shift → List Part
with_shift k words parts s = with_part parts (part_of k words s)

-- what lies before a large object in its block, and the object
abbrev pub large_head : Block → ℕ → Holder → Holder → Shift
large_head block unit from to =
    shift (first_unit block.first) (bytes_between (first_unit block.first) unit) from to

abbrev pub large_object : Block → ℕ → Holder → Holder → Shift
large_object block unit from to = shift unit (bytes_between unit (first_unit (block_end block))) from to

-- a block in hand is granted, with a large object in it
abbrev pub with_granted : Key → List ℕ → List Part → Holder → Block → ℕ → Grant → List Part
with_granted k words parts hand block unit grant =
    with_shift k words
    (with_shift k words parts (large_head block unit hand (Holder.LargeHead grant)))
    (large_object block unit hand (Holder.Object grant))

-- the block of a large object comes into the hand
abbrev pub with_given_up : Key → List ℕ → List Part → Holder → Block → ℕ → Grant → List Part
with_given_up k words parts hand block unit grant =
    with_shift k words
    (with_shift k words parts (large_head block unit (Holder.LargeHead grant) hand))
    (large_object block unit (Holder.Object grant) hand)

-- the unit of the object of a slab that lies first in it, which is the last one of its rest
abbrev pub first_object : ℕ → ℕ → ℕ
first_object slab class = unit_of slab class (class_objects class - 1)

-- what lies in a slab before its objects, its rest of so many objects, and a private object
abbrev pub slab_head : ℕ → ℕ → Holder → Holder → Shift
slab_head slab class from to =
    shift (first_unit slab) (bytes_between (first_unit slab) (first_object slab class)) from to

abbrev pub slab_rest : ℕ → ℕ → ℕ → Holder → Holder → Shift
slab_rest slab class objects from to =
    shift (first_object slab class) (capped (objects * class_size class)) from to

abbrev pub private_shift : ℕ → ℕ → Holder → ℕ → Shift
private_shift slab class hand object = shift (unit_of slab class object) (class_size class) Holder.Private hand

-- a slab is begun
abbrev pub with_begun : Key → List ℕ → List Part → Holder → ℕ → ℕ → List Part
with_begun k words parts hand slab class =
    with_shift k words
    (with_shift k words parts (slab_head slab class hand Holder.Head))
    (slab_rest slab class (class_objects class) hand Holder.Rest)

-- these parts, and the first so many objects of a slab that ends, from the last of them on
abbrev pub privates : ℕ → Key → List ℕ → List Part → Holder → ℕ → ℕ → List Part
privates zero k words parts hand slab class = parts
privates (suc n) k words parts hand slab class =
    privates n k words (with_shift k words parts (private_shift slab class hand n)) hand slab class

-- a slab ends, of whose objects so many were handed out
abbrev pub with_slab_ended : Key → List ℕ → List Part → Holder → ℕ → ℕ → ℕ → List Part
with_slab_ended k words parts hand slab class handed =
    privates (min handed (class_objects class)) k words
    (with_shift k words
    (with_shift k words parts (slab_head slab class Holder.Head hand))
    (slab_rest slab class (class_objects class - handed) Holder.Rest hand))
    hand slab class

-- so many bytes of a region
abbrev pub region_part : Key → ℕ → ℕ → ℕ → Option Holder → Option Holder → Part
region_part k region offset bytes from to = record {
  range = record { place = record { pool = k.pool; region = region; offset = offset }; bytes = bytes };
  from = from;
  to = to;
}

-- where a region's granules end
abbrev pub body_end : RegionRec → ℕ
body_end one = capped (one.waste + bytes_of one.granules)

-- a region's bytes: what lies outside of its granules goes the one way, and these go the other
abbrev pub with_region : Key → List Part → RegionRec → Option Holder → Option Holder → Option Holder → Option Holder →
    List Part
with_region k parts one out_from out_to in_from in_to =
    with_part
    (with_part
    (with_part parts (region_part k one.number 0 one.waste out_from out_to))
    (region_part k one.number one.waste (bytes_of one.granules) in_from in_to))
    (region_part k one.number (body_end one) (one.region.bytes - body_end one) out_from out_to)

-- a region comes, with its granules in hand
abbrev pub with_coming : Key → List Part → Holder → RegionRec → List Part
with_coming k parts hand one = with_region k parts one None (Some Holder.Waste) None (Some hand)

-- a region leaves
abbrev pub with_region_left : Key → List Part → Holder → RegionRec → List Part
with_region_left k parts hand one = with_region k parts one (Some Holder.Waste) None (Some hand) None

-- the region, of those that are out, whose first granule is this one
abbrev pub region_at : List RegionRec → ℕ → Option RegionRec
region_at [] first = None
region_at (one ∷ rest) first = cond (eqb one.first first) (Some one) (region_at rest first)

-- it leaves, if it is out
abbrev pub with_leaving : Key → List Part → Holder → Option RegionRec → List Part
with_leaving k parts hand (Some one) = with_region_left k parts hand one
with_leaving k parts hand None = parts

-- these parts, and those of a chain's items
abbrev pub chain_parts : Key → List ℕ → ℕ → Chain → List Part → List Spot → List Part
chain_parts k words seat chain parts [] = parts
chain_parts k words seat chain parts (spot ∷ spots) =
    chain_parts k words seat chain (with_shift k words parts (chain_shift k words chain seat spot.unit)) spots

-- these parts, and those of what a step moves; of a chain that is taken, the spots are its items
abbrev pub moved_parts : Key → List ℕ → List RegionRec → ℕ → List Part → List Spot → Moved → List Part
moved_parts k words regions seat parts spots Moved.Nothing = parts
moved_parts k words regions seat parts spots (Moved.One s) = with_shift k words parts s
moved_parts k words regions seat parts spots (Moved.Granted block unit grant) =
    with_granted k words parts (Holder.Hand seat) block unit grant
moved_parts k words regions seat parts spots (Moved.Ended block unit grant) =
    with_given_up k words parts (Holder.Hand seat) block unit grant
moved_parts k words regions seat parts spots (Moved.SlabBegun slab class) =
    with_begun k words parts (Holder.Hand seat) slab class
moved_parts k words regions seat parts spots (Moved.SlabEnded slab class handed) =
    with_slab_ended k words parts (Holder.Hand seat) slab class handed
moved_parts k words regions seat parts spots (Moved.Kept slab from to) = parts
moved_parts k words regions seat parts spots (Moved.Taken chain first) = chain_parts k words seat chain parts spots
moved_parts k words regions seat parts spots (Moved.Cut granules kept) =
    chain_parts k words seat (Chain.Cached granules) parts spots
moved_parts k words regions seat parts spots (Moved.Comes one) = with_coming k parts (Holder.Hand seat) one
moved_parts k words regions seat parts spots (Moved.Leaves first) =
    with_leaving k parts (Holder.Hand seat) (region_at regions first)

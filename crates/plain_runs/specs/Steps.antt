-- The steps of a whole call: what it does to the partition, in turns of a run of the partition machine.
use Rattle.std.specs.Prelude.{ℕ, ◌+◌, ◌-◌, ◌*◌, if◌then◌else◌, List, [], ◌∷◌, ◌++◌, length, take, find, map, nat_le}
use Rattle.std.specs.Prelude.{Some, None}
use Rattle.std.specs.declared.option.Option.{Option}
use Rattle.pool_types.specs.declared.values.Place.{Place}
use Rattle.pool_types.specs.declared.values.Region.{Region}
use Rattle.pool_types.specs.declared.values.Answer.{Answer}
use Rattle.pool_types.specs.declared.values.Answer.TheVariants.{Freed}
use Rattle.pool_types.specs.declared.values.Request.{Request}
use Rattle.pool_types.specs.declared.values.Request.TheVariants.{Malloc, Free}
use Rattle.pool_types.specs.declared.policy.RegionRec.{RegionRec}
use Rattle.pool_types.specs.declared.rows.Keeper.TheVariants.{Seat}
use Rattle.part_model.specs.declared.holders.Holder.{Holder}
use Rattle.part_model.specs.declared.holders.Holder.TheVariants.{Head, Rest, Private, Object, SlabCache, Bin, Hand}
use Rattle.part_model.specs.declared.moves.Range.{Range}
use Rattle.part_model.specs.declared.moves.Part.{Part}
use Rattle.size_classes.specs.Classes.{class_size, class_objects}
use Rattle.size_classes.specs.Layout.{head_bytes}
use Rattle.machine.specs.States.{Slab}
use Rattle.machine.specs.Ranges.{part_of, parts_of, range_at, slab_range, head_range, objects_range, object_range}
use Rattle.machine.specs.Regions.{coming_parts, some_part}
use Rattle.machine.specs.Journal.{Turn, BookChange, Enters, Leaves, Look, Asked, Sight, Nothing_seen, Bins_seen}
use Rattle.machine.specs.Journal.{Raw_called}
use Rattle.plain_lists.specs.Lists.{OwnSlab, Block, Lists, first_region, whole_block, has_free, next_object}
use Rattle.plain_lists.specs.Lists.{taken_back, is_unused, begun}
use Rattle.plain_lists.specs.Backend.{first_fit, even_from, rests, joined, block_before, block_behind, after_put}
use Rattle.plain_lists.specs.Backend.{slab_block}
use Rattle.plain_lists.specs.Whole.{Spot, grant_of, got, no_fit, newest, whole, class_at, spot_at}

-- the record of the one region: 128 granules and no waste
abbrev pub one_region : RegionRec
one_region = record { number = 0; first = 0; granules = 128; waste = 0; region = first_region }

-- a byte of the one region
abbrev pub at_offset : ℕ → Place
at_offset offset = record { pool = 0; region = 0; offset = offset }

-- where the granule of an index begins
abbrev pub granule_place : ℕ → Place
granule_place index = at_offset (8192 * index)

-- the slab of the book at the index
abbrev pub slab_of : ℕ → ℕ → Slab
slab_of index class = record { place = granule_place index; class = class; keeper = Seat 0 }

-- the bytes of a block
abbrev pub block_range : Block → Range
block_range block = range_at (at_offset 0) (8192 * block.first) (8192 * block.granules)

-- a step of the one seat
abbrev pub step_of : List Part → List BookChange → Option RegionRec → Sight → Option Answer → Turn
step_of parts book region seen answer = record {
  number = 0;
  seat = 0;
  row = None;
  parts = parts;
  book = book;
  region = region;
  seen = seen;
  answer = answer;
}

-- a step that moves nothing, and answers or does not
abbrev pub still_step : Option Answer → Turn
still_step answer = step_of [] [] None Nothing_seen answer

-- what a slab's next object is before it is given: private, or rest
abbrev pub giver : List ℕ → Holder
giver (object ∷ private) = Private
giver [] = Rest

-- the slab gives its next object, under this number, and the call answers it
abbrev pub grant_step : OwnSlab → ℕ → Turn
grant_step slab number =
    step_of
    (part_of (object_range (slab_of slab.index slab.class) (next_object slab)) (Some (giver slab.private))
    (Some (Object (grant_of number))) ∷ [])
    [] None Nothing_seen (Some (got slab.index slab.class (next_object slab) number))

-- blocks go from one holder to another
abbrev pub blocks_step : List Block → Holder → Holder → Turn
blocks_step blocks from to =
    step_of (parts_of (map block_range blocks) (Some from) (Some to)) [] None Nothing_seen None

-- the slab at the index goes into the slab cache, and back
abbrev pub store_step : ℕ → Turn
store_step index =
    step_of (part_of (slab_range (granule_place index)) (Some (Hand 0)) (Some (SlabCache 0)) ∷ [])
    [] None Nothing_seen None

abbrev pub fetch_step : ℕ → Turn
fetch_step index =
    step_of (part_of (slab_range (granule_place index)) (Some (SlabCache 0)) (Some (Hand 0)) ∷ [])
    [] None Nothing_seen None

-- all bins that can have room for a slab, of which none has a block
abbrev pub no_blocks : Look
no_blocks = record { first = 1; last = 511; lists = [] }

-- all these bins are looked at in vain, before the callback is asked
abbrev pub vain_step : Turn
vain_step = step_of [] [] None (Bins_seen no_blocks) None

-- the callback gives the region, and it comes
abbrev pub come_step : Turn
come_step =
    step_of (coming_parts 0 0 one_region) [] (Some one_region)
    (Raw_called (Asked first_region.bytes (Some first_region))) None

-- a slab is begun with what is in hand
abbrev pub begin_step : ℕ → ℕ → Turn
begin_step index class =
    step_of
    (part_of (head_range (granule_place index) class) (Some (Hand 0)) (Some Head)
    ∷ part_of (objects_range (granule_place index) class) (Some (Hand 0)) (Some Rest)
    ∷ [])
    (Enters (slab_of index class) ∷ []) None Nothing_seen None

-- all these bins are looked at in vain, and the answer is null
abbrev pub look_step : Turn
look_step = step_of [] [] None (Bins_seen no_blocks) (Some no_fit)

-- the steps that get the room of a slab into the hand
abbrev pub region_steps : Option Region → List Turn
region_steps None = vain_step ∷ come_step ∷ blocks_step (rests whole_block) (Hand 0) Bin ∷ []
region_steps (Some region) = []

abbrev pub block_steps : Lists → Option Block → List Turn
block_steps lists (Some block) = blocks_step (slab_block (even_from block.first) ∷ []) Bin (Hand 0) ∷ []
block_steps lists None = region_steps lists.region

abbrev pub room_steps : Lists → Option ℕ → List Turn
room_steps lists (Some index) = fetch_step index ∷ []
room_steps lists None = block_steps lists (first_fit lists.blocks)

-- the bytes behind the head of a slab that were not handed out, and those that were
abbrev pub rest_range : OwnSlab → Range
rest_range slab =
    range_at (granule_place slab.index) (8192 * slab.index + head_bytes slab.class)
    ((class_objects slab.class - length slab.objects) * class_size slab.class)

abbrev pub handed_range : OwnSlab → Range
handed_range slab =
    range_at (granule_place slab.index) (8192 * slab.index + (16384 - length slab.objects * class_size slab.class))
    (length slab.objects * class_size slab.class)

-- an object of the slab comes back
abbrev pub free_step : OwnSlab → ℕ → ℕ → Turn
free_step slab object number =
    step_of
    (part_of (object_range (slab_of slab.index slab.class) object)
    (Some (Object (grant_of number))) (Some Private) ∷ [])
    [] None Nothing_seen None

-- the slab ends: all its objects are private or were not handed out
abbrev pub end_step : OwnSlab → Turn
end_step slab =
    step_of
    (part_of (head_range (granule_place slab.index) slab.class) (Some Head) (Some (Hand 0))
    ∷ some_part (rest_range slab) (Some Rest) (Some (Hand 0))
    ++ some_part (handed_range slab) (Some Private) (Some (Hand 0)))
    (Leaves (granule_place slab.index) ∷ []) None Nothing_seen None

-- a block, where there is one
abbrev pub listed : Option Block → List Block
listed (Some block) = block ∷ []
listed None = []

-- a block in hand is put: its free neighbours come out of their bins, and all of it goes into one
abbrev pub put_steps : Block → List Block → List Turn
put_steps block blocks =
    blocks_step (listed (block_before block blocks) ++ listed (block_behind block blocks)) Bin (Hand 0)
    ∷ blocks_step (joined block blocks ∷ []) (Hand 0) Bin
    ∷ []

-- slabs of the slab cache are put, one after another
abbrev pub puts_steps : List ℕ → List Block → List Turn
puts_steps [] blocks = []
puts_steps (index ∷ indices) blocks = fetch_step index
    ∷ (put_steps (slab_block index) blocks ++ puts_steps indices (after_put (slab_block index) blocks))

-- the slab cache is trimmed, where it has 33 slabs
abbrev pub trim_steps : List ℕ → List Block → List Turn
trim_steps stored blocks = if nat_le 33 (length stored) then puts_steps (take 25 stored) blocks else []

-- the slab ends and goes into the slab cache
abbrev pub shelf_steps : Lists → OwnSlab → List Turn
shelf_steps lists slab = end_step slab ∷ store_step slab.index
    ∷ trim_steps (lists.stored ++ slab.index ∷ []) lists.blocks

-- the steps of a free of the object at the spot
abbrev pub frees_steps : Lists → Spot → List Turn
frees_steps lists spot =
    free_step spot.slab spot.object spot.number
    ∷ ((if is_unused (taken_back spot.slab spot.object) then shelf_steps lists (taken_back spot.slab spot.object)
    else [])
    ++ still_step (Some Freed) ∷ [])

-- the steps of a malloc of a class, of which this is the first slab that has an object to give
abbrev pub malloc_steps_of : Lists → ℕ → Option OwnSlab → Option ℕ → List Turn
malloc_steps_of lists class (Some slab) index = grant_step slab (lists.granted + 1) ∷ []
malloc_steps_of lists class None (Some index) = room_steps lists (newest lists.stored) ++ begin_step index class
    ∷ grant_step (begun index class) (lists.granted + 1) ∷ []
malloc_steps_of lists class None None = look_step ∷ []

-- where the room for a slab is, if there is some
abbrev pub region_index : Option Region → Option ℕ
region_index None = Some (even_from whole_block.first)
region_index (Some region) = None

abbrev pub block_index : Lists → Option Block → Option ℕ
block_index lists (Some block) = Some (even_from block.first)
block_index lists None = region_index lists.region

abbrev pub room_index : Lists → Option ℕ → Option ℕ
room_index lists (Some index) = Some index
room_index lists None = block_index lists (first_fit lists.blocks)

abbrev pub malloc_steps : Lists → ℕ → List Turn
malloc_steps lists class =
    malloc_steps_of lists class (find (has_free class) lists.slabs) (room_index lists (newest lists.stored))

-- the steps of a free, where this is held at the place
abbrev pub free_steps : Lists → Option Spot → Answer → List Turn
free_steps lists (Some spot) answer = frees_steps lists spot
free_steps lists None answer = still_step (Some answer) ∷ []

-- the steps of a call that looks twice at a place, and answers
abbrev pub look_steps : Answer → List Turn
look_steps answer = still_step None ∷ still_step (Some answer) ∷ []

-- the steps of a whole call
abbrev pub steps_of : Lists → Request → List Turn
steps_of lists (Malloc size) = malloc_steps lists (class_at size)
steps_of lists (Free None) = still_step (Some (whole lists (Free None)).answer) ∷ []
steps_of lists (Free (Some place)) = free_steps lists (spot_at lists place) (whole lists (Free (Some place))).answer
steps_of lists request = look_steps (whole lists request).answer

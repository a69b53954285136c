-- Short runs: two, which show that the definitions can be met, and runs of wrong allocators.
use Rattle.std.specs.Prelude.{ℕ, ◌+◌, ◌-◌, ◌/◌, ◌*◌, true, false, List, [], ◌∷◌, ◌++◌, Option, Some, None}
use Rattle.pool_types.specs.declared.policy.RegionRec.{RegionRec}
use Rattle.pool_types.specs.declared.values.Answer.{Answer}
use Rattle.pool_types.specs.declared.values.Answer.TheVariants.{Got, Null, Freed, NoPool, Exited}
use Rattle.pool_types.specs.declared.values.Grant.{Grant}
use Rattle.pool_types.specs.declared.values.NullCause.TheVariants.{NoFit}
use Rattle.pool_types.specs.declared.values.Place.{Place}
use Rattle.pool_types.specs.declared.values.Region.{Region}
use Rattle.pool_types.specs.declared.values.Request.TheVariants.{Malloc, Realloc, Free, Msize, Identify, Exit}
use Rattle.pool_types.specs.declared.rows.Keeper.TheVariants.{Seat, Orphan}
use Rattle.pool_types.specs.Geometry.{unit_bytes, granule_bytes, slab_granules, slab_bytes, line_bytes}
use Rattle.pool_types.specs.Limits.{plain_region_bytes}
use Rattle.part_model.specs.declared.holders.Holder.{Holder}
use Rattle.part_model.specs.declared.holders.Holder.TheVariants.{Head, Rest, Private, Object, LargeHead, SlabCache}
use Rattle.part_model.specs.declared.holders.Holder.TheVariants.{Cached, Bin, Queue, Hand}
use Rattle.part_model.specs.declared.moves.Part.{Part}
use Rattle.part_model.specs.declared.moves.Range.{Range}
use Rattle.machine.specs.States.{Terms, Slab, nothing_yet}
use Rattle.machine.specs.Ranges.{part_of, parts_of, region_range, slab_range, head_range, objects_range, object_range}
use Rattle.machine.specs.Regions.{granules_range, coming_parts, leaving_parts}
use Rattle.machine.specs.Journal.{BookChange, Enters, Leaves, Asked, Passed, Look, Sight, Nothing_seen, Bins_seen}
use Rattle.machine.specs.Journal.{Raw_called, Tick_drawn, Turn}
use Rattle.machine.specs.Lawful.{new_slab, pass, large_head_range, large_object_range}
use Rattle.machine.specs.Looks.{last_bin}
use Rattle.machine.specs.Answers.{Moment}
use Rattle.machine.specs.Cleaning.{cleanup_ticks}
use Rattle.machine.specs.Events.{Kept, Event, Begins, Makes, Reset_begins, Reset_ends, Ends}

-- a turn of a seat, with these parts and changes of the book
abbrev pub turn_of : ℕ → List Part → List BookChange → Option RegionRec → Sight → Option Answer → Turn
turn_of seat parts book region seen answer = record {
  number = 0;
  seat = seat;
  row = None;
  parts = parts;
  book = book;
  region = region;
  seen = seen;
  answer = answer;
}

-- a turn of a seat that moves; one of seat 0; and one of it that answers
abbrev pub moves_of : ℕ → List Part → List BookChange → Event
moves_of seat parts book = Makes (turn_of seat parts book None Nothing_seen None)

abbrev pub moves : List Part → List BookChange → Event
moves parts book = moves_of 0 parts book

abbrev pub answers : Answer → Event
answers answer = Makes (turn_of 0 [] [] None Nothing_seen (Some answer))

-- a look at all bins that can have room for a slab, where no block is in one
abbrev pub no_blocks : Look
no_blocks = record { first = 1; last = last_bin; lists = [] }

abbrev pub looks : ℕ → Event
looks seat = Makes (turn_of seat [] [] None (Bins_seen no_blocks) None)

-- the callback is asked for so many bytes, and gives a region or fails
abbrev pub asks : ℕ → ℕ → Option Region → Event
asks seat bytes answer = Makes (turn_of seat [] [] None (Raw_called (Asked bytes answer)) None)

-- the region comes that the callback gave before
abbrev pub enters : ℕ → RegionRec → Event
enters seat region = Makes (turn_of seat (coming_parts 0 seat region) [] (Some region) Nothing_seen None)

-- the callback is asked for so many bytes, and the region comes
abbrev pub comes : ℕ → RegionRec → Event
comes bytes region =
    Makes (turn_of 0 (coming_parts 0 0 region) [] (Some region) (Raw_called (Asked bytes (Some region.region))) None)

-- a region as pools ask for them, of one mebibyte
abbrev pub mebibyte : RegionRec
mebibyte = record {
  number = 0;
  first = 0;
  granules = plain_region_bytes / granule_bytes;
  waste = 0;
  region = record { base = 1048576; bytes = plain_region_bytes };
}

-- a place in it
abbrev pub place_at : ℕ → Place
place_at offset = record { pool = 0; region = 0; offset = offset }

-- the place of its first byte, and the slab that begins there
abbrev pub first_place : Place
first_place = place_at 0

abbrev pub first_slab : Slab
first_slab = new_slab first_place 0 0

-- what lies behind its first slab
abbrev pub behind_slab : Range
behind_slab = region_range 0 mebibyte slab_bytes (plain_region_bytes - slab_bytes)

-- a range of bytes goes from one holder to another
abbrev pub goes_from : Range → Holder → Holder → List Part
goes_from range from to = parts_of (range ∷ []) (Some from) (Some to)

-- a slab of a class begins at a place, for a seat, and for seat 0
abbrev pub slab_begins_of : ℕ → Place → ℕ → Event
slab_begins_of seat place class =
    moves_of seat
    (part_of (head_range place class) (Some (Hand seat)) (Some Head)
    ∷ part_of (objects_range place class) (Some (Hand seat)) (Some Rest) ∷ [])
    (Enters (new_slab place class seat) ∷ [])

abbrev pub slab_begins_at : Place → ℕ → Event
slab_begins_at place class = slab_begins_of 0 place class

-- the first grant of seat 0, and the second
abbrev pub grant : ℕ → Grant
grant number = record { seat = 0; number = number }

-- the first slab gives its first object, and the call answers it
abbrev pub first_got : Event
first_got =
    Makes (turn_of 0 (part_of (object_range first_slab 0) (Some Rest) (Some (Object (grant 1)))
    ∷ []) [] None Nothing_seen
    (Some (Got (place_at (slab_bytes - unit_bytes)) 8 (grant 1))))

-- The first malloc of 8 bytes: no bin has a block, the region comes, all but a slab of it goes into a bin, the slab
-- begins, and its object 0 is granted.
abbrev pub first_malloc : List Event
first_malloc =
    Begins 0 (Malloc 8)
    ∷ looks 0
    ∷ comes plain_region_bytes mebibyte
    ∷ moves (goes_from behind_slab (Hand 0) Bin) []
    ∷ slab_begins_at first_place 0
    ∷ first_got
    ∷ []

-- a region that has no granule: one byte lies behind the first address that is a multiple of a granule's bytes
abbrev pub scrap : RegionRec
scrap = record {
  number = 0;
  first = 1;
  granules = 0;
  waste = granule_bytes - 1;
  region = record { base = 1048577; bytes = granule_bytes };
}

-- the answer that all bins were looked at, and no block was there
abbrev pub no_fit_at : ℕ → Answer
no_fit_at first = Null (NoFit (record { first = first; last = last_bin; seen = 0 }))

-- A malloc of 8 bytes where the region has no granule: it comes, no bin has a block, and the answer is null.
abbrev pub malloc_in_vain : List Event
malloc_in_vain =
    Begins 0 (Malloc 8)
    ∷ looks 0
    ∷ comes granule_bytes scrap
    ∷ Makes (turn_of 0 [] [] None (Bins_seen no_blocks) (Some (no_fit_at 1)))
    ∷ []

-- Wrong: a scan passes over a block that another seat's call put before it moved anything else.
abbrev pub block_passed_over : List Event
block_passed_over =
    Begins 0 (Malloc 8)
    ∷ looks 0
    ∷ comes plain_region_bytes mebibyte
    ∷ moves (goes_from behind_slab (Hand 0) Bin) []
    ∷ slab_begins_at first_place 0
    ∷ Begins 1 (Malloc 16)
    ∷ looks 1
    ∷ []

-- Wrong: the pool asks for a mebibyte, and comes to have a region of a granule's bytes.
abbrev pub small_region : List Event
small_region = Begins 0 (Malloc 8) ∷ looks 0 ∷ comes plain_region_bytes scrap ∷ []

-- Wrong: a region comes in a question for the bytes of null.
abbrev pub region_in_a_question : List Event
region_in_a_question = Begins 0 (Msize None) ∷ comes plain_region_bytes mebibyte ∷ []

-- Wrong: the callback is asked in a question for the bytes of null, and fails.
abbrev pub failure_in_a_question : List Event
failure_in_a_question = Begins 0 (Msize None) ∷ asks 0 plain_region_bytes None ∷ []

-- Wrong: a region comes before the bins were looked at.
abbrev pub region_without_a_look : List Event
region_without_a_look = Begins 0 (Malloc 8) ∷ moves [] [] ∷ comes plain_region_bytes mebibyte ∷ []

-- Wrong: a region comes that the callback did not give.
abbrev pub region_not_given : List Event
region_not_given = Begins 0 (Malloc 8) ∷ looks 0 ∷ enters 0 mebibyte ∷ []

-- Wrong: a slab begins beside one of the same class that has objects to give.
abbrev pub second_place : Place
second_place = place_at slab_bytes

abbrev pub slab_beside_another : List Event
slab_beside_another =
    first_malloc
    ++ Begins 0 (Malloc 8)
    ∷ moves (goes_from (slab_range second_place) Bin (Hand 0)) []
    ∷ slab_begins_at second_place 0
    ∷ []

-- Wrong: a slab begins while one of the same class, which another seat left, is an orphan.
abbrev pub slab_beside_an_orphan : List Event
slab_beside_an_orphan =
    first_malloc
    ++ Begins 0 Exit
    ∷ moves [] (pass (Seat 0) Orphan first_slab ∷ [])
    ∷ answers Exited
    ∷ Begins 1 (Malloc 8)
    ∷ moves_of 1 (goes_from (slab_range second_place) Bin (Hand 1)) []
    ∷ slab_begins_of 1 second_place 0
    ∷ []

-- Wrong of a callback that gives what is asked: the callback failed.
abbrev pub failure_made_up : List Event
failure_made_up = Begins 0 (Malloc 8) ∷ looks 0 ∷ asks 0 plain_region_bytes None ∷ []

-- the object that the first malloc got comes back, and its slab ends
abbrev pub first_comes_back : List Event
first_comes_back =
    moves (part_of (object_range first_slab 0) (Some (Object (grant 1))) (Some Private) ∷ []) []
    ∷ moves
    (part_of (head_range first_place 0) (Some Head) (Some (Hand 0))
    ∷ part_of (region_range 0 mebibyte 128 (slab_bytes - 128 - unit_bytes)) (Some Rest) (Some (Hand 0))
    ∷ part_of (object_range first_slab 0) (Some Private) (Some (Hand 0))
    ∷ [])
    (Leaves first_place ∷ [])
    ∷ []

-- Wrong: a reset leaves two blocks of a region that adjoin.
abbrev pub blocks_left_apart : List Event
blocks_left_apart =
    first_malloc ++ Reset_begins ∷ first_comes_back ++ moves (goes_from (slab_range first_place) (Hand 0) Bin) []
    ∷ Reset_ends ∷ []

-- Wrong: a realloc moves blocks before it looked at its object.
abbrev pub realloc_without_a_look : List Event
realloc_without_a_look =
    first_malloc
    ++ Begins 0 (Realloc (Some (place_at (slab_bytes - unit_bytes))) 16)
    ∷ moves (goes_from (slab_range second_place) Bin (Hand 0)) []
    ∷ slab_begins_at second_place 1
    ∷ moves (part_of (object_range (new_slab second_place 1 0) 0) (Some Rest) (Some (Object (grant 2))) ∷ []) []
    ∷ moves (part_of (object_range first_slab 0) (Some (Object (grant 1))) (Some Private) ∷ []) []
    ∷ answers (Got (place_at (2 * slab_bytes - 16)) 16 (grant 2))
    ∷ []

-- Wrong: a malloc of 8 bytes is served by the largest class.
abbrev pub malloc_of_another_class : List Event
malloc_of_another_class =
    Begins 0 (Malloc 8)
    ∷ looks 0
    ∷ comes plain_region_bytes mebibyte
    ∷ moves (goes_from behind_slab (Hand 0) Bin) []
    ∷ slab_begins_at first_place 25
    ∷ []

-- Wrong: a malloc of 8 bytes gets an object of a slab of 16 bytes, which an earlier call began.
abbrev pub object_of_another_class : List Event
object_of_another_class =
    Begins 0 (Malloc 16)
    ∷ looks 0
    ∷ comes plain_region_bytes mebibyte
    ∷ moves (goes_from behind_slab (Hand 0) Bin) []
    ∷ slab_begins_at first_place 1
    ∷ Makes (turn_of 0 (part_of (object_range (new_slab first_place 1 0) 0) (Some Rest) (Some (Object (grant 1)))
    ∷ []) [] None Nothing_seen
    (Some (Got (place_at (slab_bytes - 16)) 16 (grant 1))))
    ∷ Begins 0 (Malloc 8)
    ∷ Makes (turn_of 0 (part_of (object_range (new_slab first_place 1 0) 1) (Some Rest) (Some (Object (grant 2)))
    ∷ []) [] None Nothing_seen
    (Some (Got (place_at (slab_bytes - 32)) 16 (grant 2))))
    ∷ []

-- Wrong: a question for the pool of null takes a block out of its bin and puts it back.
abbrev pub question_that_moves : List Event
question_that_moves =
    first_malloc
    ++ Begins 0 (Identify None)
    ∷ moves (goes_from behind_slab Bin (Hand 0)) []
    ∷ moves (goes_from behind_slab (Hand 0) Bin) []
    ∷ answers NoPool
    ∷ []

-- Wrong: the answer is null while a slab is in the seat's slab cache.
abbrev pub null_beside_a_spare_slab : List Event
null_beside_a_spare_slab =
    first_malloc
    ++ Begins 0 (Free (Some (place_at (slab_bytes - unit_bytes))))
    ∷ first_comes_back
    ++ moves (goes_from (slab_range first_place) (Hand 0) (SlabCache 0)) []
    ∷ answers Freed
    ∷ Begins 0 (Malloc 1040384)
    ∷ Makes (turn_of 0 [] [] None (Bins_seen (record {
      first = 127;
      last = last_bin;
      lists = behind_slab
          ∷ [];
    })) (Some (no_fit_at 127)))
    ∷ []

-- a pool that gives regions back, for so many seats and of such a span
abbrev pub giving_pool : ℕ → ℕ → Terms
giving_pool seats span = record {
  policy = record {
    gets = true;
    frees = true;
    version = 1;
    granularity = 0;
    fixed = false;
    keep = false;
    reserved = 0;
  };
  limits = record { pool = 0; seats = seats; span = span; region = granule_bytes };
}

-- a region as it asks for them: room for a slab, and for two granules more
abbrev pub four_granules : RegionRec
four_granules = record {
  number = 0;
  first = 0;
  granules = 4;
  waste = 0;
  region = record { base = 1048576; bytes = 4 * granule_bytes };
}

-- another of as many bytes, of which no granule has a place any more in a span of seven
abbrev pub late_region : RegionRec
late_region = record {
  number = 1;
  first = 6;
  granules = 0;
  waste = 0;
  region = record { base = 2097152; bytes = 4 * granule_bytes };
}

-- Wrong: a region without a granule leaves, though it was passed to the callback. Two seats ask at once, and the region
-- that comes first has the span's room.
abbrev pub scrap_leaves : List Event
scrap_leaves =
    Begins 0 (Malloc 8)
    ∷ Begins 1 (Malloc 8)
    ∷ looks 0
    ∷ looks 1
    ∷ asks 0 four_granules.region.bytes (Some four_granules.region)
    ∷ asks 1 late_region.region.bytes (Some late_region.region)
    ∷ enters 0 four_granules
    ∷ enters 1 late_region
    ∷ Makes (turn_of 1 (leaving_parts 0 1 late_region) [] None (Raw_called (Passed late_region.region true)) None)
    ∷ []

-- Wrong: an answer leaves a region in bins, all of it, in a pool that gives regions back.
abbrev pub free_region_kept : List Event
free_region_kept =
    Begins 0 (Malloc 8)
    ∷ looks 0
    ∷ comes four_granules.region.bytes four_granules
    ∷ moves (goes_from (slab_range second_place) (Hand 0) Bin) []
    ∷ slab_begins_at first_place 0
    ∷ first_got
    ∷ Begins 0 (Free (Some (place_at (slab_bytes - unit_bytes))))
    ∷ first_comes_back
    ++ moves (goes_from (slab_range second_place) Bin (Hand 0)) []
    ∷ moves (goes_from (granules_range 0 four_granules) (Hand 0) Bin) []
    ∷ answers Freed
    ∷ []

-- Wrong: an answer leaves a block in the queue.
abbrev pub block_left_queued : List Event
block_left_queued =
    Begins 0 (Malloc 8)
    ∷ looks 0
    ∷ comes plain_region_bytes mebibyte
    ∷ moves (goes_from behind_slab (Hand 0) Queue) []
    ∷ slab_begins_at first_place 0
    ∷ first_got
    ∷ []

-- Wrong: an answer leaves two blocks in bins that adjoin.
abbrev pub blocks_that_adjoin : List Event
blocks_that_adjoin =
    Begins 0 (Malloc 8)
    ∷ looks 0
    ∷ comes plain_region_bytes mebibyte
    ∷ moves (goes_from (region_range 0 mebibyte slab_bytes granule_bytes) (Hand 0) Bin) []
    ∷ moves
    (goes_from
    (region_range 0 mebibyte (slab_bytes + granule_bytes) (plain_region_bytes - slab_bytes - granule_bytes))
    (Hand 0) Bin) []
    ∷ slab_begins_at first_place 0
    ∷ first_got
    ∷ []

-- the cache's clock gives this number
abbrev pub draws : ℕ → Event
draws tick = Makes (turn_of 0 [] [] None (Tick_drawn tick) None)

-- the block of two granules at a place goes from these holders to those, a line as its head and the rest as its object
abbrev pub large_parts : Place → Holder → Holder → Holder → Holder → List Part
large_parts place head object head' object' =
    part_of (large_head_range (slab_range place) line_bytes) (Some head) (Some head')
    ∷ part_of (large_object_range (slab_range place) line_bytes) (Some object) (Some object')
    ∷ []

-- the block at a place is granted
abbrev pub block_granted_at : Place → ℕ → List Part
block_granted_at place number = large_parts place (Hand 0) (Hand 0) (LargeHead (grant number)) (Object (grant number))

-- Wrong: a large object is cut out of a block from bins while the cache has a block of as many granules.
abbrev pub block_beside_a_cached_one : List Event
block_beside_a_cached_one =
    Begins 0 (Malloc 8129)
    ∷ draws 1
    ∷ looks 0
    ∷ comes plain_region_bytes mebibyte
    ∷ moves (goes_from behind_slab (Hand 0) Bin) []
    ∷ Makes (turn_of 0 (block_granted_at first_place 1) [] None Nothing_seen
    (Some (Got (place_at line_bytes) (slab_bytes - line_bytes) (grant 1))))
    ∷ Begins 0 (Free (Some (place_at line_bytes)))
    ∷ draws 2
    ∷ moves (large_parts first_place (LargeHead (grant 1)) (Object (grant 1)) (Hand 0) (Hand 0)) []
    ∷ moves (goes_from (slab_range first_place) (Hand 0) (Cached slab_granules)) []
    ∷ answers Freed
    ∷ Begins 0 (Malloc 8129)
    ∷ draws 3
    ∷ moves (goes_from (slab_range second_place) Bin (Hand 0)) []
    ∷ moves (block_granted_at second_place 2) []
    ∷ []

-- Wrong: the cache's clock passes over numbers.
abbrev pub clock_ahead : List Event
clock_ahead = Begins 0 (Malloc 8) ∷ draws cleanup_ticks ∷ []

-- Wrong of an answered call: it came to a number of the clock at which the cache is cleaned, and asked for no blocks
-- to clean.
abbrev pub nothing_cleaned : List Moment
nothing_cleaned = record { state = nothing_yet; turn = turn_of 0 [] [] None (Tick_drawn cleanup_ticks) None } ∷ []

-- Wrong: at its end the pool keeps its region, though its callback takes regions back.
abbrev pub region_kept : List Event
region_kept = first_malloc ++ Ends (record { region = mebibyte; fate = Kept } ∷ []) ∷ []

-- What a whole call does to the lists, and what it answers.
use Rattle.std.specs.Prelude.{ℕ, ◌+◌, ◌-◌, ◌*◌, ◌/◌, ◌%◌, ◌≤◌, Bool, ◌&&◌, ◌==◌, nat_le, nat_lt, if◌then◌else◌, List}
use Rattle.std.specs.Prelude.{[], ◌∷◌, ◌++◌, length, take, drop, find, slice_get, is_some, unwrap_or, Some, None}
use Rattle.std.specs.declared.option.Option.{Option}
use Rattle.pool_types.specs.declared.values.Place.{Place}
use Rattle.pool_types.specs.declared.values.Grant.{Grant}
use Rattle.pool_types.specs.declared.values.Region.{Region}
use Rattle.pool_types.specs.declared.values.Request.{Request}
use Rattle.pool_types.specs.declared.values.Request.TheVariants.{Malloc, Free, Msize, Identify}
use Rattle.pool_types.specs.declared.values.Answer.{Answer}
use Rattle.pool_types.specs.declared.values.Answer.TheVariants.{Got, Null, Freed, False, Size, Pool, NoPool, NotHeld}
use Rattle.pool_types.specs.declared.values.NullCause.TheVariants.{NoFit}
use Rattle.pool_types.specs.declared.values.Found.{Found}
use Rattle.pool_types.specs.declared.values.Found.TheVariants.{NoPlace, NoGrant}
use Rattle.size_classes.specs.Classes.{class_size, class_of}
use Rattle.size_classes.specs.Layout.{object_offset}
use Rattle.plain_lists.specs.Lists.{OwnSlab, Block, Lists, first_region, whole_block, lies_on, begun, has_free}
use Rattle.plain_lists.specs.Lists.{next_object, given, taken_back, is_unused, changed, without}
use Rattle.plain_lists.specs.Backend.{first_fit, even_from, rests, after_cut, after_puts}

-- the lists after a call, and its answer
pub record Outcome : Type 0 where
  pub lists : Lists
  pub answer : Answer

-- the one seat's grant of this number
abbrev pub grant_of : ℕ → Grant
grant_of number = record { seat = 0; number = number }

-- an object of the slab at the index: a granule has 8192 bytes
abbrev pub place_at : ℕ → ℕ → ℕ → Place
place_at index class object = record { pool = 0; region = 0; offset = 8192 * index + object_offset class object }

-- the answer that an object was got
abbrev pub got : ℕ → ℕ → ℕ → ℕ → Answer
got index class object number = Got (place_at index class object) (class_size class) (grant_of number)

-- The answer that no block fits: of 511 bins that were looked at, none had a block. Each block has room for a slab as
-- long as slabs alone are cut out.
abbrev pub no_fit : Answer
no_fit = Null (NoFit (record { first = 1; last = 511; seen = 0 }))

-- the class of a size that has one
abbrev pub class_at : ℕ → ℕ
class_at size = unwrap_or (class_of size) 0

-- a slab of the lists gives its next object
abbrev pub gives : Lists → OwnSlab → Outcome
gives lists slab = record {
  lists = record lists { slabs = changed (given slab (lists.granted + 1)) lists.slabs; granted = lists.granted + 1 };
  answer = got slab.index slab.class (next_object slab) (lists.granted + 1);
}

-- a slab begins at the index, the newest of the lists, and gives its first object
abbrev pub begins : Lists → ℕ → ℕ → Outcome
begins lists class index = gives (record lists { slabs = begun index class ∷ lists.slabs }) (begun index class)

-- room for a slab, and the lists without it
pub record Room : Type 0 where
  pub lists : Lists
  pub index : ℕ

-- the newest slab of the slab cache
abbrev pub newest : List ℕ → Option ℕ
newest stored = slice_get stored (length stored - 1)

-- room that a new region has: its first slab; what is left of it goes into a bin
abbrev pub region_room : Lists → Option Region → Option Room
region_room lists None = Some (record {
  lists = record lists { region = Some first_region; blocks = rests whole_block ++ lists.blocks };
  index = even_from whole_block.first;
})
region_room lists (Some region) = None

-- room that a block has which fits, or else a new region
abbrev pub block_room : Lists → Option Block → Option Room
block_room lists (Some block) = Some (record {
  lists = record lists { blocks = after_cut block lists.blocks };
  index = even_from block.first;
})
block_room lists None = region_room lists lists.region

-- room that the slab cache has, or else the backend
abbrev pub stored_room : Lists → Option ℕ → Option Room
stored_room lists (Some index) = Some (record {
  lists = record lists { stored = take (length lists.stored - 1) lists.stored };
  index = index;
})
stored_room lists None = block_room lists (first_fit lists.blocks)

-- room for a slab: the newest of the slab cache, a block, or a region, of which a fixed pool gets one
abbrev pub room_in : Lists → Option Room
room_in lists = stored_room lists (newest lists.stored)

-- a malloc that no slab of its class serves: a slab begins where there is room for one
abbrev pub begins_in : Lists → ℕ → Option Room → Outcome
begins_in lists class (Some room) = begins room.lists class room.index
begins_in lists class None = record { lists = lists; answer = no_fit }

-- a malloc of a class, of which this is the first slab that has an object to give
abbrev pub malloc_from : Lists → ℕ → Option OwnSlab → Outcome
malloc_from lists class (Some slab) = gives lists slab
malloc_from lists class None = begins_in lists class (room_in lists)

-- a malloc of a class
abbrev pub malloc_of : Lists → ℕ → Outcome
malloc_of lists class = malloc_from lists class (find (has_free class) lists.slabs)

-- an object that is held: its slab, its number in the slab, and the number of its grant
pub record Spot : Type 0 where
  pub slab : OwnSlab
  pub object : ℕ
  pub number : ℕ

-- the object of a class that starts so many bytes into its slab, if one does
unfoldable pub object_of : ℕ → ℕ → Option ℕ
object_of class within =
    if ((16384 - within) % class_size class == 0) && nat_lt within 16384
    then Some ((16384 - within) / class_size class - 1) else None

-- the spot of an object of which this is known: that it was handed out, and whether it is held
abbrev pub spot_held : OwnSlab → ℕ → Option (Option ℕ) → Option Spot
spot_held slab object (Some (Some number)) = Some (record { slab = slab; object = object; number = number })
spot_held slab object (Some None) = None
spot_held slab object None = None

abbrev pub spot_of : OwnSlab → Option ℕ → Option Spot
spot_of slab (Some object) = spot_held slab object (slice_get slab.objects object)
spot_of slab None = None

abbrev pub spot_in : ℕ → Option OwnSlab → Option Spot
spot_in offset (Some slab) = spot_of slab (object_of slab.class (offset - 8192 * slab.index))
spot_in offset None = None

-- the object that is held and starts at the place, if one does
abbrev pub spot_at : Lists → Place → Option Spot
spot_at lists place =
    if (place.pool == 0) && (place.region == 0)
    then spot_in place.offset (find (λ slab. lies_on slab.index 2 (place.offset / 8192)) lists.slabs)
    else None

-- an object can begin at the place: it is a multiple of 8 bytes into the region
abbrev pub is_unit : Lists → Place → Bool
is_unit lists place =
    (place.pool == 0)
    && ((place.region == 0)
    && (is_some lists.region && (nat_lt place.offset 1048576 && (place.offset % 8 == 0))))

-- what is found where no object that is held starts
abbrev pub missing : Lists → Place → Found
missing lists place = if is_unit lists place then NoGrant else NoPlace

-- The slab cache is trimmed: where it has 33 slabs, the 25 oldest go to the backend, the oldest first.
abbrev pub trimmed : Lists → Lists
trimmed lists =
    if nat_le 33 (length lists.stored)
    then record lists { stored = drop 25 lists.stored; blocks = after_puts (take 25 lists.stored) lists.blocks }
    else lists

-- a slab of which no object is held any more leaves the lists for the slab cache
abbrev pub shelved : Lists → ℕ → Lists
shelved lists index = trimmed (record lists { slabs = without index lists.slabs; stored = lists.stored ++ index ∷ [] })

-- the object at the spot came back
abbrev pub frees : Lists → Spot → Lists
frees lists spot =
    if is_unused (taken_back spot.slab spot.object)
    then shelved lists spot.slab.index
    else record lists { slabs = changed (taken_back spot.slab spot.object) lists.slabs }

-- a free, a question for the usable bytes and one for the pool, of a place where this is held
abbrev pub free_of : Lists → Place → Option Spot → Outcome
free_of lists place (Some spot) = record { lists = frees lists spot; answer = Freed }
free_of lists place None = record { lists = lists; answer = NotHeld (missing lists place) }

abbrev pub msize_of : Lists → Place → Option Spot → Answer
msize_of lists place (Some spot) = Size (class_size spot.slab.class)
msize_of lists place None = NotHeld (missing lists place)

abbrev pub identify_of : Option Spot → Answer
identify_of (Some spot) = Pool 0
identify_of None = NoPool

-- A whole call. Of requests of other kinds nothing is said yet: none is served.
abbrev pub whole : Lists → Request → Outcome
whole lists (Malloc size) = malloc_of lists (class_at size)
whole lists (Free None) = record { lists = lists; answer = False }
whole lists (Free (Some place)) = free_of lists place (spot_at lists place)
whole lists (Msize None) = record { lists = lists; answer = Size 0 }
whole lists (Msize (Some place)) = record { lists = lists; answer = msize_of lists place (spot_at lists place) }
whole lists (Identify None) = record { lists = lists; answer = NoPool }
whole lists (Identify (Some place)) = record { lists = lists; answer = identify_of (spot_at lists place) }
whole lists request = record { lists = lists; answer = NoPool }

-- the request is served: a malloc of a size that has a class, or a question of a place
abbrev pub IsServed : Request → Type 0
IsServed (Malloc size) = size ≤ 8128
IsServed (Free place) = Unit {0}
IsServed (Msize place) = Unit {0}
IsServed (Identify place) = Unit {0}
IsServed request = ⊥

-- the lists after several calls, one after another
abbrev pub lists_after : Lists → List Request → Lists
lists_after lists [] = lists
lists_after lists (request ∷ requests) = lists_after (whole lists request).lists requests

-- the answers to several calls
abbrev pub answers_to : Lists → List Request → List Answer
answers_to lists [] = []
answers_to lists (request ∷ requests) = (whole lists request).answer ∷ answers_to (whole lists request).lists requests

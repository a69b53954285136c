-- What a local keeps at all its positions: its pool and its seat, the rooms of its lists, and by the stage of its call
-- what the call is about.
use Rattle.std.specs.Prelude.{◌≡◌, ℕ, ◌<◌, ◌≤◌, ◌+◌, ⊤, Bool, true, false, [], Option, Some, None, length}
use Rattle.pool_types.specs.Geometry.{class_count}
use Rattle.pool_types.specs.Limits.{most_seats, most_span, region_numbers}
use Rattle.pool_types.specs.declared.values.Place.{Place}
use Rattle.pool_types.specs.declared.values.Request.{Request}
use Rattle.pool_words.specs.declared.words.Key.{Key}
use Rattle.heap_slabs.specs.declared.heap.Heap.{Heap}
use Rattle.heap_slabs.specs.Cached.{high_mark}
use Rattle.heap_slabs.specs.Heaps.{most_slabs}
use Rattle.heap_slabs.specs.Rolls.{Rolled}
use Rattle.orphans.specs.declared.adopting.AdoptAt.{AdoptAt}
use Rattle.slab_laws.specs.Heaps.{HeapFits}
use Rattle.step_local.specs.declared.frames.At.{At}
use Rattle.step_local.specs.declared.frames.Local.{Local}
use Rattle.step_local.specs.declared.frames.Object.{Object}
use Rattle.step_local.specs.declared.frames.Served.{Served}
use Rattle.step_local.specs.declared.frames.SmallAt.{SmallAt}
use Rattle.step_local.specs.declared.frames.Stage.{Stage}
use Rattle.step_local.specs.Answers.{replaces}
use Rattle.step_local.specs.Frames.{last_cache_bin, most_released}
use Rattle.step_local.specs.Getting.{served_as}

-- a seat of a pool that can be made
pub record SeatFits (k : Key) (seat : ℕ) : Type 0 where
  pub seats : seat < k.seats
  pub few : k.seats ≤ most_seats
  pub span : k.span ≤ most_span

-- a list of bounded length has the room that it was made with
pub record HasRoom (room : ℕ) (r : Rolled ℕ) : Type 0 where
  pub room' : r.room ≡ room
  pub few : length r.items ≤ room

-- the place that a request names
abbrev pub place_in : Request → Option Place
place_in (Request.Malloc size) = None
place_in (Request.Aligned size alignment) = None
place_in (Request.Realloc place size) = place
place_in (Request.AlignedRealloc place size alignment) = place
place_in (Request.Free place) = place
place_in (Request.Msize place) = place
place_in (Request.Identify place) = place
place_in Request.Exit = None

-- what a request that gets an object is served as
abbrev pub wanted_of : Request → Option Served
wanted_of (Request.Malloc size) = served_as size None
wanted_of (Request.Aligned size alignment) = served_as size (Some alignment)
wanted_of (Request.Realloc place size) = served_as size None
wanted_of (Request.AlignedRealloc place size alignment) = served_as size (Some alignment)
wanted_of (Request.Free place) = None
wanted_of (Request.Msize place) = None
wanted_of (Request.Identify place) = None
wanted_of Request.Exit = None

-- the object that is looked for is at the place that is asked, which is one of this pool
pub record IsAt (k : Key) (place : Place) (request : Request) (number offset : ℕ) : Type 0 where
  pub asked : place_in request ≡ Some place
  pub pool : place.pool ≡ k.pool
  pub number' : number ≡ place.region
  pub offset' : offset ≡ place.offset
  pub below : number < region_numbers

abbrev pub LooksFor : Key → Request → Object → Type 0
LooksFor k request old = (place : Place) × IsAt k place request old.number old.offset

-- a class of the pool, or a block shorter than the span
abbrev pub ServedFits : Key → Served → Type 0
ServedFits k (Served.Small class) = class < class_count
ServedFits k (Served.Large granules alignment) = (1 ≤ granules) × (granules < k.span)

-- what is served is what the request asks; where that replaces an object, the place of that one was looked at
pub record Gets (k : Key) (request : Request) (old : Object) (served : Served) : Type 0 where
  pub wanted : wanted_of request ≡ Some served
  pub fits : ServedFits k served
  pub old' : replaces request ≡ true → LooksFor k request old

-- what a call is about, by how far it has come
abbrev pub CallFits : Key → Request → Object → Served → Stage → Type 0
CallFits k request old served Stage.Idle = ⊤
CallFits k request old served Stage.Looking = LooksFor k request old
CallFits k request old served Stage.Getting = Gets k request old served
CallFits k request old served Stage.Ending = LooksFor k request old
CallFits k request old served Stage.Replacing = Gets k request old served × (replaces request ≡ true)
CallFits k request old served Stage.Undoing = Gets k request old served × (replaces request ≡ true)
CallFits k request old served Stage.Leaving = request ≡ Request.Exit
CallFits k request old served (Stage.Resetting stage) = ⊤

-- how many slabs the slab cache may have, and whether orphans may be put aside
pub record Rooms : Type 0 where
  pub cached : ℕ
  pub aside : Bool

abbrev pub plain_rooms : Rooms
plain_rooms = record { cached = high_mark; aside = false }

-- the slab cache has more slabs than its high mark only until the oldest of them goes
abbrev pub oldest_rooms : Rooms
oldest_rooms = record { cached = high_mark + 1; aside = false }

-- orphans that were taken and not adopted lie in the heap until they are pushed back
abbrev pub aside_rooms : Rooms
aside_rooms = record { cached = high_mark; aside = true }

abbrev pub rooms_small : SmallAt → Rooms
rooms_small (SmallAt.Oldest slab) = oldest_rooms
rooms_small _ = plain_rooms

abbrev pub rooms_adopt : AdoptAt → Rooms
rooms_adopt (AdoptAt.Spare slab) = aside_rooms
rooms_adopt _ = plain_rooms

abbrev pub rooms_at : At → Rooms
rooms_at (At.Small at) = rooms_small at
rooms_at (At.Adopt at) = rooms_adopt at
rooms_at (At.Spare at) = aside_rooms
rooms_at _ = plain_rooms

pub record FramesFit (k : Key) (seat : ℕ) (rooms : Rooms) (known : Key) (own : ℕ) (h : Heap) (gone : Rolled ℕ)
    (request : Request) (old : Object) (served : Served) (stage : Stage) (fetched bin : ℕ) : Type 0 where
  pub key : known ≡ k
  pub seat' : own ≡ seat
  pub slabs : HeapFits k h.slabs
  pub cached : HasRoom (high_mark + 1) h.cached
  pub few : length h.cached.items ≤ rooms.cached
  pub spares : HasRoom (most_slabs k.span) h.spares
  pub none : rooms.aside ≡ false → h.spares.items ≡ []
  pub released : HasRoom most_released gone
  pub call : CallFits k request old served stage
  pub class : fetched < class_count
  pub bin' : bin ≤ last_cache_bin

abbrev pub Frames : Key → ℕ → Rooms → Local → Type 0
Frames k seat rooms l = FramesFit k seat rooms l.key l.seat l.heap l.released l.call.request l.call.old l.call.served
    l.call.stage l.fetch.class l.sweep.granules

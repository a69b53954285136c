-- What one word of a line is read as, in its place.
use Rattle.std.specs.Prelude.{◌≡◌, ◌≢◌, ℕ, ◌+◌, ◌-◌, ◌<◌, ◌≤◌, ◌^◌, ◌⊎◌, Bool, true, false, ◌&&◌, nat_le, List, [], ◌∷◌, ◌++◌, length, slice_index, codes, slice_get, Some, None, Result, Ok, Err}
use Rattle.std.specs.List.{list_all}
use Rattle.std.specs.declared.option.Option.{Option}
use Rattle.std.specs.Fmt.{decimal}
use Rattle.pool_types.specs.declared.values.Place.{Place}
use Rattle.pool_types.specs.Limits.{most_pools, region_numbers}
use Rattle.pool_types.specs.Texts.{place_text}
use Rattle.trace_reader.specs.declared.refusal.Refusal.{Refusal}
use Rattle.trace_reader.specs.declared.refusal.Refusal.TheVariants.{Spelling, Number, UnknownPool, UnknownThread, UnboundName, BoundBefore, PoolOrder, TooMany, NotServed}
use Rattle.trace_reader.specs.declared.acts.What.{What}
use Rattle.trace_reader.specs.declared.acts.What.TheVariants as what
use Rattle.trace_reader.specs.Contexts.{Context}
use Rattle.trace_reader.specs.Names.{IsThreadName, IsBoundName}

-- a byte from space to `~`
abbrev pub is_printable : ℕ → Bool
is_printable byte = nat_le 32 byte && nat_le byte 126

-- a word that is not empty, of such bytes
abbrev pub is_text : List ℕ → Bool
is_text [] = false
is_text (byte ∷ bytes) = is_printable byte && list_all is_printable bytes

-- what is wrong with a word in a number's place
abbrev pub IsMisread : List ℕ → Refusal → Type 0
IsMisread word refusal = ((is_text word ≡ true) × (refusal ≡ Number)) ⊎ ((is_text word ≡ false) × (refusal ≡ Spelling))

-- a number in this range
abbrev pub ReadsNumber : ℕ → ℕ → List ℕ → Result ℕ Refusal → Type 0
ReadsNumber low high word (Ok n) = (word ≡ decimal n) × (low ≤ n) × (n ≤ high)
ReadsNumber low high word (Err refusal) = ((n : ℕ) → low ≤ n → n ≤ high → word ≢ decimal n) × IsMisread word refusal

-- a size that is served
abbrev pub ReadsSize : Bool → List ℕ → Result ℕ Refusal → Type 0
ReadsSize all word (Ok size) = ReadsNumber 0 (2 ^ 64 - 1) word (Ok size) × ((all ≡ true) ⊎ (size ≤ 8128))
ReadsSize all word (Err refusal) = ReadsNumber 0 (2 ^ 64 - 1) word (Err refusal)
    ⊎ ((size : ℕ) × ReadsNumber 0 (2 ^ 64 - 1) word (Ok size) × (all ≡ false) × (8128 < size) × (refusal ≡ NotServed))

-- the thread's first position among the names
pub record IsFirstAt (names : List (List ℕ)) (name : List ℕ) (at : ℕ) : Type 0 where
  pub there : slice_get names at ≡ Some name
  pub first : (k : ℕ) → k < at → slice_get names k ≢ Some name

-- the name's position among the names, or that it is none of them
abbrev pub IsPositionOf : List (List ℕ) → List ℕ → Option ℕ → Type 0
IsPositionOf names name (Some at) = IsFirstAt names name at
IsPositionOf names name None = (k : ℕ) → slice_get names k ≢ Some name

-- a thread
abbrev pub ReadsThread : Context → List ℕ → Result ℕ Refusal → Type 0
ReadsThread before word (Ok thread) = IsThreadName word × IsFirstAt before.names word thread
ReadsThread before word (Err refusal) =
    (IsThreadName word × ((k : ℕ) → slice_get before.names k ≢ Some word) × (refusal ≡ UnknownThread))
    ⊎ ((IsThreadName word → ⊥) × (refusal ≡ Spelling))

-- the word of a pool
abbrev pub pool_text : ℕ → List ℕ
pool_text pool = 80 ∷ (48 + pool) ∷ []

-- the pool whose word this is, or that it is none's
abbrev pub IsPoolOf : List ℕ → Option ℕ → Type 0
IsPoolOf word (Some pool) = (word ≡ pool_text pool) × (pool < most_pools)
IsPoolOf word None = (pool : ℕ) → pool < most_pools → word ≢ pool_text pool

-- a pool that was made
abbrev pub ReadsPool : Context → List ℕ → Result ℕ Refusal → Type 0
ReadsPool before word (Ok pool) = (word ≡ pool_text pool) × (pool < most_pools) × (pool < length before.pools)
ReadsPool before word (Err refusal) =
    ((pool : ℕ) × (word ≡ pool_text pool) × (pool < most_pools) × (length before.pools ≤ pool)
    × (refusal ≡ UnknownPool))
    ⊎ (((pool : ℕ) → pool < most_pools → word ≢ pool_text pool) × (refusal ≡ Spelling))

-- the next pool
abbrev pub ReadsNextPool : Context → List ℕ → Result ℕ Refusal → Type 0
ReadsNextPool before word (Ok pool) = (length before.pools < most_pools) × (pool ≡ length before.pools)
    × (word ≡ pool_text pool)
ReadsNextPool before word (Err refusal) = ((most_pools ≤ length before.pools) × (refusal ≡ TooMany))
    ⊎ ((length before.pools < most_pools) × (pool : ℕ) × (word ≡ pool_text pool) × (pool < most_pools)
    × (pool ≢ length before.pools) × (refusal ≡ PoolOrder))
    ⊎ ((length before.pools < most_pools) × ((pool : ℕ) → pool < most_pools → word ≢ pool_text pool)
    × (refusal ≡ Spelling))

-- a name that is bound here, by its number, which is the next one
abbrev pub ReadsNewName : Context → List ℕ → Result ℕ Refusal → Type 0
ReadsNewName before word (Ok number) = (number ≡ before.count) × IsBoundName word × (before.bound word ≡ None)
ReadsNewName before word (Err refusal) = (IsBoundName word × (before.bound word ≢ None) × (refusal ≡ BoundBefore))
    ⊎ ((IsBoundName word → ⊥) × (refusal ≡ Spelling))

-- a place that can be written
abbrev pub IsWritable : Place → Type 0
IsWritable place = (place.pool < most_pools) × (place.region < region_numbers) × (place.offset < 2 ^ 64)

-- the numbers of a region and an offset, as a place has them
abbrev pub pair_text : ℕ → ℕ → List ℕ
pair_text region offset = decimal region ++ 43 ∷ decimal offset

-- the two numbers that the text has, or that it has none
abbrev pub IsPairOf : List ℕ → Option (ℕ × ℕ) → Type 0
IsPairOf text (Some pair) = (text ≡ pair_text pair.0 pair.1) × (pair.0 < region_numbers) × (pair.1 < 2 ^ 64)
IsPairOf text None = (region offset : ℕ) → region < region_numbers → offset < 2 ^ 64 → text ≢ pair_text region offset

-- the place that the word spells, or that it spells none
abbrev pub IsPlaceOf : List ℕ → Option Place → Type 0
IsPlaceOf word (Some place) = (word ≡ place_text place) × IsWritable place
IsPlaceOf word None = (place : Place) → IsWritable place → word ≢ place_text place

-- null, the number of a name that was bound, or a place
abbrev pub ReadsWhat : Context → List ℕ → Result What Refusal → Type 0
ReadsWhat before word (Ok what.Null) = word ≡ codes "null"
ReadsWhat before word (Ok (what.Name number)) = IsBoundName word × (before.bound word ≡ Some number)
ReadsWhat before word (Ok (what.Place place)) = (word ≡ place_text place) × IsWritable place
ReadsWhat before word (Err refusal) = (IsBoundName word × (before.bound word ≡ None) × (refusal ≡ UnboundName))
    ⊎ ((word ≢ codes "null") × (IsBoundName word → ⊥) × ((place : Place) → IsWritable place → word ≢ place_text place)
    × (refusal ≡ Spelling))

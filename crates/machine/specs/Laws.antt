-- Laws of the partition machine's lawful moves and of its runs.
use Rattle.std.specs.Prelude.{◌≡◌, ◌<◌, ℕ, ◌==◌, Bool, true, false, List, All, Contains, Option, Some}
use Rattle.pool_types.specs.declared.values.Place.{Place}
use Rattle.pool_types.specs.declared.policy.RegionRec.{RegionRec}
use Rattle.pool_types.specs.Geometry.{granule_bytes}
use Rattle.pool_types.specs.Limits.{plain_span, plain_region_bytes}
use Rattle.part_model.specs.declared.holders.Holder.{Holder}
use Rattle.part_model.specs.declared.holders.Holder.TheVariants.{Rest, Private, Object, Bin, Hand}
use Rattle.part_model.specs.declared.moves.Range.{Range}
use Rattle.part_model.specs.declared.moves.Part.{Part}
use Rattle.part_model.specs.Holding.{lies_in, CanMoveAll}
use Rattle.part_model.specs.Totals.{has_holder, region_bytes, totals_of}
use Rattle.part_model.specs.Laws.{KeepsOneHolder, AreApartFrom, IsPlaced, Follows, holders_of, sum_of, live_bytes}
use Rattle.machine.specs.States.{Terms, State, fixed_pool}
use Rattle.machine.specs.Ranges.{region_range}
use Rattle.machine.specs.Journal.{Turn, Look, is_object, after_turn}
use Rattle.machine.specs.Lawful.{next_grant}
use Rattle.machine.specs.Looks.{first_bin, last_bin, blocks_seen, Fits}
use Rattle.machine.specs.Answers.{Call}
use Rattle.pool_types.specs.Script.{Script, Gets, Puts}
use Rattle.machine.specs.Callback.{raw_calls, HasAnswered, no_script}
use Rattle.machine.specs.Cleaning.{IsCleaned}
use Rattle.machine.specs.Events.{Event, Progress, no_progress, after_events}
use Rattle.machine.specs.Turns.{MayStep, AreLists}
use Rattle.machine.specs.Runs.{IsRun}
use Rattle.machine.specs.Examples.{first_malloc, malloc_in_vain, block_passed_over, small_region}
use Rattle.machine.specs.Examples.{region_in_a_question, failure_in_a_question, region_without_a_look}
use Rattle.machine.specs.Examples.{region_not_given, slab_beside_another, slab_beside_an_orphan, failure_made_up}
use Rattle.machine.specs.Examples.{blocks_left_apart, realloc_without_a_look, malloc_of_another_class}
use Rattle.machine.specs.Examples.{object_of_another_class, question_that_moves, null_beside_a_spare_slab}
use Rattle.machine.specs.Examples.{giving_pool, scrap_leaves, blocks_that_adjoin, block_left_queued}
use Rattle.machine.specs.Examples.{free_region_kept, block_beside_a_cached_one, clock_ahead, nothing_cleaned}
use Rattle.machine.specs.Examples.{region_kept}
use Rattle.size_classes.specs.declared.Served.{Served}

-- a step that may be made keeps exactly one holder a byte
abbrev pub StepsKeepOneHolder : Type 0
StepsKeepOneHolder = (terms : Terms) (progress : Progress) (turn : Turn) → MayStep terms progress turn →
    (byte : Place) → KeepsOneHolder progress.state.held (after_turn progress.state turn).held turn.parts byte

-- the moves of two steps can be made in both orders, and leave the same holders
pub record StepsCommute (state : State) (one other : Turn) : Type 0 where
  pub first : CanMoveAll one.seat (after_turn state other).held one.parts
  pub second : CanMoveAll other.seat (after_turn state one).held other.parts
  pub same : (byte : Place) →
      (after_turn (after_turn state one) other).held byte ≡ (after_turn (after_turn state other) one).held byte

-- two steps that may be made, over ranges that are apart, commute
abbrev pub ApartStepsCommute : Type 0
ApartStepsCommute = (terms : Terms) (progress : Progress) (one other : Turn) → MayStep terms progress one →
    MayStep terms progress other →
    AreApartFrom one.parts other.parts → StepsCommute progress.state one other

-- the totals follow a step that may be made
abbrev pub TotalsFollowSteps : Type 0
TotalsFollowSteps = (terms : Terms) (progress : Progress) (turn : Turn) → MayStep terms progress turn →
    All IsPlaced turn.parts →
    Follows (totals_of progress.state.held) (totals_of (after_turn progress.state turn).held) turn.parts

-- what a seat may grant: rest, a private object, or what it has in hand
abbrev pub is_grantable : ℕ → Option Holder → Bool
is_grantable seat (Some Rest) = true
is_grantable seat (Some Private) = true
is_grantable seat (Some (Hand hand)) = hand == seat
is_grantable seat holder = false

-- the part makes an object of bytes that were no object's, under the seat's next number
pub record MakesFresh (state : State) (seat : ℕ) (part : Part) : Type 0 where
  pub fresh : (byte : Place) → lies_in byte part.range ≡ true → is_grantable seat (state.held byte) ≡ true
  pub grant : part.to ≡ Some (Object (next_grant state seat))

-- an object that is granted was no object's
abbrev pub GrantsAreFresh : Type 0
GrantsAreFresh = (terms : Terms) (progress : Progress) (turn : Turn) → MayStep terms progress turn →
    (part : Part) → Contains turn.parts part → is_object part.to ≡ true → MakesFresh progress.state turn.seat part

-- all bytes of a region of the pool
abbrev pub all_bytes : Terms → RegionRec → Range
all_bytes terms region = region_range terms.limits.pool region 0 region.region.bytes

-- each byte of each live region has exactly one holder, and no other byte has one
pub record HaveOneHolder (terms : Terms) (state : State) : Type 0 where
  pub one : (region : RegionRec) → Contains state.regions region → (byte : Place) →
      lies_in byte (all_bytes terms region) ≡ true → holders_of state.held byte ≡ 1
  pub none : (byte : Place) → ((region : RegionRec) → Contains state.regions region →
      lies_in byte (all_bytes terms region) ≡ true → ⊥) → holders_of state.held byte ≡ 0

-- in a run each byte of each region has exactly one holder, at any time
abbrev pub RunsHaveOneHolder : Type 0
RunsHaveOneHolder = (terms : Terms) (events : List Event) → IsRun terms events →
    HaveOneHolder terms (after_events no_progress events).state

-- The totals of a state sum to the bytes of its live regions: each has as many bytes with a holder as its record says,
-- and no other region has one.
pub record AreRegionsBytes (terms : Terms) (state : State) : Type 0 where
  pub sum : sum_of (totals_of state.held) ≡ live_bytes state.held
  pub each : (region : RegionRec) → Contains state.regions region →
      region_bytes has_holder state.held terms.limits.pool region.number ≡ region.region.bytes
  pub others : (pool number : ℕ) →
      ((region : RegionRec) → Contains state.regions region → (pool ≡ terms.limits.pool) × (number ≡ region.number) →
      ⊥) →
      region_bytes has_holder state.held pool number ≡ 0

-- in a run the sum of the totals is the bytes of the regions, at any time
abbrev pub RunsSumToTheirRegions : Type 0
RunsSumToTheirRegions = (terms : Terms) (events : List Event) → IsRun terms events →
    AreRegionsBytes terms (after_events no_progress events).state

-- two runs: an object is granted in the one, and refused in the other
abbrev pub RunsExist : Type 0
RunsExist = IsRun (fixed_pool 1 plain_region_bytes) first_malloc × IsRun (fixed_pool 1 granule_bytes) malloc_in_vain

-- a run of a plain fixed pool for one seat
abbrev pub IsPlainRun : List Event → Type 0
IsPlainRun events = IsRun (fixed_pool 1 plain_region_bytes) events

-- The runs of wrong allocators are none. That a failure is made up the callback tells.
pub record WrongRunsAreRefused : Type 0 where
  -- a scan passes over a block that was put before the last move of its call
  pub passed_over : IsRun (fixed_pool 2 plain_region_bytes) block_passed_over → ⊥
  -- a region comes that is too small, in a call that wants none, before a look, or that was not given; and the callback
  -- fails in a call that may not ask it
  pub too_small : IsPlainRun small_region → ⊥
  pub unwanted : IsPlainRun region_in_a_question → ⊥
  pub failing : IsPlainRun failure_in_a_question → ⊥
  pub unlooked : IsPlainRun region_without_a_look → ⊥
  pub not_given : IsPlainRun region_not_given → ⊥
  -- a slab begins beside one that has objects to give, or beside an orphan
  pub beside : IsPlainRun slab_beside_another → ⊥
  pub beside_orphan : IsRun (fixed_pool 2 plain_region_bytes) slab_beside_an_orphan → ⊥
  -- a failure of the callback is made up
  pub made_up : (after : Script) → HasAnswered Gets Puts no_script (raw_calls failure_made_up) after → ⊥
  -- a reset leaves blocks that adjoin
  pub left_apart : IsPlainRun blocks_left_apart → ⊥
  -- a realloc moves before it looks
  pub unseen : IsPlainRun realloc_without_a_look → ⊥
  -- an object is of another class than the one that serves its request
  pub other_slab : IsPlainRun malloc_of_another_class → ⊥
  pub other_class : IsPlainRun object_of_another_class → ⊥
  -- a question moves a block
  pub moving : IsPlainRun question_that_moves → ⊥
  -- null is answered while a slab is in the slab cache
  pub spare : IsPlainRun null_beside_a_spare_slab → ⊥
  -- a region without a granule leaves
  pub scrap : IsRun (giving_pool 2 7) scrap_leaves → ⊥
  -- an answer leaves blocks that adjoin, a block in the queue, or a region that is to be given back
  pub adjoining : IsPlainRun blocks_that_adjoin → ⊥
  pub queued : IsPlainRun block_left_queued → ⊥
  pub free_region : IsRun (giving_pool 1 plain_span) free_region_kept → ⊥
  -- a large object is cut out of bins beside a cached block of its size
  pub beside_cached : IsPlainRun block_beside_a_cached_one → ⊥
  -- the cache's clock passes over numbers, or is not heeded
  pub ahead : IsPlainRun clock_ahead → ⊥
  pub uncleaned : IsCleaned nothing_cleaned → ⊥
  -- the pool's end keeps a region that its callback takes back
  pub kept : IsPlainRun region_kept → ⊥

-- a byte is in bins
abbrev pub IsInBins : State → Range → Type 0
IsInBins state range = (byte : Place) → lies_in byte range ≡ true → state.held byte ≡ Some Bin

-- As long as no two calls of the pool were open at once, a look at all bins that can have a fitting block misses none:
-- where no block in their lists fits, no bytes in a row that are all in bins do.
abbrev pub LooksMissNone : Type 0
LooksMissNone = (terms : Terms) (events : List Event) → IsRun terms events →
    (after_events no_progress events).overlapped ≡ false →
    (call : Call) → Contains (after_events no_progress events).calls call →
    (served : Served) (look : Look) → AreLists terms (after_events no_progress events) call.seat look.lists →
    look.first ≡ first_bin served → look.last ≡ last_bin →
    ((block : Range) → Contains (blocks_seen look) block →
    Fits terms.limits (after_events no_progress events).state served block → ⊥) →
    (range : Range) → 0 < range.bytes → IsInBins (after_events no_progress events).state range →
    Fits terms.limits (after_events no_progress events).state served range → ⊥

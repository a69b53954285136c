-- What is asked of a turn of a seat, beside where its bytes are.
use Rattle.std.specs.Prelude.{◌≡◌, ◌≢◌, ◌⊎◌, ℕ, ◌+◌, ◌%◌, ◌^◌, ◌<◌, ◌≤◌, ◌||◌, not, Bool, true, false}
use Rattle.std.specs.Prelude.{if◌then◌else◌, List, [], ◌∷◌}
use Rattle.std.specs.Prelude.{map, filter, Contains, Option, Some, None}
use Rattle.std.specs.List.{list_any}
use Rattle.std.specs.Bool.{OnTrue}
use Rattle.pool_types.specs.declared.policy.RegionRec.{RegionRec}
use Rattle.pool_types.specs.declared.values.Answer.{Answer}
use Rattle.pool_types.specs.declared.values.Place.{Place}
use Rattle.pool_types.specs.declared.values.Region.{Region}
use Rattle.pool_types.specs.declared.rows.Keeper.TheVariants.{Orphan, Hand as InHand}
use Rattle.part_model.specs.declared.holders.Holder.TheVariants.{Bin, Queue, Hand, Cached}
use Rattle.part_model.specs.declared.holders.HolderKind.TheVariants.{Bin as OfBin, Queue as OfQueue}
use Rattle.part_model.specs.declared.holders.HolderKind.TheVariants.{LargeHead as OfLargeHead}
use Rattle.part_model.specs.declared.moves.Range.{Range}
use Rattle.part_model.specs.declared.moves.Part.{Part}
use Rattle.part_model.specs.Holding.{same_region, lies_in, AreApart, AreWhole, CanMoveAll}
use Rattle.part_model.specs.Totals.{is_at, has_holder}
use Rattle.regions.specs.Asking.{asked_indices}
use Rattle.regions.specs.Gaps.{IsGap}
use Rattle.size_classes.specs.declared.Served.{Served}
use Rattle.size_classes.specs.declared.Served.TheVariants.{Small, Large, Bad}
use Rattle.machine.specs.States.{Terms, State, Slab}
use Rattle.machine.specs.Ranges.{Each, AreDisjoint, IsGranules, lies_in_parts}
use Rattle.machine.specs.Regions.{granules_range, leaving_parts, HasNumber, MayObtain, bytes_for}
use Rattle.machine.specs.Journal.{BookChange, Enters, Leaves, Passes, RawCall, Asked, Passed, Sight, Nothing_seen}
use Rattle.machine.specs.Journal.{Bins_seen, Raw_called, Tick_drawn, Items_seen}
use Rattle.machine.specs.Journal.{Turn, is_object, after_turn}
use Rattle.machine.specs.Lawful.{IsKeptOf, pass, IsLawful, IsCut, large_head_range, large_object_range}
use Rattle.machine.specs.Looks.{served_for, NoneToGive, NoneFree, NoneWaits}
use Rattle.machine.specs.Suits.{wants_object, place_to_free}
use Rattle.machine.specs.Answers.{Moment, Call, AtStep, IsAccepted, LooksInVain, granted, same_object, moved_parts}
use Rattle.machine.specs.Answers.{granules_for, IsLegal}
use Rattle.machine.specs.Events.{Resetting, Progress, call_of, with_step, is_taken, untouched_after}
use Rattle.machine.specs.Cleaning.{IsCleaned}

-- this call is open, and of another seat
abbrev pub IsOtherCall : Progress → ℕ → Call → Type 0
IsOtherCall progress seat call = Contains progress.calls call × (call.seat ≢ seat)

-- the parts of a call's last turn that moved any
abbrev pub last_parts : List Moment → List Part
last_parts [] = []
last_parts (moment ∷ moments) = newer (last_parts moments)
  where
    newer : List Part → List Part
    newer [] = moment.turn.parts
    newer (part ∷ parts) = part ∷ parts

-- a part puts bytes into bins
abbrev pub is_put : Part → Bool
is_put part = is_at OfBin part.to

-- another call that is open put the byte into bins when it last moved anything, and perhaps has not yet linked its
-- block
abbrev pub IsJustPut : Progress → ℕ → Place → Type 0
IsJustPut progress seat byte = (call : Call) × IsOtherCall progress seat call
    × (lies_in_parts byte (filter is_put (last_parts call.moments)) ≡ true)

-- another call that is open won this block out of bins when it last moved anything, and perhaps has not yet taken it
-- out of its list
abbrev pub IsWon : Progress → ℕ → Range → Type 0
IsWon progress seat block =
    (call : Call) × IsOtherCall progress seat call
    × Contains (map (λ part. part.range) (filter is_taken (last_parts call.moments))) block

-- a byte of the one range lies right before the other range, or right behind it
abbrev pub Adjoins : Range → Range → Type 0
Adjoins one other =
    (same_region one.place other.place ≡ true)
    × ((one.place.offset + one.bytes ≡ other.place.offset) ⊎ (other.place.offset + other.bytes ≡ one.place.offset))

-- no two of the blocks adjoin
abbrev pub NoneAdjoin : List Range → Type 0
NoneAdjoin blocks = (one other : Range) → Contains blocks one → Contains blocks other → Adjoins one other → ⊥

-- The lists of a look are those of the bins. Their blocks are whole granules and have no byte in common. Each is a
-- block in bins, as it was put or as it was left, or another seat that is in a call has won it and not yet taken it
-- out of its list. A byte in bins lies in one of them, unless another call that is open has put its block and perhaps
-- not yet linked it. As long as no two calls were open at once, no two blocks adjoin.
pub record AreLists (terms : Terms) (progress : Progress) (seat : ℕ) (lists : List Range) : Type 0 where
  pub whole : Each (λ block. (granules : ℕ) × IsGranules terms.limits progress.state block granules) lists
  pub disjoint : AreDisjoint lists
  pub there : (block : Range) → Contains lists block → (byte : Place) → lies_in byte block ≡ true →
      (progress.state.held byte ≡ Some Bin)
      ⊎ ((call : Call) × IsOtherCall progress seat call × (progress.state.held byte ≡ Some (Hand call.seat)))
  pub all : (byte : Place) → progress.state.held byte ≡ Some Bin →
      ((block : Range) × Contains lists block × (lies_in byte block ≡ true)) ⊎ IsJustPut progress seat byte
  pub joined : progress.overlapped ≡ false → NoneAdjoin lists
  pub blocks : (block : Range) → Contains lists block →
      Contains progress.state.blocks block ⊎ IsWon progress seat block

-- no block of so many granules is in the cache
abbrev pub NoneCached : State → ℕ → Type 0
NoneCached state granules = (byte : Place) → state.held byte ≢ Some (Cached granules)

-- A call scans the bins only where it has to. For a slab no slab of the class that its seat keeps has an object to
-- give, and its slab cache is empty; and where no other seat was in a call since it began, no freed object and no
-- orphan of the class waits for it. For a block the cache was empty of blocks of so many granules, now or at a step
-- before.
abbrev pub HasToScan : State → Call → Served → Type 0
HasToScan state call (Small class) = NoneFree state call.seat class
    × (call.alone ≡ true → NoneWaits state call.seat class)
HasToScan state call (Large granules alignment) =
    NoneCached state granules ⊎ AtStep (λ earlier. NoneCached earlier granules) call.moments
HasToScan state call Bad = ⊥

-- The pool may ask the raw callback for so many bytes, for a new object that is served so: it may obtain a region, has
-- a number for it, and room for it in the span.
pub record IsAsked (terms : Terms) (state : State) (served : Served) (bytes : ℕ) : Type 0 where
  pub may : MayObtain terms state
  pub number : ℕ
  pub number_is : HasNumber state number
  pub start : ℕ
  pub gap : IsGap terms.limits.span state.regions start (asked_indices (bytes_for terms (granules_for served)))
  pub exact : bytes ≡ bytes_for terms (granules_for served)

-- the call found the queue empty, or drained it
abbrev pub HasDrained : Call → Type 0
HasDrained call =
    AtStep (λ state. (byte : Place) → state.held byte ≢ Some Queue) call.moments
    ⊎ (list_any (λ part. is_at OfQueue part.from) (moved_parts call.moments) ≡ true)

-- The call asks the callback for so many bytes: it wants an object, has none yet and isn't refused one; its last turns
-- looked at all bins in vain; and the queue was found empty or was drained.
pub record IsObtaining (terms : Terms) (state : State) (call : Call) (bytes : ℕ) : Type 0 where
  pub wants : wants_object call.request ≡ true
  pub accepted : IsAccepted terms call
  pub none_yet : granted (moved_parts call.moments) ≡ []
  pub earlier : List Moment
  pub served : Served
  pub seen : ℕ
  pub vain : LooksInVain terms.limits call earlier served seen
  pub drained : HasDrained call
  pub asked : IsAsked terms state served bytes

-- What is due between a call of the callback and the move that follows from it: the callback gave this region, which
-- has not come yet, or was passed it, and it has not left yet.
pub data Due : Type 0 where
  Nothing_due : Due
  To_come : Region → Due
  To_leave : Region → Due

-- what is due after a turn found this
abbrev pub due_seen : Due → Sight → Due
due_seen due Nothing_seen = due
due_seen due (Bins_seen look) = due
due_seen due (Raw_called (Asked bytes (Some region))) = To_come region
due_seen due (Raw_called (Asked bytes None)) = due
due_seen due (Raw_called (Passed region taken)) = To_leave region
due_seen due (Tick_drawn tick) = due
due_seen due (Items_seen granules items) = due

-- a part takes bytes out of the pool
abbrev pub is_leaving : Part → Bool
is_leaving part = not (has_holder part.to)

-- what is due after these parts moved and perhaps a region came
abbrev pub due_moved : Due → List Part → Option RegionRec → Due
due_moved due parts (Some region) = Nothing_due
due_moved due parts None = if list_any is_leaving parts then Nothing_due else due

-- what is due after several turns
abbrev pub due_after : Due → List Moment → Due
due_after due [] = due
due_after due (moment ∷ moments) =
    due_after (due_moved (due_seen due moment.turn.seen) moment.turn.parts moment.turn.region) moments

-- what is due in a call
abbrev pub due_in : Call → Due
due_in call = due_after Nothing_due call.moments

-- what the callback answered: a region that it gave has at least the bytes asked
abbrev pub IsEnough : ℕ → Option Region → Type 0
IsEnough bytes (Some region) = bytes ≤ region.bytes
IsEnough bytes None = Unit {0}

-- a region with a granule is live
pub record IsLive (state : State) (region : Region) : Type 0 where
  pub one : RegionRec
  pub live : Contains state.regions one
  pub same : one.region ≡ region
  pub some : 0 < one.granules

-- The callback may be called so: it is asked where the call obtains a region, and passed a live region that has a
-- granule. What it answered is said where the callback is (`Callback`).
abbrev pub IsRawCall : Terms → State → Call → RawCall → Type 0
IsRawCall terms state call (Asked bytes answer) = IsObtaining terms state call bytes × IsEnough bytes answer
IsRawCall terms state call (Passed region taken) = IsLive state region

-- What a turn found is so. Nothing is due where the callback is called. The clock's numbers come one after another.
-- Where no other seat was in a call, the cache has no block where it said that it has none.
abbrev pub IsSight : Terms → Progress → Call → Sight → Type 0
IsSight terms progress call Nothing_seen = Unit {0}
IsSight terms progress call (Bins_seen look) =
    AreLists terms progress call.seat look.lists
    × ((served : Served) × (served_for call.request ≡ served) × HasToScan progress.state call served)
IsSight terms progress call (Raw_called raw) = IsRawCall terms progress.state call raw × (due_in call ≡ Nothing_due)
IsSight terms progress call (Tick_drawn tick) = tick ≡ (progress.clock + 1) % 2 ^ 64
IsSight terms progress call (Items_seen granules items) = call.alone ≡ true → items ≡ 0 →
    NoneCached progress.state granules

-- a region comes as the callback gave it
abbrev pub ComesAsGiven : Due → Option RegionRec → Type 0
ComesAsGiven due None = Unit {0}
ComesAsGiven due (Some region) = due ≡ To_come region.region

-- a region that leaves has a granule, and was passed to the callback
pub record LeavesAsPassed (terms : Terms) (state : State) (seat : ℕ) (due : Due) (parts : List Part) : Type 0 where
  pub region : RegionRec
  pub live : Contains state.regions region
  pub all : parts ≡ leaving_parts terms.limits.pool seat region
  pub some : 0 < region.granules
  pub passed : due ≡ To_leave region.region

-- at one of the turns no slab of the class was an orphan, or the turn took all of them
abbrev pub TookOrphans : ℕ → ℕ → List Moment → Type 0
TookOrphans seat class [] = ⊥
TookOrphans seat class (moment ∷ moments) =
    ((slab : Slab) → IsKeptOf moment.state class Orphan slab →
    Contains moment.turn.book (pass Orphan (InHand seat) slab)) ⊎ TookOrphans seat class moments

-- A slab of the class may begin: the call is served by the class and has no object yet, no slab of the class that the
-- seat keeps has an object to give, and the orphans of the class were taken; where no other seat was in a call,
-- nothing of the class waits to be taken back.
pub record MayBeginSlab (state : State) (call : Call) (class : ℕ) : Type 0 where
  pub served : served_for call.request ≡ Small class
  pub none_yet : granted (moved_parts call.moments) ≡ []
  pub own : NoneToGive state call.seat class
  pub open own use *
  pub orphans : TookOrphans call.seat class call.moments
  pub waits : call.alone ≡ true → NoneWaits state call.seat class

-- each slab that begins may
abbrev pub BeginSlabs : State → Call → List BookChange → Type 0
BeginSlabs state call [] = Unit {0}
BeginSlabs state call (Enters slab ∷ changes) = MayBeginSlab state call slab.class × BeginSlabs state call changes
BeginSlabs state call (Leaves place ∷ changes) = BeginSlabs state call changes
BeginSlabs state call (Passes change ∷ changes) = BeginSlabs state call changes

-- a part makes the head of a large object
abbrev pub makes_large : Part → Bool
makes_large part = is_at OfLargeHead part.to

-- the call took a block of so many granules out of the cache
abbrev pub CameFromCache : Call → ℕ → Type 0
CameFromCache call granules = (part : Part) × Contains (moved_parts call.moments) part
    × (part.from ≡ Some (Cached granules))

-- A block is cut as its call's request is served. It came from the cache, or at a turn of the call the cache had none
-- of so many granules.
pub record IsCutFor (terms : Terms) (state : State) (call : Call) (parts : List Part) : Type 0 where
  pub block : Range
  pub granules : ℕ
  pub alignment : ℕ
  pub head : ℕ
  pub served : served_for call.request ≡ Large granules alignment
  pub cut : IsCut terms.limits state block alignment head
  pub head_is : map (λ part. part.range) parts ≡ large_head_range block head ∷ large_object_range block head ∷ []
  pub exact : cut.granules ≡ granules
  pub cached : CameFromCache call granules ⊎ AtStep (λ earlier. NoneCached earlier granules) call.moments

-- No block waits in the queue and no two blocks in bins adjoin. Where the pool gives regions back, none is one block
-- in bins but those that a reset left so.
pub record IsCalm (terms : Terms) (state : State) (untouched : List ℕ) : Type 0 where
  pub queue : (byte : Place) → state.held byte ≢ Some Queue
  pub joined : NoneAdjoin state.blocks
  pub given : (terms.policy.fixed || terms.policy.keep) ≡ false → (region : RegionRec) →
      Contains state.regions region → 0 < region.granules →
      Contains state.blocks (granules_range terms.limits.pool region) → Contains untouched region.number

-- What is asked of an answer: that it is legal, that nothing of the callback is due, that the cache was cleaned where
-- the clock said so, and, as long as no two calls were open at once, that it leaves the pool calm.
pub record IsAnswered (terms : Terms) (progress : Progress) (call : Call) (turn : Turn) (answer : Answer) :
    Type 0 where
  pub legal : IsLegal terms call (after_turn progress.state turn) answer
  pub due : due_in call ≡ Nothing_due
  pub cleaned : IsCleaned call.moments
  pub calm : progress.overlapped ≡ false →
      IsCalm terms (after_turn progress.state turn) (untouched_after progress.untouched turn.parts)

-- the answer, if there is one, is as it has to be; the call has this turn
abbrev pub IsAnsweredSo : Terms → Progress → Call → Turn → Option Answer → Type 0
IsAnsweredSo terms progress call turn None = Unit {0}
IsAnsweredSo terms progress call turn (Some answer) = IsAnswered terms progress call turn answer

-- no bytes leave the pool
abbrev pub NoneLeaves : List Part → Type 0
NoneLeaves parts = list_any is_leaving parts ≡ false

-- a part out of an object is out of the one at the place that the request frees, or out of one that the call granted
abbrev pub MayEnd : Call → Part → Type 0
MayEnd call part =
    OnTrue (is_object part.from)
    ((place_to_free call.request ≡ Some part.range.place)
    ⊎ (list_any (λ earlier. same_object earlier.to part.from) (moved_parts call.moments) ≡ true))

-- What a turn of a call may move, be the call answered or not: the call grants an object only where its request wants
-- one, and ends none but the one that its request frees and those that it granted. A fixed pool, and one that keeps
-- its memory, lets no region go in a call.
pub record IsMoveOf (terms : Terms) (call : Call) (parts : List Part) : Type 0 where
  pub grants : OnTrue (not (wants_object call.request)) (granted parts ≡ [])
  pub ends : Each (MayEnd call) parts
  pub keeps : OnTrue (terms.policy.fixed || terms.policy.keep) (NoneLeaves parts)

-- what is asked of a turn of a call, beside its move
pub record IsTurnOf (terms : Terms) (progress : Progress) (turn : Turn) (call : Call) : Type 0 where
  -- what it found is so
  pub sight : IsSight terms progress call turn.seen
  -- it may move this
  pub moves : IsMoveOf terms call turn.parts
  -- a large object is cut as it is served
  pub large : OnTrue (list_any makes_large turn.parts) (IsCutFor terms progress.state call turn.parts)
  -- a slab begins where one is needed
  pub slabs : BeginSlabs progress.state call turn.book
  -- a region comes as the callback gave it, and one that leaves was passed to it
  pub comes : ComesAsGiven (due_seen (due_in call) turn.seen) turn.region
  pub leaves : OnTrue (list_any is_leaving turn.parts)
      (LeavesAsPassed terms progress.state turn.seat (due_seen (due_in call) turn.seen) turn.parts)
  -- its answer, if it has one, is as it has to be
  pub answered : IsAnsweredSo terms progress (with_step progress.state turn call) turn turn.answer

-- What is asked of a turn outside of calls: it is one of a reset, which keeps the regions, grants nothing and answers
-- nothing.
pub record IsTurnOfReset (terms : Terms) (progress : Progress) (turn : Turn) : Type 0 where
  pub phase : progress.phase ≡ Resetting
  pub seated : turn.seat < terms.limits.seats
  pub leaves : NoneLeaves turn.parts
  pub comes : turn.region ≡ None
  pub grants : granted turn.parts ≡ []
  pub seen : turn.seen ≡ Nothing_seen
  pub answer : turn.answer ≡ None

-- what is asked of a turn, in the call that its seat has open, if it has one
abbrev pub IsTurnIn : Terms → Progress → Turn → Option Call → Type 0
IsTurnIn terms progress turn (Some call) = IsTurnOf terms progress turn call
IsTurnIn terms progress turn None = IsTurnOfReset terms progress turn

-- the turn may be made: its parts are whole and apart, its bytes are where they are said to be, and its move is lawful
pub record MayStep (terms : Terms) (progress : Progress) (turn : Turn) : Type 0 where
  pub whole : AreWhole turn.parts
  pub apart : AreApart turn.parts
  pub there : CanMoveAll turn.seat progress.state.held turn.parts
  pub lawful : IsLawful terms progress.state turn.seat turn.parts turn.book turn.region
  pub fits : IsTurnIn terms progress turn (call_of progress turn.seat)

-- Which answers of a call are legal, by cases on what was asked and what is answered.
use Rattle.std.specs.Prelude.{◌≡◌, ◌≢◌, ◌⊎◌, ℕ, ◌+◌, ◌-◌, ◌*◌, ◌%◌, ◌^◌, ◌<◌, ◌≤◌, ◌&&◌, ◌||◌, ◌==◌, not, Bool}
use Rattle.std.specs.Prelude.{true, false, if◌then◌else◌, List, [], ◌∷◌, ◌++◌, length, filter, Contains, Option}
use Rattle.std.specs.Prelude.{Some, None}
use Rattle.std.specs.List.{list_any, flat_map}
use Rattle.std.specs.Int.{is_power_of_two}
use Rattle.pool_types.specs.declared.values.Place.{Place}
use Rattle.pool_types.specs.declared.values.Grant.{Grant}
use Rattle.pool_types.specs.declared.values.Request.{Request}
use Rattle.pool_types.specs.declared.values.Request.TheVariants.{Malloc, Aligned, Realloc, AlignedRealloc, Free}
use Rattle.pool_types.specs.declared.values.Request.TheVariants.{Msize, Identify, Exit}
use Rattle.pool_types.specs.declared.values.Answer.{Answer}
use Rattle.pool_types.specs.declared.values.Answer.TheVariants.{Got, Null, Freed, False, Size, Pool, NoPool}
use Rattle.pool_types.specs.declared.values.Answer.TheVariants.{NotHeld, Exited}
use Rattle.pool_types.specs.declared.values.NullCause.{NullCause}
use Rattle.pool_types.specs.declared.values.NullCause.TheVariants.{BadRequest, FreedByRealloc, NumbersSpent}
use Rattle.pool_types.specs.declared.values.NullCause.TheVariants.{TooLarge, RawFailed, SpanFull, RegionsFull}
use Rattle.pool_types.specs.declared.values.NullCause.TheVariants.{NoFit}
use Rattle.pool_types.specs.declared.values.Found.{Found}
use Rattle.pool_types.specs.declared.values.Found.TheVariants.{NoPlace, NoGrant, Other}
use Rattle.pool_types.specs.declared.policy.Limits.{Limits}
use Rattle.pool_types.specs.declared.policy.RegionRec.{RegionRec}
use Rattle.pool_types.specs.declared.rows.Keeper.TheVariants.{Seat, Hand as InHand}
use Rattle.pool_types.specs.Geometry.{unit_bytes, granule_bytes, slab_granules}
use Rattle.pool_types.specs.Limits.{region_numbers}
use Rattle.part_model.specs.declared.holders.Holder.{Holder}
use Rattle.part_model.specs.declared.holders.Holder.TheVariants.{Object, SlabCache, Cached, Queue, Hand}
use Rattle.part_model.specs.declared.moves.Part.{Part}
use Rattle.part_model.specs.Holding.{same_region, lies_in}
use Rattle.regions.specs.Asking.{asked_indices}
use Rattle.regions.specs.Gaps.{IsLongestGap}
use Rattle.regions.specs.Numbers.{IsNextNumber, is_full}
use Rattle.size_classes.specs.Classes.{class_size}
use Rattle.size_classes.specs.declared.Served.{Served}
use Rattle.size_classes.specs.declared.Served.TheVariants.{Small, Large, Bad}
use Rattle.machine.specs.States.{Terms, State, Slab}
use Rattle.machine.specs.Ranges.{Each, IsIn, slab_range}
use Rattle.machine.specs.Regions.{MayObtain, bytes_for}
use Rattle.machine.specs.Journal.{Turn, BookChange, Raw_called, Asked, is_object}
use Rattle.machine.specs.Lawful.{IsKept, is_of_slab}
use Rattle.machine.specs.Suits.{Suits, size_of}
use Rattle.machine.specs.Looks.{served_for, last_bin, first_bin, look_of, AreInVain}

-- a turn of a call, and the state in which it was made
pub record Moment : Type 0 where
  pub state : State
  pub turn : Turn

-- A call: its seat, what it asked, the state when it began, whether no other seat was in a call at any time since, and
-- its turns so far.
pub record Call : Type 0 where
  pub seat : ℕ
  pub request : Request
  pub before : State
  pub alone : Bool
  pub moments : List Moment

-- the parts that a call has moved, in order
abbrev pub moved_parts : List Moment → List Part
moved_parts moments = flat_map (λ moment. moment.turn.parts) moments

-- the changes of the book that a call has made, in order
abbrev pub book_changes : List Moment → List BookChange
book_changes moments = flat_map (λ moment. moment.turn.book) moments

-- both are one object's
abbrev pub same_object : Option Holder → Option Holder → Bool
same_object (Some (Object one)) (Some (Object other)) = (one.seat == other.seat) && (one.number == other.number)
same_object one other = false

-- the parts to objects
abbrev pub granted : List Part → List Part
granted parts = filter (λ part. is_object part.to) parts

-- the parts to objects that no later part ended
abbrev pub lasting : List Part → List Part
lasting [] = []
lasting (part ∷ parts) =
    if is_object part.to && not (list_any (λ later. same_object later.from part.to) parts) then part
    ∷ lasting parts else lasting parts

-- the parts from objects that none of these, nor an earlier part, made
abbrev pub ended_but : List Part → List Part → List Part
ended_but made [] = []
ended_but made (part ∷ parts) =
    if is_object part.from && not (list_any (λ earlier. same_object earlier.to part.from) made) then part
    ∷ ended_but (part ∷ made) parts
    else ended_but (part ∷ made) parts

-- the parts from objects that were held before
abbrev pub ended : List Part → List Part
ended parts = ended_but [] parts

-- the call moved nothing to an object, and nothing out of one
abbrev pub MovesNoObject : Call → Type 0
MovesNoObject call = (granted (moved_parts call.moments) ≡ []) × (ended (moved_parts call.moments) ≡ [])

-- the call moved nothing at all, and changed no slab
pub record MovesNothing (call : Call) : Type 0 where
  pub none : moved_parts call.moments ≡ []
  pub book : book_changes call.moments ≡ []

-- the call granted one object that it has not ended again: this one
pub record GrantsOne (call : Call) (place : Place) (usable : ℕ) (grant : Grant) : Type 0 where
  pub from : Option Holder
  pub one : lasting (moved_parts call.moments) ≡ record {
    range = record { place = place; bytes = usable };
    from =
        from;
    to = Some (Object grant);
  } ∷ []
  pub of_seat : grant.seat ≡ call.seat

-- the call ended one object that was held before: this one
pub record EndsOne (call : Call) (place : Place) (usable : ℕ) (grant : Grant) : Type 0 where
  pub to : Option Holder
  pub one : ended (moved_parts call.moments) ≡ record {
    range = record { place = place; bytes = usable };
    from =
        Some (Object grant);
    to = to;
  } ∷ []

-- the fact holds of the state at one of the steps
abbrev pub AtStep : (State → Type 0) → List Moment → Type 0
AtStep fact [] = ⊥
AtStep fact (moment ∷ moments) = fact moment.state ⊎ AtStep fact moments

-- the one fact holds at a step, and the other at a later one
abbrev pub AtSteps : (State → Type 0) → (State → Type 0) → List Moment → Type 0
AtSteps fact later [] = ⊥
AtSteps fact later (moment ∷ moments) = (fact moment.state × AtStep later moments) ⊎ AtSteps fact later moments

-- one of the steps found that the raw callback failed
abbrev pub Failed : List Moment → Type 0
Failed [] = ⊥
Failed (moment ∷ moments) = ((bytes : ℕ) × (moment.turn.seen ≡ Raw_called (Asked bytes None))) ⊎ Failed moments

-- the place is a unit of a live region's granules: objects can begin there
pub record IsUnit (limits : Limits) (state : State) (place : Place) : Type 0 where
  pub region : RegionRec
  pub live : Contains state.regions region
  pub there : IsIn limits place region
  pub above : region.waste ≤ place.offset
  pub below : place.offset < region.waste + region.granules * granule_bytes
  pub unit : (region.region.base + place.offset) % unit_bytes ≡ 0

-- the object of the grant begins at the place
pub record BeginsAt (state : State) (place : Place) (grant : Grant) : Type 0 where
  pub held : state.held place ≡ Some (Object grant)
  pub first : (byte : Place) → same_region byte place ≡ true → byte.offset < place.offset →
      state.held byte ≢ Some (Object grant)

-- the object of the grant is at the place, with so many usable bytes
pub record IsObject (state : State) (place : Place) (usable : ℕ) (grant : Grant) : Type 0 where
  pub begins : BeginsAt state place grant
  pub held : (byte : Place) → lies_in byte (record { place = place; bytes = usable }) ≡ true →
      state.held byte ≡ Some (Object grant)
  pub whole : (byte : Place) → state.held byte ≡ Some (Object grant) →
      lies_in byte (record { place = place; bytes = usable }) ≡ true

-- what is found in place of an object, in a call on this place
abbrev pub IsFound : Limits → Call → Place → Found → Type 0
IsFound limits call place NoPlace =
    (place.pool ≢ limits.pool) ⊎ ((region_numbers ≤ place.region)
    ⊎ AtStep (λ state. IsUnit limits state place → ⊥) call.moments)
IsFound limits call place NoGrant =
    AtStep (λ state. IsUnit limits state place × ((grant : Grant) → BeginsAt state place grant → ⊥)) call.moments
IsFound limits call place (Other grant) =
    AtSteps (λ state. (first : Grant) × BeginsAt state place first
    × (first ≢ grant)) (λ state. BeginsAt state place grant) call.moments

-- The request is bad: an alignment that is no power of two, or no bytes at an alignment. A realloc to no bytes frees
-- instead.
abbrev pub is_bad : Request → Bool
is_bad (Aligned size alignment) = size == 0 || not (is_power_of_two alignment)
is_bad (AlignedRealloc None size alignment) = size == 0 || not (is_power_of_two alignment)
is_bad (AlignedRealloc (Some place) size alignment) = not (is_power_of_two alignment)
is_bad request = false

-- nothing that is known at the begin refuses a new object
pub record IsAccepted (terms : Terms) (call : Call) : Type 0 where
  pub sound : is_bad call.request ≡ false
  pub numbers : call.before.last call.seat ≢ 2 ^ 55 - 1
  pub fits : (granules alignment : ℕ) → served_for call.request ≡ Large granules alignment →
      granules < terms.limits.span

-- the granules that the backend is asked for
abbrev pub granules_for : Served → ℕ
granules_for (Small class) = slab_granules
granules_for (Large granules alignment) = granules
granules_for Bad = 0

-- The call's last steps moved nothing, and looked at all bins that can have a fitting block, and none fitted. `served`
-- is what the request is served as, and `seen` is how many blocks there were.
pub record LooksInVain (limits : Limits) (call : Call) (earlier : List Moment) (served : Served) (seen : ℕ) :
    Type 0 where
  pub later : List Moment
  pub steps : call.moments ≡ earlier ++ later
  pub still : moved_parts later ≡ []
  pub is : served_for call.request ≡ served
  pub vain : AreInVain limits served (first_bin served)
      (flat_map (λ moment. look_of moment.state moment.turn.seen) later) seen

-- At a step at which a region may be obtained the longest gap had `greatest` indices, too few for the `asked` ones.
pub record IsSpanFull (terms : Terms) (served : Served) (asked greatest : ℕ) (moments : List Moment) : Type 0 where
  pub longest : AtStep (λ state. MayObtain terms state
      × ((start : ℕ) × IsLongestGap terms.limits.span state.regions start greatest)) moments
  pub wanted : asked ≡ asked_indices (bytes_for terms (granules_for served))
  pub short : greatest < asked

-- At a step at which a region may be obtained `out` regions were live and `next` was the next number, and one of the
-- two was at its limit.
pub record IsRegionsFull (terms : Terms) (out next : ℕ) (moments : List Moment) : Type 0 where
  pub there : AtStep (λ state. MayObtain terms state × (length state.regions ≡ out)
      × IsNextNumber state.regions state.next next) moments
  pub limit : is_full out next ≡ true

-- What the backend found before the last scan, whose steps are the later ones. Where it found two causes, each may be
-- answered.
abbrev pub IsBackendCause : Terms → Served → List Moment → List Moment → ℕ → NullCause → Type 0
IsBackendCause terms served earlier later seen RawFailed = Failed earlier
IsBackendCause terms served earlier later seen (SpanFull asked greatest) =
    IsSpanFull terms served asked greatest earlier
IsBackendCause terms served earlier later seen (RegionsFull out next) = IsRegionsFull terms out next earlier
IsBackendCause terms served earlier later seen (NoFit looks) =
    (terms.policy.fixed ≡ true) × Each (λ moment. 0 < moment.state.next) later
    × (looks.first ≡ first_bin served) × (looks.last ≡ last_bin) × (looks.seen ≡ seen)
IsBackendCause terms served earlier later seen cause = ⊥

-- no block waits in the queue or lies in the cache
pub record NoneIsKept (state : State) : Type 0 where
  pub queue : (byte : Place) → state.held byte ≢ Some Queue
  pub cache : (byte : Place) (granules : ℕ) → state.held byte ≢ Some (Cached granules)

-- An object of the slab is out: held, in a hand, or given back by another seat and not yet taken. So a byte of the
-- slab is neither of its head, nor of its rest, nor private.
pub record IsUsed (state : State) (slab : Slab) : Type 0 where
  pub byte : Place
  pub inside : lies_in byte (slab_range slab.place) ≡ true
  pub out : is_of_slab (state.held byte) ≡ false

-- the seat has given up what it can: no slab is in its slab cache, and each slab that it keeps is used
pub record NoneIsSpare (state : State) (seat : ℕ) : Type 0 where
  pub stored : (byte : Place) → state.held byte ≢ Some (SlabCache seat)
  pub used : (slab : Slab) → IsKept state (Seat seat) slab → IsUsed state slab

-- The backend gave nothing, for this cause. Before, the seat had given up what it could; where no other seat was in a
-- call, the queue was drained and the cache emptied.
pub record IsRefusedByBackend (terms : Terms) (call : Call) (after : State) (cause : NullCause) : Type 0 where
  pub accepted : IsAccepted terms call
  pub earlier : List Moment
  pub served : Served
  pub seen : ℕ
  pub vain : LooksInVain terms.limits call earlier served seen
  pub found : IsBackendCause terms served earlier vain.later seen cause
  pub spare : NoneIsSpare after call.seat
  pub drained : call.alone ≡ true → NoneIsKept after

-- Why there is no new object, in the order of the causes: the seat's numbers are spent, the block is as large as the
-- span, or the backend gave nothing. The request isn't bad.
abbrev pub IsNullCause : Terms → Call → State → NullCause → Type 0
IsNullCause terms call after BadRequest = ⊥
IsNullCause terms call after FreedByRealloc = ⊥
IsNullCause terms call after NumbersSpent = (call.before.last call.seat ≡ 2 ^ 55 - 1) × MovesNothing call
IsNullCause terms call after (TooLarge granules) =
    (call.before.last call.seat ≢ 2 ^ 55 - 1)
    × ((alignment : ℕ) × (served_for call.request ≡ Large granules alignment)) × (terms.limits.span ≤ granules)
    × MovesNothing call
IsNullCause terms call after cause = IsRefusedByBackend terms call after cause

-- a small object has the size of the class that serves its request
abbrev pub IsOfClass : Call → ℕ → Type 0
IsOfClass call usable = (class : ℕ) → served_for call.request ≡ Small class → usable ≡ class_size class

-- a new object, granted in this call, that suits
pub record IsNew (terms : Terms) (call : Call) (place : Place) (usable : ℕ) (grant : Grant) : Type 0 where
  pub accepted : IsAccepted terms call
  pub granted : GrantsOne call place usable grant
  pub of_class : IsOfClass call usable
  pub suits : AtStep (λ state. Suits terms.limits state call.request place usable) call.moments

-- the answer to a request for a new object alone
abbrev pub IsMallocAnswer : Terms → Call → State → Answer → Type 0
IsMallocAnswer terms call after (Got place usable grant) = IsNew terms call place usable grant
    × (ended (moved_parts call.moments) ≡ [])
IsMallocAnswer terms call after (Null BadRequest) = (is_bad call.request ≡ true) × MovesNothing call
IsMallocAnswer terms call after (Null cause) = (is_bad call.request ≡ false) × IsNullCause terms call after cause
    × MovesNoObject call
IsMallocAnswer terms call after answer = ⊥

-- the alignment that a realloc asks for: a plain one asks for none
abbrev pub alignment_asked : Request → ℕ
alignment_asked (AlignedRealloc place size alignment) = alignment
alignment_asked request = 1

-- the address of the place is a multiple of the alignment
pub record IsAligned (limits : Limits) (state : State) (place : Place) (alignment : ℕ) : Type 0 where
  pub region : RegionRec
  pub live : Contains state.regions region
  pub there : IsIn limits place region
  pub multiple : (region.region.base + place.offset) % alignment ≡ 0

-- a realloc found its object, and it can stay where it is
pub record CanStay (limits : Limits) (call : Call) (place : Place) (usable : ℕ) (grant : Grant) : Type 0 where
  pub some : 0 < size_of call.request
  pub enough : size_of call.request ≤ usable
  pub found : AtStep (λ state. IsObject state place usable grant
      × IsAligned limits state place (alignment_asked call.request)) call.moments

-- a realloc found its object, and a new one is wanted: the old one is too small, or its address isn't aligned
pub record MustMove (limits : Limits) (call : Call) (place : Place) (usable : ℕ) (grant : Grant) : Type 0 where
  pub some : 0 < size_of call.request
  pub found : AtStep
      (λ state. IsObject state place usable grant
      × ((usable < size_of call.request) ⊎ (IsAligned limits state place (alignment_asked call.request) → ⊥)))
      call.moments

-- the old object stays: the call moved nothing, and changed no slab
pub record IsStaying (limits : Limits) (call : Call) (old place : Place) (usable : ℕ) (grant : Grant) : Type 0 where
  pub same : place ≡ old
  pub stays : CanStay limits call place usable grant
  pub still : MovesNothing call

-- The call found the object before it moved anything. Each of its turns is taken for a look at it, whatever that turn
-- was for.
pub record IsSeenFirst (call : Call) (place : Place) (usable : ℕ) (grant : Grant) : Type 0 where
  pub earlier : List Moment
  pub later : List Moment
  pub turns : call.moments ≡ earlier ++ later
  pub still : moved_parts earlier ≡ []
  pub found : AtStep (λ state. IsObject state place usable grant) earlier

-- A new object in place of the old one. The call found the old one first, and ended it when it had the new one: the
-- steps that ended a held object come after those that granted one.
pub record IsMoved (terms : Terms) (call : Call) (old place : Place) (usable : ℕ) (grant : Grant) : Type 0 where
  pub new_object : IsNew terms call place usable grant
  pub old_usable : ℕ
  pub old_grant : Grant
  pub wanted : MustMove terms.limits call old old_usable old_grant
  pub seen : IsSeenFirst call old old_usable old_grant
  pub freed : EndsOne call old old_usable old_grant
  pub earlier : List Moment
  pub later : List Moment
  pub order : call.moments ≡ earlier ++ later
  pub new_first : ended (moved_parts earlier) ≡ []
  pub old_last : granted (moved_parts later) ≡ []

-- at the answer no object that the call granted is held under that grant
abbrev pub NoneIsLeft : Call → State → Type 0
NoneIsLeft call after = (part : Part) → Contains (granted (moved_parts call.moments)) part → (byte : Place) →
    after.held byte ≢ part.to

-- the answer to a realloc of an object
abbrev pub IsReallocAnswer : Terms → Call → State → Place → Answer → Type 0
IsReallocAnswer terms call after old (Got place usable grant) =
    (is_bad call.request ≡ false)
    × (IsStaying terms.limits call old place usable grant ⊎ IsMoved terms call old place usable grant)
IsReallocAnswer terms call after old (Null BadRequest) = (is_bad call.request ≡ true) × MovesNothing call
IsReallocAnswer terms call after old (Null FreedByRealloc) =
    (is_bad call.request ≡ false) × (size_of call.request ≡ 0) × (granted (moved_parts call.moments) ≡ [])
    × ((usable : ℕ) × (grant : Grant) × EndsOne call old usable grant)
IsReallocAnswer terms call after old (Null cause) =
    (is_bad call.request ≡ false) × ((usable : ℕ) × (grant : Grant) × MustMove terms.limits call old usable grant)
    × IsNullCause terms call after cause × MovesNoObject call
IsReallocAnswer terms call after old (NotHeld found) =
    (is_bad call.request ≡ false) × IsFound terms.limits call old found × (ended (moved_parts call.moments) ≡ [])
    × NoneIsLeft call after
    × (granted (moved_parts call.moments) ≡ [] → MovesNothing call)
IsReallocAnswer terms call after old answer = ⊥

-- the answer to a free
abbrev pub IsFreeAnswer : Limits → Call → Option Place → Answer → Type 0
IsFreeAnswer limits call None False = MovesNothing call
IsFreeAnswer limits call (Some place) Freed =
    (granted (moved_parts call.moments) ≡ []) × ((usable : ℕ) × (grant : Grant) × EndsOne call place usable grant)
IsFreeAnswer limits call (Some place) (NotHeld found) = IsFound limits call place found × MovesNothing call
IsFreeAnswer limits call place answer = ⊥

-- the answer to a question for the usable bytes
abbrev pub IsMsizeAnswer : Limits → Call → Option Place → Answer → Type 0
IsMsizeAnswer limits call None (Size usable) = (usable ≡ 0) × MovesNothing call
IsMsizeAnswer limits call (Some place) (Size usable) =
    ((grant : Grant)
    × AtSteps (λ state. IsObject state place usable grant) (λ state. IsObject state place usable grant)
    call.moments)
    × MovesNothing call
IsMsizeAnswer limits call (Some place) (NotHeld found) = IsFound limits call place found × MovesNothing call
IsMsizeAnswer limits call place answer = ⊥

-- the answer to a question for the pool of an object
abbrev pub IsIdentifyAnswer : Limits → Call → Option Place → Answer → Type 0
IsIdentifyAnswer limits call (Some place) (Pool pool) =
    (pool ≡ limits.pool)
    × ((grant : Grant)
    × AtSteps (λ state. BeginsAt state place grant) (λ state. BeginsAt state place grant) call.moments)
    × MovesNothing call
IsIdentifyAnswer limits call None NoPool = MovesNothing call
IsIdentifyAnswer limits call (Some place) NoPool = ((found : Found) × IsFound limits call place found)
    × MovesNothing call
IsIdentifyAnswer limits call place answer = ⊥

-- The answer to a seat's leaving: it keeps no slab and has none in its slab cache. So nobody can mail it a slab any
-- more.
abbrev pub IsExitAnswer : Call → State → Answer → Type 0
IsExitAnswer call after Exited =
    ((slab : Slab) → IsKept after (Seat call.seat) slab → ⊥)
    × ((byte : Place) → after.held byte ≢ Some (SlabCache call.seat)) × MovesNoObject call
IsExitAnswer call after answer = ⊥

-- the answer to what was asked
abbrev pub IsAnswerTo : Terms → Call → State → Request → Answer → Type 0
IsAnswerTo terms call after (Malloc size) answer = IsMallocAnswer terms call after answer
IsAnswerTo terms call after (Aligned size alignment) answer = IsMallocAnswer terms call after answer
IsAnswerTo terms call after (Realloc None size) answer = IsMallocAnswer terms call after answer
IsAnswerTo terms call after (Realloc (Some place) size) answer = IsReallocAnswer terms call after place answer
IsAnswerTo terms call after (AlignedRealloc None size alignment) answer = IsMallocAnswer terms call after answer
IsAnswerTo terms call after (AlignedRealloc (Some place) size alignment) answer =
    IsReallocAnswer terms call after place answer
IsAnswerTo terms call after (Free place) answer = IsFreeAnswer terms.limits call place answer
IsAnswerTo terms call after (Msize place) answer = IsMsizeAnswer terms.limits call place answer
IsAnswerTo terms call after (Identify place) answer = IsIdentifyAnswer terms.limits call place answer
IsAnswerTo terms call after Exit answer = IsExitAnswer call after answer

-- The answer is legal for a call with these steps, in the state after them (it meets the call's specification): it is
-- one to what was asked, and the seat has nothing in hand any more, neither bytes nor a slab that it was about to adopt.
pub record IsLegal (terms : Terms) (call : Call) (after : State) (answer : Answer) : Type 0 where
  pub answers : IsAnswerTo terms call after call.request answer
  pub no_hand : (byte : Place) → after.held byte ≢ Some (Hand call.seat)
  pub no_slab : (slab : Slab) → IsKept after (InHand call.seat) slab → ⊥

-- Which locals may come to grant an object before their call ends, by position, and what they keep until then.
use Rattle.std.specs.Prelude.{◌≡◌, ℕ, ◌<◌, ◌≤◌, ⊤, Bool, true, false, Option, Some, None}
use Rattle.pool_types.specs.declared.values.Grant.{Grant}
use Rattle.pool_types.specs.declared.values.Request.{Request}
use Rattle.large_cache.specs.declared.sweep.Cleanup.{Cleanup}
use Rattle.public_list.specs.declared.looking.LookAt.{LookAt}
use Rattle.reset_steps.specs.declared.evict.EvictAt.{EvictAt}
use Rattle.reset_steps.specs.declared.strip.StripAt.{StripAt}
use Rattle.word_codes.specs.declared.marks.Mark.{Mark}
use Rattle.word_codes.specs.Marks.{mark_of}
use Rattle.step_local.specs.declared.frames.At.{At}
use Rattle.step_local.specs.declared.frames.LargeAt.{LargeAt}
use Rattle.step_local.specs.declared.frames.Local.{Local}
use Rattle.step_local.specs.declared.frames.OfficeFor.{OfficeFor}
use Rattle.step_local.specs.declared.frames.PutFor.{PutFor}
use Rattle.step_local.specs.declared.frames.ResetAt.{ResetAt}
use Rattle.step_local.specs.declared.frames.SmallAt.{SmallAt}
use Rattle.step_local.specs.declared.frames.Stage.{Stage}
use Rattle.step_local.specs.Answers.{ended_object, replaces}
use Rattle.step_local.specs.Getting.{last_grant}

-- the word of a mark that names a grant
abbrev pub IsGrantWord : ℕ → Type 0
IsGrantWord w = (grant : Grant) × (mark_of w ≡ Mark.Granted grant)

-- the unit at which the next step grants an object
abbrev pub granting_small : SmallAt → Option ℕ
granting_small (SmallAt.Private slab head below) = Some head
granting_small (SmallAt.Rest slab unit) = Some unit
granting_small _ = None

abbrev pub granting_large : LargeAt → Option ℕ
granting_large (LargeAt.Grant unit) = Some unit
granting_large _ = None

abbrev pub granting : At → Option ℕ
granting (At.Small at) = granting_small at
granting (At.Large at) = granting_large at
granting _ = None

-- an object is got
abbrev pub is_getting : Stage → Bool
is_getting Stage.Getting = true
is_getting Stage.Idle = false
is_getting Stage.Looking = false
is_getting Stage.Ending = false
is_getting Stage.Replacing = false
is_getting Stage.Undoing = false
is_getting Stage.Leaving = false
is_getting (Stage.Resetting stage) = false

-- the heap does not give up all that it keeps
abbrev pub keeps_heap : Stage → Bool
keeps_heap Stage.Getting = true
keeps_heap Stage.Idle = true
keeps_heap Stage.Looking = true
keeps_heap Stage.Ending = true
keeps_heap Stage.Replacing = true
keeps_heap Stage.Undoing = true
keeps_heap Stage.Leaving = false
keeps_heap (Stage.Resetting stage) = false

-- a call that could not have a block goes on after its cleanup
abbrev pub may_grant_swept : Stage → Cleanup → Bool
may_grant_swept stage Cleanup.Regular = is_getting stage
may_grant_swept stage Cleanup.Soft = true
may_grant_swept stage Cleanup.Hard = true

abbrev pub may_grant_put : Local → PutFor → Bool
may_grant_put l PutFor.Surplus = is_getting l.call.stage
may_grant_put l PutFor.Released = is_getting l.call.stage
may_grant_put l PutFor.Swept = may_grant_swept l.call.stage l.sweep.cleanup
may_grant_put l PutFor.Emptied = true
may_grant_put l PutFor.Left = keeps_heap l.call.stage

abbrev pub may_grant_small : Local → SmallAt → Bool
may_grant_small l (SmallAt.Uncache slab) = true
may_grant_small l (SmallAt.Next slab) = true
may_grant_small l (SmallAt.Public slab) = true
may_grant_small l (SmallAt.Own slab) = true
may_grant_small l (SmallAt.Kind slab) = true
may_grant_small l (SmallAt.Behind slab head) = true
may_grant_small l (SmallAt.Private slab head below) = true
may_grant_small l (SmallAt.Rest slab unit) = true
may_grant_small l (SmallAt.Empty slab) = is_getting l.call.stage
may_grant_small l (SmallAt.Cache slab) = is_getting l.call.stage
may_grant_small l (SmallAt.Oldest slab) = is_getting l.call.stage
may_grant_small l (SmallAt.Newest slab) = keeps_heap l.call.stage

abbrev pub may_grant_large : Local → LargeAt → Bool
may_grant_large l LargeAt.Tick = is_getting l.call.stage
may_grant_large l (LargeAt.Kind unit) = true
may_grant_large l (LargeAt.Grant unit) = true

abbrev pub may_grant_office : Local → OfficeFor → Bool
may_grant_office l OfficeFor.Ask = true
may_grant_office l (OfficeFor.Put first) = may_grant_put l l.put
may_grant_office l (OfficeFor.Drain first rest) = true

-- a grant may come before the call's answer, with no further look at what is left of numbers
abbrev pub may_grant : Local → At → Bool
may_grant l (At.Locate at) = true
may_grant l (At.Small at) = may_grant_small l at
may_grant l (At.Large at) = may_grant_large l at
may_grant l (At.Get at) = true
may_grant l (At.Sweep at) = may_grant_swept l.call.stage l.sweep.cleanup
may_grant l (At.Scan at) = true
may_grant l (At.Cut at) = true
may_grant l At.Queue = true
may_grant l (At.Whole at) = true
may_grant l (At.Drain at) = true
may_grant l (At.Put at) = may_grant_put l l.put
may_grant l (At.Office job at) = may_grant_office l job
may_grant l (At.Leave slab at) = keeps_heap l.call.stage
may_grant l _ = is_getting l.call.stage

-- a number is left for the grant, and an object that is to be replaced was found held
pub record HasNumber (last : ℕ) (request : Request) (old : ℕ) : Type 0 where
  pub left : last < last_grant
  pub held : replaces request ≡ true → IsGrantWord old

abbrev pub CanGrant : Local → Type 0
CanGrant l = HasNumber l.last l.call.request l.call.old.mark

-- what a look has noted of a mark that names a grant
abbrev pub LookFits : LookAt → Type 0
LookFits LookAt.Region = ⊤
LookFits (LookAt.Mark u) = ⊤
LookFits (LookAt.Again u m) = ⊤
LookFits (LookAt.Kind u m) = IsGrantWord m
LookFits (LookAt.Odd u m) = IsGrantWord m
LookFits (LookAt.Base u m k) = IsGrantWord m
LookFits (LookAt.Second u m k base) = IsGrantWord m
LookFits (LookAt.Gone m) = ⊤

abbrev pub StripFits : StripAt → Type 0
StripFits (StripAt.Mark object) = ⊤
StripFits (StripAt.End object mark) = IsGrantWord mark

abbrev pub EvictFits : EvictAt → Type 0
EvictFits (EvictAt.Kind granule) = ⊤
EvictFits (EvictAt.Mark granule b line) = ⊤
EvictFits (EvictAt.End granule b line mark) = IsGrantWord mark

abbrev pub ResetFits : ResetAt → Type 0
ResetFits (ResetAt.Strip slab at) = StripFits at
ResetFits (ResetAt.Evict region at) = EvictFits at
ResetFits _ = ⊤

-- the object that was got in another's place has a grant
abbrev pub NewFits : Local → Stage → Type 0
NewFits l Stage.Replacing = IsGrantWord l.call.new.mark
NewFits l _ = ⊤

abbrev pub StageFits : Local → Type 0
StageFits l = is_getting l.call.stage ≡ true → CanGrant l

abbrev pub EndFits : Local → Type 0
EndFits l = IsGrantWord (ended_object l).mark × NewFits l l.call.stage × StageFits l

-- what a local keeps by its position
abbrev pub FitsAt : Local → At → Type 0
FitsAt l At.Idle = ⊤
FitsAt l (At.Ready answer) = ⊤
FitsAt l (At.Look at) = LookFits at
FitsAt l (At.End at) = EndFits l
FitsAt l (At.Reset at) = ResetFits at × StageFits l
FitsAt l at = may_grant l at ≡ true → CanGrant l

-- a seat's numbers are not spent beyond the last one, and one is left where the local may come to grant
pub record NumbersFit (l : Local) : Type 0 where
  pub below : l.last ≤ last_grant
  pub place : FitsAt l l.at

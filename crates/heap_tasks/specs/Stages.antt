-- How far a call has come at each position: which stages come there.
use Rattle.std.specs.Prelude.{⊤}
use Rattle.large_cache.specs.declared.sweep.Cleanup.{Cleanup}
use Rattle.step_local.specs.declared.frames.At.{At}
use Rattle.step_local.specs.declared.frames.LargeAt.{LargeAt}
use Rattle.step_local.specs.declared.frames.Local.{Local}
use Rattle.step_local.specs.declared.frames.OfficeFor.{OfficeFor}
use Rattle.step_local.specs.declared.frames.PutFor.{PutFor}
use Rattle.step_local.specs.declared.frames.SmallAt.{SmallAt}
use Rattle.step_local.specs.declared.frames.Stage.{Stage}

abbrev pub IsIdle : Stage → Type 0
IsIdle Stage.Idle = ⊤
IsIdle _ = ⊥

abbrev pub IsLooking : Stage → Type 0
IsLooking Stage.Looking = ⊤
IsLooking _ = ⊥

abbrev pub IsGetting : Stage → Type 0
IsGetting Stage.Getting = ⊤
IsGetting _ = ⊥

-- a grant is being ended, or what follows from it is done
abbrev pub IsEnding : Stage → Type 0
IsEnding Stage.Ending = ⊤
IsEnding Stage.Replacing = ⊤
IsEnding Stage.Undoing = ⊤
IsEnding _ = ⊥

abbrev pub IsLeaving : Stage → Type 0
IsLeaving Stage.Leaving = ⊤
IsLeaving _ = ⊥

abbrev pub IsResetting : Stage → Type 0
IsResetting (Stage.Resetting stage) = ⊤
IsResetting _ = ⊥

-- no object is dealt with
abbrev pub IsQuiet : Stage → Type 0
IsQuiet Stage.Idle = ⊤
IsQuiet Stage.Leaving = ⊤
IsQuiet (Stage.Resetting stage) = ⊤
IsQuiet _ = ⊥

-- where a mailbox is taken, or the newest cached slab given up
abbrev pub MayFetch : Stage → Type 0
MayFetch Stage.Getting = ⊤
MayFetch Stage.Leaving = ⊤
MayFetch (Stage.Resetting stage) = ⊤
MayFetch _ = ⊥

-- where orphans are taken
abbrev pub MayAdopt : Stage → Type 0
MayAdopt Stage.Getting = ⊤
MayAdopt (Stage.Resetting stage) = ⊤
MayAdopt _ = ⊥

-- where a tick is drawn
abbrev pub MayTick : Stage → Type 0
MayTick Stage.Getting = ⊤
MayTick Stage.Ending = ⊤
MayTick Stage.Replacing = ⊤
MayTick Stage.Undoing = ⊤
MayTick _ = ⊥

-- where a slab ends
abbrev pub MayEmpty : Stage → Type 0
MayEmpty Stage.Idle = ⊥
MayEmpty Stage.Looking = ⊥
MayEmpty _ = ⊤

-- a regular cleanup follows a tick, and the others a scan in vain
abbrev pub MaySweep : Cleanup → Stage → Type 0
MaySweep Cleanup.Regular stage = MayTick stage
MaySweep Cleanup.Soft stage = IsGetting stage
MaySweep Cleanup.Hard stage = IsGetting stage

-- why a block is put, and what the office is taken for, at which stages
abbrev pub MayPut : PutFor → Cleanup → Stage → Type 0
MayPut PutFor.Surplus cleanup stage = IsEnding stage
MayPut PutFor.Released cleanup stage = IsEnding stage
MayPut PutFor.Swept cleanup stage = MaySweep cleanup stage
MayPut PutFor.Emptied cleanup stage = IsGetting stage
MayPut PutFor.Left cleanup stage = IsLeaving stage

abbrev pub OfficeStage : OfficeFor → PutFor → Cleanup → Stage → Type 0
OfficeStage OfficeFor.Ask put cleanup stage = IsGetting stage
OfficeStage (OfficeFor.Put first) put cleanup stage = MayPut put cleanup stage
OfficeStage (OfficeFor.Drain first rest) put cleanup stage = IsGetting stage

-- the positions of small objects
abbrev pub SmallStage : SmallAt → Stage → Type 0
SmallStage (SmallAt.Uncache slab) stage = IsGetting stage
SmallStage (SmallAt.Next slab) stage = IsGetting stage
SmallStage (SmallAt.Public slab) stage = IsGetting stage
SmallStage (SmallAt.Own slab) stage = IsGetting stage
SmallStage (SmallAt.Kind slab) stage = IsGetting stage
SmallStage (SmallAt.Behind slab head) stage = IsGetting stage
SmallStage (SmallAt.Private slab head below) stage = IsGetting stage
SmallStage (SmallAt.Rest slab unit) stage = IsGetting stage
SmallStage (SmallAt.Empty slab) stage = MayEmpty stage
SmallStage (SmallAt.Cache slab) stage = IsEnding stage
SmallStage (SmallAt.Oldest slab) stage = IsEnding stage
SmallStage (SmallAt.Newest slab) stage = MayFetch stage

abbrev pub LargeStage : LargeAt → Stage → Type 0
LargeStage LargeAt.Tick stage = MayTick stage
LargeStage (LargeAt.Kind unit) stage = IsGetting stage
LargeStage (LargeAt.Grant unit) stage = IsGetting stage

abbrev pub StageFitsAt : At → PutFor → Cleanup → Stage → Type 0
StageFitsAt At.Idle put cleanup stage = IsIdle stage
StageFitsAt (At.Ready answer) put cleanup stage = IsQuiet stage
StageFitsAt (At.Look at) put cleanup stage = IsLooking stage
StageFitsAt (At.End at) put cleanup stage = IsEnding stage
StageFitsAt (At.Post at) put cleanup stage = IsEnding stage
StageFitsAt (At.Mail at) put cleanup stage = IsEnding stage
StageFitsAt (At.Mailbox at) put cleanup stage = MayFetch stage
StageFitsAt (At.Adopt at) put cleanup stage = MayAdopt stage
StageFitsAt (At.Join slab rest at) put cleanup stage = MayAdopt stage
StageFitsAt (At.Spare at) put cleanup stage = MayAdopt stage
StageFitsAt (At.Leave slab at) put cleanup stage = IsLeaving stage
StageFitsAt (At.Locate at) put cleanup stage = IsGetting stage
StageFitsAt (At.Small at) put cleanup stage = SmallStage at stage
StageFitsAt (At.Large at) put cleanup stage = LargeStage at stage
StageFitsAt (At.Get at) put cleanup stage = IsGetting stage
StageFitsAt (At.Undo cause at) put cleanup stage = IsGetting stage
StageFitsAt (At.Keep at) put cleanup stage = IsEnding stage
StageFitsAt (At.Sweep at) put cleanup stage = MaySweep cleanup stage
StageFitsAt (At.Scan at) put cleanup stage = IsGetting stage
StageFitsAt (At.Cut at) put cleanup stage = IsGetting stage
StageFitsAt At.Queue put cleanup stage = IsGetting stage
StageFitsAt (At.Whole at) put cleanup stage = IsGetting stage
StageFitsAt (At.Drain at) put cleanup stage = IsGetting stage
StageFitsAt (At.Put at) put cleanup stage = MayPut put cleanup stage
StageFitsAt (At.Office job at) put cleanup stage = OfficeStage job put cleanup stage
StageFitsAt (At.Reset at) put cleanup stage = IsResetting stage

-- the call has come to a stage that comes at this position
abbrev pub StageFits : Local → Type 0
StageFits l = StageFitsAt l.at l.put l.sweep.cleanup l.call.stage

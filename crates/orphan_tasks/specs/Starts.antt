-- Where the orphans of a reset are dealt with, and where a task with orphans may start.
use Rattle.std.specs.Prelude.{◌≡◌, Some, ⊤}
use Rattle.orphans.specs.declared.adopting.AdoptAt.{AdoptAt}
use Rattle.orphans.specs.declared.leaving.LeaveAt.{LeaveAt}
use Rattle.orphan_laws.specs.Orphans.{Task}
use Rattle.step_local.specs.declared.frames.At.{At}
use Rattle.step_local.specs.declared.frames.Local.{Local}
use Rattle.step_local.specs.declared.frames.ResetAt.{ResetAt}
use Rattle.step_local.specs.declared.frames.ResetStage.{ResetStage}
use Rattle.step_local.specs.declared.frames.SmallAt.{SmallAt}
use Rattle.step_local.specs.declared.frames.Stage.{Stage}

-- a reset is not at orphans; or it is, and none is behind the one that it adopted last
abbrev pub NoOrphans : Stage → Type 0
NoOrphans (Stage.Resetting (ResetStage.Orphans rest)) = ⊥
NoOrphans _ = ⊤

abbrev pub NoneBehind : Stage → Type 0
NoneBehind (Stage.Resetting (ResetStage.Orphans (Some slab))) = ⊥
NoneBehind _ = ⊤

-- a reset that is at orphans adopts, joins, strips and ends them, and puts their blocks; it is so still, with none
-- behind, where it takes the next class and where it goes on to regions. It puts none aside.
abbrev pub AdoptFits : AdoptAt → Stage → Type 0
AdoptFits AdoptAt.Take stage = NoneBehind stage
AdoptFits (AdoptAt.Spare slab) stage = NoOrphans stage
AdoptFits _ stage = ⊤

abbrev pub SmallFits : SmallAt → Stage → Type 0
SmallFits (SmallAt.Empty slab) stage = ⊤
SmallFits _ stage = NoOrphans stage

abbrev pub ResetFits : ResetAt → Stage → Type 0
ResetFits (ResetAt.Strip slab at) stage = ⊤
ResetFits (ResetAt.Bin at) stage = ⊤
ResetFits _ stage = NoneBehind stage

abbrev pub OrphanFitsAt : At → Stage → Type 0
OrphanFitsAt (At.Adopt at) stage = AdoptFits at stage
OrphanFitsAt (At.Join slab rest at) stage = ⊤
OrphanFitsAt (At.Small at) stage = SmallFits at stage
OrphanFitsAt (At.Reset at) stage = ResetFits at stage
OrphanFitsAt _ stage = NoOrphans stage

-- what a local says of orphans by itself
abbrev pub OrphanFits : Local → Type 0
OrphanFits l = OrphanFitsAt l.at l.call.stage

-- where a task starts: a slab is left by closing its list, and the orphans of a class are adopted by taking them
abbrev pub SmallStarts : SmallAt → Stage → Type 0
SmallStarts (SmallAt.Kind slab) stage = ⊥
SmallStarts _ stage = NoOrphans stage

abbrev pub ResetStarts : ResetAt → Stage → Type 0
ResetStarts (ResetAt.Strip slab at) stage = NoOrphans stage
ResetStarts (ResetAt.Bin at) stage = NoOrphans stage
ResetStarts _ stage = NoneBehind stage

abbrev pub OrphanStartsAt : At → Stage → Type 0
OrphanStartsAt (At.Adopt at) stage = (at ≡ AdoptAt.Take) × NoneBehind stage
OrphanStartsAt (At.Join slab rest at) stage = ⊥
OrphanStartsAt (At.Spare at) stage = ⊥
OrphanStartsAt (At.Leave slab at) stage = (at ≡ LeaveAt.Close) × NoOrphans stage
OrphanStartsAt (At.Small at) stage = SmallStarts at stage
OrphanStartsAt (At.Reset at) stage = ResetStarts at stage
OrphanStartsAt _ stage = NoOrphans stage

abbrev pub OrphanStarts : Local → Type 0
OrphanStarts l = OrphanStartsAt l.at l.call.stage

-- with what a seat may begin that has nothing to do with orphans: the rows `leave_begins` and `take_begins`
abbrev pub IsOrphanStart : Task → Type 0
IsOrphanStart Task.Away = ⊤
IsOrphanStart (Task.Leaving slab at) = at ≡ LeaveAt.Close
IsOrphanStart (Task.Adopting class at) = at ≡ AdoptAt.Take
IsOrphanStart (Task.Joining class slab rest) = ⊥
IsOrphanStart (Task.Resting class rest) = ⊥
IsOrphanStart (Task.Returning class slab at) = ⊥
IsOrphanStart (Task.Owning slab) = ⊥

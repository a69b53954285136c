-- What is said of a local after a turn that leaves nothing of orphans to do, and after one at which an orphan waits.
use Rattle.std.proofs.Common.{◌≡◌, ℕ, refl, sym, subst}
use Rattle.pool_types.specs.declared.values.Turn.{Turn}
use Rattle.orphan_laws.specs.Orphans.{Task}
use Rattle.step_local.specs.declared.frames.At.{At}
use Rattle.step_local.specs.declared.frames.Local.{Local}
use Rattle.step_local.specs.declared.frames.ResetAt.{ResetAt}
use Rattle.step_local.specs.declared.frames.ResetStage.{ResetStage}
use Rattle.step_local.specs.declared.frames.SmallAt.{SmallAt}
use Rattle.step_local.specs.declared.frames.Stage.{Stage}
use Rattle.orphan_tasks.specs.Laws.{OrphanGoesOn, OrphanMoves, StartedOrphansAreStarts}
use Rattle.orphan_tasks.specs.Orphans.{orphan_task_at, orphan_task_of, stage_task}
use Rattle.orphan_tasks.specs.Starts.{IsOrphanStart, NoOrphans, OrphanFitsAt, OrphanStarts, OrphanStartsAt}
use Rattle.orphan_tasks.specs.Starts.{AdoptFits, ResetFits, ResetStarts, SmallFits, SmallStarts}
use Rattle.orphan_tasks.proofs.Started.{IsMoved, IsStarted, moves}

small_fits : (at : SmallAt) (stage : Stage) → SmallStarts at stage → SmallFits at stage
small_fits (SmallAt.Kind slab) stage starts = absurd starts
small_fits (SmallAt.Empty slab) stage starts = tt
small_fits _ stage starts = starts

reset_fits : (at : ResetAt) (stage : Stage) → ResetStarts at stage → ResetFits at stage
reset_fits (ResetAt.Strip slab at) stage starts = tt
reset_fits (ResetAt.Bin at) stage starts = tt
reset_fits _ stage starts = starts

-- where a task may start, a local says of orphans what it is to say
pub starts_fits : (at : At) (stage : Stage) → OrphanStartsAt at stage → OrphanFitsAt at stage
starts_fits (At.Adopt at) stage starts = subst (λ a. AdoptFits a stage) (sym starts.0) starts.1
starts_fits (At.Join slab rest at) stage starts = tt
starts_fits (At.Spare at) stage starts = absurd starts
starts_fits (At.Leave slab at) stage starts = starts.1
starts_fits (At.Small at) stage starts = small_fits at stage starts
starts_fits (At.Reset at) stage starts = reset_fits at stage starts
starts_fits _ stage starts = starts

-- nothing is left to do
pub done : (l : Local) (turn : Local × Turn) → IsMoved l turn → OrphanMoves turn.0 Task.Away l.heap.spares
done l turn moved = record {
  goes_on = moved.0;
  fits = starts_fits turn.0.at turn.0.call.stage moved.0;
  spares' = moved.1;
}

pub ends : (l : Local) (turn : Local × Turn) → IsStarted l turn → OrphanMoves turn.0 Task.Away l.heap.spares
ends l turn started = done l turn (moves l l turn refl started)

-- an orphan that waits in a reset waits on
pub waits_on : (class : ℕ) (stage : Stage) (next : Local) → orphan_task_of next ≡ stage_task class stage
    → (NoOrphans stage → OrphanStarts next) → OrphanGoesOn next (stage_task class stage)
waits_on class (Stage.Resetting (ResetStage.Orphans rest)) next same starts = same
waits_on class (Stage.Resetting (ResetStage.Heap one)) next same starts = starts tt
waits_on class (Stage.Resetting (ResetStage.Large region granule)) next same starts = starts tt
waits_on class (Stage.Resetting (ResetStage.Cache granules)) next same starts = starts tt
waits_on class (Stage.Resetting (ResetStage.Queue rest)) next same starts = starts tt
waits_on class (Stage.Resetting (ResetStage.Regions below)) next same starts = starts tt
waits_on class _ next same starts = starts tt

stage_start : (class : ℕ) (stage : Stage) → NoOrphans stage → IsOrphanStart (stage_task class stage)
stage_start class (Stage.Resetting (ResetStage.Orphans rest)) free = absurd free
stage_start class (Stage.Resetting (ResetStage.Heap one)) free = tt
stage_start class (Stage.Resetting (ResetStage.Large region granule)) free = tt
stage_start class (Stage.Resetting (ResetStage.Cache granules)) free = tt
stage_start class (Stage.Resetting (ResetStage.Queue rest)) free = tt
stage_start class (Stage.Resetting (ResetStage.Regions below)) free = tt
stage_start class _ free = tt

is_start : (l : Local) (at : At) → OrphanStartsAt at l.call.stage → IsOrphanStart (orphan_task_at l at)
is_start l (At.Adopt at) starts = starts.0
is_start l (At.Join slab rest at) starts = absurd starts
is_start l (At.Spare at) starts = absurd starts
is_start l (At.Leave slab at) starts = starts.0
is_start l (At.Small (SmallAt.Kind slab)) starts = absurd starts
is_start l (At.Small (SmallAt.Empty slab)) starts = stage_start l.fetch.class l.call.stage starts
is_start l (At.Small _) starts = tt
is_start l (At.Reset (ResetAt.Strip slab at)) starts = stage_start l.fetch.class l.call.stage starts
is_start l (At.Reset (ResetAt.Bin at)) starts = stage_start l.fetch.class l.call.stage starts
is_start l (At.Reset _) starts = tt
is_start l _ starts = tt

pub started_orphans_are_starts : StartedOrphansAreStarts
started_orphans_are_starts l starts = (starts_fits l.at l.call.stage starts, is_start l l.at starts)

-- The tasks with orphans, with mail and with objects tie, position by position.
use Rattle.std.proofs.Common.{◌≡◌, ℕ, refl, subst, ap, ◌∙◌}
use Rattle.std.specs.Prelude.{Option}
use Rattle.mailbox.specs.declared.boxes.BoxAt.{BoxAt}
use Rattle.public_list.specs.declared.joining.JoinAt.{JoinAt}
use Rattle.reset_steps.specs.declared.evict.EvictAt.{EvictAt}
use Rattle.reset_steps.specs.declared.strip.StripAt.{StripAt}
use Rattle.mail_laws.specs.Mail as mail
use Rattle.object_laws.specs.Objects as objects
use Rattle.post_laws.specs.Posts.{TiesFit, IsNoJoin, IsWalk}
use Rattle.step_local.specs.declared.frames.At.{At}
use Rattle.step_local.specs.declared.frames.LargeAt.{LargeAt}
use Rattle.step_local.specs.declared.frames.Local.{Local}
use Rattle.step_local.specs.declared.frames.ResetAt.{ResetAt}
use Rattle.step_local.specs.declared.frames.ResetStage.{ResetStage}
use Rattle.step_local.specs.declared.frames.SmallAt.{SmallAt}
use Rattle.step_local.specs.declared.frames.Stage.{Stage}
use Rattle.step_tasks.specs.Objects.{object_task_at}
use Rattle.step_tasks.specs.Mail.{mail_task_at}
use Rattle.orphan_tasks.specs.Laws.{StrippedOrphansTieOtherwise, TasksTie}
use Rattle.orphan_tasks.specs.Orphans.{orphan_task_at, stage_task}
use Rattle.orphan_tasks.specs.Starts.{NoOrphans}
use Rattle.orphan_tasks.specs.Ties.{EndsNoneAt, StripFits, TiesBy}

-- an orphan waits, or none does
stage_ties : (class : ℕ) (stage : Stage) (task : objects.Task) → IsNoJoin task → (IsWalk task)
    → TiesFit (stage_task class stage) mail.Task.Away task
stage_ties class (Stage.Resetting (ResetStage.Orphans rest)) task apart walk = (refl, walk)
stage_ties class (Stage.Resetting (ResetStage.Heap one)) task apart walk = apart
stage_ties class (Stage.Resetting (ResetStage.Large region granule)) task apart walk = apart
stage_ties class (Stage.Resetting (ResetStage.Cache granules)) task apart walk = apart
stage_ties class (Stage.Resetting (ResetStage.Queue rest)) task apart walk = apart
stage_ties class (Stage.Resetting (ResetStage.Regions below)) task apart walk = apart
stage_ties class _ task apart walk = apart

free_ties : (class : ℕ) (stage : Stage) (task : objects.Task) → IsNoJoin task → NoOrphans stage
    → TiesFit (stage_task class stage) mail.Task.Away task
free_ties class (Stage.Resetting (ResetStage.Orphans rest)) task apart free = absurd free
free_ties class (Stage.Resetting (ResetStage.Heap one)) task apart free = apart
free_ties class (Stage.Resetting (ResetStage.Large region granule)) task apart free = apart
free_ties class (Stage.Resetting (ResetStage.Cache granules)) task apart free = apart
free_ties class (Stage.Resetting (ResetStage.Queue rest)) task apart free = apart
free_ties class (Stage.Resetting (ResetStage.Regions below)) task apart free = apart
free_ties class _ task apart free = apart

box_ties : (l : Local) (at : BoxAt) → TiesBy l (At.Mailbox at)
box_ties l BoxAt.Take = refl
box_ties l (BoxAt.Next slab) = refl
box_ties l (BoxAt.Settle slab rest) = refl
box_ties l (BoxAt.Join slab rest at) = refl

join_ties : (l : Local) (slab : ℕ) (rest : Option ℕ) (at : JoinAt) → TiesBy l (At.Join slab rest at)
join_ties l slab rest JoinAt.Take = (refl, refl)
join_ties l slab rest (JoinAt.Walk first at count) = (refl, tt)
join_ties l slab rest (JoinAt.Tie first last count) = (refl, tt)

small_ties : (l : Local) (at : SmallAt) → TiesBy l (At.Small at)
small_ties l (SmallAt.Next slab) = refl
small_ties l (SmallAt.Public slab) = refl
small_ties l (SmallAt.Own slab) = refl
small_ties l (SmallAt.Kind slab) = (refl, refl)
small_ties l (SmallAt.Empty slab) = stage_ties l.fetch.class l.call.stage objects.Task.Away tt tt
small_ties l _ = tt

large_ties : (l : Local) (at : LargeAt) → TiesBy l (At.Large at)
large_ties l LargeAt.Tick = tt
large_ties l (LargeAt.Kind unit) = tt
large_ties l (LargeAt.Grant unit) = tt

strip_ties : (l : Local) (slab : ℕ) (at : StripAt) → StripFits at l.call.stage
    → TiesBy l (At.Reset (ResetAt.Strip slab at))
strip_ties l slab (StripAt.Mark object) fits = stage_ties l.fetch.class l.call.stage objects.Task.Away tt tt
strip_ties l slab (StripAt.End object mark) fits = free_ties l.fetch.class l.call.stage
    (object_task_at l (At.Reset (ResetAt.Strip slab (StripAt.End object mark)))) tt fits

reset_ties : (l : Local) (at : ResetAt) → EndsNoneAt (At.Reset at) l.call.stage → TiesBy l (At.Reset at)
reset_ties l (ResetAt.Strip slab at) fits = strip_ties l slab at fits
reset_ties l (ResetAt.Bin at) fits = stage_ties l.fetch.class l.call.stage objects.Task.Away tt tt
reset_ties l (ResetAt.Evict region (EvictAt.Kind granule)) fits = tt
reset_ties l (ResetAt.Evict region (EvictAt.Mark granule b line)) fits = tt
reset_ties l (ResetAt.Evict region (EvictAt.End granule b line mark)) fits = tt
reset_ties l (ResetAt.Seek at) fits = tt
reset_ties l (ResetAt.Clear granules at) fits = tt
reset_ties l (ResetAt.Unqueue at) fits = tt
reset_ties l (ResetAt.Unite region at) fits = tt

ties_at : (l : Local) (at : At) → EndsNoneAt at l.call.stage → TiesBy l at
ties_at l (At.Mail at) fits = refl
ties_at l (At.Mailbox at) fits = box_ties l at
ties_at l (At.Adopt at) fits = (refl, refl)
ties_at l (At.Join slab rest at) fits = join_ties l slab rest at
ties_at l (At.Spare at) fits = (refl, refl)
ties_at l (At.Leave slab at) fits = (refl, refl)
ties_at l (At.Small at) fits = small_ties l at
ties_at l (At.Large at) fits = large_ties l at
ties_at l (At.Reset at) fits = reset_ties l at fits
ties_at l _ fits = tt

pub tasks_tie : TasksTie
tasks_tie l fits = ties_at l l.at fits

-- a walk is no end of a grant
no_walk : (l : Local) (slab object mark class : ℕ) (rest : Option ℕ) (stage : Stage)
    → stage ≡ Stage.Resetting (ResetStage.Orphans rest)
    → TiesFit (stage_task class stage) mail.Task.Away
    (object_task_at l (At.Reset (ResetAt.Strip slab (StripAt.End object mark)))) → ⊥
no_walk l slab object mark class rest stage here ties =
    (subst (λ now. TiesFit (stage_task class now) mail.Task.Away
    (object_task_at l (At.Reset (ResetAt.Strip slab (StripAt.End object mark))))) here ties).1

pub stripped_orphans_tie_otherwise : StrippedOrphansTieOtherwise
stripped_orphans_tie_otherwise l slab object mark rest at stage = record {
  orphans = ap (orphan_task_at l) at ∙ ap (stage_task l.fetch.class) stage;
  mail' = ap (mail_task_at l) at;
  objects' = ap (object_task_at l) at;
  untied = λ ties. no_walk l slab object mark l.fetch.class rest l.call.stage stage (subst (TiesBy l) at ties);
}

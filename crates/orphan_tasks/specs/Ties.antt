-- How a seat's tasks with orphans, with mail and with objects go together.
use Rattle.std.specs.Prelude.{◌≡◌, ℕ, Option, ⊤}
use Rattle.public_list.specs.declared.ending.EndAt.{EndAt}
use Rattle.reset_steps.specs.declared.strip.StripAt.{StripAt}
use Rattle.word_codes.specs.declared.kinds.Kind.{Kind}
use Rattle.object_laws.specs.Laws.{strip_call as strip_end}
use Rattle.object_laws.specs.Objects.Task.{Ending}
use Rattle.mail_laws.specs.Mail as mail
use Rattle.orphan_laws.specs.Orphans.{Task}
use Rattle.post_laws.specs.Posts.{TiesFit}
use Rattle.step_local.specs.declared.frames.At.{At}
use Rattle.step_local.specs.declared.frames.Local.{Local}
use Rattle.step_local.specs.declared.frames.ResetAt.{ResetAt}
use Rattle.step_local.specs.declared.frames.Stage.{Stage}
use Rattle.step_local.specs.Resetting.{strip_call}
use Rattle.step_tasks.specs.Objects.{object_task_at, object_task_of}
use Rattle.step_tasks.specs.Mail.{mail_task_at, mail_task_of}
use Rattle.orphan_tasks.specs.Orphans.{orphan_task_at, orphan_task_of}
use Rattle.orphan_tasks.specs.Starts.{NoOrphans}

-- the tasks are those of one position, as the laws of what is given back have it
abbrev pub TiesBy : Local → At → Type 0
TiesBy l at = TiesFit (orphan_task_at l at) (mail_task_at l at) (object_task_at l at)

abbrev pub Ties : Local → Type 0
Ties l = TiesBy l l.at

-- no reset ends a grant in an orphan that it strips
abbrev pub StripFits : StripAt → Stage → Type 0
StripFits (StripAt.Mark object) stage = ⊤
StripFits (StripAt.End object mark) stage = NoOrphans stage

abbrev pub EndsNoneAt : At → Stage → Type 0
EndsNoneAt (At.Reset (ResetAt.Strip slab at)) stage = StripFits at stage
EndsNoneAt _ stage = ⊤

abbrev pub EndsNone : Local → Type 0
EndsNone l = EndsNoneAt l.at l.call.stage

-- where a reset does, the orphan behind waits, and the grant is one of an object in the slab that the seat keeps: that
-- is no walk of a list, so the ties are others
pub record StripTies (l : Local) (slab object mark : ℕ) (rest : Option ℕ) : Type 0 where
  pub orphans : orphan_task_of l ≡ Task.Resting l.fetch.class rest
  pub mail' : mail_task_of l ≡ mail.Task.Away
  pub objects' : object_task_of l
      ≡ Ending (strip_end (strip_call l slab) object mark l.seat) (Kind.Slab (strip_call l slab).class) EndAt.Own
  pub untied : Ties l → ⊥

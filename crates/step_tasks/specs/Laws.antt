-- The laws of what each seat is about to do.
use Rattle.std.specs.Prelude.{◌≡◌, ◌⊎◌, ℕ}
use Rattle.pool_types.specs.declared.values.Request.{Request}
use Rattle.pool_words.specs.declared.actions.Seen.{Seen}
use Rattle.pool_words.specs.Actions.{word_seen}
use Rattle.public_list.specs.declared.ending.EndCall.{EndCall}
use Rattle.public_list.specs.declared.ending.EndNext.{EndNext}
use Rattle.public_list.specs.declared.joining.JoinNext.{JoinNext}
use Rattle.public_list.specs.declared.looking.LookCall.{LookCall}
use Rattle.public_list.specs.declared.looking.LookNext.{LookNext}
use Rattle.public_list.specs.declared.posting.PostCall.{PostCall}
use Rattle.public_list.specs.declared.posting.PostNext.{PostNext}
use Rattle.word_codes.specs.declared.kinds.Kind.{Kind}
use Rattle.word_laws.specs.Memory.{put}
use Rattle.object_laws.specs.Objects.{Task, Locals}
use Rattle.object_laws.specs.Objects.Task.{Away}
use Rattle.object_laws.specs.Rows.{looked, ended, posted_as, joined_as}
use Rattle.object_laws.specs.Steps.{IsStart}
use Rattle.step_local.specs.declared.frames.Local.{Local}
use Rattle.step_local.specs.declared.frames.Reset.{Reset}
use Rattle.step_local.specs.Getting.{begun, reset_begun}
use Rattle.step_local.specs.Learn.{learn}
use Rattle.step_tasks.specs.Objects.{object_task_of, task_left, looked_task, ended_task, posted_task, joined_task}
use Rattle.step_tasks.specs.Objects.{Starts}
use Rattle.mailbox.specs.declared.mailing.MailNext.{MailNext}
use Rattle.mail_laws.specs.Mail as mail
use Rattle.mail_laws.specs.Steps.{mailed_as, posted_as as posts_mail}
use Rattle.step_tasks.specs.Mail.{MailStarts, mail_left, mail_task_of, mailed_task, owed_task}

-- a local goes on with what was left to do; where nothing was, it may start something
abbrev pub GoesOn : Local → Task → Type 0
GoesOn next Away = Starts next
GoesOn next task = object_task_of next ≡ task

abbrev pub TurnsMoveObjectTasks : Type 0
TurnsMoveObjectTasks = (l : Local) (s : Seen) → GoesOn (learn l s).0 (task_left l (word_seen s))

-- a call or a reset that begins may start something; one that is refused changes nothing
abbrev pub StartsOrStays : Local → Local → Type 0
StartsOrStays l next = ((object_task_of l ≡ Away) × Starts next) ⊎ (next ≡ l)

pub record BeginsStart (l : Local) : Type 0 where
  pub begins : (request : Request) → StartsOrStays l (begun l request).0
  pub resets : (reset : Reset) → StartsOrStays l (reset_begun l reset).0

abbrev pub BeginsStartObjectTasks : Type 0
BeginsStartObjectTasks = (l : Local) → BeginsStart l

abbrev pub StartedTasksAreStarts : Type 0
StartedTasksAreStarts = (l : Local) → Starts l → IsStart (object_task_of l)

-- the rows leave these tasks to the seat that steps, and each other seat its own
pub record RowsLeaveTasks (seat : ℕ) (locals : Locals) : Type 0 where
  pub looks : (call : LookCall) (next : LookNext)
      → (looked seat call next locals).tasks ≡ put locals.tasks seat (looked_task call next)
  pub ends : (call : EndCall) (kind : Kind) (next : EndNext)
      → (ended seat call kind next locals).tasks ≡ put locals.tasks seat (ended_task call kind next)
  pub posts : (call : PostCall) (next : PostNext)
      → (posted_as seat call next locals).tasks ≡ put locals.tasks seat (posted_task call next)
  pub joins : (slab : ℕ) (next : JoinNext)
      → (joined_as seat slab next locals).tasks ≡ put locals.tasks seat (joined_task slab next)

abbrev pub RowsLeaveObjectTasks : Type 0
RowsLeaveObjectTasks = (seat : ℕ) (locals : Locals) → RowsLeaveTasks seat locals

-- the same of mail
abbrev pub MailGoesOn : Local → mail.Task → Type 0
MailGoesOn next mail.Task.Away = MailStarts next
MailGoesOn next task = mail_task_of next ≡ task

abbrev pub TurnsMoveMailTasks : Type 0
TurnsMoveMailTasks = (l : Local) (s : Seen) → MailGoesOn (learn l s).0 (mail_left l (word_seen s))

abbrev pub StartsOrStaysWithMail : Local → Local → Type 0
StartsOrStaysWithMail l next = ((mail_task_of l ≡ mail.Task.Away) × MailStarts next) ⊎ (next ≡ l)

pub record BeginsStartMail (l : Local) : Type 0 where
  pub begins : (request : Request) → StartsOrStaysWithMail l (begun l request).0
  pub resets : (reset : Reset) → StartsOrStaysWithMail l (reset_begun l reset).0

abbrev pub BeginsStartMailTasks : Type 0
BeginsStartMailTasks = (l : Local) → BeginsStartMail l

-- the rows leave these tasks to the seat that steps; where a post leaves no mailing, the seat's task stays
abbrev pub PostLeaves : ℕ → PostCall → PostNext → mail.Locals → Type 0
PostLeaves seat call PostNext.Owed locals =
    (posts_mail seat call PostNext.Owed locals).tasks ≡ put locals.tasks seat (owed_task call.slab PostNext.Owed)
PostLeaves seat call next locals = posts_mail seat call next locals ≡ locals

pub record RowsLeaveMail (seat : ℕ) (locals : mail.Locals) : Type 0 where
  pub posts : (call : PostCall) (next : PostNext) → PostLeaves seat call next locals
  pub mails : (slab : ℕ) (next : MailNext)
      → (mailed_as seat slab next locals).tasks ≡ put locals.tasks seat (mailed_task slab next)

abbrev pub RowsLeaveMailTasks : Type 0
RowsLeaveMailTasks = (seat : ℕ) (locals : mail.Locals) → RowsLeaveMail seat locals

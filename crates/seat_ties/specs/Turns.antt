-- What a turn of a local makes of the whole: steps of its seat, behind which all that the next position says is there
-- but for what starts, and what is to be forgotten.
use Rattle.std.specs.Prelude.{◌≡◌, ℕ, ⊤, List}
use Rattle.pool_words.specs.declared.words.Key.{Key}
use Rattle.pool_words.specs.declared.actions.Seen.{Seen}
use Rattle.region_steps.specs.declared.office.OfficeAt.{OfficeAt}
use Rattle.word_laws.specs.Memory.{after, found}
use Rattle.guard_laws.specs.Blocks as guards
use Rattle.object_laws.specs.Objects as objects
use Rattle.object_laws.specs.Objects.{Note}
use Rattle.mail_laws.specs.Mail as mailing
use Rattle.orphan_laws.specs.Orphans as orphaning
use Rattle.office_laws.specs.Regions as offices
use Rattle.queue_laws.specs.Queue as queues
use Rattle.cache_laws.specs.Good as caches
use Rattle.step_local.specs.declared.frames.At.{At}
use Rattle.step_local.specs.declared.frames.Local.{Local}
use Rattle.step_local.specs.declared.frames.Stage.{Stage}
use Rattle.step_local.specs.Course.{course}
use Rattle.step_local.specs.Learn.{learn}
use Rattle.step_runs.specs.Entries.{seen_by}
use Rattle.step_laws.specs.Tasks.{shadow_by, task_of}
use Rattle.step_tasks.specs.Mail.{mail_task_of, MailStarts}
use Rattle.step_tasks.specs.Objects.{object_task_of, Starts}
use Rattle.backend_tasks.specs.Bins.{bin_task_of}
use Rattle.backend_tasks.specs.Guards.{guard_task_of, GuardStarts}
use Rattle.backend_tasks.specs.Queue.{queue_task_of, QueueStarts}
use Rattle.cache_tasks.specs.Cache.{cache_task_of, CacheStarts}
use Rattle.orphan_tasks.specs.Orphans.{orphan_task_of}
use Rattle.orphan_tasks.specs.Starts.{OrphanStarts}
use Rattle.heap_tasks.specs.Notes.{IsTail, notes_of}
use Rattle.hand_blocks.specs.Hands.{hands_of}
use Rattle.pool_laws.specs.Wholes.{Whole}
use Rattle.pool_laws.specs.Steps.{IsFree, WholeStep}
use Rattle.seat_ties.specs.Says.{WordsSay}
use Rattle.seat_ties.specs.Ties.{SaysItself, HeapTied, HandsTied}

-- any number of steps of one seat
pub data SeatRun (k : Key) (seat : ℕ) (w : Whole) : Whole → Type 0 where
  stays : SeatRun k seat w w
  steps_on : {before later : Whole} → SeatRun k seat w before → WholeStep k seat before later → SeatRun k seat w later

-- what the local's step finds in the whole, what the seat is told of it, and the local behind it
abbrev pub found_in : Whole → Local → ℕ
found_in w l = found w.pool.mem (course l)

abbrev pub seen_in : Whole → Local → Seen
seen_in w l = seen_by (course l) (found_in w l)

abbrev pub next_in : Whole → Local → Local
next_in w l = (learn l (seen_in w l)).0

-- a task is what a position says, or it is still to be begun, where it may start
pub data Here {T : Type 0} (have says away : T) (Start : Type 0) : Type 0 where
  goes_on : have ≡ says → Here have says away Start
  may_start : have ≡ away → Start → Here have says away Start

-- a job at the office starts with its lock
abbrev pub DeskStartsAt : At → Type 0
DeskStartsAt (At.Office job at) = at ≡ OfficeAt.Lock
DeskStartsAt _ = ⊤

abbrev pub DeskStarts : Local → Type 0
DeskStarts l = DeskStartsAt l.at

-- so does a win, with its first guard, of what is one block
pub record WinStarts (task : guards.Task) : Type 0 where
  pub starts : GuardStarts task
  pub fits : guards.TaskFits task

pub record TasksHere (w : Whole) (seat : ℕ) (l : Local) : Type 0 where
  pub guards : Here (w.pool.tasks seat) (guard_task_of l) guards.Task.Away (WinStarts (guard_task_of l))
  pub bins : w.bins seat ≡ bin_task_of l
  pub queue : Here (w.queue seat) (queue_task_of l) queues.Task.Away (QueueStarts (queue_task_of l))
  pub objects : Here (w.pool.locals.tasks seat) (object_task_of l) objects.Task.Away (Starts l)
  pub mails : Here (w.mails seat) (mail_task_of l) mailing.Task.Away (MailStarts l)
  pub orphans : Here (w.tasks seat) (orphan_task_of l) orphaning.Task.Away (OrphanStarts l)
  pub jobs : Here (w.jobs seat) (cache_task_of l) caches.Task.Away (CacheStarts l)
  pub desks : Here (w.desks seat) (task_of l) offices.Task.Away (DeskStarts l)

-- the notes are these, or the newest ones are to be forgotten, where the seat puts no block into the cache or the queue
pub data NotesHere (w : Whole) (seat : ℕ) (notes : List Note) : Type 0 where
  are : w.pool.locals.notes seat ≡ notes → NotesHere w seat notes
  forgets : IsTail notes (w.pool.locals.notes seat) → IsFree w seat → NotesHere w seat notes

-- what a position says, but for what starts there, and for what is to be forgotten
pub record StateHere (k : Key) (w : Whole) (seat : ℕ) (l : Local) : Type 0 where
  pub says : SaysItself k seat l
  pub tasks : TasksHere w seat l
  pub heap : HeapTied w seat l
  pub notes : NotesHere w seat (notes_of l)
  pub hands : HandsTied w.pool.blocks.place (w.drained seat) seat (hands_of l)
  pub words : WordsSay w seat l

-- the seat's steps lead from the whole to one with the words behind the local's step, where its next position is
pub record StepLeaves (k : Key) (w : Whole) (l : Local) : Type 0 where
  pub later : Whole
  pub run : SeatRun k l.seat w later
  pub words : later.pool.mem ≡ after k w.pool.mem (course l)
  -- the office's records are those that a step there leaves
  pub office : later.office ≡ shadow_by l.at w.office
  pub here : StateHere k later l.seat (next_in w l)

-- a reset of a whole pool is spoken of by itself
abbrev pub NoReset : Stage → Type 0
NoReset (Stage.Resetting stage) = ⊥
NoReset _ = ⊤

abbrev pub IsNoReset : Local → Type 0
IsNoReset l = NoReset l.call.stage

-- The laws of what each seat is about to do with guards, with bins and with the queue.
use Rattle.std.specs.Prelude.{◌≡◌, ◌⊎◌, ℕ}
use Rattle.pool_types.specs.declared.values.Request.{Request}
use Rattle.pool_words.specs.declared.actions.Seen.{Seen}
use Rattle.pool_words.specs.declared.words.Key.{Key}
use Rattle.pool_words.specs.Actions.{word_seen}
use Rattle.guard_laws.specs.Blocks as guards
use Rattle.bin_laws.specs.Bins as bins
use Rattle.queue_laws.specs.Queue as queue
use Rattle.free_laws.specs.Spaces.{SeatFits}
use Rattle.step_local.specs.declared.frames.Local.{Local}
use Rattle.step_local.specs.declared.frames.Reset.{Reset}
use Rattle.step_local.specs.Course.{course}
use Rattle.step_local.specs.Frames.{made}
use Rattle.step_local.specs.Getting.{begun, reset_begun}
use Rattle.step_local.specs.Learn.{learn}
use Rattle.backend_tasks.specs.Bins.{bin_task_of, bin_left}
use Rattle.backend_tasks.specs.Fits.{BackendFits, FindsFit}
use Rattle.backend_tasks.specs.Guards.{GuardGoesOn, guard_task_of, guard_left}
use Rattle.backend_tasks.specs.Queue.{QueueGoesOn, queue_task_of, queue_left}
use Rattle.backend_tasks.specs.Rows.{GuardRow, BinRow, QueueRow}

abbrev pub TurnsMoveGuardTasks : Type 0
TurnsMoveGuardTasks = (l : Local) (s : Seen) → GuardGoesOn (guard_task_of (learn l s).0) (guard_left l (word_seen s))

-- in bins nothing starts but by a step
abbrev pub TurnsMoveBinTasks : Type 0
TurnsMoveBinTasks = (l : Local) (s : Seen) → bin_task_of (learn l s).0 ≡ bin_left l (word_seen s)

abbrev pub TurnsMoveQueueTasks : Type 0
TurnsMoveQueueTasks = (l : Local) (s : Seen) → QueueGoesOn (queue_task_of (learn l s).0) (queue_left l s)

-- nothing is under way
pub record HasNoTask (l : Local) : Type 0 where
  pub guard : guard_task_of l ≡ guards.Task.Away
  pub bin : bin_task_of l ≡ bins.Task.Away
  pub queue : queue_task_of l ≡ queue.Task.Away

-- a call or a reset begins where nothing was under way, with nothing; one that is refused changes nothing
abbrev pub BeginsOrStays : Local → Local → Type 0
BeginsOrStays l next = (HasNoTask l × HasNoTask next) ⊎ (next ≡ l)

pub record BeginsBare (l : Local) : Type 0 where
  pub begins : (request : Request) → BeginsOrStays l (begun l request).0
  pub resets : (reset : Reset) → BeginsOrStays l (reset_begun l reset).0

abbrev pub BeginsStartBackendTasks : Type 0
BeginsStartBackendTasks = (l : Local) → BeginsBare l

-- each step is a row of each group, and what is left is what that row leaves
abbrev pub RowsLeaveGuardTasks : Type 0
RowsLeaveGuardTasks = (l : Local) (found : ℕ) → GuardRow (guard_task_of l) (course l) found (guard_left l found)

abbrev pub RowsLeaveBinTasks : Type 0
RowsLeaveBinTasks =
    (l : Local) (found : ℕ) → BackendFits l
    → BinRow l.seat (guard_task_of l) (bin_task_of l) (course l) found (bin_left l found)

abbrev pub RowsLeaveQueueTasks : Type 0
RowsLeaveQueueTasks =
    (l : Local) (s : Seen) → BackendFits l → QueueRow (queue_task_of l) (course l) (word_seen s) (queue_left l s)

-- what a local says by itself stays so, whatever is found but for lengths in the last bin
abbrev pub TurnsKeepBackendFits : Type 0
TurnsKeepBackendFits =
    (l : Local) (s : Seen) → BackendFits l → FindsFit l (word_seen s) → BackendFits (learn l s).0

pub record BeginsFit (l : Local) : Type 0 where
  pub begins : (request : Request) → BackendFits (begun l request).0
  pub resets : (reset : Reset) → BackendFits (reset_begun l reset).0

abbrev pub BeginsKeepBackendFits : Type 0
BeginsKeepBackendFits = (l : Local) → BackendFits l → BeginsFit l

abbrev pub FreshLocalsFit : Type 0
FreshLocalsFit = (k : Key) (seat : ℕ) → BackendFits (made k seat)

-- what a seat is about to do with guards, in bins and with the queue is of one position
abbrev pub TasksAreOfOnePosition : Type 0
TasksAreOfOnePosition = (l : Local) → BackendFits l → SeatFits (guard_task_of l) (bin_task_of l) (queue_task_of l)

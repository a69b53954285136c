-- What the rows of all groups leave of a seat: where a whole has that, all of the next position is there.
use Rattle.std.specs.Prelude.{◌≡◌, ℕ, true}
use Rattle.pool_words.specs.declared.words.Key.{Key}
use Rattle.pool_words.specs.declared.actions.Seen.{Seen}
use Rattle.pool_words.specs.Actions.{word_seen}
use Rattle.office_laws.specs.Regions as offices
use Rattle.step_local.specs.declared.frames.Local.{Local}
use Rattle.step_local.specs.Course.{course}
use Rattle.step_local.specs.Learn.{learn}
use Rattle.step_runs.specs.Places.{has_word}
use Rattle.step_laws.specs.Tasks.{task_of}
use Rattle.step_tasks.specs.Mail.{mail_left}
use Rattle.step_tasks.specs.Objects.{task_left}
use Rattle.backend_tasks.specs.Bins.{bin_left}
use Rattle.guard_laws.specs.Blocks.{TaskFits}
use Rattle.backend_tasks.specs.Guards.{guard_left, guard_task_of}
use Rattle.backend_tasks.specs.Queue.{queue_left}
use Rattle.backend_tasks.specs.Fits.{FindsFit}
use Rattle.cache_tasks.specs.Cache.{cache_left}
use Rattle.cache_tasks.specs.Released.{HasRoom}
use Rattle.orphan_tasks.specs.Orphans.{orphan_left, spares_left}
use Rattle.heap_tasks.specs.Heaps.{kept_left, cached_left, last_left}
use Rattle.heap_tasks.specs.Notes.{notes_left}
use Rattle.hand_blocks.specs.Fits.{StepFits}
use Rattle.step_fits.specs.Positions.{BeginsNew}
use Rattle.pool_laws.specs.Wholes.{Whole, WholeGood}
use Rattle.seat_ties.specs.Ties.{SeatTied}
use Rattle.seat_ties.specs.Turns.{Here, DeskStarts, IsNoReset, StepLeaves, seen_in}

-- of each task what the local's step leaves, where its seat sees this
pub record TasksLeft (w : Whole) (seat : ℕ) (l : Local) (s : Seen) : Type 0 where
  pub guards : w.pool.tasks seat ≡ guard_left l (word_seen s)
  pub bins : w.bins seat ≡ bin_left l (word_seen s)
  pub queue : w.queue seat ≡ queue_left l s
  pub objects : w.pool.locals.tasks seat ≡ task_left l (word_seen s)
  pub mails : w.mails seat ≡ mail_left l (word_seen s)
  pub orphans : w.tasks seat ≡ orphan_left l (word_seen s)
  pub jobs : w.jobs seat ≡ cache_left l (word_seen s)
  pub desks : Here (w.desks seat) (task_of (learn l s).0) offices.Task.Away (DeskStarts (learn l s).0)

pub record HeapLeft (w : Whole) (seat : ℕ) (l : Local) (s : Seen) : Type 0 where
  pub kept : w.pool.kept seat ≡ kept_left l (word_seen s)
  pub cached : w.pool.cached seat ≡ cached_left l
  pub spares : w.spares seat ≡ spares_left l (word_seen s)
  pub last : w.pool.locals.lasts seat ≡ last_left l

pub record SeatLeft (w : Whole) (seat : ℕ) (l : Local) (s : Seen) : Type 0 where
  pub tasks : TasksLeft w seat l s
  pub heap : HeapLeft w seat l s
  pub notes : w.pool.locals.notes seat ≡ notes_left l (word_seen s)

-- what the words have to say, for a turn to keep what a local says by itself
pub record Suits (k : Key) (l : Local) (s : Seen) : Type 0 where
  pub new : BeginsNew k l
  pub step : StepFits l s
  pub finds : FindsFit l (word_seen s)
  pub room : HasRoom l
  -- what is won next is one block
  pub wins : TaskFits (guard_task_of (learn l s).0)

-- a turn at such positions is steps of the whole
abbrev pub Turned : (Local → Type 0) → Type 0
Turned IsThere = (k : Key) (w : Whole) (l : Local) → WholeGood k w → SeatTied k w l.seat l → IsNoReset l
    → has_word (course l) ≡ true → Suits k l (seen_in w l) → IsThere l → StepLeaves k w l

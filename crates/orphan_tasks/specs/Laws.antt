-- The laws of what each seat is about to do with orphans.
use Rattle.std.specs.Prelude.{◌≡◌, ◌⊎◌, ℕ, Bool, Option}
use Rattle.pool_types.specs.declared.values.Request.{Request}
use Rattle.pool_words.specs.declared.actions.Seen.{Seen}
use Rattle.pool_words.specs.declared.words.Key.{Key}
use Rattle.pool_words.specs.Actions.{word_seen}
use Rattle.heap_slabs.specs.Rolls.{Rolled}
use Rattle.reset_steps.specs.declared.strip.StripAt.{StripAt}
use Rattle.orphans.specs.declared.adopting.AdoptNext.{AdoptNext}
use Rattle.orphans.specs.declared.leaving.LeaveNext.{LeaveNext}
use Rattle.orphans.specs.Adopting.{adopt_taken}
use Rattle.word_laws.specs.Memory.{put}
use Rattle.orphan_laws.specs.Orphans.{Locals, Task}
use Rattle.orphan_laws.specs.Orphans.Task.{Away}
use Rattle.orphan_laws.specs.Steps.{left_as, adopted_as, rested_on, returned_as, spared_on, spares_back}
use Rattle.post_laws.specs.After.{task_taken}
use Rattle.step_local.specs.declared.frames.At.{At}
use Rattle.step_local.specs.declared.frames.Local.{Local}
use Rattle.step_local.specs.declared.frames.Reset.{Reset}
use Rattle.step_local.specs.declared.frames.ResetAt.{ResetAt}
use Rattle.step_local.specs.declared.frames.ResetStage.{ResetStage}
use Rattle.step_local.specs.declared.frames.Stage.{Stage}
use Rattle.step_local.specs.Course.{course}
use Rattle.step_local.specs.Frames.{made}
use Rattle.step_local.specs.Getting.{begun, reset_begun}
use Rattle.step_local.specs.Learn.{learn}
use Rattle.orphan_tasks.specs.Orphans.{orphan_task_of, spares_of, orphan_left, spares_left}
use Rattle.orphan_tasks.specs.Orphans.{left_task, adopted_task, adopted_spares, rested_task, returned_task}
use Rattle.orphan_tasks.specs.Orphans.{returned_spares, spared_task, spared_spares, back_task, back_spares}
use Rattle.orphan_tasks.specs.Starts.{OrphanFits, OrphanStarts, IsOrphanStart}
use Rattle.orphan_tasks.specs.Heaps.{HeapMoves}
use Rattle.orphan_tasks.specs.Steps.{OrphanStepAt}
use Rattle.orphan_tasks.specs.Ties.{Ties, EndsNone, StripTies}

-- a local goes on with what was left to do; where nothing was, it may start something
abbrev pub OrphanGoesOn : Local → Task → Type 0
OrphanGoesOn next Away = OrphanStarts next
OrphanGoesOn next task = orphan_task_of next ≡ task

pub record OrphanMoves (next : Local) (task : Task) (spares : Rolled ℕ) : Type 0 where
  pub goes_on : OrphanGoesOn next task
  pub fits : OrphanFits next
  pub spares' : spares_of next ≡ spares

abbrev pub TurnsMoveOrphanTasks : Type 0
TurnsMoveOrphanTasks = (l : Local) (s : Seen) → OrphanFits l
    → OrphanMoves (learn l s).0 (orphan_left l (word_seen s)) (spares_left l (word_seen s))

-- a call or a reset that begins may start something; one that is refused changes nothing
pub record OrphanBegins (l next : Local) : Type 0 where
  pub away : orphan_task_of l ≡ Away
  pub moves : OrphanMoves next Away (spares_of l)

pub record BeginsStartOrphans (l : Local) : Type 0 where
  pub begins : (request : Request) → OrphanBegins l (begun l request).0 ⊎ ((begun l request).0 ≡ l)
  pub resets : (reset : Reset) → OrphanBegins l (reset_begun l reset).0 ⊎ ((reset_begun l reset).0 ≡ l)

abbrev pub BeginsStartOrphanTasks : Type 0
BeginsStartOrphanTasks = (l : Local) → OrphanFits l → BeginsStartOrphans l

abbrev pub MadeLocalsFitOrphans : Type 0
MadeLocalsFitOrphans = (k : Key) (seat : ℕ) → OrphanFits (made k seat)

abbrev pub StartedOrphansAreStarts : Type 0
StartedOrphansAreStarts = (l : Local) → OrphanStarts l → OrphanFits l × IsOrphanStart (orphan_task_of l)

-- the rows leave these tasks and these spares to the seat that steps, and each other seat its own
pub record RowLeaves (seat : ℕ) (locals later : Locals) (task : Task) (spares : Rolled ℕ) : Type 0 where
  pub tasks' : later.tasks ≡ put locals.tasks seat task
  pub spares' : (other : ℕ) → later.spares other ≡ put locals.spares seat spares other

pub record RowsLeaveOrphans (seat : ℕ) (locals : Locals) : Type 0 where
  pub leaves : (slab : ℕ) (next : LeaveNext)
      → RowLeaves seat locals (left_as seat slab next locals) (left_task slab next) (locals.spares seat)
  pub adopts : (class : ℕ) (next : AdoptNext)
      → RowLeaves seat locals (adopted_as seat class next locals)
      (adopted_task class (locals.spares seat) next) (adopted_spares (locals.spares seat) next)
  pub rests : (class : ℕ) (enough : Bool) (rest : Option ℕ)
      → RowLeaves seat locals (rested_on seat class enough rest locals)
      (rested_task class enough rest) (locals.spares seat)
  pub returns : (class slab : ℕ) (next : LeaveNext)
      → RowLeaves seat locals (returned_as seat class slab next locals)
      (returned_task class slab (locals.spares seat) next) (returned_spares (locals.spares seat) next)
  pub spares : (class : ℕ) (rest : Option ℕ)
      → RowLeaves seat locals (spared_on seat class rest locals)
      (spared_task class (locals.spares seat) rest) (spared_spares (locals.spares seat) rest)
  pub backs : (class : ℕ) → RowLeaves seat locals (spares_back seat class locals)
      (back_task class (locals.spares seat)) (back_spares (locals.spares seat))
  pub takes : (class : ℕ) (first : Option ℕ)
      → task_taken class first ≡ adopted_task class (locals.spares seat) (adopt_taken first)

abbrev pub RowsLeaveOrphanTasks : Type 0
RowsLeaveOrphanTasks = (seat : ℕ) (locals : Locals) → RowsLeaveOrphans seat locals

abbrev pub TurnsMoveOrphanHeaps : Type 0
TurnsMoveOrphanHeaps = (l : Local) (s : Seen) → OrphanFits l → HeapMoves l l.at (word_seen s) (learn l s).0.heap

-- what a seat has to do with orphans, with mail and with objects ties, but where a reset ends a grant in an orphan
abbrev pub TasksTie : Type 0
TasksTie = (l : Local) → EndsNone l → Ties l

abbrev pub StrippedOrphansTieOtherwise : Type 0
StrippedOrphansTieOtherwise = (l : Local) (slab object mark : ℕ) (rest : Option ℕ)
    → l.at ≡ At.Reset (ResetAt.Strip slab (StripAt.End object mark))
    → l.call.stage ≡ Stage.Resetting (ResetStage.Orphans rest) → StripTies l slab object mark rest

-- the next step is the one that the rows of orphans make, or it writes none of their words
abbrev pub OrphanStepsAreTheRows : Type 0
OrphanStepsAreTheRows = (l : Local) → OrphanStepAt l l.at (course l)

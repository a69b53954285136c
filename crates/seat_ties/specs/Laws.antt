-- The laws of what ties a whole pool to its seats' locals.
use Rattle.std.specs.Prelude.{◌≡◌, ℕ, List, true, ⊤}
use Rattle.pool_words.specs.declared.words.Key.{Key}
use Rattle.pool_words.specs.declared.actions.Seen.{Seen}
use Rattle.backend_bins.specs.declared.scan.ScanAt.{ScanAt}
use Rattle.backend_bins.specs.declared.scan.ScanStep.{ScanStep}
use Rattle.guard_laws.specs.Blocks.{TaskFits}
use Rattle.office_laws.specs.Regions.{Task}
use Rattle.step_local.specs.declared.frames.At.{At}
use Rattle.step_local.specs.declared.frames.Local.{Local}
use Rattle.step_local.specs.Course.{course}
use Rattle.step_local.specs.Frames.{made}
use Rattle.step_local.specs.Learn.{learn}
use Rattle.step_runs.specs.Entries.{seen_by}
use Rattle.step_runs.specs.Places.{has_word}
use Rattle.step_laws.specs.Tasks.{task_of}
use Rattle.backend_tasks.specs.Bins.{bin_task_of}
use Rattle.backend_tasks.specs.Guards.{guard_task_of}
use Rattle.hand_blocks.specs.Hands.{hands_of}
use Rattle.step_fits.specs.Frames.{SeatFits}
use Rattle.pool_laws.specs.Named.{fresh_whole}
use Rattle.pool_laws.specs.Wholes.{Whole, WholeGood}
use Rattle.seat_ties.specs.Left.{SeatLeft, Suits}
use Rattle.seat_ties.specs.Says.{IsElsewhere, WordsSay}
use Rattle.seat_ties.specs.Ties.{HandsTied, SaysItself, SeatTied}
use Rattle.seat_ties.specs.Turns.{DeskStarts, SeatRun, StateHere, next_in}

-- each seat of a new pool is tied to a new local
abbrev pub FreshSeatsAreTied : Type 0
FreshSeatsAreTied = (k : Key) (seat : ℕ) → SeatFits k seat → SeatTied k (fresh_whole k) seat (made k seat)

-- runs of a seat one after the other are one
abbrev pub RunsGoOn : Type 0
RunsGoOn = (k : Key) (seat : ℕ) (w between later : Whole) → SeatRun k seat w between → SeatRun k seat between later
    → SeatRun k seat w later

-- a seat that has nothing to do at the office comes there by its lock
abbrev pub TurnsStartDesks : Type 0
TurnsStartDesks = (l : Local) (found : ℕ) → has_word (course l) ≡ true → task_of l ≡ Task.Away
    → DeskStarts (learn l (seen_by (course l) found)).0

-- a turn keeps what a local says by itself
abbrev pub TurnsKeepWhatIsSaid : Type 0
TurnsKeepWhatIsSaid = (k : Key) (seat : ℕ) (l : Local) (s : Seen) → SaysItself k seat l → Suits k l s
    → SaysItself k seat (learn l s).0

-- where a whole has what the rows of all groups leave, and in hand what the next position has, that position is there
abbrev pub SeatsLeftAreHere : Type 0
SeatsLeftAreHere = (k : Key) (later : Whole) (seat : ℕ) (l : Local) (s : Seen) → SaysItself k seat l → Suits k l s
    → SeatLeft later seat l s
    → HandsTied later.pool.blocks.place (later.drained seat) seat (hands_of (learn l s).0)
    → WordsSay later seat (learn l s).0 → StateHere k later seat (learn l s).0

-- where a job goes on that neither gets nor puts blocks, the words have nothing to say, and nothing is won
pub record SaysNothing (w : Whole) (seat : ℕ) (next : Local) : Type 0 where
  pub words : WordsSay w seat next
  pub wins : TaskFits (guard_task_of next)

abbrev pub NothingIsSaidElsewhere : Type 0
NothingIsSaidElsewhere = (w : Whole) (seat : ℕ) (l : Local) (s : Seen) → IsElsewhere l.at
    → SaysNothing w seat (learn l s).0

-- the lists are as they were, but where a scan takes a block out
abbrev pub LooksAt : (before after : ℕ → List ℕ) → ScanStep → Type 0
LooksAt before after (ScanStep.Out b at) = ⊤
LooksAt before after _ = after ≡ before

-- so where a scan's step leads to the block that it looks at is in the list of its bin
abbrev pub ScansSayOn : Type 0
ScansSayOn = (k : Key) (w later : Whole) (l : Local) (s : ScanAt) → WholeGood k w → w.bins l.seat ≡ bin_task_of l
    → l.at ≡ At.Scan s → WordsSay w l.seat l → LooksAt w.items later.items s.step
    → WordsSay later l.seat (next_in w l)

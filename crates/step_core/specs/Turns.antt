-- What a turn leaves.
use Rattle.std.specs.Prelude.{◌≡◌, ℕ, Bool, true, false, List, [], Option, Some, None, slice_get, slice_set, Result, Err}
use Rattle.part_model.specs.declared.journal.Journaled.{Journaled}
use Rattle.pool_types.specs.declared.values.InCall.{InCall}
use Rattle.pool_types.specs.declared.values.Region.{Region}
use Rattle.pool_types.specs.declared.values.Request.{Request}
use Rattle.pool_types.specs.declared.values.Turn.{Turn}
use Rattle.pool_words.specs.Actions.{finds}
use Rattle.pool_words.specs.declared.actions.Seen.{Seen}
use Rattle.step_depot.specs.Steps.{Stock, Steps}
use Rattle.step_local.specs.Course.{course}
use Rattle.step_local.specs.Learn.{learn}
use Rattle.step_local.specs.declared.frames.Local.{Local}
use Rattle.step_parts.specs.Journal.{entries_of, with_answer, looks_at_bin}
use Rattle.step_parts.specs.Moves.{Moving, moves_of}
use Rattle.step_parts.specs.Tallies.{totals_after}
use Rattle.step_parts.specs.declared.journal.StepName.{StepName}
use Rattle.step_core.specs.Machines.{Machine}
use Rattle.step_core.specs.Steps.{step_of, gives_at, name_of, name_at, begun_at, made_by, counted}
use Rattle.step_core.specs.declared.resets.Resetting.{Resetting}

-- these entries, and where that is asked the answer of a turn
abbrev pub entered : Bool → StepName → Turn → List Journaled → List Journaled
entered true name (Turn.Done answer) entries = with_answer name answer entries
entered _ name turn entries = entries

module _ {R : Type 0} where
  abbrev pub begun_by : Option Resetting → Machine R → ℕ → Request → Machine R × Result Unit InCall
  begun_by (Some part) m seat request = (m, Err (record { seat = seat }))
  begun_by None m seat request =
      (record m { locals = (begun_at m.locals seat request).0 }, (begun_at m.locals seat request).1)

  -- a call begins at a seat; none does while a reset is not done
  abbrev pub begun_in : Machine R → ℕ → Request → Machine R × Result Unit InCall
  begun_in m seat request = begun_by m.resetting m seat request

  -- what a step of a local moves that finds this number
  abbrev pub moves_in : Machine R → Local → ℕ → Moving
  moves_in m l found = moves_of m.stock.key m.stock.words m.stock.desk.records l found

  -- the number that the step of a local would find
  abbrev pub found_in : Machine R → Local → ℕ
  found_in m l = finds m.stock.key m.stock.words (course l)

  -- the machine after a step of a seat's local that found this and left these words and this office
  abbrev pub stepped : Machine R → ℕ → Local → Seen → Stock R → Machine R
  stepped m seat l seen stock = record m {
    stock = stock;
    locals = slice_set m.locals seat (learn l seen).0;
    entries = entries_of (name_of (step_of l) seat m.steps) (looks_at_bin l (found_in m l)) (moves_in m l (found_in m l));
    totals = totals_after m.totals (moves_in m l (found_in m l)).parts;
    made = made_by (step_of l) seen;
    steps = counted (course l) m.steps;
  }

  -- the machine after a turn that makes no step
  abbrev pub rested : Machine R → Machine R
  rested m = record m { entries = []; made = None }

  -- the answer of a turn is entered
  abbrev pub answered : StepName → Turn → Machine R → Machine R
  answered name (Turn.Done answer) m = record m { entries = with_answer name answer m.entries }
  answered name Turn.Stepped m = m
  answered name (Turn.Waits awaited) m = m
  answered name Turn.Idle m = m

module _ {R : Type 0} (out : R → List Region) (faults : R → ℕ) (got : R → ℕ → Option Region → R → Type 0)
    (passed : R → Region → Bool → R → Type 0) where
  -- a seat's local makes its step, and learns what that found
  pub record StepsOf (l : Local) (old : Machine R) (seat : ℕ) (turn : Turn) (new : Machine R) : Type 0 where
    pub seen : Seen
    pub step : Steps out faults got passed old.stock (course l) (gives_at l.at) seen new.stock
    pub turn_is : turn ≡ (learn l seen).1
    pub after : new ≡ stepped old seat l seen new.stock

  abbrev pub StepsBy : Option Local → Machine R → ℕ → Turn → Machine R → Type 0
  StepsBy None old seat turn new = (turn ≡ Turn.Idle) × (new ≡ rested old)
  StepsBy (Some l) old seat turn new = StepsOf l old seat turn new

  -- a seat makes its step; one that the pool has not makes none
  abbrev pub StepsAt : Machine R → ℕ → Turn → Machine R → Type 0
  StepsAt old seat turn new = StepsBy (slice_get old.locals seat) old seat turn new

  -- and its answer is entered
  pub record Answers (old : Machine R) (seat : ℕ) (turn : Turn) (new : Machine R) : Type 0 where
    pub middle : Machine R
    pub steps : StepsAt old seat turn middle
    pub after : new ≡ answered (name_at old.locals seat old.steps) turn middle

  -- a seat makes its step, and where that is asked its answer is entered
  abbrev pub StepsIn : Bool → Machine R → ℕ → Turn → Machine R → Type 0
  StepsIn true old seat turn new = Answers old seat turn new
  StepsIn false old seat turn new = StepsAt old seat turn new

  abbrev pub TurnsBy : Option Resetting → Machine R → ℕ → Turn → Machine R → Type 0
  TurnsBy (Some part) old seat turn new = (turn ≡ Turn.Idle) × (new ≡ rested old)
  TurnsBy None old seat turn new = Answers old seat turn new

  -- a turn of a seat; none makes a step while a reset is not done
  abbrev pub Turns : Machine R → ℕ → Turn → Machine R → Type 0
  Turns old seat turn new = TurnsBy old.resetting old seat turn new

-- Turns of a seat, to where a line stops.
use Rattle.std.specs.Prelude.{◌≡◌, ℕ, zero, suc, ◌+◌, ◌*◌, Bool, true, false, cond, Option, Some, None, bytes_eq, List}
use Rattle.pool_types.specs.Rows.{row_name}
use Rattle.pool_types.specs.Script.{Script, Gets, Puts}
use Rattle.pool_types.specs.declared.rows.Row.{Row}
use Rattle.pool_types.specs.declared.values.Region.{Region}
use Rattle.pool_types.specs.declared.values.Turn.{Turn}
use Rattle.pool_words.specs.declared.words.Key.{Key}
use Rattle.run_report.specs.declared.book.Book.{Book}
use Rattle.run_report.specs.Moves.{entered}
use Rattle.step_core.specs.Machines.{Machine}
use Rattle.step_core.specs.Turns.{Turns}
use Rattle.line_runs.specs.declared.turns.Stop.{Stop}
use Rattle.line_runs.specs.declared.turns.Until.{Until}

-- the regions that a scripted callback has out, and its faults
abbrev pub out_of : Script → List Region
out_of raw = raw.out

abbrev pub faults_of : Script → ℕ
faults_of raw = raw.faults

-- the step that was made is of this row, by its name
abbrev pub is_row : Row → Option Row → Bool
is_row row None = false
is_row row (Some made) = bytes_eq (row_name made) (row_name row)

-- the line stops where this was made
abbrev pub reaches : Until → Option Row → Bool
reaches (Until.Turns turns) made = false
reaches (Until.Made row) made = is_row row made
reaches Until.Answer made = false

-- why the line stops at a turn that made this, if it does
abbrev pub stop_of : Until → Turn → Option Row → Option Stop
stop_of until (Turn.Done answer) made = Some (Stop.Answered answer)
stop_of until (Turn.Waits awaited) made = Some (Stop.Waits awaited)
stop_of until Turn.Idle made = Some Stop.Idle
stop_of until Turn.Stepped made = cond (reaches until made) (Some Stop.Reached) None

-- the most turns that a line makes that asks for no number of them
unfoldable pub most_turns : Key → ℕ
most_turns k = 65536 * (k.span + 64)

-- how many turns the line makes at most
abbrev pub turns_of : Until → Key → ℕ
turns_of (Until.Turns turns) k = turns
turns_of (Until.Made row) k = most_turns k
turns_of Until.Answer k = most_turns k

-- a turn of a seat
abbrev pub TurnsTo : Machine Script → ℕ → Turn → Machine Script → Type 0
TurnsTo old seat turn new = Turns out_of faults_of Gets Puts old seat turn new

-- what comes after a turn: the end, where the line stops, else what is said of the later turns
abbrev pub Onward : Option Stop → (Machine Script → Book → Stop → Machine Script → Book → Type 0) →
    Machine Script → Book → Stop → Machine Script → Book → Type 0
Onward (Some why) Later old book stop new last = (stop ≡ why) × (new ≡ old) × (last ≡ book)
Onward None Later old book stop new last = Later old book stop new last

-- a turn, whose moves are written, and then what comes after it
pub record OneTurn (until : Until) (seat : ℕ)
    (Later : Machine Script → Book → Stop → Machine Script → Book → Type 0)
    (old : Machine Script) (book : Book) (stop : Stop) (new : Machine Script) (last : Book) : Type 0 where
  pub middle : Machine Script
  pub turn : Turn
  pub turns : TurnsTo old seat turn middle
  pub onward : Onward (stop_of until turn middle.made) Later middle (entered book middle.entries) stop new last

-- so many turns of a seat at most, each written as it comes, to the first at which the line stops
unfoldable pub TurnsOn : ℕ → Until → ℕ → Machine Script → Book → Stop → Machine Script → Book → Type 0
TurnsOn zero until seat old book stop new last = (stop ≡ Stop.Spent) × (new ≡ old) × (last ≡ book)
TurnsOn (suc turns) until seat old book stop new last =
    OneTurn until seat (TurnsOn turns until seat) old book stop new last

-- A line that resets a pool.
use Rattle.std.specs.Prelude.{◌≡◌, ℕ, zero, suc, ◌^◌, ◌-◌, Bool, true, false, Result, Ok, Err}
use Rattle.pool_types.specs.Script.{Script, Gets, Puts}
use Rattle.pool_types.specs.declared.values.InCall.{InCall}
use Rattle.report_text.specs.declared.entry.ReportEntry.TheVariants as entry
use Rattle.run_report.specs.declared.book.Book.{Book}
use Rattle.run_report.specs.Books.{noted}
use Rattle.run_report.specs.Moves.{entered}
use Rattle.step_core.specs.Machines.{Machine}
use Rattle.step_core.specs.Resets.{ResetTurns, reset_begun}
use Rattle.line_runs.specs.Pools.{Pool, with_machine}
use Rattle.line_runs.specs.Turning.{out_of, faults_of}

-- more turns than a reset has
unfoldable pub most_reset_turns : ℕ
most_reset_turns = 2 ^ 64 - 1

abbrev pub ResetOnward : Bool → (Machine Script → Book → Machine Script → Book → Type 0) →
    Machine Script → Book → Machine Script → Book → Type 0
ResetOnward true Later old book new last = (new ≡ old) × (last ≡ book)
ResetOnward false Later old book new last = Later old book new last

-- a turn of a reset, whose moves are written, and the end or what is said of the later turns
pub record OneResetTurn (Later : Machine Script → Book → Machine Script → Book → Type 0)
    (old : Machine Script) (book : Book) (new : Machine Script) (last : Book) : Type 0 where
  pub middle : Machine Script
  pub done : Bool
  pub turns : ResetTurns out_of faults_of Gets Puts old done middle
  pub onward : ResetOnward done Later middle (entered book middle.entries) new last

-- all turns of a reset that was begun, which are no more than so many, each written as it comes
unfoldable pub ResetsOn : ℕ → Machine Script → Book → Machine Script → Book → Type 0
ResetsOn zero old book new last = ⊥
ResetsOn (suc turns) old book new last = OneResetTurn (ResetsOn turns) old book new last

-- a reset that was begun goes on to its end
pub record ResetsWhole (line : ℕ) (begun : Machine Script) (old : Pool) (book : Book) (new : Pool) (last : Book)
    : Type 0 where
  pub middle : Machine Script
  pub written : Book
  pub turns : ResetsOn most_reset_turns begun book middle written
  pub pool : new ≡ with_machine old middle
  pub noted_is : last ≡ noted written (entry.Reset line)

abbrev pub ResetsBy : Machine Script × Result Unit InCall → ℕ → Pool → Book → Pool → Book → Type 0
ResetsBy (begun, Ok done) line old book new last = ResetsWhole line begun old book new last
ResetsBy (begun, Err refused) line old book new last =
    (new ≡ with_machine old begun) × (last ≡ noted book (entry.CallOpenOf line refused.seat))

-- a line that resets a pool: none begins where a seat is in a call
abbrev pub Resets : ℕ → Pool → Book → Pool → Book → Type 0
Resets line old book new last = ResetsBy (reset_begun old.machine) line old book new last

-- what is left, behind what is written, is all
use Rattle.std.proofs.Common.{◌≡◌, drop}
use Rattle.run_report.specs.Moves.{entries_noted}
use Rattle.run_report.proofs.book.Book.note_entries.Given as goal

abbrev pub invariant-loop-step : goal.invariant-loop-step
invariant-loop-step l =
    entries_noted l.self l.number (drop l.step-index l.steps) ≡ entries_noted l.fn.self l.number l.steps

-- what is left, behind what is written, is all
use Rattle.std.proofs.Common.{◌≡◌, drop}
use Rattle.run_report.specs.Moves.{parts_noted}
use Rattle.run_report.proofs.book.Book.note_parts.Given as goal

abbrev pub invariant-loop-part : goal.invariant-loop-part
invariant-loop-part l = parts_noted l.self l.number l.step (drop l.part-index l.step.parts.items)
    ≡ parts_noted l.fn.self l.number l.step l.step.parts.items

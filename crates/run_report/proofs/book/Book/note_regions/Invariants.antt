-- what is left, behind what is written, is all
use Rattle.std.proofs.Common.{◌≡◌, drop}
use Rattle.run_report.specs.Left.{regions_noted}
use Rattle.run_report.proofs.book.Book.note_regions.Given as goal

abbrev pub invariant-loop-one : goal.invariant-loop-one
invariant-loop-one l = regions_noted l.self l.pool l.ended (drop l.one-index l.records)
    ≡ regions_noted l.fn.self l.pool l.ended l.records

-- none so far has the number
use Rattle.std.proofs.Common.{◌≡◌, drop}
use Rattle.run_report.specs.Left.{has_number}
use Rattle.run_report.proofs.left.has_number.Given as goal

abbrev pub invariant-loop-one : goal.invariant-loop-one
invariant-loop-one l = has_number l.number (drop l.one-index l.records) ≡ has_number l.number l.records

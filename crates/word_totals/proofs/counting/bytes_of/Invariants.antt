-- What is left from here decides.
use Rattle.std.proofs.Common.{◌≡◌, drop}
use Rattle.word_totals.specs.Counting.{bytes_of}
use Rattle.word_totals.proofs.counting.bytes_of.Given as goal

abbrev pub invariant-loop-one : goal.invariant-loop-one
invariant-loop-one l = bytes_of l.records l.number ≡ bytes_of (drop l.one-index l.records) l.number

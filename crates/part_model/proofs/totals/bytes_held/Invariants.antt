use Rattle.std.proofs.Common.{◌≡◌, take}
use Rattle.part_model.specs.Stretches.{stretch_bytes}
use Rattle.part_model.proofs.totals.bytes_held.Given as goal

abbrev pub invariant-loop-stretch : goal.invariant-loop-stretch
invariant-loop-stretch l = l.bytes ≡ stretch_bytes (take l.stretch-index l.stretches)

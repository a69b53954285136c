use Rattle.std.proofs.Common.{◌≡◌, drop}
use Rattle.part_model.specs.Stretches.{holder_at}
use Rattle.part_model.proofs.stretches.holder_at.Given as goal

-- what was passed doesn't have the byte
abbrev pub invariant-loop-stretch : goal.invariant-loop-stretch
invariant-loop-stretch l = holder_at (drop l.stretch-index l.stretches) l.byte ≡ holder_at l.stretches l.byte

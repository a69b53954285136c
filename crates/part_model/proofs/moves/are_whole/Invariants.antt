use Rattle.std.proofs.Common.{ℕ, ◌<◌, get_or}
use Rattle.part_model.specs.declared.moves.Part.{Part}
use Rattle.part_model.specs.Holding.{IsWhole}
use Rattle.part_model.proofs.moves.are_whole.Given as goal

-- what was passed is whole
abbrev pub invariant-loop-part : goal.invariant-loop-part
invariant-loop-part l = (k : ℕ) (d : Part) → k < l.part-index → IsWhole (get_or l.parts k d).range

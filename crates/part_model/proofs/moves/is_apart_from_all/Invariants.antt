use Rattle.std.proofs.Common.{drop, ◌↔◌}
use Rattle.part_model.specs.Holding.{IsApartFromAll}
use Rattle.part_model.proofs.moves.is_apart_from_all.Given as goal

-- what was passed is apart, so it hangs on what is left
abbrev pub invariant-loop-part : goal.invariant-loop-part
invariant-loop-part l = IsApartFromAll l.range (drop l.part-index l.parts) ↔ IsApartFromAll l.range l.parts

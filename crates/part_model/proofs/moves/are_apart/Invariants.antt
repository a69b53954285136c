use Rattle.std.proofs.Common.{drop, ◌↔◌}
use Rattle.part_model.specs.Holding.{AreApart}
use Rattle.part_model.proofs.moves.are_apart.Given as goal

-- what was passed is apart, so it hangs on what is left
abbrev pub invariant-loop-index : goal.invariant-loop-index
invariant-loop-index l = AreApart (drop l.index l.parts) ↔ AreApart l.parts

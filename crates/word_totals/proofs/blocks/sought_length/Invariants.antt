-- What is left from here decides.
use Rattle.std.proofs.Common.{◌≡◌}
use Rattle.word_totals.specs.Blocks.{sought_length}
use Rattle.word_totals.proofs.blocks.sought_length.Given as goal

abbrev pub decreases-loop-left : goal.decreases-loop-left
decreases-loop-left g l = l.left

abbrev pub invariant-loop-left : goal.invariant-loop-left
invariant-loop-left g l =
    sought_length (g.P.AtRest.still l.pool) l.first l.seats 0 ≡
    sought_length (g.P.AtRest.still l.pool) l.first l.left l.seat

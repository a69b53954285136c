-- The best so far is the longest of the gaps that start below.
use Rattle.std.proofs.Common.{◌-◌}
use Rattle.regions.proofs.GapLemmas.{IsLongestBelow}
use Rattle.regions.proofs.gaps.longest_gap.Given as goal

abbrev pub invariant-loop-at : goal.invariant-loop-at
invariant-loop-at l = IsLongestBelow l.span l.records l.at l.best.start l.best.count

abbrev pub decreases-loop-at : goal.decreases-loop-at
decreases-loop-at l = l.span - l.at

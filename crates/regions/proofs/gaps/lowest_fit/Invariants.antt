-- No start below fits.
use Rattle.std.proofs.Common.{◌-◌, ◌<◌, ℕ}
use Rattle.regions.specs.Gaps.{IsFit}
use Rattle.regions.proofs.gaps.lowest_fit.Given as goal

abbrev pub invariant-loop-at : goal.invariant-loop-at
invariant-loop-at l = (other : ℕ) → other < l.at → IsFit l.span l.records l.parity l.count other → ⊥

abbrev pub decreases-loop-at : goal.decreases-loop-at
decreases-loop-at l = l.span - l.at

-- Each index before is free.
use Rattle.std.proofs.Common.{◌≡◌, ◌<◌, ◌≤◌, ℕ, false}
use Rattle.regions.specs.Gaps.{is_taken}
use Rattle.regions.proofs.gaps.first_taken.Given as goal

abbrev pub invariant-loop-index : goal.invariant-loop-index
invariant-loop-index l = (k : ℕ) → l.from ≤ k → k < l.index → is_taken l.records k ≡ false

-- the heaps that have no seat yet
use Rattle.std.proofs.Common.{length}
use Rattle.thread_bench.specs.Heaps.{AreHeapsAt}
use Rattle.thread_bench.proofs.cases.seats_of.Given as goal

abbrev pub invariant-loop-heap : goal.invariant-loop-heap
invariant-loop-heap g l = AreHeapsAt g.R.Raw.out g.R.Raw.faults g.R.Raw.got g.R.Raw.passed l.table l.heaps.items

abbrev pub decreases-loop-heap : goal.decreases-loop-heap
decreases-loop-heap g l = length l.heaps.items

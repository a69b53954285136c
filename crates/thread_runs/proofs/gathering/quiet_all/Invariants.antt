-- the pools that are left, and those that are quiet
use Rattle.std.proofs.Common.{length}
use Rattle.thread_runs.proofs.QuietLemmas.{AreLeft}
use Rattle.thread_runs.proofs.gathering.quiet_all.Given as goal

abbrev pub invariant-loop-column : goal.invariant-loop-column
invariant-loop-column g l = AreLeft g.R.Raw.out g.R.Raw.faults g.R.Raw.got g.R.Raw.passed l.fn.tables.items
    l.fn.columns.items l.tables.items l.rests.items l.columns.items l.all.items

abbrev pub decreases-loop-column : goal.decreases-loop-column
decreases-loop-column g l = length l.columns.items

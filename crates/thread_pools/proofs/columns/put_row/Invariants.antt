use Rattle.std.proofs.Common.{length}
use Rattle.thread_pools.proofs.RowLemmas.{Put}
use Rattle.thread_pools.proofs.columns.put_row.Given as goal

abbrev pub invariant-loop-heap : goal.invariant-loop-heap
invariant-loop-heap g l = Put l.fn.columns l.columns l.fn.row.items l.row.items

abbrev pub decreases-loop-heap : goal.decreases-loop-heap
decreases-loop-heap g l = length l.row.items

use Rattle.thread_pools.proofs.RowLemmas.{Taken}
use Rattle.thread_pools.proofs.columns.take_row.Given as goal

abbrev pub invariant-loop-pool : goal.invariant-loop-pool
invariant-loop-pool g l = Taken l.fn.columns l.columns l.row.items l.pool

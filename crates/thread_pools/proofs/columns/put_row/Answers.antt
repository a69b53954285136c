use Rattle.std.proofs.Common.{rules}
use Rattle.thread_pools.proofs.RowLemmas.{put_begins, put_at}
use Rattle.thread_pools.proofs.columns.put_row.Goals as goal

pub loop-heap-init : goal.loop-heap-init
loop-heap-init g c = put_begins c.args.columns.now c.args.row.items c.requires

pub loop-heap-preserved : goal.loop-heap-preserved
loop-heap-preserved g c = put_at c.args.columns.now c.loop-heap.columns c.args.row.items c.loop-heap.row.items
    c.pop.new.self.items c.index-columns-pool.result c.put.new.self c.in-Some.heap c.len-pool.result (search rules) c.loop-heap.invariant
    c.in-Some.ensures.items c.in_ok-put.ensures

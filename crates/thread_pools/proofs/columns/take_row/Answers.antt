use Rattle.std.proofs.Common.{rules, ◌+◌, sym, subst, arith}
use Rattle.std.specs.Prelude.{slice_set}
use Rattle.thread_pools.proofs.RowLemmas.{Taken, taken_begins, taken_more, taken_all}
use Rattle.thread_pools.proofs.columns.take_row.Goals as goal

pub loop-pool-init : goal.loop-pool-init
loop-pool-init g c = taken_begins _ _ (search rules)

pub loop-pool-preserved : goal.loop-pool-preserved
loop-pool-preserved g c =
    let low = c.loop-pool-test.true in
    let len = c.loop-pool.invariant.len in
    subst (λ z. Taken c.args.columns.now (slice_set c.loop-pool.columns c.loop-pool.pool c.take_last.new.self) z
    (c.loop-pool.pool + 1)) (sym c.in_ok-push.ensures.items)
    (taken_more c.args.columns.now c.loop-pool.columns c.loop-pool.row.items c.loop-pool.pool
    c.index-columns-pool.result c.take_last.new.self c.take_last.result (omega arith) c.loop-pool.invariant
    c.take_last.ensures)

pub returns-clause-takes : goal.returns-clause-takes
returns-clause-takes g c =
    let high = c.loop-pool-test.false in
    taken_all c.args.columns.now c.loop-pool.columns c.loop-pool.row.items c.loop-pool.pool (omega arith)
    c.loop-pool.invariant

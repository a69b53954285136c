use Rattle.std.proofs.Common.{◌≡◌, length, ap, arith}
use Rattle.line_runs.specs.Turning.{out_of, faults_of}
use Rattle.pool_types.specs.Script.{Gets, Puts}
use Rattle.thread_runs.specs.Traces.{threads_in}
use Rattle.thread_runs.proofs.MakeLemmas.{limits_seats, new_column}
use Rattle.thread_runs.proofs.making.allowed_pool.Goals as goal

pub returns-in-Ok-clause-heaps : goal.returns-in-Ok-clause-heaps
returns-in-Ok-clause-heaps c =
    let made = c.in-Ok.ensures in
    let limits = ap (λ l. l.seats) made.plan.1 in
    let asked = ap (λ l. l.seats) c.pool_limits-limits.ensures in
    let seats = limits_seats c.args.pool c.len.result c.options_of-options.result.now in
    let count : length c.in-Ok.heaps.items ≡ threads_in c.args.trace.now =
    let n = made.count in let m = c.len.ensures.value in omega arith in
    new_column out_of faults_of Gets Puts c.in-Ok.pool c.part-table.result.0 c.in-Ok.heaps.items
    (threads_in c.args.trace.now) c.part-table.ensures.table made.pool made.heaps count

use Rattle.trace_calls.proofs.EndLemmas.{pool_ended}
use Rattle.trace_calls.proofs.entries.add_pool_end.Goals as goal

pub returns : goal.returns
returns c =
    pool_ended c.add_leaks.result c.args.report.now c.add.new.self c.add_bins.new.report c.add_leaks.new.report c.args.pool c.args.totals c.args.bins.now c.args.leaks.now
    c.in_ok-add.ensures.added c.in_ok-add_bins.ensures c.add_leaks.ensures

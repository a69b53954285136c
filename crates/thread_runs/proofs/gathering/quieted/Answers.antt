use Rattle.std.proofs.Common.{subst}
use Rattle.std.specs.Prelude.{Some}
use Rattle.thread_runs.specs.Gathering.{IsColumn}
use Rattle.thread_runs.specs.Making.{RestIn}
use Rattle.thread_runs.proofs.QuietLemmas.{heaps_are, not_refused}
use Rattle.thread_runs.proofs.gathering.quieted.Goals as goal

pub quiet-requires-clause-heaps : goal.quiet-requires-clause-heaps
quiet-requires-clause-heaps g c =
    let rest = subst (λ r. RestIn (Some c.in_ok-table.table) r) c.in_ok-rest.was
    (subst (λ t. RestIn t c.args.rest) c.in_ok-table.was c.requires.rest) in
    let column = subst (λ t. IsColumn g.R.Raw.out g.R.Raw.faults g.R.Raw.got g.R.Raw.passed t c.args.heaps.items)
    c.in_ok-table.was c.requires.heaps in
    heaps_are g.R.Raw.out g.R.Raw.faults g.R.Raw.got g.R.Raw.passed c.in_ok-table.table c.unite.result
    c.args.heaps.items
    c.unite.ensures.table (c.unite.ensures.pool rest) column

pub unreachable-requires : goal.unreachable-requires
unreachable-requires g c =
    let rest = subst (λ r. RestIn (Some c.in_ok-table.table) r) c.in_ok-rest.was
    (subst (λ t. RestIn t c.args.rest) c.in_ok-table.was c.requires.rest) in
    let column = subst (λ t. IsColumn g.R.Raw.out g.R.Raw.faults g.R.Raw.got g.R.Raw.passed t c.args.heaps.items)
    c.in_ok-table.was c.requires.heaps in
    not_refused g.R.Raw.out g.R.Raw.faults g.R.Raw.got g.R.Raw.passed c.in_ok-table.table c.unite.result
    c.args.heaps.items
    c.in-Err._refused.cause c.unite.ensures.table (c.unite.ensures.pool rest) column c.in-Err.ensures.cause

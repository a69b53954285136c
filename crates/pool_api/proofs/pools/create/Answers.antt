use Rattle.std.proofs.Common.{rules}
use Rattle.pool_api.proofs.Calling.{all_fresh, ok_map}
use Rattle.pool_api.proofs.pools.create.Goals as goal

pub returns-clause-count : goal.returns-clause-count
returns-clause-count g c = ok_map c.make.result (λ made has. has.count) c.make.ensures.seats

pub returns-clause-heaps : goal.returns-clause-heaps
returns-clause-heaps g c =
    ok_map c.make.result (λ made has. all_fresh g.R.Raw.out g.R.Raw.faults g.R.Raw.got g.R.Raw.passed made.0 made.1.items has)
    c.make.ensures.seats

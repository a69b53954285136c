use Rattle.std.proofs.Common.{subst}
use Rattle.pool_types.specs.declared.values.Request.{Request}
use Rattle.plain_lists.specs.Whole.{whole}
use Rattle.plain_pool.specs.Pool.{Stands}
use Rattle.poolreplay.proofs.run.call_pool.Goals as goal

pub returns-clause-pool : goal.returns-clause-pool
returns-clause-pool c = λ lists stands. subst (λ (request : Request). Stands c.call-answer.new.self (whole lists request).lists) c.request_of.ensures (c.call-answer.ensures.lists lists stands)

use Rattle.std.proofs.Common.{sym, subst}
use Rattle.pool_types.specs.declared.values.Request.{Request}
use Rattle.plain_lists.specs.Whole.{whole}
use Rattle.plain_lists.proofs.Calls.{whole_good}
use Rattle.plain_pool.specs.Pool.{Has}
use Rattle.plain_pool.proofs.arrays.PoolArrays.call.Goals as goal

pub returns-in-Malloc-clause-lists : goal.returns-in-Malloc-clause-lists
returns-in-Malloc-clause-lists c lists stands = record {
  good = whole_good lists c.args.request stands.good c.requires.served;
  arrays = subst (λ (r : Request). Has c.malloc.new.self (whole lists r).lists) (sym c.in-Malloc.is) (c.malloc.ensures.lists lists stands);
}

pub returns-in-Free-clause-lists : goal.returns-in-Free-clause-lists
returns-in-Free-clause-lists c lists stands = record {
  good = whole_good lists c.args.request stands.good c.requires.served;
  arrays = subst (λ (r : Request). Has c.free.new.self (whole lists r).lists) (sym c.in-Free.is) (c.free.ensures.lists lists stands);
}

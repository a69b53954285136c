use Rattle.std.proofs.Common.{arith}
use Rattle.plain_pool.proofs.SlabLemmas.{offset_below}
use Rattle.plain_pool.proofs.slabs.unit_of.Goals as goal

pub returns-clause-below : goal.returns-clause-below
returns-clause-below c = let w = offset_below c.args.class c.args.object c.requires.object in let e = c.object_offset.ensures.exact in let r = c.requires.room in omega (arith, w, e, r)

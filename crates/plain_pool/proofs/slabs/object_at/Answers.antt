use Rattle.std.proofs.Common.{ap, ◌∙◌, sym, Some}
use Rattle.plain_pool.proofs.SlabLemmas.{object_at_is}
use Rattle.plain_pool.proofs.slabs.object_at.Goals as goal

pub overflow_sub-result : goal.overflow_sub-result
overflow_sub-result c = let (object, is) = c.requires in (object_at_is c.args.class c.args.within object is).below

pub overflow_sub-result-2 : goal.overflow_sub-result-2
overflow_sub-result-2 c = let (object, is) = c.requires in rw c.size.ensures.exact (object_at_is c.args.class c.args.within object is).some

pub returns : goal.returns
returns c = let (object, is) = c.requires in rw c.size.ensures.exact (ap Some (object_at_is c.args.class c.args.within object is).answer ∙ sym is)

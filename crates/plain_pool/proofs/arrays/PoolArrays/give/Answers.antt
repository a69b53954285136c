use Rattle.std.proofs.Common.{◌<◌, sym, subst}
use Rattle.size_classes.specs.Classes.{class_objects}
use Rattle.plain_pool.specs.declared.slabs.Given.{Given}
use Rattle.plain_pool.proofs.SlabCalls.{given_change}
use Rattle.plain_pool.proofs.arrays.PoolArrays.give.Goals as goal

pub got_object-requires-clause-object : goal.got_object-requires-clause-object
got_object-requires-clause-object c = let (lists, slab, has, kept, is, free, few) = c.requires in
    subst (λ (g : Given). g.object < class_objects g.class) (sym (c.give-given.ensures.given lists.slabs slab has.slabs kept is free)) (given_change slab 0 (kept.each slab is.member) free).exists

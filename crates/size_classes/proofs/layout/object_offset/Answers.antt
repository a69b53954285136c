-- Each goal is about the bytes of the object and those before it, which the lemmas bound.
use Rattle.std.proofs.Common.{arith}
use Rattle.std.proofs.lemmas.Grind.{common_steps}
use Rattle.size_classes.proofs.Places.{objects-room, class_objects-below, objects_lie_in_slab, object_offset-sized, object_offset-eights, object_offset-sixteens}
use Rattle.size_classes.proofs.layout.object_offset.Goals as goal

pub overflow_add-result : goal.overflow_add-result
overflow_add-result c = grind (arith, common_steps, class_objects-below c.args.class)

pub overflow_mul-result : goal.overflow_mul-result
overflow_mul-result c = rw c.size.ensures.exact (grind (arith, common_steps, objects-room c.args.class c.args.object c.requires))

pub overflow_sub-result : goal.overflow_sub-result
overflow_sub-result c = rw c.size.ensures.exact (omega (arith, objects-room c.args.class c.args.object c.requires))

pub returns-clause-exact : goal.returns-clause-exact
returns-clause-exact c = object_offset-sized c.args.class c.args.object c.size.result c.size.ensures.exact

pub returns-clause-behind_head : goal.returns-clause-behind_head
returns-clause-behind_head c = rw (object_offset-sized c.args.class c.args.object c.size.result c.size.ensures.exact) (objects_lie_in_slab c.args.class c.args.object c.requires).behind_head

pub returns-clause-before_end : goal.returns-clause-before_end
returns-clause-before_end c = rw (object_offset-sized c.args.class c.args.object c.size.result c.size.ensures.exact) (objects_lie_in_slab c.args.class c.args.object c.requires).before_end

pub returns-clause-eights : goal.returns-clause-eights
returns-clause-eights c = rw (object_offset-sized c.args.class c.args.object c.size.result c.size.ensures.exact) (object_offset-eights c.args.class c.args.object)

pub returns-clause-sixteens : goal.returns-clause-sixteens
returns-clause-sixteens c above = rw (object_offset-sized c.args.class c.args.object c.size.result c.size.ensures.exact) (object_offset-sixteens c.args.class c.args.object above)

use Rattle.std.proofs.Common.{◌+◌, ◌-◌, ◌*◌, ◌/◌, ◌^◌, arith, sym, subst}
use Rattle.size_classes.specs.Classes.{IsFirstClass}
use Rattle.size_classes.proofs.Positions.{order_from, at_order}
use Rattle.size_classes.proofs.quarters_position.Goals as goal

pub overflow_sub-quarters-2 : goal.overflow_sub-quarters-2
overflow_sub-quarters-2 c = omega (arith, order_from c.args.size c.ilog2-order.result c.requires.above c.ilog2-order.ensures.next_power_gt)

pub overflow_sub-result : goal.overflow_sub-result
overflow_sub-result c = omega (arith, order_from c.args.size c.ilog2-order.result c.requires.above c.ilog2-order.ensures.next_power_gt)

-- the position that the bits give is the class's
pub returns : goal.returns
returns c =
    subst (λ order. IsFirstClass c.args.size (4 * order + (c.args.size - 1) / 2 ^ (c.ilog2-order.result - 2) - 23)) (sym c.from.ensures)
    (at_order c.args.size c.ilog2-order.result c.requires.above c.requires.most c.ilog2-order.ensures.power_le c.ilog2-order.ensures.next_power_gt)

pub overflow_cast-result : goal.overflow_cast-result
overflow_cast-result c = let exists = (returns c).exists in omega arith

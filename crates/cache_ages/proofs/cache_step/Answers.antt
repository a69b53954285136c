use Rattle.std.proofs.Common.{refl}
use Rattle.cache_ages.proofs.StepLemmas.{regular_order, soft_order}
use Rattle.cache_ages.proofs.cache_step.Goals as goal

pub returns-in-Regular-clause-order : goal.returns-in-Regular-clause-order
returns-in-Regular-clause-order c =
    rw (c.regular.ensures, c.in-Regular.is)
    (regular_order c.args.numbers.now c.args.time c.args.numbers.now.ages.items refl)

pub returns-in-Soft-clause-order : goal.returns-in-Soft-clause-order
returns-in-Soft-clause-order c =
    rw (c.soft.ensures, c.in-Soft.is)
    (soft_order c.args.numbers.now c.args.time c.args.numbers.now.ages.items refl)

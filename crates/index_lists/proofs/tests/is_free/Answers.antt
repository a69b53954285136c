-- What stands in no list up to the last stands in none.
use Rattle.std.proofs.Common.{arith}
use Rattle.index_lists.proofs.Listed.{none_from_each}
use Rattle.index_lists.proofs.tests.is_free.Goals as goal

pub returns : goal.returns
returns c _ = none_from_each c.args.lists.now c.args.index (λ k l. c.loop-list.invariant k (omega arith))

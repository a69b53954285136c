-- Three arrays of no links are empty lists.
use Rattle.std.proofs.Common.{arith, rules}
use Rattle.index_lists.specs.Links.{AreLinked}
use Rattle.index_lists.specs.Lists.{empty_lists}
use Rattle.index_lists.proofs.Fronts.{AreLinked-empty}
use Rattle.index_lists.proofs.Walks.{walked_is, linked_as_seen}
use Rattle.index_lists.proofs.IndexLists.new.Goals as goal

are_linked : (c : goal.In_ok-vec-3)
    → AreLinked c.in_ok-vec.field-0.items c.in_ok-vec-2.field-0.items c.in_ok-vec-3.field-0.items (empty_lists c.args.lists c.args.indices)
are_linked c =
    rw (
      c.in_ok-vec.ensures.items_if_clones_equal (λ y h. search rules),
      c.in_ok-vec-2.ensures.items_if_clones_equal (λ y h. search rules),
      c.in_ok-vec-3.ensures.items_if_clones_equal (λ y h. search rules),
    )
    (AreLinked-empty c.args.lists c.args.indices (omega arith))

pub invariant_of-result : goal.invariant_of-result
invariant_of-result c = linked_as_seen _ _ _ _ (are_linked c)

pub returns : goal.returns
returns c = walked_is _ _ _ _ (are_linked c)

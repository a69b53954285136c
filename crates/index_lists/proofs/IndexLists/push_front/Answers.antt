-- The index becomes the first: the arrays link the changed lists.
use Rattle.std.proofs.Common.{◌++◌, ap, arith, drop, length, length-set, None, slice_set, Some, take, subst, sym}
use Rattle.index_lists.specs.Lists.{IsIn, with_first}
use Rattle.index_lists.specs.Links.{AreLinked}
use Rattle.index_lists.proofs.Fronts.{AreLinked-with_first}
use Rattle.index_lists.proofs.Listed.{below_if_in, first_member, IsIn-with_first}
use Rattle.index_lists.proofs.Loads.{linked_at, head_is, at_first, written}
use Rattle.index_lists.proofs.Walks.{walked_is, linked_as_seen}
use Rattle.index_lists.proofs.IndexLists.push_front.Goals as goal

pub set_link-requires : goal.set_link-requires
set_link-requires c =
    let are = linked_at _ _ _ _ c.self.view_is c.self.invariant in
    let long = ap length c.as_mut_slice.ensures.value in
    below_if_in c.args.self.now are.apart c.args.list c.index-head.result.now
    (first_member c.args.self.now c.args.list c.index-head.result.now
    (at_first _ _ _ _ are c.args.list c.index-head.result.now c.requires.list c.index-head.ensures))
    _ (omega (arith, are.before_long, length-set c.self.inside.before.items c.args.index None))

are_linked : (c : goal.After-self-4-1)
    → AreLinked (slice_set c.self.inside.heads.items c.args.list (Some c.args.index))
    (slice_set c.self.inside.after.items c.args.index c.index-head.result.now)
    (take c.self.inside.before.len (c.set_link.new.links ++ drop (length c.set_link.new.links) (slice_set c.self.inside.before.items c.args.index None)))
    (with_first c.args.self.now c.args.list c.args.index)
are_linked c =
    let are = linked_at _ _ _ _ c.self.view_is c.self.invariant in
    let head = head_is _ _ _ _ are c.args.list c.index-head.result.now c.requires.list c.index-head.ensures in
    rw (
      written c.self.inside.before.len c.set_link.new.links _ (omega (arith, c.set_link.auto.links, c.as_mut_slice.ensures.len)),
      c.set_link.ensures,
      c.as_mut_slice.ensures.value,
      head,
    )
    (AreLinked-with_first _ _ _ c.args.self.now c.args.list c.args.index are c.requires.list c.requires.index c.requires.free)

pub invariant_of-self : goal.invariant_of-self
invariant_of-self c = linked_as_seen _ _ _ _ (are_linked c)

pub returns-clause-first : goal.returns-clause-first
returns-clause-first c = walked_is _ _ _ _ (are_linked c)

pub returns-clause-member : goal.returns-clause-member
returns-clause-member c =
    subst (λ all. IsIn all c.args.list c.args.index) (sym (walked_is _ _ _ _ (are_linked c)))
    (IsIn-with_first c.args.self.now c.args.list c.args.index c.requires.list)

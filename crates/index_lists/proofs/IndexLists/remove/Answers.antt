-- The index leaves: the arrays link the changed lists.
use Rattle.std.proofs.Common.{◌++◌, ap, arith, drop, length, slice_set, take, subst, sym}
use Rattle.index_lists.specs.Lists.{IsInNone, without}
use Rattle.index_lists.specs.Links.{AreLinked}
use Rattle.index_lists.proofs.Leaves.{headed-none, headed-some, AreLinked-without}
use Rattle.index_lists.proofs.Listed.{below_in, below_if_in, IsInNone-without}
use Rattle.index_lists.proofs.Loads.{linked_at, following_member, previous_member, written}
use Rattle.index_lists.proofs.Walks.{walked_is, linked_as_seen}
use Rattle.index_lists.proofs.IndexLists.remove.Goals as goal

pub index-next-requires : goal.index-next-requires
index-next-requires c =
    let are = linked_at _ _ _ _ c.self.view_is c.self.invariant in
    omega (arith, below_in c.args.self.now are.apart c.args.list c.args.index c.requires, are.after_long)

pub index-requires : goal.index-requires
index-requires c =
    let are = linked_at _ _ _ _ c.self.view_is c.self.invariant in
    omega (arith, below_in c.args.self.now are.apart c.args.list c.args.index c.requires, are.before_long)

pub set_link-requires : goal.set_link-requires
set_link-requires c =
    let are = linked_at _ _ _ _ c.self.view_is c.self.invariant in
    let long = ap length c.as_mut_slice.ensures.value in
    below_if_in c.args.self.now are.apart c.args.list c.index.result.now
    (previous_member _ _ _ _ are c.args.list c.args.index c.requires c.index.result.now c.index.ensures)
    _ (omega (arith, are.after_long))

pub set_link-requires-2 : goal.set_link-requires-2
set_link-requires-2 c =
    let are = linked_at _ _ _ _ c.self.view_is c.self.invariant in
    let long = ap length c.as_mut_slice-2.ensures.value in
    below_if_in c.args.self.now are.apart c.args.list c.index-next.result.now
    (following_member _ _ _ _ are c.args.list c.args.index c.requires c.index-next.result.now c.index-next.ensures)
    _ (omega (arith, are.before_long))

then_linked : (c : goal.After-self-then-is_none-1)
    → AreLinked (slice_set c.self.inside.heads.items c.args.list c.index-next.result.now)
    (take c.self.inside.after.len (c.set_link.new.links ++ drop (length c.set_link.new.links) c.self.inside.after.items))
    (take c.self.inside.before.len (c.set_link-2.new.links ++ drop (length c.set_link-2.new.links) c.self.inside.before.items))
    (without c.args.self.now c.args.list c.args.index)
then_linked c =
    let are = linked_at _ _ _ _ c.self.view_is c.self.invariant in
    let left = AreLinked-without _ _ _ c.args.self.now c.args.list c.args.index are c.requires
    c.index-next.result.now c.index.result.now c.index-next.ensures c.index.ensures in
    rw (
      written c.self.inside.after.len c.set_link.new.links _ (omega (arith, c.set_link.auto.links, c.as_mut_slice.ensures.len)),
      written c.self.inside.before.len c.set_link-2.new.links _ (omega (arith, c.set_link-2.auto.links, c.as_mut_slice-2.ensures.len)),
      c.set_link.ensures,
      c.set_link-2.ensures,
      c.as_mut_slice.ensures.value,
      c.as_mut_slice-2.ensures.value,
    )
    (rw (headed-none c.self.inside.heads.items c.args.list c.index.result.now c.index-next.result.now c.if-is_none.ensures) at left)

else_linked : (c : goal.Else-is_none)
    → AreLinked c.self.inside.heads.items
    (take c.self.inside.after.len (c.set_link.new.links ++ drop (length c.set_link.new.links) c.self.inside.after.items))
    (take c.self.inside.before.len (c.set_link-2.new.links ++ drop (length c.set_link-2.new.links) c.self.inside.before.items))
    (without c.args.self.now c.args.list c.args.index)
else_linked c =
    let are = linked_at _ _ _ _ c.self.view_is c.self.invariant in
    let left = AreLinked-without _ _ _ c.args.self.now c.args.list c.args.index are c.requires
    c.index-next.result.now c.index.result.now c.index-next.ensures c.index.ensures in
    rw (
      written c.self.inside.after.len c.set_link.new.links _ (omega (arith, c.set_link.auto.links, c.as_mut_slice.ensures.len)),
      written c.self.inside.before.len c.set_link-2.new.links _ (omega (arith, c.set_link-2.auto.links, c.as_mut_slice-2.ensures.len)),
      c.set_link.ensures,
      c.set_link-2.ensures,
      c.as_mut_slice.ensures.value,
      c.as_mut_slice-2.ensures.value,
    )
    (rw (headed-some c.self.inside.heads.items c.args.list c.index.result.now c.index-next.result.now c.if-is_none.ensures) at left)

pub invariant_of-self : goal.invariant_of-self
invariant_of-self c = linked_as_seen _ _ _ _ (then_linked c)

pub invariant_of-self-else-is_none : goal.invariant_of-self-else-is_none
invariant_of-self-else-is_none c = linked_as_seen _ _ _ _ (else_linked c)

pub returns-then-is_none-clause-gone : goal.returns-then-is_none-clause-gone
returns-then-is_none-clause-gone c = walked_is _ _ _ _ (then_linked c)

pub returns-then-is_none-clause-free : goal.returns-then-is_none-clause-free
returns-then-is_none-clause-free c =
    let are = linked_at _ _ _ _ c.self.view_is c.self.invariant in
    subst (λ all. IsInNone all c.args.index) (sym (walked_is _ _ _ _ (then_linked c)))
    (IsInNone-without c.args.self.now c.args.list c.args.index are.apart c.requires)

pub returns-else-is_none-clause-gone : goal.returns-else-is_none-clause-gone
returns-else-is_none-clause-gone c = walked_is _ _ _ _ (else_linked c)

pub returns-else-is_none-clause-free : goal.returns-else-is_none-clause-free
returns-else-is_none-clause-free c =
    let are = linked_at _ _ _ _ c.self.view_is c.self.invariant in
    subst (λ all. IsInNone all c.args.index) (sym (walked_is _ _ _ _ (else_linked c)))
    (IsInNone-without c.args.self.now c.args.list c.args.index are.apart c.requires)

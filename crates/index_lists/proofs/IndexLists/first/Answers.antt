-- The head of a list is its first member.
use Rattle.std.proofs.Common.{◌∙◌, refl}
use Rattle.index_lists.proofs.Listed.{first_member, first_place, below_if_in}
use Rattle.index_lists.proofs.Loads.{linked_at, at_first}
use Rattle.index_lists.proofs.IndexLists.first.Goals as goal

exact : goal.returns-clause-exact
exact c =
    at_first _ _ _ _ (linked_at _ _ _ _ c.self.view_is c.self.invariant) c.args.list c.index.result.now c.requires c.index.ensures

pub returns-clause-exact : goal.returns-clause-exact
returns-clause-exact c = exact c

pub returns-clause-place : goal.returns-clause-place
returns-clause-place c = exact c ∙ first_place _

pub returns-clause-member : goal.returns-clause-member
returns-clause-member c = first_member c.args.self.now c.args.list c.index.result.now (exact c)

pub returns-clause-below : goal.returns-clause-below
returns-clause-below c =
    let are = linked_at _ _ _ _ c.self.view_is c.self.invariant in
    below_if_in c.args.self.now are.apart c.args.list c.index.result.now (first_member c.args.self.now c.args.list c.index.result.now (exact c)) _ refl

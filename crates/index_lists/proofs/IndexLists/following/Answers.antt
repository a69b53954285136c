-- The link at a member leads to the next one.
use Rattle.std.proofs.Common.{sym, ap, add-one, arith, refl, ◌∙◌, slice_get}
use Rattle.index_lists.proofs.Listed.{at_place, in_one, below_if_in}
use Rattle.index_lists.proofs.Loads.{linked_at, at_following, following_member}
use Rattle.index_lists.proofs.IndexLists.following.Goals as goal

pub index-requires : goal.index-requires
index-requires c =
    let are = linked_at _ _ _ _ c.self.view_is c.self.invariant in
    omega (arith, are.apart.below c.args.index c.requires, are.after_long)

exact : goal.returns-clause-exact
exact c =
    let are = linked_at _ _ _ _ c.self.view_is c.self.invariant in
    at_following _ _ _ _ are c.args.index c.index.result.now (are.apart.below c.args.index c.requires) c.index.ensures

member : goal.returns-clause-member
member c list l =
    following_member _ _ _ _ (linked_at _ _ _ _ c.self.view_is c.self.invariant) list c.args.index l c.index.result.now c.index.ensures

pub returns-clause-exact : goal.returns-clause-exact
returns-clause-exact c = exact c

pub returns-clause-place : goal.returns-clause-place
returns-clause-place c list place e =
    let s = at_place _ place c.args.index e in
    exact c list s.0 s.1 s.2 ∙ s.3 ∙ ap (slice_get _) (sym (add-one place))

pub returns-clause-member : goal.returns-clause-member
returns-clause-member c = member c

pub returns-clause-below : goal.returns-clause-below
returns-clause-below c =
    let are = linked_at _ _ _ _ c.self.view_is c.self.invariant in
    let l = in_one c.args.self.now c.args.index c.requires in
    below_if_in c.args.self.now are.apart l.0 c.index.result.now (member c l.0 l.1) _ refl

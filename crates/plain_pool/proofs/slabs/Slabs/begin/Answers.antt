use Rattle.std.proofs.Common.{◌<◌, ◌*◌, set, Some, sym, subst, ap, ◌∙◌, ◌∷◌}
use Rattle.index_lists.specs.Lists.{with_first}
use Rattle.plain_lists.specs.Lists.{begun}
use Rattle.plain_pool.specs.Slabs.{SlabsFit}
use Rattle.plain_pool.proofs.SlabCalls.{begin_fit, begun_is_free}
use Rattle.plain_pool.proofs.slabs.Slabs.begin.Goals as goal

pub push_front-requires-clause-free : goal.push_front-requires-clause-free
push_front-requires-clause-free c = let (slabs, fit, none, placed) = c.requires.slabs in
    begun_is_free c.args.self.now.rooms.items c.args.self.now.classes c.args.self.now.marks.items slabs c.args.room fit none placed

pub returns : goal.returns
returns c slabs fit none placed =
    subst (λ classes. SlabsFit (set c.args.self.now.rooms.items c.args.room (Some c.begun.result)) classes c.args.self.now.marks.items (begun (2 * c.args.room) c.args.class ∷ slabs))
    (sym (c.push_front.ensures.first ∙ ap (λ class. with_first c.args.self.now.classes class c.args.room) (c.from.ensures ∙ c.index.ensures.exact)))
    (begin_fit c.args.self.now.rooms.items c.args.self.now.classes c.args.self.now.marks.items slabs c.args.room c.args.class c.begun.result fit none c.requires.room (subst (λ n. n < 26) c.index.ensures.exact c.index.ensures.below) c.begun.ensures.exact)

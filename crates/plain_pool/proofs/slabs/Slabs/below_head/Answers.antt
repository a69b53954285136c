use Rattle.std.proofs.Common.{◌<◌, ◌*◌, sym, subst, ap, ◌∙◌}
use Rattle.size_classes.specs.Classes.{class_objects}
use Rattle.slab_core.specs.declared.SlabRec.{SlabRec}
use Rattle.plain_pool.specs.Slabs.{unit_at}
use Rattle.std.specs.Prelude.{slice_index_or}
use Rattle.plain_pool.specs.declared.marks.Mark.TheVariants.{Blank}
use Rattle.plain_pool.specs.Marks.{link_in}
use Rattle.plain_pool.proofs.SlabLemmas.{private_below}
use Rattle.plain_pool.proofs.SlabCalls.{first_private, second_link, read_mark}
use Rattle.plain_pool.proofs.slabs.Slabs.below_head.Goals as goal

pub unit_of-requires-clause-object : goal.unit_of-requires-clause-object
unit_of-requires-clause-object c = let (slabs, own, fit, kept, is, same) = c.requires in
    subst (λ (r : SlabRec). c.in_ok-head.head < class_objects r.class) (sym same)
    (private_below own (kept.each own is.member) c.in_ok-head.head (first_private own.private c.in_ok-head.head (sym (ap (λ (r : SlabRec). r.head) same) ∙ c.in_ok-head.was)))

pub returns : goal.returns
returns c slabs own fit kept is same =
    c.link.ensures ∙ ap link_in (read_mark c.args.self.now.marks.items c.unit_of.result c.index.result.now fit.marks_long c.unit_of.ensures.below c.index.ensures
    ∙ ap (λ u. slice_index_or c.args.self.now.marks.items u Blank) (c.unit_of.ensures.exact ∙ ap (λ (r : SlabRec). unit_at (2 * c.args.room) r.class c.in_ok-head.head) same ∙ ap (λ n. unit_at n own.class c.in_ok-head.head) (sym is.at_room)))
    ∙ second_link c.args.self.now.marks.items own.index own.class own.private c.in_ok-head.head (fit.links own is.member) (sym (ap (λ (r : SlabRec). r.head) same) ∙ c.in_ok-head.was)

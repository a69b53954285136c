use Rattle.std.proofs.Common.{None, set, sym, subst, ap, ◌∙◌}
use Rattle.slab_core.specs.declared.SlabRec.{SlabRec}
use Rattle.index_lists.specs.Lists.{without as left_out, IsIn as IsListed}
use Rattle.plain_lists.specs.Lists.{without}
use Rattle.plain_lists.proofs.Rooms.{Some-same}
use Rattle.plain_pool.specs.Slabs.{record_of, SlabsFit}
use Rattle.plain_pool.proofs.SlabCalls.{read_room, left_is_in, leave_fit}
use Rattle.plain_pool.proofs.slabs.Slabs.leave.Goals as goal

pub unreachable-requires : goal.unreachable-requires
unreachable-requires c = let (slabs, slab, fit, placed, is, unheld) = c.requires in
    let at = read_room c.args.self.now.rooms.items c.args.self.now.classes c.args.self.now.marks.items slabs c.args.room slab c.index.result.now fit placed is c.index.ensures in c.in_default.not-Some (record_of slab) at

pub remove-requires : goal.remove-requires
remove-requires c = let (slabs, slab, fit, placed, is, unheld) = c.requires in
    let same = Some-same c.in-Some.slab (record_of slab) (sym c.in-Some.is ∙ read_room c.args.self.now.rooms.items c.args.self.now.classes c.args.self.now.marks.items slabs c.args.room slab c.index.result.now fit placed is c.index.ensures) in
    subst (λ class. IsListed c.args.self.now.classes class c.args.room) (sym (c.from.ensures ∙ c.index-2.ensures.exact ∙ ap (λ (r : SlabRec). r.class) same))
    (left_is_in c.args.self.now.rooms.items c.args.self.now.classes c.args.self.now.marks.items slabs c.args.room slab fit placed is)

pub returns : goal.returns
returns c slabs slab fit placed is unheld =
    let same = Some-same c.in-Some.slab (record_of slab) (sym c.in-Some.is ∙ read_room c.args.self.now.rooms.items c.args.self.now.classes c.args.self.now.marks.items slabs c.args.room slab c.index.result.now fit placed is c.index.ensures) in
    subst (λ classes. SlabsFit (set c.args.self.now.rooms.items c.args.room None) classes c.args.self.now.marks.items (without slab.index slabs))
    (sym (c.remove.ensures.gone ∙ ap (λ class. left_out c.args.self.now.classes class c.args.room) (c.from.ensures ∙ c.index-2.ensures.exact ∙ ap (λ (r : SlabRec). r.class) same)))
    (leave_fit c.args.self.now.rooms.items c.args.self.now.classes c.args.self.now.marks.items slabs c.args.room slab fit placed is unheld)

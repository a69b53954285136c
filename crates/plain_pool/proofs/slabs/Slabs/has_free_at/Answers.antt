use Rattle.std.proofs.Common.{◌||◌, nat_lt, is_some, sym, ap, ◌∙◌}
use Rattle.size_classes.specs.Classes.{class_objects}
use Rattle.slab_core.specs.declared.SlabRec.{SlabRec}
use Rattle.plain_lists.proofs.Rooms.{Some-same}
use Rattle.plain_pool.specs.Slabs.{record_of}
use Rattle.plain_pool.proofs.SlabCalls.{read_room, free_is}
use Rattle.plain_pool.proofs.slabs.Slabs.has_free_at.Goals as goal

pub returns-in-Some : goal.returns-in-Some
returns-in-Some c slabs slab fit kept is same_class =
    let same = Some-same c.in-Some.slab (record_of slab) (sym c.in-Some.is ∙ read_room c.args.self.now.rooms.items c.args.self.now.classes c.args.self.now.marks.items slabs c.args.room slab c.index.result.now fit kept.placed is c.index.ensures) in
    c.has_free.ensures ∙ ap (λ (r : SlabRec). is_some r.head || nat_lt r.handed (class_objects r.class)) same ∙ free_is slab c.args.class same_class

pub returns-in-None : goal.returns-in-None
returns-in-None c slabs slab fit kept is same_class =
    absurd (let no = sym c.in-None.is ∙ read_room c.args.self.now.rooms.items c.args.self.now.classes c.args.self.now.marks.items slabs c.args.room slab c.index.result.now fit kept.placed is c.index.ensures in cc)

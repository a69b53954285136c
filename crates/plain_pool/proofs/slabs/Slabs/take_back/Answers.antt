use Rattle.std.proofs.Common.{◌≡◌, ◌<◌, ◌≤◌, ◌*◌, Some, length, suc, sym, subst, ap, ◌∙◌}
use Rattle.slab_core.specs.declared.SlabRec.{SlabRec}
use Rattle.slab_core.specs.Slabs.{IsValid, after_free}
use Rattle.plain_lists.specs.Lists.{taken_back}
use Rattle.std.proofs.lemmas.Option.{slice_get_within}
use Rattle.plain_lists.proofs.Rooms.{Some-same}
use Rattle.plain_pool.specs.Slabs.{record_of, unit_at}
use Rattle.plain_pool.proofs.SlabCalls.{read_room, record_valid, some_held, record_back, unused_is, back_fit}
use Rattle.plain_pool.proofs.slabs.Slabs.take_back.Goals as goal

pub unreachable-requires : goal.unreachable-requires
unreachable-requires c = let (slabs, slab, number, fit, kept, is, held) = c.requires in
    let at = read_room c.args.self.now.rooms.items c.args.self.now.classes c.args.self.now.marks.items slabs c.args.room slab c.index.result.now fit kept.placed is c.index.ensures in c.in_default.not-Some (record_of slab) at

pub free-requires-clause-valid : goal.free-requires-clause-valid
free-requires-clause-valid c = let (slabs, slab, number, fit, kept, is, held) = c.requires in
    let same = Some-same c.in-Some.slab (record_of slab) (sym c.in-Some.is ∙ read_room c.args.self.now.rooms.items c.args.self.now.classes c.args.self.now.marks.items slabs c.args.room slab c.index.result.now fit kept.placed is c.index.ensures) in
    subst IsValid (sym same) (record_valid slab (kept.each slab is.member))

pub free-requires-clause-held : goal.free-requires-clause-held
free-requires-clause-held c = let (slabs, slab, number, fit, kept, is, held) = c.requires in
    let same = Some-same c.in-Some.slab (record_of slab) (sym c.in-Some.is ∙ read_room c.args.self.now.rooms.items c.args.self.now.classes c.args.self.now.marks.items slabs c.args.room slab c.index.result.now fit kept.placed is c.index.ensures) in
    subst (λ (r : SlabRec). 1 ≤ r.count) (sym same) (some_held slab c.args.object number (kept.each slab is.member) held)

pub free-requires-clause-handed : goal.free-requires-clause-handed
free-requires-clause-handed c = let (slabs, slab, number, fit, kept, is, held) = c.requires in
    let same = Some-same c.in-Some.slab (record_of slab) (sym c.in-Some.is ∙ read_room c.args.self.now.rooms.items c.args.self.now.classes c.args.self.now.marks.items slabs c.args.room slab c.index.result.now fit kept.placed is c.index.ensures) in
    subst (λ (r : SlabRec). c.args.object < r.handed) (sym same) (slice_get_within slab.objects c.args.object (Some number) held)

pub returns-clause-unused : goal.returns-clause-unused
returns-clause-unused c slabs slab number fit kept is held =
    let same = Some-same c.in-Some.slab (record_of slab) (sym c.in-Some.is ∙ read_room c.args.self.now.rooms.items c.args.self.now.classes c.args.self.now.marks.items slabs c.args.room slab c.index.result.now fit kept.placed is c.index.ensures) in
    let back : c.free.new.self ≡ record_of (taken_back slab c.args.object) = c.free.ensures.freed ∙ ap (λ (r : SlabRec). after_free r c.args.object) same ∙ record_back slab c.args.object in
    unused_is c.is_empty-is_unused.result c.free.new.self.count (length (taken_back slab c.args.object).objects) (suc (length slab.private)) c.is_empty-is_unused.ensures.0 c.is_empty-is_unused.ensures.1 (ap (λ (r : SlabRec). r.count) back)

pub returns-clause-slabs : goal.returns-clause-slabs
returns-clause-slabs c slabs slab number fit kept is held =
    let same = Some-same c.in-Some.slab (record_of slab) (sym c.in-Some.is ∙ read_room c.args.self.now.rooms.items c.args.self.now.classes c.args.self.now.marks.items slabs c.args.room slab c.index.result.now fit kept.placed is c.index.ensures) in
    let back : c.free.new.self ≡ record_of (taken_back slab c.args.object) = c.free.ensures.freed ∙ ap (λ (r : SlabRec). after_free r c.args.object) same ∙ record_back slab c.args.object in
    back_fit c.args.self.now.rooms.items c.args.self.now.classes c.args.self.now.marks.items slabs c.args.room slab c.args.object number c.free.new.self c.unit_of.result c.in-Some.slab.head fit kept is held back
    (c.unit_of.ensures.exact ∙ ap (λ k. unit_at (2 * c.args.room) k c.args.object) (ap (λ (r : SlabRec). r.class) back))
    (ap (λ (r : SlabRec). r.head) same)

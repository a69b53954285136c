use Rattle.std.proofs.Common.{◌≡◌, ◌<◌, ◌*◌, is_some, sym, subst, ap, ◌∙◌}
use Rattle.size_classes.specs.Classes.{class_objects}
use Rattle.slab_core.specs.declared.SlabRec.{SlabRec}
use Rattle.slab_core.specs.Slabs.{IsValid, IsBelowHead, IsUsedUp, after_take, next_object as next_of}
use Rattle.plain_lists.specs.Lists.{given, next_object}
use Rattle.plain_lists.proofs.Rooms.{Some-same}
use Rattle.plain_lists.proofs.Calls.{given-class}
use Rattle.plain_pool.specs.declared.slabs.Given.{Given}
use Rattle.plain_pool.specs.Slabs.{record_of, unit_at}
use Rattle.plain_pool.proofs.SlabCalls.{read_room, record_valid, below_is, not_used_up, record_given, next_is, given_change, give_fit}
use Rattle.plain_pool.proofs.slabs.Slabs.give.Goals as goal

pub unreachable-requires : goal.unreachable-requires
unreachable-requires c = let (slabs, slab, fit, kept, is, free) = c.requires in
    let at = read_room c.args.self.now.rooms.items c.args.self.now.classes c.args.self.now.marks.items slabs c.args.room slab c.index.result.now fit kept.placed is c.index.ensures in c.in_default.not-Some (record_of slab) at

pub below_head-below-requires : goal.below_head-below-requires
below_head-below-requires c = let (slabs, slab, fit, kept, is, free) = c.requires in
    (slabs, slab, fit, kept, is, Some-same c.in-Some.slab (record_of slab) (sym c.in-Some.is ∙ read_room c.args.self.now.rooms.items c.args.self.now.classes c.args.self.now.marks.items slabs c.args.room slab c.index.result.now fit kept.placed is c.index.ensures))

pub take-requires-clause-valid : goal.take-requires-clause-valid
take-requires-clause-valid c = let (slabs, slab, fit, kept, is, free) = c.requires in
    let same = Some-same c.in-Some.slab (record_of slab) (sym c.in-Some.is ∙ read_room c.args.self.now.rooms.items c.args.self.now.classes c.args.self.now.marks.items slabs c.args.room slab c.index.result.now fit kept.placed is c.index.ensures) in
    subst IsValid (sym same) (record_valid slab (kept.each slab is.member))

pub take-requires-clause-below : goal.take-requires-clause-below
take-requires-clause-below c = let (slabs, slab, fit, kept, is, free) = c.requires in
    let same = Some-same c.in-Some.slab (record_of slab) (sym c.in-Some.is ∙ read_room c.args.self.now.rooms.items c.args.self.now.classes c.args.self.now.marks.items slabs c.args.room slab c.index.result.now fit kept.placed is c.index.ensures) in
    let second = c.below_head-below.ensures slabs slab fit kept is same in
    subst (λ (r : SlabRec). IsBelowHead r c.below_head-below.result) (sym same) (subst (λ o. IsBelowHead (record_of slab) o) (sym second) (below_is slab (kept.each slab is.member)))

pub unreachable-requires-in_default-take : goal.unreachable-requires-in_default-take
unreachable-requires-in_default-take c = let (slabs, slab, fit, kept, is, free) = c.requires in
    let same = Some-same c.in-Some.slab (record_of slab) (sym c.in-Some.is ∙ read_room c.args.self.now.rooms.items c.args.self.now.classes c.args.self.now.marks.items slabs c.args.room slab c.index.result.now fit kept.placed is c.index.ensures) in
    not_used_up slab free (subst IsUsedUp same (c.take.ensures.none.0 (ap is_some c.in_default-take.is)))

pub unit_of-requires-clause-object : goal.unit_of-requires-clause-object
unit_of-requires-clause-object c = let (slabs, slab, fit, kept, is, free) = c.requires in
    let same = Some-same c.in-Some.slab (record_of slab) (sym c.in-Some.is ∙ read_room c.args.self.now.rooms.items c.args.self.now.classes c.args.self.now.marks.items slabs c.args.room slab c.index.result.now fit kept.placed is c.index.ensures) in
    let second = c.below_head-below.ensures slabs slab fit kept is same in
    let taken : c.take.new.self ≡ record_of (given slab c.args.number) = c.in-Some-take.ensures.taken ∙ ap (λ (r : SlabRec). after_take r c.below_head-below.result) same ∙ ap (after_take (record_of slab)) second ∙ record_given slab c.args.number (kept.each slab is.member) in
    let object : c.in-Some-take.object ≡ next_object slab = c.in-Some-take.ensures.object ∙ ap next_of same ∙ next_is slab in
    subst (λ (r : SlabRec). c.in-Some-take.object < class_objects r.class) (sym taken)
    (subst (λ n. n < class_objects (given slab c.args.number).class) (sym object)
    (subst (λ k. next_object slab < class_objects k) (sym (given-class slab c.args.number)) (given_change slab c.args.number (kept.each slab is.member) free).exists))

pub returns-clause-given : goal.returns-clause-given
returns-clause-given c slabs slab fit kept is free =
    let same = Some-same c.in-Some.slab (record_of slab) (sym c.in-Some.is ∙ read_room c.args.self.now.rooms.items c.args.self.now.classes c.args.self.now.marks.items slabs c.args.room slab c.index.result.now fit kept.placed is c.index.ensures) in
    let second = c.below_head-below.ensures slabs slab fit kept is same in
    let taken : c.take.new.self ≡ record_of (given slab c.args.number) = c.in-Some-take.ensures.taken ∙ ap (λ (r : SlabRec). after_take r c.below_head-below.result) same ∙ ap (after_take (record_of slab)) second ∙ record_given slab c.args.number (kept.each slab is.member) in
    let object : c.in-Some-take.object ≡ next_object slab = c.in-Some-take.ensures.object ∙ ap next_of same ∙ next_is slab in
    ap (λ k. let g : Given = record { class = k; object = c.in-Some-take.object } in g) (ap (λ (r : SlabRec). r.class) taken ∙ given-class slab c.args.number) ∙ ap (λ o. let g : Given = record { class = slab.class; object = o } in g) object

pub returns-clause-slabs : goal.returns-clause-slabs
returns-clause-slabs c slabs slab fit kept is free =
    let same = Some-same c.in-Some.slab (record_of slab) (sym c.in-Some.is ∙ read_room c.args.self.now.rooms.items c.args.self.now.classes c.args.self.now.marks.items slabs c.args.room slab c.index.result.now fit kept.placed is c.index.ensures) in
    let second = c.below_head-below.ensures slabs slab fit kept is same in
    let taken : c.take.new.self ≡ record_of (given slab c.args.number) = c.in-Some-take.ensures.taken ∙ ap (λ (r : SlabRec). after_take r c.below_head-below.result) same ∙ ap (after_take (record_of slab)) second ∙ record_given slab c.args.number (kept.each slab is.member) in
    let object : c.in-Some-take.object ≡ next_object slab = c.in-Some-take.ensures.object ∙ ap next_of same ∙ next_is slab in
    give_fit c.args.self.now.rooms.items c.args.self.now.classes c.args.self.now.marks.items slabs c.args.room slab c.args.number c.take.new.self c.unit_of.result fit kept is free taken
    (c.unit_of.ensures.exact ∙ ap (λ k. unit_at (2 * c.args.room) k c.in-Some-take.object) (ap (λ (r : SlabRec). r.class) taken ∙ given-class slab c.args.number) ∙ ap (unit_at (2 * c.args.room) slab.class) object)

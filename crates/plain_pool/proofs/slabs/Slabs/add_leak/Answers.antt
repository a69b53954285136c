use Rattle.std.proofs.Common.{length}
use Rattle.std.specs.Prelude.{slice_index_or}
use Rattle.std.proofs.Common.{◌≡◌, ◌<◌, ◌++◌, ◌∷◌, [], ℕ, List, Some, slice_get, sym, subst, ap, ◌∙◌, arith}
use Rattle.std.specs.declared.option.Option.{Option}
use Rattle.size_classes.specs.Classes.{class_objects}
use Rattle.slab_core.specs.declared.SlabRec.{SlabRec}
use Rattle.pool_types.specs.declared.values.Leak.{Leak}
use Rattle.plain_lists.specs.Lists.{OwnSlab}
use Rattle.plain_lists.proofs.Rooms.{Some-same}
use Rattle.plain_pool.specs.declared.slabs.Slabs.{Slabs}
use Rattle.plain_pool.specs.Slabs.{AreSlabs, AreKept, IsIn, record_of}
use Rattle.plain_pool.proofs.SlabCalls.{read_room}
use Rattle.plain_pool.proofs.LeakLemmas.{read_number, adds_some, adds_none, leak_same}
use Rattle.plain_pool.proofs.slabs.Slabs.add_leak.Goals as goal

-- the record of the slab
same_record : (arrays : Slabs) (slabs : List OwnSlab) (room : ℕ) (own : OwnSlab) (x : Option SlabRec) (slab : SlabRec) → AreSlabs arrays slabs → AreKept slabs → IsIn room own slabs → x ≡ slice_index_or arrays.rooms.items room x → x ≡ Some slab → slab ≡ record_of own
same_record arrays slabs room own x slab fit kept is read some = Some-same slab (record_of own) (sym some ∙ read_room arrays.rooms.items arrays.classes arrays.marks.items slabs room own x fit kept.placed is read)

exists : (slabs : List OwnSlab) (room : ℕ) (own : OwnSlab) (slab : SlabRec) (object : ℕ) → AreKept slabs → IsIn room own slabs → slab ≡ record_of own → object < length own.objects → object < class_objects slab.class
exists slabs room own slab object kept is same below = subst (λ (r : SlabRec). object < class_objects r.class) (sym same) (let few = (kept.each own is.member).few in omega (arith, few, below))

pub unreachable-requires : goal.unreachable-requires
unreachable-requires c = let (slabs, slab, fit, kept, is, below) = c.requires in
    let at = read_room c.args.self.now.rooms.items c.args.self.now.classes c.args.self.now.marks.items slabs c.args.room slab c.index.result.now fit kept.placed is c.index.ensures in c.in_default.not-Some (record_of slab) at

pub unit_of-requires-clause-object : goal.unit_of-requires-clause-object
unit_of-requires-clause-object c = let (slabs, slab, fit, kept, is, below) = c.requires in
    exists slabs c.args.room slab c.in-Some.slab c.args.object kept is (same_record c.args.self.now slabs c.args.room slab c.index.result.now c.in-Some.slab fit kept is c.index.ensures c.in-Some.is) below

pub leak_of-requires-clause-object : goal.leak_of-requires-clause-object
leak_of-requires-clause-object c = let (slabs, slab, fit, kept, is, below) = c.requires in
    exists slabs c.args.room slab c.in-Some.slab c.args.object kept is (same_record c.args.self.now slabs c.args.room slab c.index.result.now c.in-Some.slab fit kept is c.index.ensures c.in-Some.is) below

pub returns-in_default-number : goal.returns-in_default-number
returns-in_default-number c slabs slab fit kept is below =
    let same = same_record c.args.self.now slabs c.args.room slab c.index.result.now c.in-Some.slab fit kept is c.index.ensures c.in-Some.is in
    adds_none slab c.args.object (slice_get slab.objects c.args.object) c.args.leaks.now.items
    (sym c.in_default-number.is ∙ c.number.ensures ∙ read_number c.args.self.now.rooms.items c.args.self.now.classes c.args.self.now.marks.items slabs c.args.room slab c.args.object c.in-Some.slab.class c.unit_of.result c.index-2.result.now fit kept is below (ap (λ (r : SlabRec). r.class) same) c.unit_of.ensures.below c.unit_of.ensures.exact c.index-2.ensures)

pub returns : goal.returns
returns c slabs slab fit kept is below =
    let same = same_record c.args.self.now slabs c.args.room slab c.index.result.now c.in-Some.slab fit kept is c.index.ensures c.in-Some.is in
    adds_some slab c.args.object c.in-Some-number.number (slice_get slab.objects c.args.object) c.args.leaks.now.items c.push.new.self.items
    (sym c.in-Some-number.is ∙ c.number.ensures ∙ read_number c.args.self.now.rooms.items c.args.self.now.classes c.args.self.now.marks.items slabs c.args.room slab c.args.object c.in-Some.slab.class c.unit_of.result c.index-2.result.now fit kept is below (ap (λ (r : SlabRec). r.class) same) c.unit_of.ensures.below c.unit_of.ensures.exact c.index-2.ensures)
    (c.in_ok-push.ensures.items ∙ ap (λ (leak : Leak). c.args.leaks.now.items ++ (leak ∷ [])) c.leak_of.ensures
    ∙ ap (λ leaks. c.args.leaks.now.items ++ leaks) (leak_same c.args.room c.in-Some.slab.class c.args.object c.in-Some-number.number slab (ap (λ (r : SlabRec). r.class) same) is.at_room))

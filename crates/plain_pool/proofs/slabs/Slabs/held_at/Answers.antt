use Rattle.std.specs.Prelude.{slice_index_or}
use Rattle.std.proofs.Common.{◌≡◌, ◌<◌, ◌*◌, ◌/◌, ◌%◌, ℕ, List, Option, Some, sym, ap, ◌∙◌, arith}
use Rattle.slab_core.specs.declared.SlabRec.{SlabRec}
use Rattle.plain_lists.specs.Lists.{OwnSlab}
use Rattle.plain_lists.specs.Whole.{object_of}
use Rattle.plain_lists.proofs.Rooms.{Some-same}
use Rattle.plain_pool.specs.declared.slabs.Slabs.{Slabs}
use Rattle.plain_pool.specs.declared.slabs.Held.{Held}
use Rattle.plain_pool.specs.declared.marks.Mark.{Mark}
use Rattle.plain_pool.specs.Marks.{number_in}
use Rattle.plain_pool.specs.Slabs.{AreSlabs, ArePlaced, record_of, held_of}
use Rattle.plain_pool.proofs.SlabLemmas.{found_in}
use Rattle.plain_pool.proofs.SlabCalls.{read_room, Spotted, spotted, number_there, within_slab}
use Rattle.plain_pool.proofs.slabs.Slabs.held_at.Goals as goal

-- what is held at the offset, by what the mark says
spot_there : (arrays : Slabs) (slabs : List OwnSlab) (offset number : ℕ) (mark : Mark) → AreSlabs arrays slabs → offset < 1048576 → offset ≡ 8 * (offset / 8) → mark ≡ slice_index_or arrays.marks.items (offset / 8) mark → number_in mark ≡ Some number → Spotted slabs (offset / 16384) offset
spot_there arrays slabs offset number mark fit below unit read says =
    spotted slabs (offset / 16384) offset number (sym (number_there arrays.marks.items slabs offset mark fit.marks_long fit.numbers below unit read) ∙ says)

-- the record in its room
record_there : (arrays : Slabs) (slabs : List OwnSlab) (offset : ℕ) (x : Option SlabRec) (slab : SlabRec) → AreSlabs arrays slabs → ArePlaced slabs → (spot : Spotted slabs (offset / 16384) offset) → x ≡ slice_index_or arrays.rooms.items (offset / 16384) x → x ≡ Some slab → slab ≡ record_of spot.slab
record_there arrays slabs offset x slab fit placed spot read is =
    Some-same slab (record_of spot.slab) (sym is ∙ read_room arrays.rooms.items arrays.classes arrays.marks.items slabs (offset / 16384) spot.slab x fit placed (found_in slabs (offset / 16384) spot.slab spot.found) read)

pub object_at-object-requires : goal.object_at-object-requires
object_at-object-requires c = let (slabs, fit, placed) = c.requires.slabs in
    let spot = spot_there c.args.self.now slabs c.args.offset c.in_ok-number.field-0 c.index.result.now fit c.requires.offset c.requires.unit c.index.ensures (sym c.number.ensures ∙ c.in_ok-number.was) in
    let same = record_there c.args.self.now slabs c.args.offset c.index-2.result.now c.in-Some.slab fit placed spot c.index-2.ensures c.in-Some.is in
    (spot.object, ap (λ (r : SlabRec). object_of r.class (c.args.offset % 16384)) same ∙ ap (object_of spot.slab.class) (sym (within_slab slabs c.args.offset spot.slab spot.found)) ∙ spot.at_object)

pub returns : goal.returns
returns c slabs fit placed =
    let spot = spot_there c.args.self.now slabs c.args.offset c.in_ok-number.field-0 c.index.result.now fit c.requires.offset c.requires.unit c.index.ensures (sym c.number.ensures ∙ c.in_ok-number.was) in
    let same = record_there c.args.self.now slabs c.args.offset c.index-2.result.now c.in-Some.slab fit placed spot c.index-2.ensures c.in-Some.is in
    let at = (found_in slabs (c.args.offset / 16384) spot.slab spot.found).at_room in
    let room : c.args.offset / 16384 ≡ spot.slab.index / 2 = omega (arith, at) in
    let object : c.object_at-object.result ≡ spot.object = Some-same c.object_at-object.result spot.object (c.object_at-object.ensures ∙ ap (λ (r : SlabRec). object_of r.class (c.args.offset % 16384)) same ∙ ap (object_of spot.slab.class) (sym (within_slab slabs c.args.offset spot.slab spot.found)) ∙ spot.at_object) in
    ap Some (ap (λ n. let h : Held = record { room = n; class = c.in-Some.slab.class; object = c.object_at-object.result } in h) room
    ∙ ap (λ (r : SlabRec). let h : Held = record { room = spot.slab.index / 2; class = r.class; object = c.object_at-object.result } in h) same
    ∙ ap (λ o. let h : Held = record { room = spot.slab.index / 2; class = spot.slab.class; object = o } in h) object)
    ∙ sym (ap held_of spot.spot)

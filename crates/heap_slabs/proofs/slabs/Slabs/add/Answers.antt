use Rattle.std.proofs.Common.{◌≡◌, ◌<◌, length, None, arith}
use Rattle.std.proofs.lemmas.Grind.{common_steps}
use Rattle.heap_slabs.specs.Slabs.{record_at}
use Rattle.heap_slabs.proofs.Keeping.{free, kept_add}
use Rattle.heap_slabs.proofs.slabs.Slabs.add.Goals as goal

pub push_front-requires-clause-free : goal.push_front-requires-clause-free
push_front-requires-clause-free c =
    let none : record_at c.self.inside.records.items c.args.added.slab ≡ None = grind (arith, common_steps) in
    free c.self.inside.classes c.self.inside.records.items c.args.added.slab c.self.invariant none

pub invariant_of-self : goal.invariant_of-self
invariant_of-self c =
    let none : record_at c.self.inside.records.items c.args.added.slab ≡ None = grind (arith, common_steps) in
    let list : c.args.added.class < length c.self.inside.classes.lists = omega arith in
    let below : c.args.added.slab < c.self.inside.classes.indices = omega arith in
    rw (c.push_front.ensures.first, c.from-list.ensures) (kept_add c.self.inside.classes c.self.inside.records.items
    c.args.added c.self.invariant list below none)

use Rattle.std.proofs.Common.{◌≡◌, Some, rules}
use Rattle.heap_slabs.specs.Slabs.{record_at}
use Rattle.heap_slabs.proofs.Keeping.{kept_remove}
use Rattle.heap_slabs.proofs.slabs.Slabs.remove.Goals as goal

pub invariant_of-self : goal.invariant_of-self
invariant_of-self c =
    let there : record_at c.self.inside.records.items c.args.slab ≡ Some c.in-Some.there = search rules in
    rw (c.remove.ensures.gone, c.from.ensures) (kept_remove c.self.inside.classes c.self.inside.records.items
    c.args.slab c.in-Some.there c.self.invariant there)

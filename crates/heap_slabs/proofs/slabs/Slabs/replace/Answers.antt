use Rattle.std.proofs.Common.{◌≡◌, Some, rules}
use Rattle.heap_slabs.specs.Slabs.{record_at}
use Rattle.heap_slabs.proofs.Keeping.{kept_replace}
use Rattle.heap_slabs.proofs.slabs.Slabs.replace.Goals as goal

pub invariant_of-self : goal.invariant_of-self
invariant_of-self c =
    let there : record_at c.self.inside.records.items c.args.next.slab ≡ Some c.in-Some.there = search rules in
    kept_replace c.self.inside.classes c.self.inside.records.items c.args.next c.in-Some.there c.self.invariant there
    c.if-there-next.true

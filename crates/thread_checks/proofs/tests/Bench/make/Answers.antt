-- The last of the new heaps is one of the pool's.
use Rattle.std.proofs.Common.{◌≡◌, length, refl, sym, subst}
use mathlib.Core.Option.{some}
use lib.ListN.{get_elem?}
use Rattle.atomic_table.proofs.Lists.{at_last}
use Rattle.thread_checks.proofs.tests.Bench.make.Goals as goal

pub invariant_of-result : goal.invariant_of-result
invariant_of-result g c =
    let at : get_elem? c.in-Ok.heaps.items (length c.pop.new.self.items) ≡ some c.in-Some.heap =
    subst (λ xs. get_elem? xs (length c.pop.new.self.items) ≡ some c.in-Some.heap) (sym c.in-Some.ensures.items)
    (at_last c.pop.new.self.items c.in-Some.heap (length c.pop.new.self.items) refl) in
    (c.in-Ok.ensures.pool, (c.in-Ok.ensures.heaps (length c.pop.new.self.items) c.in-Some.heap at).heap)

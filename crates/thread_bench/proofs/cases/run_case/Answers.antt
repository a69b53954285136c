use Rattle.pool_types.specs.Script.{Script, Gets, Puts}
use Rattle.thread_bench.proofs.HeapLemmas.{new_heaps}
use Rattle.thread_bench.proofs.cases.run_case.Goals as goal

pub seats_of-requires : goal.seats_of-requires
seats_of-requires g c = new_heaps (λ (s : Script). s.out) (λ (s : Script). s.faults) Gets Puts c.in-Ok.made.0
    c.part-table.result.0 c.in-Ok.made.1.items c.part-table.ensures.table c.in-Ok.ensures.pool c.in-Ok.ensures.heaps

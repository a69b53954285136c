use Rattle.thread_bench.proofs.HeapLemmas.{heaps_left, last_heap}
use Rattle.thread_bench.proofs.cases.seats_of.Goals as goal

pub loop-heap-init : goal.loop-heap-init
loop-heap-init g c = c.requires

pub of-requires : goal.of-requires
of-requires g c = last_heap g.R.Raw.out g.R.Raw.faults g.R.Raw.got g.R.Raw.passed c.args.table.now
    c.loop-heap.heaps.items c.pop.new.self.items c.in-Some.heap c.in-Some.ensures.items c.loop-heap.invariant

pub loop-heap-preserved : goal.loop-heap-preserved
loop-heap-preserved g c = heaps_left g.R.Raw.out g.R.Raw.faults g.R.Raw.got g.R.Raw.passed c.args.table.now
    c.loop-heap.heaps.items c.pop.new.self.items c.in-Some.heap c.in-Some.ensures.items c.loop-heap.invariant

use Rattle.std.proofs.Common.{◌≡◌, true}
use Rattle.step_local.specs.Getting.{begun, is_idle}
use Rattle.pool_api.specs.Heaps.{entry_of}
use Rattle.pool_api.specs.Tables.{IsHeapAt}
use Rattle.pool_api.proofs.Calling.{Going}
use Rattle.pool_api.proofs.tables.call_at.Given as goal

abbrev pub invariant-loop : goal.invariant-loop
invariant-loop g l = record {
  can : (goal.iterator-loop g).can_next l.iterator';
  finite : (goal.iterator-loop g).is_finite l.iterator';
  idle : is_idle l.fn.heap.local.at ≡ true;
  heap : IsHeapAt g.R.Raw.out g.R.Raw.faults g.R.Raw.got g.R.Raw.passed l.table l.heap;
  going : Going (begun l.fn.heap.local l.fn.request).0 (entry_of l.fn.heap) l.heap.local (entry_of l.heap);
}

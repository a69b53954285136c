-- so many places are taken in, and the heaps behind them are as they were
use Rattle.std.proofs.Common.{◌≡◌, take, []}
use Rattle.atomic_driver.specs.Rule.{plain}
use Rattle.quiet_pool.specs.Calls.{entries_of}
use Rattle.quiet_pool.specs.Held.{locals_of, plans_of}
use Rattle.quiet_pool.proofs.Heaps.{AreSame}
use Rattle.quiet_pool.proofs.pool.gather.Given as goal

abbrev pub invariant-loop-index : goal.invariant-loop-index
invariant-loop-index g l = record {
  table : l.place.table_id ≡ l.fn.place.table_id;
  place : l.place.me ≡ (plain (take l.index (entries_of l.fn.heaps)), []);
  locals : locals_of l.heaps ≡ locals_of l.fn.heaps;
  plans : plans_of l.heaps ≡ plans_of l.fn.heaps;
  rest : AreSame l.index l.fn.heaps l.heaps;
}

-- so many heaps have their places
use Rattle.std.proofs.Common.{◌≡◌, drop, []}
use Rattle.atomic_driver.specs.Rule.{plain}
use Rattle.quiet_pool.specs.Held.{locals_of, plans_of}
use Rattle.quiet_pool.proofs.Heaps.{HaveBelow}
use Rattle.quiet_pool.proofs.pool.scatter.Given as goal

abbrev pub invariant-loop-index : goal.invariant-loop-index
invariant-loop-index g l = record {
  table : l.place.table_id ≡ l.fn.place.table_id;
  place : l.place.me ≡ (plain (drop l.index l.fn.place.me.0.entries), []);
  places : HaveBelow l.index l.fn.place.table_id l.key l.fn.place.me.0.entries l.heaps;
  locals : locals_of l.heaps ≡ locals_of l.fn.heaps;
  plans : plans_of l.heaps ≡ plans_of l.fn.heaps;
}

use Rattle.std.proofs.Common.{◌≡◌}
use Rattle.quiet_pool.specs.Held.{IsNoted, locals_of, plans_of, quiet_of}
use Rattle.quiet_pool.specs.Quiet.{AreIdle, IsState}
use Rattle.quiet_pool.specs.Resets.{AreRestingBelow, HeapsReset}
use Rattle.quiet_pool.proofs.resets.heaps_parts.Given as goal

abbrev pub invariant-loop-seat : goal.invariant-loop-seat
invariant-loop-seat g l = record {
  table : l.place.table_id ≡ l.fn.place.table_id;
  plans : plans_of l.heaps ≡ plans_of l.fn.heaps;
  noted : IsNoted l.office l.place.me;
  state : IsState g.R.Raw.out g.R.Raw.faults g.R.Raw.got g.R.Raw.passed
      (quiet_of l.plan l.office (locals_of l.heaps) l.place.me);
  parts : HeapsReset (quiet_of l.plan l.office (locals_of l.fn.heaps) l.fn.place.me) l.seat
      (quiet_of l.plan l.office (locals_of l.heaps) l.place.me);
  rests : AreRestingBelow l.seat (locals_of l.heaps);
  idle : AreIdle (locals_of l.heaps);
}

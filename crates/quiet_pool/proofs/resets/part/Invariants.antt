use Rattle.std.proofs.Common.{◌≡◌}
use Rattle.quiet_pool.specs.Held.{IsNoted, locals_of, plans_of, quiet_of}
use Rattle.quiet_pool.specs.Quiet.{IsState}
use Rattle.quiet_pool.specs.Resets.{Goes, part_begun}
use Rattle.quiet_pool.proofs.Parts.{Amid}
use Rattle.quiet_pool.proofs.resets.part.Given as goal

abbrev pub invariant-loop : goal.invariant-loop
invariant-loop g l = record {
  can : (goal.iterator-loop g).can_next l.iterator';
  finite : (goal.iterator-loop g).is_finite l.iterator';
  table : l.place.table_id ≡ l.fn.place.table_id;
  plans : plans_of l.heaps ≡ plans_of l.fn.heaps;
  noted : IsNoted l.office l.place.me;
  state : IsState g.R.Raw.out g.R.Raw.faults g.R.Raw.got g.R.Raw.passed
      (quiet_of l.plan l.office (locals_of l.heaps) l.place.me);
  goes : Goes (part_begun (quiet_of l.plan l.office (locals_of l.fn.heaps) l.fn.place.me) l.seat l.fn.reset) l.seat
      (quiet_of l.plan l.office (locals_of l.heaps) l.place.me);
  amid : Amid l.seat (locals_of l.fn.heaps) (locals_of l.heaps);
}

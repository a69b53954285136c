use Rattle.step_local.specs.Frames.{made}
use Rattle.quiet_pool.proofs.pool.QuietPool.totals.Given as goal

abbrev pub ghosts-totals_as : goal.ghosts-totals_as
ghosts-totals_as g a = record {
  plan = a.plan.now;
  table = a.place.table_id;
  me = a.place.me;
  seat = 0;
  now = made
      a.key.now 0;
}

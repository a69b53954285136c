use Rattle.step_local.specs.Frames.{made}
use Rattle.quiet_pool.proofs.pool.QuietPool.cache.Given as goal

abbrev pub ghosts-cache_as : goal.ghosts-cache_as
ghosts-cache_as g a = record {
  plan = a.plan.now;
  table = a.place.table_id;
  me = a.place.me;
  seat = 0;
  now = made
      a.key.now 0;
}

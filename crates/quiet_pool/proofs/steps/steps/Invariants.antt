use Rattle.quiet_pool.proofs.steps.steps.Given as goal

abbrev pub ghosts-step : goal.ghosts-step
ghosts-step g a = record {
  plan = a.plan.now;
  table = a.place.now.table_id;
  me = a.place.now.me;
  seat = a.seat;
  now =
      a.local.now;
}

use Rattle.step_local.specs.Frames.{made}
use Rattle.quiet_pool.proofs.noting.note.Given as goal

abbrev pub ghosts-notes_as : goal.ghosts-notes_as
ghosts-notes_as g a = record {
  plan = a.plan.now;
  table = a.place.now.table_id;
  me = a.place.now.me;
  seat = 0;
  now =
      made a.key.now 0;
}

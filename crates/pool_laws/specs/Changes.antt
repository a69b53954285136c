-- What a step of one group makes of the whole.
use Rattle.word_laws.specs.Memory.{Mem}
use Rattle.orphan_laws.specs.Orphans as orphaning
use Rattle.use_laws.specs.Pools.{Pool}
use Rattle.use_laws.specs.After.{with_mem}
use Rattle.shelf_laws.specs.Shelves as shelves
use Rattle.region_laws.specs.Granules as regions
use Rattle.free_laws.specs.Spaces.{Space}
use Rattle.post_laws.specs.Posts.{Post}
use Rattle.pool_laws.specs.Wholes.{Whole}

abbrev pub with_pool : Pool → Whole → Whole
with_pool p w = record w { pool = p }

abbrev pub with_shelf : shelves.State → Whole → Whole
with_shelf s w = record w { pool = s.pool; shelves = s.bins; jobs = s.jobs }

abbrev pub with_regions : regions.State → Whole → Whole
with_regions s w = record w { pool = s.pool; desks = s.desks; settled = s.settled; office = s.office }

abbrev pub with_space : Space → Whole → Whole
with_space s w = record w {
  pool = s.pool;
  items = s.items;
  member = s.member;
  queued = s.queued;
  drained = s.drained;
  bins = s.bins;
  queue = s.queue;
}

abbrev pub with_post : Post → Whole → Whole
with_post p w = record w { pool = p.pool; ways = p.ways; mails = p.mails; tasks = p.tasks; spares = p.spares }

-- a step of mail or orphans that leaves the book: what the seats have to do with both, over other words
abbrev pub with_ways : orphaning.Shadow → Mem → orphaning.Locals → Whole → Whole
with_ways ways m l w = record w {
  pool = with_mem m w.pool;
  ways = ways;
  mails = l.mails;
  tasks = l.tasks;
  spares = l.spares;
}

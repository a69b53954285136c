-- A new pool, in which there is no slab.
use Rattle.pool_words.specs.declared.words.Key.{Key}
use Rattle.orphan_laws.specs.Named.{no_orphans, fresh_locals}
use Rattle.use_laws.specs.Named.{fresh_pool}
use Rattle.post_laws.specs.Posts.{Post}

abbrev pub fresh_post : Key → Post
fresh_post k = record {
  pool = fresh_pool k;
  ways = no_orphans;
  mails = (fresh_locals k).mails;
  tasks = (fresh_locals k).tasks;
  spares = (fresh_locals k).spares;
}

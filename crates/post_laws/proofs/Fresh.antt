-- A new pool.
use Rattle.use_laws.specs.Laws.{FreshPoolsAreGood}
use Rattle.orphan_laws.specs.Laws.{FreshPoolsHaveNoOrphans}
use Rattle.post_laws.specs.Laws.{FreshPostsAreGood}

pub fresh_posts_are_good : FreshPoolsAreGood → FreshPoolsHaveNoOrphans → FreshPostsAreGood
fresh_posts_are_good pools orphans k few low = record {
  pool' = pools k low;
  orphans = orphans k few low;
  ties = λ t. tt;
}

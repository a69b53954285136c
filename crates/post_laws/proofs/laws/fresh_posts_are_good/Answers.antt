use Rattle.post_laws.proofs.Fresh.{fresh_posts_are_good}
use Rattle.post_laws.proofs.laws.fresh_posts_are_good.Goals as goal

pub returns : goal.returns
returns c = fresh_posts_are_good c.fresh_pools_are_good.ensures c.fresh_pools_have_no_orphans.ensures

use Rattle.pool_laws.proofs.Moved.{fresh_wholes_are_good}
use Rattle.pool_laws.proofs.laws.fresh_wholes_are_good.Goals as goal

pub returns : goal.returns
returns c =
    fresh_wholes_are_good c.fresh_shelves_are_good.ensures c.fresh_regions_are_good.ensures
    c.fresh_spaces_are_good.ensures c.fresh_posts_are_good.ensures

use Rattle.quiet_pool.proofs.Quiets.{can_read}
use Rattle.quiet_pool.proofs.pool.QuietPool.cache_items.Goals as goal

pub cache_items_as-items-requires-clause-can : goal.cache_items_as-items-requires-clause-can
cache_items_as-items-requires-clause-can g c =
    can_read g.R.Raw.out g.R.Raw.faults g.R.Raw.got g.R.Raw.passed _ _ _ _ _ _ _ _ c.self.invariant _ _
    c.take_place-place.ensures.place.0 c.take_place-place.ensures.place.1

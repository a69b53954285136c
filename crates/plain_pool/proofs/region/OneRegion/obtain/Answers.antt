use Rattle.plain_pool.proofs.RegionLemmas.{given_first}
use Rattle.plain_pool.proofs.region.OneRegion.obtain.Goals as goal

pub invariant_of-self : goal.invariant_of-self
invariant_of-self c = rw (given_first c.self.inside.given c.self.inside.raw c.get-self-inside.new.self c.get-self-inside.result c.is_none.result c.is_none.ensures c.if-is_none.true c.self.invariant c.get-self-inside.ensures.meaning) tt

pub returns-then-is_none : goal.returns-then-is_none
returns-then-is_none c = rw (← c.self.view_is) (given_first c.self.inside.given c.self.inside.raw c.get-self-inside.new.self c.get-self-inside.result c.is_none.result c.is_none.ensures c.if-is_none.true c.self.invariant c.get-self-inside.ensures.meaning)

use Rattle.std.proofs.Common.{sym, ◌∙◌}
use Rattle.quiet_pool.proofs.reading.leaks_as.Goals as goal

pub returns-clause-same : goal.returns-clause-same
returns-clause-same g c =
    (c.into_place.ensures.0 ∙ sym c.requires.me.0, c.into_place.ensures.1 ∙ sym c.requires.me.1)

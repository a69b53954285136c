use Rattle.std.proofs.Common.{sym, subst}
use Rattle.std.specs.declared.option.Option.{Option}
use Rattle.pool_types.specs.declared.values.Place.{Place}
use Rattle.pool_types.specs.declared.values.Request.TheVariants.{Free}
use Rattle.plain_lists.specs.Whole.{Spot, whole, free_of, spot_at}
use Rattle.plain_pool.specs.Pool.{Has}
use Rattle.plain_pool.proofs.TrimLemmas.{held_spot, no_held_spot}
use Rattle.plain_pool.proofs.arrays.PoolArrays.free.Goals as goal

pub returns-in-Some-held_at-clause-lists : goal.returns-in-Some-held_at-clause-lists
returns-in-Some-held_at-clause-lists c lists stands =
    let at = held_spot (spot_at lists c.in-Some.start) c.in-Some-held_at.held (c.in-Some-held_at.ensures lists stands) in
    subst (λ (p : Option Place). Has c.free_held.new.self (whole lists (Free p)).lists) (sym c.in-Some.is)
    (subst (λ (o : Option Spot). Has c.free_held.new.self (free_of lists c.in-Some.start o).lists) (sym at.found)
    (c.free_held.ensures lists c.in-Some.start at.spot stands at.found at.same))

pub returns-in-None-clause-lists : goal.returns-in-None-clause-lists
returns-in-None-clause-lists c lists stands =
    subst (λ (p : Option Place). Has c.args.self.now (whole lists (Free p)).lists) (sym c.in-Some.is)
    (subst (λ (o : Option Spot). Has c.args.self.now (free_of lists c.in-Some.start o).lists) (sym (no_held_spot (spot_at lists c.in-Some.start) (c.in-None.ensures lists stands))) stands.arrays)

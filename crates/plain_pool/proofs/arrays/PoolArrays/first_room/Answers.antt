use Rattle.std.proofs.Common.{Some, sym, ap, subst, ◌∙◌}
use Rattle.std.specs.Prelude.{unwrap_or}
use Rattle.std.specs.declared.option.Option.{Option}
use Rattle.pool_types.specs.declared.values.Region.{Region}
use Rattle.plain_lists.specs.Lists.{first_region}
use Rattle.plain_pool.specs.Bins.{AreBins}
use Rattle.plain_pool.proofs.CallLemmas.{no_blocks, region_is_room, none_there}
use Rattle.plain_pool.proofs.arrays.PoolArrays.first_room.Goals as goal

pub fill-requires : goal.fill-requires
fill-requires c = let (lists, stands) = c.requires in
    let none = none_there c.given.result (sym c.is_some.ensures ∙ c.if-is_some.false) in
    subst (AreBins c.args.self.now.bins) (no_blocks lists stands.good (sym stands.arrays.region ∙ sym c.given.ensures ∙ none)) stands.arrays.bins

pub returns : goal.returns
returns c lists stands =
    let none = none_there c.given.result (sym c.is_some.ensures ∙ c.if-is_some.false) in
    region_is_room c.args.self.now lists c.obtain.new.self stands (sym stands.arrays.region ∙ sym c.given.ensures ∙ none)
    (c.obtain.ensures ∙ ap (λ (o : Option Region). Some (unwrap_or o first_region)) (sym c.given.ensures ∙ none)) c.fill.new.self c.fill.ensures

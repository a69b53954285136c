use Rattle.std.proofs.Common.{sym, ap, ◌∙◌}
use Rattle.plain_pool.specs.Slabs.{held_of}
use Rattle.plain_pool.proofs.CallLemmas.{no_unit_no_spot, unit_parts, spot_in_room, lists_kept}
use Rattle.plain_pool.proofs.arrays.PoolArrays.held_at.Goals as goal

pub returns-then-not-is_unit : goal.returns-then-not-is_unit
returns-then-not-is_unit c lists stands = sym (ap held_of (no_unit_no_spot lists c.args.place stands.good (sym c.is_unit.ensures ∙ c.if-not-is_unit.true)))

pub held_at-requires-clause-slabs : goal.held_at-requires-clause-slabs
held_at-requires-clause-slabs c = let (lists, stands) = c.requires in (lists.slabs, stands.arrays.slabs, (lists_kept lists stands.good).placed)

pub returns : goal.returns
returns c lists stands =
    c.held_at.ensures lists.slabs stands.arrays.slabs (lists_kept lists stands.good).placed
    ∙ ap held_of (spot_in_room lists c.args.place stands.good (unit_parts c.args.place (sym c.is_unit.ensures ∙ c.if-not-is_unit.false)))

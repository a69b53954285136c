use Rattle.std.proofs.Common.{◌≡◌, take, None}
use Rattle.std.specs.Prelude.{if◌then◌else◌, All}
use Rattle.pool_types.specs.declared.values.Place.{Place}
use Rattle.part_model.specs.Holding.{lies_in}
use Rattle.part_model.specs.Stretches.{holder_at, cover, IsSound}
use Rattle.part_model.proofs.stretches.outside.Given as goal

-- what was kept of the stretches that were passed
abbrev pub invariant-loop-stretch : goal.invariant-loop-stretch
invariant-loop-stretch l = record {
  held : (byte : Place) → holder_at l.kept.items byte ≡ (if lies_in byte l.range then None else holder_at (take l.stretch-index l.stretches) byte);
  sound : All IsSound l.kept.items;
  cover : (byte : Place) → cover l.kept.items byte ≡ (if lies_in byte l.range then 0 else cover (take l.stretch-index l.stretches) byte);
}

use Rattle.std.proofs.Common.{◌≡◌, drop}
use Rattle.pool_types.specs.declared.values.Place.{Place}
use Rattle.part_model.specs.Holding.{after_parts}
use Rattle.part_model.specs.Stretches.{holder_at, AreStretches}
use Rattle.part_model.proofs.stretches.after_parts.Given as goal

-- what was moved, and the parts that are left, make the whole
abbrev pub invariant-loop-part : goal.invariant-loop-part
invariant-loop-part l = record {
  held : (byte : Place) → after_parts (holder_at l.next.items) (drop l.part-index l.parts) byte ≡ after_parts (holder_at l.stretches) l.parts byte;
  stretches : AreStretches l.next.items;
}

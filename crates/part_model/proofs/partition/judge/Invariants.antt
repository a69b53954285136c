use Rattle.std.proofs.Common.{drop}
use Rattle.std.specs.declared.option.Option.{Option}
use Rattle.pool_types.specs.declared.values.Place.{Place}
use Rattle.part_model.specs.declared.holders.Holder.{Holder}
use Rattle.part_model.specs.Holding.{CanMoveAll, IsRefusedAt}
use Rattle.part_model.specs.Stretches.{holder_at}
use Rattle.part_model.proofs.partition.judge.Given as goal

-- what the parts that are left answer, all parts answer
abbrev pub invariant-loop-part : goal.invariant-loop-part
invariant-loop-part l = record {
  moves : CanMoveAll l.seat (holder_at l.stretches) (drop l.part-index l.parts) → CanMoveAll l.seat (holder_at l.stretches) l.parts;
  refuses : (byte : Place) (there wanted : Option Holder) → IsRefusedAt l.seat (holder_at l.stretches) (drop l.part-index l.parts) byte there wanted → IsRefusedAt l.seat (holder_at l.stretches) l.parts byte there wanted;
}

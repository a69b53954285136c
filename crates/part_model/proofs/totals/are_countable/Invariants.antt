use Rattle.std.proofs.Common.{◌≡◌, ◌≤◌, ◌-◌, ◌^◌, take}
use Rattle.part_model.specs.Stretches.{stretch_bytes}
use Rattle.part_model.proofs.totals.are_countable.Given as goal

abbrev pub invariant-loop-stretch : goal.invariant-loop-stretch
invariant-loop-stretch l = record {
  sum : l.bytes ≡ stretch_bytes (take l.stretch-index l.stretches);
  fits : l.bytes ≤ 2 ^ 64 - 1;
}

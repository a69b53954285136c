use Rattle.std.proofs.Common.{◌≡◌, ◌≤◌, take}
use Rattle.part_model.proofs.Counts.{regions_of}
use Rattle.part_model.proofs.totals.regions_held.Given as goal

abbrev pub invariant-loop-index : goal.invariant-loop-index
invariant-loop-index l = record {
  fits : l.regions ≤ l.index;
  count : l.regions ≡ regions_of (take l.index l.stretches);
}

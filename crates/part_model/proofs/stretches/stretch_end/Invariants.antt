use Rattle.std.proofs.Common.{◌<◌, ◌≤◌, take}
use Rattle.part_model.specs.Stretches.{IsAlike}
use Rattle.part_model.proofs.stretches.stretch_end.Given as goal

-- the stretches that were passed have one holder so far
abbrev pub invariant-loop-stretch : goal.invariant-loop-stretch
invariant-loop-stretch l = record {
  above : l.byte.offset < l.near;
  within : l.near ≤ l.end;
  alike : IsAlike (take l.stretch-index l.stretches) l.byte l.near;
}

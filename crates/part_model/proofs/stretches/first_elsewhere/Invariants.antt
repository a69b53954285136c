use Rattle.std.proofs.Common.{◌≡◌, ◌<◌, ◌≤◌, ◌-◌, true}
use Rattle.pool_types.specs.declared.values.Place.{Place}
use Rattle.part_model.specs.Holding.{lies_in}
use Rattle.part_model.specs.Stretches.{holder_at}
use Rattle.part_model.proofs.stretches.first_elsewhere.Given as goal

-- the bytes that were passed are at `wanted`
abbrev pub invariant-loop-byte : goal.invariant-loop-byte
invariant-loop-byte l = record {
  pool : l.byte.pool ≡ l.range.place.pool;
  region : l.byte.region ≡ l.range.place.region;
  start : l.range.place.offset ≤ l.byte.offset;
  within : l.byte.offset ≤ l.end;
  before : (earlier : Place) → lies_in earlier l.range ≡ true → earlier.offset < l.byte.offset → holder_at l.stretches earlier ≡ l.wanted;
}

abbrev pub decreases-loop-byte : goal.decreases-loop-byte
decreases-loop-byte l = l.end - l.byte.offset

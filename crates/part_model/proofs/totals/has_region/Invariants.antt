use Rattle.std.proofs.Common.{◌≡◌, drop}
use Rattle.part_model.specs.Stretches.{has_region}
use Rattle.part_model.proofs.totals.has_region.Given as goal

-- what was passed has no stretch of the region
abbrev pub invariant-loop-stretch : goal.invariant-loop-stretch
invariant-loop-stretch l = has_region (drop l.stretch-index l.stretches) l.place.pool l.place.region ≡ has_region l.stretches l.place.pool l.place.region

-- What is sought is found among the regions that are left.
use Rattle.std.proofs.Common.{◌≡◌, drop}
use Rattle.std.specs.Prelude.{find}
use Rattle.pool_types.specs.declared.values.Region.{Region}
use Rattle.pool_types.specs.Regions.{overlaps}
use Rattle.pool_types.proofs.scripted.first_overlapping.Given as goal

abbrev pub invariant-loop-one : goal.invariant-loop-one
invariant-loop-one l = find {X = Region} (λ one. overlaps one l.wanted) l.out ≡ find {X = Region} (λ one. overlaps one l.wanted) (drop l.one-index l.out)
